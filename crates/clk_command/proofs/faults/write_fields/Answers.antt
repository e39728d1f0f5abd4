use Rattle.std.proofs.Common.{ℕ, List, Ok, ◌++◌, codes, decimal, take, drop, get_or, length, ◌+◌, ◌<◌, arith}
use Rattle.std.specs.List.{flat_map}
use Rattle.std.proofs.lemmas.Result.{err_from_is_err_and}
use Rattle.clk_packet.specs.Bytes.{Wrote}
use Rattle.clk_packet.proofs.Callers.Bytes.{Wrote-then, Wrote-cut, flat_map_at}
use Rattle.clk_command.proofs.faults.write_fields.Goals as goal

abbrev text_of : ℕ → List ℕ
text_of n = codes " " ++ decimal n

pub returns-in_err-write_field : goal.returns-in_err-write_field
returns-in_err-write_field g c =
    let p = err_from_is_err_and c.from_residual.result c.from_residual.ensures.1 in
    let fields = c.args.fields.now in
    let i = c.loop-field.field-index in
    let here : i < length fields = omega arith in
    let so_far : Wrote (g.W.Sink.taken c.args.writer.now) (g.W.Sink.taken c.loop-field.writer) (g.W.Sink.failures c.args.writer.now) (g.W.Sink.failures c.loop-field.writer) (Ok tt) (flat_map text_of (take i fields)) =
    record { whole = c.loop-field.invariant.front; front = tt; fault = tt; succeeds = c.loop-field.invariant.failures; fails = tt }
    in
    rw (p.1, p.2, flat_map_at text_of fields i 0 here)
    (Wrote-then _ _ _ _ _ _ _ _ _ _ so_far (Wrote-cut _ _ _ _ _ (text_of (get_or fields i 0)) (flat_map text_of (drop (i + 1) fields)) c.in_err-write_field.ensures))
