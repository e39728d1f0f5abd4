use Rattle.std.proofs.Common.{◌≡◌, ◌++◌, codes, decimal, take}
use Rattle.std.specs.List.{flat_map}
use Rattle.std.specs.Io.KnownBytes.{Appends}
use Rattle.clk_command.proofs.faults.write_fields.Given as goal

abbrev pub invariant-loop-field : goal.invariant-loop-field
invariant-loop-field g l = record {
  front : Appends (g.W.Sink.taken l.fn.writer) (g.W.Sink.taken l.writer) (flat_map (λ n. codes " " ++ decimal n) (take l.field-index l.fields));
  failures : g.W.Sink.failures l.writer ≡ g.W.Sink.failures l.fn.writer;
}
