use Rattle.std.proofs.Common.{◌≡◌, ℕ, ◌+◌, ◌==◌, List, Err, false, length, map, sym, ap, subst, ◌∙◌, arith, rules}
use Rattle.std.specs.List.{range_with_len}
use Rattle.std.proofs.lemmas.Bool.Decides.{nat_tests}
use Rattle.std.proofs.lemmas.Result.{err_from_is_err_and}
use Rattle.clk_packet.specs.Bytes.{Wrote}
use Rattle.clk_sched.specs.declared.visit.Visit.{Visit}
use Rattle.clk_router.specs.Course.{events_of}
use Rattle.clk_router.specs.Events.{Setup, log_of}
use Rattle.clk_script.specs.inside.Replay.{device_rows}
use Rattle.clk_script.proofs.Carrying.ReplayLemmas.{rows-then, rows-cut, replay-still}
use Rattle.clk_script.proofs.replay.replay_devices.Goals as goal

pub returns-in_err-replay_device : goal.returns-in_err-replay_device
returns-in_err-replay_device g c =
    let p = err_from_is_err_and c.from_residual.result c.from_residual.ensures.1 in
    let its : ℕ → List Visit = λ d. log_of (events_of c.args.answer.now.script_router.router d) in
    let loop = c.loop-column.invariant in
    let d = c.loop-column.device in
    let test = c.loop-column-test.true in
    let from = c.from.ensures in
    let count = c.devices.ensures.count ∙ ap (λ (s : Setup). length s.trees) loop.setup in
    let failed = rw c.column_of-column.ensures at c.in_err-replay_device.ensures.wrote in
    let all = ap (λ (s : Setup). device_rows c.args.several 0 (map its (range_with_len 0 (length s.trees)))) (sym c.requires.can.answers.setup_is) in
    rw (p.1, p.2)
    (subst (λ t. Wrote (g.W.Sink.taken c.args.writer.now) (g.W.Sink.taken c.replay_device.new.writer) (g.W.Sink.failures c.args.writer.now) (g.W.Sink.failures c.replay_device.new.writer) (Err c.in_err-replay_device.field-0.0) t) all
    (rows-cut its (length c.args.again.now.setup.trees) c.args.several (d + 1) _ _ _ _ _ (omega (arith, test, from, count)) (rows-then its (length c.args.again.now.setup.trees) c.args.several d _ _ _ _ _ _ _ loop.wrote failed)))

pub loop-column-preserved : goal.loop-column-preserved
loop-column-preserved g c =
    let its : ℕ → List Visit = λ d. log_of (events_of c.args.answer.now.script_router.router d) in
    let loop = c.loop-column.invariant in
    let after = c.in_ok-replay_device.ensures in
    let d = c.loop-column.device in
    record {
      can = replay-still c.args.answer.now c.loop-column.again c.replay_device.new.again after.setup after.keeps loop.can;
      within = let test = c.loop-column-test.true in let from = c.from.ensures in let count = c.devices.ensures.count ∙ ap (λ (s : Setup). length s.trees) (sym after.setup) in omega (arith, test, from, count);
      setup = after.setup ∙ loop.setup;
      none = after.none;
      later = λ k low. let other : (d == k) ≡ false = grind (arith, nat_tests) in after.later k other ∙ loop.later k (omega (arith, low));
      wrote = rows-then its (length c.args.again.now.setup.trees) c.args.several d _ _ _ _ _ _ _ loop.wrote (rw c.column_of-column.ensures at after.wrote);
    }

pub returns : goal.returns
returns g c = search rules
