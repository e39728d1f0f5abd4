use Rattle.std.proofs.Common.{ap, ◌∙◌}
use Rattle.clk_lint.specs.Load.{longest_below}
use Rattle.clk_lint.specs.inside.Kept.{plan_in, spot_of, trace_in}
use Rattle.clk_lint.proofs.QuantumLemmas.{quantum-more}
use Rattle.clk_lint.proofs.shares.push_quanta.Goals as goal

pub loop-input-preserved : goal.loop-input-preserved
loop-input-preserved c =
    let longest = longest_below (plan_in c.args.judged.now) (trace_in c.args.judged.now) in
    let far = c.longest_below-longest.ensures ∙ ap longest c.from.ensures in
    quantum-more (spot_of c.args.spot) longest c.args.quanta.now c.loop-input.input c.args.sources.now c.quantum_for.result c.longest_below-longest.result c.loop-input.found.items c.push_quantum.new.found.items
    c.loop-input-test.true c.quantum_for.ensures far c.in_ok-push_quantum.ensures.added
    ∙ c.loop-input.invariant
