use Rattle.std.specs.Prelude.{◌≡◌, ◌++◌, drop}
use Rattle.clk_lint.specs.Load.{longest_below}
use Rattle.clk_lint.specs.inside.Kept.{plan_in, spot_of, trace_in}
use Rattle.clk_lint.specs.Warnings.{quantum_warnings}
use Rattle.clk_lint.proofs.shares.push_quanta.Given as goal

-- what is found and what is left to find are all
abbrev pub invariant-loop-input : goal.invariant-loop-input
invariant-loop-input l =
    l.found.items ++ quantum_warnings (spot_of l.spot) (longest_below (plan_in l.judged) (trace_in l.judged)) l.quanta l.input (drop l.input l.sources)
    ≡ l.initial.found.items ++ quantum_warnings (spot_of l.spot) (longest_below (plan_in l.judged) (trace_in l.judged)) l.quanta 0 l.sources
