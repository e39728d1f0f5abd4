use Rattle.std.specs.Prelude.{◌≡◌, ◌++◌, ◌+◌, ◌*◌, length}
use Rattle.clk_syntax.specs.Classes.{class_view}
use Rattle.clk_lint.specs.inside.Kept.{plan_in, trace_in}
use Rattle.clk_lint.specs.Warnings.{input_warnings, warnings_at}
use Rattle.clk_lint.proofs.find.+walk.Given as goal

abbrev pub decreases-push_at : goal.decreases-push_at
decreases-push_at l = 2 * l.levels

abbrev pub decreases-push_below : goal.decreases-push_below
decreases-push_below l = 2 * l.levels + 1

-- what is found and what is left to find are all
abbrev pub invariant-push_below-loop-rest : goal.invariant-push_below-loop-rest
invariant-push_below-loop-rest l =
    l.found.items ++ input_warnings (warnings_at (plan_in l.judged) (trace_in l.judged) l.levels) l.preferred (class_view l.class) l.rest
    ≡ l.initial.found.items ++ input_warnings (warnings_at (plan_in l.judged) (trace_in l.judged) l.levels) l.preferred (class_view l.class) l.sources

abbrev pub decreases-push_below-loop-rest : goal.decreases-push_below-loop-rest
decreases-push_below-loop-rest l = length l.rest
