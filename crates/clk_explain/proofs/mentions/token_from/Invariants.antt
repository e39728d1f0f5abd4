use Rattle.std.proofs.Common.{◌≤◌, ◌-◌, length}
use Rattle.clk_explain.proofs.mentions.token_from.Given as goal

abbrev pub invariant-loop-start : goal.invariant-loop-start
invariant-loop-start l = l.place ≤ l.start

abbrev pub decreases-loop-start : goal.decreases-loop-start
decreases-loop-start l = length l.text - l.start
