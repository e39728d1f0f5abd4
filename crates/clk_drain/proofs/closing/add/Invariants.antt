use Rattle.std.proofs.Common.{◌≡◌, ◌++◌}
use Rattle.clk_drain.proofs.closing.add.Given as goal

abbrev pub invariant-loop-tally : goal.invariant-loop-tally
invariant-loop-tally l = l.tallies.items ≡ l.initial.tallies.items ++ l.yielded
