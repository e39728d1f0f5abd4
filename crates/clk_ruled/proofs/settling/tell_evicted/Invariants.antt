use Rattle.std.proofs.Common.{◌≡◌, ◌++◌, take, drop, map}
use Rattle.clk_ruled.specs.inside.Marks.{is_marked, telling}
use Rattle.clk_ruled.proofs.settling.tell_evicted.Given as goal

abbrev pub invariant-loop-tally : goal.invariant-loop-tally
invariant-loop-tally l = l.tally-items ≡ map (telling (is_marked l.marks)) (take l.tally-index l.fn.tallies.items) ++ drop l.tally-index l.fn.tallies.items
