use Rattle.std.specs.Prelude.{◌≡◌, ◌+◌, ◌*◌, map, max, drop}
use Rattle.clk_tree.specs.Elements.{planned}
use Rattle.clk_lint.specs.Load.{greatest, longest_at}
use Rattle.clk_lint.proofs.load.+below.Given as goal

abbrev pub decreases-longest_at : goal.decreases-longest_at
decreases-longest_at l = 2 * l.levels

abbrev pub decreases-longest_from : goal.decreases-longest_from
decreases-longest_from l = 2 * l.levels + 1

-- the longest so far and that of the places that are left are the longest of all
abbrev pub invariant-longest_from-loop-source : goal.invariant-longest_from-loop-source
invariant-longest_from-loop-source l =
    max l.longest (greatest (longest_at (map planned l.elements) l.sent l.levels) (drop l.source-index l.sources))
    ≡ greatest (longest_at (map planned l.elements) l.sent l.levels) l.sources
