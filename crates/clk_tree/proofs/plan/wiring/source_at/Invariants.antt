use Rattle.std.proofs.Common.{◌≡◌, drop}
use Rattle.clk_tree.specs.Plan.{source_at}
use Rattle.clk_tree.proofs.plan.wiring.source_at.Given as goal

-- it is the source in what is left
abbrev pub invariant-loop-link : goal.invariant-loop-link
invariant-loop-link l = source_at (drop l.link-index l.links) l.place l.input ≡ source_at l.links l.place l.input
