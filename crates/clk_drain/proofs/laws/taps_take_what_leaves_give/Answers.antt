use Rattle.std.proofs.Common.{rules}
use Rattle.clk_drain.proofs.Leaves.Growing.{grown}
use Rattle.clk_drain.proofs.laws.taps_take_what_leaves_give.Goals as goal

pub returns : goal.returns
returns c = search (rules, grown)
