use Rattle.std.proofs.Common.{subst}
use Rattle.clk_sched.specs.Tree.{root, IsSound}
use Rattle.clk_sched.specs.inside.Kept.{kept}
use Rattle.clk_sched.proofs.Trees.TreeLemmas.{sound-formed}
use Rattle.clk_sched.proofs.tree.Tree.schedulers_are_sound.Goals as goal

pub returns : goal.returns
returns c = subst (λ t. IsSound (root t)) c.self.view_is (sound-formed (root (kept c.self.inside.node)) c.self.invariant.1)
