use Rattle.std.proofs.Common.{[], false, refl, ap, ◌∙◌, subst}
use Rattle.std.proofs.lemmas.List.{get_or-replicate}
use Rattle.clk_packet.specs.Lists.{are_distinct}
use Rattle.clk_sched.specs.Tree.{root, IsSound}
use Rattle.clk_sched.specs.inside.Kept.{kept}
use Rattle.clk_sched.proofs.Trees.TreeLemmas.{leaves-root, sound-formed}
use Rattle.clk_sched.proofs.tree.Tree.leaves_distinct.Goals as goal

pub returns-clause-distinct : goal.returns-clause-distinct
returns-clause-distinct c = (c.mark.ensures [] refl (λ q l. get_or-replicate 65536 q false false l)).distinct ∙ ap are_distinct (leaves-root c.args.self.now)

pub returns-clause-sound : goal.returns-clause-sound
returns-clause-sound c = subst (λ t. IsSound (root t)) c.self.view_is (sound-formed (root (kept c.self.inside.node)) c.self.invariant.1)
