-- A script has one meaning over a plan, and one list of logs, since a plan has one list of trees.
use Rattle.std.proofs.Common.{◌≡◌, ℕ, List, subst}
use Rattle.clk_sched.specs.Tree.{Tree}
use Rattle.clk_sched.specs.declared.visit.Visit.{Visit}
use Rattle.clk_tree.specs.Plan.{Planned}
use Rattle.clk_tree.specs.Shares.{AreTreesOf}
use Rattle.clk_tree.proofs.Callers.OneTree.{one-trees}
use Rattle.clk_router.specs.Events.{plan_setup}
use Rattle.clk_script.specs.Meaning.{IsMeaning, MeansWith, MeansOver, MeansOverWith}
use Rattle.clk_script.specs.OneMeaning.{HasAtMostOneLog, HasAtMostOneMeaning}

-- a script has one meaning over a plan
pub plan-one_meaning : (plan : List Planned) (script one other : List ℕ) → ((trees : List Tree) → AreTreesOf plan trees → HasAtMostOneMeaning (plan_setup trees plan)) → MeansOver plan script one
    → MeansOver plan script other → one ≡ other
plan-one_meaning plan script one other law a b =
    law a.1.trees a.1.are script one other (a.0, a.1.means) (subst (λ trees. IsMeaning (plan_setup trees plan) script other) (one-trees plan b.1.trees a.1.trees b.1.are a.1.are) (b.0, b.1.means))

-- and one list of logs
pub plan-one_log : (plan : List Planned) (script one other : List ℕ) (logs others : List (List Visit)) → ((trees : List Tree) → AreTreesOf plan trees → HasAtMostOneLog (plan_setup trees plan))
    → MeansOverWith plan script one logs → MeansOverWith plan script other others → logs ≡ others
plan-one_log plan script one other logs others law a b =
    law a.trees a.are script one other logs others a.means (subst (λ trees. MeansWith (plan_setup trees plan) script other others) (one-trees plan b.trees a.trees b.are a.are) b.means)
