use Rattle.std.proofs.Common.{◌≡◌, ℕ, List, length, map, subst, ap, ◌∙◌, ◌≤◌}
use Rattle.std.proofs.lemmas.Result.{IfOk-weaker}
use Rattle.clk_syntax.specs.declared.limits.TheConstants.{MAX_TREE_BYTES}
use Rattle.clk_tree.specs.Elements.{planned}
use Rattle.clk_tree.specs.Plan.{Planned, Denotes}
use Rattle.clk_tree.specs.Canonical.{canonical_text}
use Rattle.clk_tree.proofs.Canonical.CanonicalLaws.{written-denotes}
use Rattle.clk_tree.proofs.plan.Plan.write.Goals as goal

pub returns-clause-again : goal.returns-clause-again
returns-clause-again c =
    let are = ap (map planned) c.deref.ensures.value ∙ c.self.view_is in
    let denoted = subst (λ (plan : List Planned). (text : List ℕ) × Denotes text plan) c.self.view_is c.self.invariant.denoted in
    IfOk-weaker c.canonical_text.result (λ text. text.items ≡ canonical_text (map planned c.deref.result.now)) (λ text. length text.items ≤ MAX_TREE_BYTES → Denotes text.items c.args.self.now)
    (λ text is. written-denotes denoted.0 text.items c.args.self.now denoted.1 (is ∙ ap canonical_text are)) c.canonical_text.ensures.text
