use Rattle.std.proofs.Common.{List, subst}
use Rattle.std.proofs.lemmas.Result.{IfOk-weaker}
use Rattle.clk_tree.specs.Plan.{Planned, Denotes}
use Rattle.clk_tree_tests.proofs.calling.tree.canonical.Goals as goal

pub returns-clause-same : goal.returns-clause-same
returns-clause-same c =
    let meaning = c.texts_have_one_meaning.ensures c.args.text.now in
    IfOk-weaker c.write.result _ _
    (λ form again within plan means.
    let same = meaning.one_plan c.in_ok-plan.plan plan c.in_ok-plan.ensures.denotes means in
    subst (λ (p : List Planned). Denotes form.items p) same (again within))
    c.write.ensures.again
