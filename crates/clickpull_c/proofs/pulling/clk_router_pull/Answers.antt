use Rattle.std.proofs.Common.{inr, refl, subst, ◌∙◌}
use Rattle.clk_router.specs.Course.{Course}
use Rattle.clickpull_c.specs.Answers.{RefusesPull}
use Rattle.clickpull_c.proofs.pulling.clk_router_pull.Goals as goal

pub returns-in-Err-clause-answer : goal.returns-in-Err-clause-answer
returns-in-Err-clause-answer c =
    let same = c.get_mut.ensures.value in
    inr (subst (λ (k : Course). RefusesPull k c.args.device c.args.moment c.in-Err.status) same c.in-Err.ensures.refused, c.in-Err.ensures.unchanged ∙ same, refl)
