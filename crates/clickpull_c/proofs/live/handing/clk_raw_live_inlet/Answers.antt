use Rattle.std.proofs.Common.{inr, refl, subst}
use Rattle.clickpull_c.specs.declared.live.router.LiveRouter.{LiveRouter}
use Rattle.clickpull_c.specs.live.Handing.{RefusesInlet}
use Rattle.clickpull_c.specs.live.State.{IsUnchanged}
use Rattle.clickpull_c.proofs.live.handing.clk_raw_live_inlet.Goals as goal

pub returns-in-Err-clause-answer : goal.returns-in-Err-clause-answer
returns-in-Err-clause-answer c =
    let same = c.get_mut.ensures.value in
    inr (subst (λ (r : LiveRouter). RefusesInlet r c.args.sender c.in-Err.status) same c.in-Err.ensures.refused, subst (λ (r : LiveRouter). IsUnchanged r c.claim.new.router) same c.in-Err.ensures.unchanged, refl)
