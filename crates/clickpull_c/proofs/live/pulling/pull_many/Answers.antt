use Rattle.std.proofs.Common.{refl, subst}
use Rattle.clk_router.specs.Course.{Course}
use Rattle.clickpull_c.specs.Answers.{RefusesPull}
use Rattle.clickpull_c.specs.live.State.{done, refused}
use Rattle.clickpull_c.proofs.LiveSteps.{goes, stays-with}
use Rattle.clickpull_c.proofs.live.pulling.pull_many.Goals as goal

pub returns-in-Some-refusal : goal.returns-in-Some-refusal
returns-in-Some-refusal c =
    let why = subst (λ (k : Course). RefusesPull k c.args.device c.args.moment c.in-Some-refusal.status) c.router.ensures.course (rw c.deref.ensures at c.in-Some-refusal.ensures.refused) in
    refused c.in-Some.live c.in-Some.is why (stays-with c.args.router.now c.in-Some.live c.in-Some.is) (refl, refl)

pub returns : goal.returns
returns c = done c.in-Some.live c.pull_on-given.new.live (goes c.args.router.now c.in-Some.live c.pull_on-given.new.live c.in-Some.is) (c.pull_on-given.ensures, c.given_status.ensures)
