use Rattle.std.proofs.Common.{Some, None, refl, subst}
use Rattle.clk_router.specs.Course.{Course}
use Rattle.clickpull_c.specs.Answers.{RefusesPull}
use Rattle.clickpull_c.specs.live.State.{done, refused}
use Rattle.clickpull_c.proofs.LiveSteps.{goes, stays-with}
use Rattle.clickpull_c.proofs.live.pulling.pull.Goals as goal

pub returns-in-Some-refusal : goal.returns-in-Some-refusal
returns-in-Some-refusal c =
    let why = subst (λ (k : Course). RefusesPull k c.args.device c.args.moment c.in-Some-refusal.status) c.router.ensures.course (rw c.deref.ensures at c.in-Some-refusal.ensures.refused) in
    refused c.in-Some.live c.in-Some.is why (stays-with c.args.router.now c.in-Some.live c.in-Some.is) refl

pub returns-in-Some-pull : goal.returns-in-Some-pull
returns-in-Some-pull c =
    done c.in-Some.live c.pull.new.self (goes c.args.router.now c.in-Some.live c.pull.new.self c.in-Some.is)
    (record { got = Some c.in-Some-pull.one; pulled = c.in-Some-pull.ensures.pulled; filled_is = c.emitted_for_c.ensures; status_is = refl; unchanged = c.pull.ensures.unchanged })

pub returns-in-None : goal.returns-in-None
returns-in-None c =
    done c.in-Some.live c.pull.new.self (goes c.args.router.now c.in-Some.live c.pull.new.self c.in-Some.is)
    (record { got = None; pulled = c.in-None.ensures.pulled; filled_is = refl; status_is = refl; unchanged = c.pull.ensures.unchanged })
