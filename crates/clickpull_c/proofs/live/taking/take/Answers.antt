use Rattle.std.proofs.Common.{refl, subst}
use Rattle.clk_router.specs.Course.{Course}
use Rattle.clickpull_c.specs.Answers.{IsUnknown}
use Rattle.clickpull_c.specs.live.State.{done, refused}
use Rattle.clickpull_c.proofs.LiveSteps.{goes-taking, stays-with}
use Rattle.clickpull_c.proofs.live.taking.take.Goals as goal

pub returns-in_default-index_of : goal.returns-in_default-index_of
returns-in_default-index_of c =
    let unknown = subst (λ (k : Course). IsUnknown k c.args.sender) c.router.ensures.course (c.in_default-index_of.ensures.missing refl) in
    refused c.in-Some.live c.in-Some.is (record { answers = refl; missing = unknown }) (stays-with c.args.router.now c.in-Some.live c.in-Some.is) (refl, refl)

pub returns : goal.returns
returns c = done c.in-Some.live c.take_at-count.new.live (goes-taking c.args.router.now c.take_at-count.new.slots c.in-Some.live c.take_at-count.new.live c.in-Some.is) (c.take_at-count.ensures, c.given_status.ensures)
