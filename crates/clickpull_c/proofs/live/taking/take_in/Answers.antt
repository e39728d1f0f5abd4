use Rattle.clickpull_c.specs.live.State.{done}
use Rattle.clickpull_c.proofs.LiveSteps.{goes-taking}
use Rattle.clickpull_c.proofs.live.taking.take_in.Goals as goal

pub returns : goal.returns
returns c = done c.in-Some.live c.take_round-count.new.live (goes-taking c.args.router.now c.take_round-count.new.slots c.in-Some.live c.take_round-count.new.live c.in-Some.is) (c.take_round-count.ensures, c.given_status.ensures)
