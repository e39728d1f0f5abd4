use Rattle.clickpull_c.proofs.LiveSteps.{moved}
use Rattle.clickpull_c.proofs.live.draining.clk_raw_live_drain.Goals as goal

pub returns-clause-answer : goal.returns-clause-answer
returns-clause-answer c = moved c.get_mut.ensures.value c.drain-emitted.ensures
