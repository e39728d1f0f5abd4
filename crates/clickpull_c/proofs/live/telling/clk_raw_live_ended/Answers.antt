use Rattle.clickpull_c.proofs.LiveSteps.{moved}
use Rattle.clickpull_c.proofs.live.telling.clk_raw_live_ended.Goals as goal

pub returns-clause-answer : goal.returns-clause-answer
returns-clause-answer c = moved c.get_mut.ensures.value c.ended.ensures
