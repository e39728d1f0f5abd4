use Rattle.clickpull_c.proofs.LiveSteps.{moved}
use Rattle.clickpull_c.proofs.live.taking.clk_raw_live_take_what_fits.Goals as goal

pub returns-clause-answer : goal.returns-clause-answer
returns-clause-answer c = moved c.get_mut.ensures.value c.take_what_fits-count.ensures
