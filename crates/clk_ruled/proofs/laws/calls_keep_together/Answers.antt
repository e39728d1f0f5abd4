use Rattle.clk_ruled.proofs.InUse.{kept-together}
use Rattle.clk_ruled.proofs.laws.calls_keep_together.Goals as goal

pub returns : goal.returns
returns c = kept-together
