use Rattle.clk_ruled.proofs.Account.{account-kept}
use Rattle.clk_ruled.proofs.laws.queues_keep_account.Goals as goal

pub returns : goal.returns
returns c = account-kept
