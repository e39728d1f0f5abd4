use Rattle.clk_script.proofs.Carrying.ReportLemmas.{accounts-tell}
use Rattle.clk_script.proofs.report.accounts_tell.Goals as goal

pub returns : goal.returns
returns c = accounts-tell c.args.router.now.setup c.args.router.now.events c.has_account.ensures.accounted
