use Rattle.std.proofs.Common.{ap, ◌∙◌}
use Rattle.std.specs.List.{flat_map}
use Rattle.clk_script.specs.AccountLines.{account_line}
use Rattle.clk_live_run.proofs.report.report_accounts.Goals as goal

pub returns : goal.returns
returns g c =
    let told = ap (flat_map account_line) c.accounts.ensures ∙ rw c.deref.ensures at c.accounts_tell.ensures in
    record { wrote = rw told at c.write_accounts.ensures }
