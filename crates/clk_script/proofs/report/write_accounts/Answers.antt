use Rattle.std.proofs.Common.{ℕ, drop, get_or, ◌+◌, ◌∙◌}
use Rattle.std.specs.List.{flat_map}
use Rattle.std.proofs.lemmas.Result.{err_from_is_err_and}
use Rattle.clk_report.proofs.Callers.Texts.{HasWritten-part, Wrote-part}
use Rattle.clk_packet.specs.declared.counts.Total.{Total}
use Rattle.clk_router.specs.declared.accounts.Account.{Account}
use Rattle.clk_script.specs.AccountLines.{account_line}
use Rattle.clk_script.proofs.Carrying.ReportLemmas.{accounts-more}
use Rattle.clk_script.proofs.report.write_accounts.Goals as goal

-- what would stand beyond the accounts
abbrev none : Account
none =
    let zero : Total ℕ = record { packets = 0; bytes = 0 } in
    record { queue = 0; counts = record { sender = 0; accepted = zero; refused = zero; evicted = zero; emitted = zero } }

pub returns-in_err-report_line : goal.returns-in_err-report_line
returns-in_err-report_line g c =
    let p = err_from_is_err_and c.from_residual.result c.from_residual.ensures.1 in
    let accounts = c.args.accounts.now in
    let i = c.loop-account.account-index in
    let front = c.loop-account.invariant.front in
    let failed = c.in_err-report_line.ensures in
    rw (p.1, p.2) (Wrote-part _ _ _ _ _ _ _ _ (flat_map account_line (drop i accounts)) (account_line (get_or accounts i none)) (flat_map account_line (drop (i + 1) accounts)) front c.loop-account.invariant.failures
    (accounts-more accounts i none c.loop-account-test.true) failed)

pub loop-account-preserved : goal.loop-account-preserved
loop-account-preserved g c =
    let accounts = c.args.accounts.now in
    let i = c.loop-account.account-index in
    let wrote = c.in_ok-report_line.ensures in
    record {
      front = HasWritten-part _ _ _ _ (flat_map account_line (drop i accounts)) (account_line (get_or accounts i none)) (flat_map account_line (drop (i + 1) accounts)) c.loop-account.invariant.front
          (accounts-more accounts i none c.loop-account-test.true) wrote.whole;
      failures = wrote.succeeds ∙ c.loop-account.invariant.failures;
    }
