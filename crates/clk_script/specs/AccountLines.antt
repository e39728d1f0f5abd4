-- What a report says of the account of a sender.
use Rattle.std.specs.Prelude.{ℕ, List}
use Rattle.clk_report.specs.Counts.{counts_text}
use Rattle.clk_router.specs.declared.accounts.Account.{Account}

-- the line of an account in a report
abbrev pub account_line : Account → List ℕ
account_line account = counts_text account.counts
