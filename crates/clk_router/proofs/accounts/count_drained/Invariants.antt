use Rattle.std.proofs.Common.{◌≡◌, drop, map}
use Rattle.clk_router.specs.Accounts.{account_sender}
use Rattle.clk_router.proofs.AccountLemmas.{departed}
use Rattle.clk_router.proofs.accounts.count_drained.Given as goal

-- What is left to count leads to what all departures lead to.
abbrev pub invariant-loop-departure : goal.invariant-loop-departure
invariant-loop-departure l =
    (map (departed (drop l.departure-index l.departures)) l.accounts.items ≡ map (departed l.departures) l.initial.accounts.items)
    × (map account_sender l.accounts.items ≡ l.numbers)
