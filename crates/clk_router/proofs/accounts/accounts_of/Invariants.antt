use Rattle.std.proofs.Common.{[], ◌≡◌, map, take}
use Rattle.clk_router.specs.Accounts.{account_after}
use Rattle.clk_router.proofs.accounts.accounts_of.Given as goal

abbrev pub invariant-loop-spec : goal.invariant-loop-spec
invariant-loop-spec l = l.accounts.items ≡ map (account_after []) (take l.spec-index l.specs)
