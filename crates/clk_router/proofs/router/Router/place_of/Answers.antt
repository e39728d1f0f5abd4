use Rattle.std.proofs.Common.{◌≡◌, ◌==◌, false, subst}
use Rattle.std.specs.List.{list_any}
use Rattle.clk_router.specs.Events.{sender_numbers}
use Rattle.clk_router.proofs.AskLemmas.{none-at}
use Rattle.clk_router.proofs.router.Router.place_of.Goals as goal

pub returns-clause-missing : goal.returns-clause-missing
returns-clause-missing c none place at =
    none-at (sender_numbers c.args.self.now.setup) c.args.sender place (subst (λ l. list_any (λ n. n == c.args.sender) l ≡ false) c.senders.ensures.numbers (c.place_of.ensures.missing none)) at
