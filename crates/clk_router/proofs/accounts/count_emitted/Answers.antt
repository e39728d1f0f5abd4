use Rattle.std.proofs.Common.{rules}
use Rattle.clk_router.proofs.AccountLemmas.{with_emitted-at, with_emitted-none}
use Rattle.clk_router.proofs.accounts.count_emitted.Goals as goal

pub returns-in-Some : goal.returns-in-Some
returns-in-Some c = search (rules, with_emitted-at)

pub returns-in-None : goal.returns-in-None
returns-in-None c = with_emitted-none c.args.accounts.now.items c.args.numbers.now c.args.packet c.requires.alike (c.place_of.ensures.missing c.in-None.is)
