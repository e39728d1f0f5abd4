use Rattle.std.proofs.Common.{rules}
use Rattle.clk_router.proofs.AccountLemmas.{put_out-at, put_out-none}
use Rattle.clk_router.proofs.accounts.count_evicted.Goals as goal

pub returns-in-Some : goal.returns-in-Some
returns-in-Some c = search (rules, put_out-at)

pub returns-in-None : goal.returns-in-None
returns-in-None c = put_out-none c.args.accounts.now.items c.args.numbers.now c.args.front c.requires.alike (c.place_of.ensures.missing c.in-None.is)
