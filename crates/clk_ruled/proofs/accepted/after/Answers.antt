use Rattle.clk_ruled.proofs.Listing.{first-is}
use Rattle.clk_ruled.proofs.accepted.after.Goals as goal

pub returns-in-len1-up-clause-some : goal.returns-in-len1-up-clause-some
returns-in-len1-up-clause-some c = first-is c.args.number c.args.packets.now c.first-item.result c.in-len1-up.len_at_least c.first-item.is c.if-first-number.true
