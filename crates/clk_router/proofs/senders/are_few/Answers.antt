use Rattle.std.proofs.Common.{arith}
use Rattle.clk_router.proofs.PlaceLemmas.{rising-few}
use Rattle.clk_router.proofs.senders.are_few.Goals as goal

pub returns : goal.returns
returns c = rising-few c.args.numbers.now c.requires.rising (λ place. let fits = c.type_inv.numbers place in omega (arith, fits))
