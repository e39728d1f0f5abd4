use Rattle.std.proofs.Common.{arith}
use Rattle.std.proofs.lemmas.Option.{get_or_from_slice_get}
use Rattle.clickpull_c.proofs.offering.are_small.Goals as goal

pub returns : goal.returns
returns c = λ place number is. let fits = c.type_inv.numbers place in let at = get_or_from_slice_get c.args.numbers.now place number 0 is in omega (arith, fits, at)
