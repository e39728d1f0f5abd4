use Rattle.std.proofs.Common.{◌<◌, ◌^◌, slice_get, ap, ◌∙◌, arith}
use Rattle.clickpull_c.proofs.offering.place_of.Goals as goal

pub returns-then-sender-from-clause-missing : goal.returns-then-sender-from-clause-missing
returns-then-sender-from-clause-missing c = λ none place is.
    let small : c.args.sender < 2 ^ 16 = c.are_small.ensures place c.args.sender (ap (λ l. slice_get l place) c.senders.ensures.numbers ∙ is) in
    let large = c.if-sender-from.true in
    absurd (omega (arith, small, large))
