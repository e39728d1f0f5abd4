use Rattle.clk_packet.proofs.NumberLemmas.{Leads-wrapped, Leads-past}
use Rattle.clk_packet.proofs.number.leading_number.Goals as goal

pub returns-then-number-most-clause-large : goal.returns-then-number-most-clause-large
returns-then-number-most-clause-large c =
    let text = c.args.text.now in
    let read = Leads-wrapped text c.loop-byte.number c.loop-byte.byte-index c.loop-byte.len c.from-digit.result c.loop-byte-test.true c.from-digit.ensures c.from-digit.type_inv c.if-digit-gt9.false c.loop-byte.invariant.leads in
    Leads-past text _ _ _ c.args.most c.if-number-most.true read
