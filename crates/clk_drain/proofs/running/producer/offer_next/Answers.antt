use Rattle.std.proofs.Common.{slice_get, ap, sym, ◌∙◌, rules}
use Rattle.clk_packet.specs.Trace.{sent_by}
use Rattle.clk_drain.proofs.Leaves.Offered.{offered-next, next-is, none-past}
use Rattle.clk_drain.proofs.running.producer.offer_next.Goals as goal

pub returns-in-Some-clause-offered : goal.returns-in-Some-clause-offered
returns-in-Some-clause-offered g c =
    let traces = c.args.traces.now in
    let own = c.sender-sender.ensures in
    let at = c.in-Some.ensures.packet ∙ ap (λ s. slice_get (sent_by traces s) c.args.number) own in
    let next = next-is (sent_by traces c.args.seat.now.sender) c.args.seat.now c.args.number c.requires.number c.requires.offered in
    offered-next (sent_by traces c.args.seat.now.sender) c.args.seat.now c.offer.new.self c.args.number c.in-Some.packet c.offer.result (sym at) (c.in-Some.ensures.sender ∙ own) (c.in-Some.ensures.number ∙ sym next) c.requires.offered c.offer.ensures.offered

pub returns-in-None-clause-offered : goal.returns-in-None-clause-offered
returns-in-None-clause-offered g c = search (rules, none-past)
