use Rattle.std.proofs.Common.{◌≤◌, List, length, ap, subst, arith}
use Rattle.std.proofs.lemmas.List.{take_all}
use Rattle.clk_packet.specs.declared.packet.Packet.{Packet}
use Rattle.clk_packet.specs.Trace.{sent_by}
use Rattle.clk_drain.specs.Closing.{AreOffered}
use Rattle.clk_drain.proofs.running.producer.offer_all.Goals as goal

pub returns-then-has_baton-2-clause-sent : goal.returns-then-has_baton-2-clause-sent
returns-then-has_baton-2-clause-sent g c =
    let sent = sent_by c.args.traces.now c.args.seat.now.sender in
    let own = ap (λ s. length (sent_by c.args.traces.now s)) c.sender.ensures in
    let past : length sent ≤ c.loop-number.number = omega (arith, own) in
    subst (λ (packets : List Packet). AreOffered packets c.loop-number.seat) (take_all c.loop-number.number sent past) c.loop-number.invariant.offered

pub returns-else-has_baton-2-clause-sent : goal.returns-else-has_baton-2-clause-sent
returns-else-has_baton-2-clause-sent g c =
    let sent = sent_by c.args.traces.now c.args.seat.now.sender in
    let own = ap (λ s. length (sent_by c.args.traces.now s)) c.sender.ensures in
    let past : length sent ≤ c.loop-number.number = omega (arith, own) in
    subst (λ (packets : List Packet). AreOffered packets c.loop-number.seat) (take_all c.loop-number.number sent past) c.loop-number.invariant.offered
