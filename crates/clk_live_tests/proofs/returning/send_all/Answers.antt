use Rattle.std.proofs.Common.{rules, ◌≡◌, List, [], ◌∷◌, sym, ◌∙◌, subst}
use Rattle.std.proofs.lemmas.List.{map-id}
use Rattle.std.proofs.lemmas.Iterator.Adapters.{YieldsList-from_vec}
use Rattle.std.proofs.lemmas.Iterator.Consumers.{YieldsList-end}
use Rattle.clk_inlet.specs.declared.item.Item.{Item}
use Rattle.clk_live.specs.Sending.{HasSent}
use Rattle.clk_live.proofs.Callers.Sending.{sent_then}
use Rattle.clk_live_tests.proofs.returning.send_all.Goals as goal

pub loop-packet-preserved : goal.loop-packet-preserved
loop-packet-preserved g c = sent_then c.args.sender.inlet c.loop-packet.inlet c.offer.new.inlet c.loop-packet.yielded (c.in-Some.packet ∷ []) c.loop-packet.invariant c.offer.ensures.sent

pub returns : goal.returns
returns g c =
    let all : c.loop-packet.yielded ≡ c.args.sender.packets.items =
    sym (map-id _) ∙ (YieldsList-end (YieldsList-from_vec c.args.sender.packets.items (search rules) (search rules)) c.loop-packet.yielded _ c.loop-packet.yielded_by _ c.next.new.self c.in-None.is c.next.ensures.steps).0 in
    let sent = c.loop-packet.invariant in
    record { sent = subst (λ (packets : List Item). HasSent c.args.sender.inlet packets c.end.new.self) all (record { offered = c.end.ensures.unchanged ∙ sent.offered; halves = λ o h. c.end.ensures.halves o (sent.halves o h) }) }
