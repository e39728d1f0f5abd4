use Rattle.std.proofs.Common.{ap, set, refl, subst, arith}
use Rattle.clk_router.specs.inside.Parts.{CanCount}
use Rattle.clk_router.proofs.PartsLemmas.{sending-at, set-device, counts-at, IsAt-sent}
use Rattle.clk_router.proofs.parts.Parts.offer.Goals as goal

pub index_mut-requires : goal.index_mut-requires
index_mut-requires c =
    let its = sending-at c.args.self.now c.args.place c.index_mut-sender.result.now c.from.result c.index-device.result.now c.requires.can c.index_mut-sender.ensures.value c.from.ensures c.index-device.ensures in
    let low = its.within in
    let same = c.from-2.ensures in
    omega (arith, low, same)

pub count-requires : goal.count-requires
count-requires c =
    let old = c.args.self.now in
    let its = sending-at old c.args.place c.index_mut-sender.result.now c.from.result c.index-device.result.now c.requires.can c.index_mut-sender.ensures.value c.from.ensures c.index-device.ensures in
    let before = c.index_mut.result.now in
    let set = set-device old.devices.items c.index-device.result.now c.from-2.result before before c.from-2.ensures its.within c.index_mut.ensures.value in
    subst CanCount set.was its.counts

pub returns-clause-sender : goal.returns-clause-sender
returns-clause-sender c =
    let its = sending-at c.args.self.now c.args.place c.index_mut-sender.result.now c.from.result c.index-device.result.now c.requires.can c.index_mut-sender.ensures.value c.from.ensures c.index-device.ensures in
    rw c.next_packet-packet.ensures.sender its.number

pub returns-clause-leads : goal.returns-clause-leads
returns-clause-leads c =
    let old = c.args.self.now in
    let sender = c.index_mut-sender.result.now in
    let packet = c.next_packet-packet.result in
    let its = sending-at old c.args.place sender c.from.result c.index-device.result.now c.requires.can c.index_mut-sender.ensures.value c.from.ensures c.index-device.ensures in
    let before = c.index_mut.result.now in
    let after = c.count.new.self in
    let changed = set-device old.devices.items c.index-device.result.now c.from-2.result before after c.from-2.ensures its.within c.index_mut.ensures.value in
    let counted = counts-at old.devices.items c.index-device.result.now before after c.offer-outcome.result _ changed c.count.ensures.session c.count.ensures.kept in
    let sent = ap (set old.senders.items c.args.place) c.next_packet-packet.ensures.counted in
    λ setup events at. IsAt-sent c.calls_are_history.ensures setup events old _ c.args.place c.index-device.result.now sender packet c.offer-outcome.result counted at c.requires.can.rising its.path its.here its.more
    c.next_packet-packet.ensures.number c.next_packet-packet.ensures.sender c.offer-outcome.ensures sent refl refl refl
