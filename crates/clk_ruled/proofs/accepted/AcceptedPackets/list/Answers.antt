use Rattle.std.proofs.Common.{◌≡◌, ◌+◌, [], ◌∷◌, ◌++◌, get_or, sym, ap, ◌∙◌, subst, length, arith}
use Rattle.clk_packet.specs.declared.packet.Packet.{Packet}
use Rattle.clk_packet.proofs.Callers.Packets.{packet-same}
use Rattle.clk_ruled.proofs.Listing.{IsListed, IsNext, none-listed, refused-next, accepted-next, place-within, length-next, all-listed}
use Rattle.clk_ruled.proofs.accepted.AcceptedPackets.list.Goals as goal

pub loop-number-init : goal.loop-number-init
loop-number-init c = record {
  within = omega arith;
  listed = subst (λ packets. IsListed c.args.sender c.args.next 0 c.args.self.now.all.items packets c.args.refused.now) (sym c.in_ok-packets.ensures.items)
      (none-listed c.args.sender c.args.next c.args.self.now.all.items c.args.refused.now c.requires.shared);
}

pub loop-number-preserved-in-Some : goal.loop-number-preserved-in-Some
loop-number-preserved-in-Some c = record {
  within = omega (arith, c.loop-number-test.true);
  listed =
      refused-next c.args.sender c.args.next c.loop-number.number c.args.self.now.all.items c.loop-number.packets.items c.loop-number.rest.now c.in-Some.later.now c.loop-number-test.true c.in-Some.ensures.some
      c.loop-number.invariant.listed;
}

-- the next packet, which was accepted
next : (c : goal.After-len-in-loop-number) → IsNext c.args.sender c.args.next c.loop-number.number c.args.self.now.all.items c.loop-number.packets.items c.loop-number.rest.now
next c =
    accepted-next c.args.sender c.args.next c.loop-number.number c.args.self.now.all.items c.loop-number.packets.items c.loop-number.rest.now c.loop-number-test.true (c.after.ensures.none c.in_default.is)
    c.loop-number.invariant.listed

pub index-requires : goal.index-requires
index-requires c =
    let p = next c in
    let inside = place-within c.args.self.now.all.items c.loop-number.packets.items p.more p.packet c.args.self.now.lengths.items c.args.self.now.lengths_are p.all_are in
    let place = c.len-in-loop-number.ensures in omega (arith, inside, place)

-- its length
length-is : (c : goal.After-row_known-1) → c.index.result.now ≡ (next c.before.before).packet.length
length-is c =
    let p = next c.before.before in
    let place : c.len-in-loop-number.result ≡ length c.loop-number.packets.items = (let is = c.len-in-loop-number.ensures in omega (arith, is)) in
    c.index.ensures ∙ ap (λ n. get_or c.args.self.now.lengths.items n c.index.result.now) place
    ∙ length-next c.args.self.now.all.items c.loop-number.packets.items p.more p.packet c.args.self.now.lengths.items c.index.result.now c.args.self.now.lengths_are p.all_are

pub invariant_of-push : goal.invariant_of-push
invariant_of-push c =
    let p = (next c.before.before).packet in
    let is = length-is c in
    let some = p.has_length in
    let within = p.is_within in record { has_length = omega (arith, is, some); is_within = omega (arith, is, within) }

pub loop-number-preserved : goal.loop-number-preserved
loop-number-preserved c =
    let p = next c.before.before.before.before.before.before in
    let pushed = c.in_ok-push.ensures.items ∙ ap (λ (q : Packet). c.loop-number.packets.items ++ q ∷ []) (packet-same _ p.packet (sym p.number_is) (sym p.own) (length-is c.before.before.before.before)) in record {
      within = omega (arith, c.loop-number-test.true);
      listed = subst (λ packets. IsListed c.args.sender c.args.next (c.loop-number.number + 1) c.args.self.now.all.items packets c.loop-number.rest.now) (sym pushed) p.listed;
    }

pub returns-clause-list : goal.returns-clause-list
returns-clause-list c =
    let end = c.loop-number-test.false in
    all-listed c.args.sender c.args.next c.loop-number.number c.args.self.now.all.items c.loop-number.packets.items c.loop-number.rest.now (omega (arith, end)) c.loop-number.invariant.listed
