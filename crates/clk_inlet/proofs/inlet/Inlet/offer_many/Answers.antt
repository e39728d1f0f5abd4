use Rattle.std.proofs.Common.{◌-◌, ◌∙◌, length, sym, ap, subst, arith}
use Rattle.rtrb.specs.Ring.{sent}
use Rattle.clk_inlet.specs.Items.{AreShort, has_end}
use Rattle.clk_inlet.proofs.Halves.{sender_stays}
use Rattle.clk_inlet.proofs.Sending.{front, each_may_follow, sent_on, still_open}
use Rattle.clk_inlet.proofs.inlet.Inlet.offer_many.Goals as goal

pub push_entire_slice-requires : goal.push_entire_slice-requires
push_entire_slice-requires c =
    let r = c.room_for-room in
    let i = r.new.self in
    let open_yet = still_open i.ended i.free i.full_at_end (omega (arith, c.if-room-eq0.false, r.ensures.room)) in
    each_may_follow (sent i.producer) c.split_at.result.0.now (sym i.end_is_put ∙ open_yet) (ap has_end c.split_at.ensures.front ∙ c.packets_in-count.ensures.packets) (subst AreShort (sym c.split_at.ensures.front) c.packets_in-count.ensures.short)
    (omega (arith, i.counted, i.numbers_left, r.ensures.room, c.packets_in-count.ensures.within, c.split_at.ensures.front_len))

pub invariant_of-self : goal.invariant_of-self
invariant_of-self c =
    let r = c.room_for-room in
    let i = r.new.self in
    let open_yet = still_open i.ended i.free i.full_at_end (omega (arith, c.if-room-eq0.false, r.ensures.room)) in
    let ok = c.in-Ok.ensures.ok in
    let s = sent_on (sent i.producer) c.split_at.result.0.now (sent c.push_entire_slice.new.self) (sym i.end_is_put ∙ open_yet) (ap has_end c.split_at.ensures.front ∙ c.packets_in-count.ensures.packets) ok.0 in
    record {
      counted = omega (arith, s.2, i.counted, c.split_at.ensures.front_len);
      end_is_put = open_yet ∙ sym s.0;
      end_is_last = front (sent c.push_entire_slice.new.self) (length (sent c.push_entire_slice.new.self) - 1) s.0;
      reserved = λ _. let free = i.reserved open_yet in omega (arith, ok.1, free, r.ensures.room, c.split_at.ensures.front_len, c.packets_in-count.ensures.within);
      numbers_left = omega (arith, i.numbers_left, r.ensures.room, c.packets_in-count.ensures.within);
      full_at_end = λ ended. let none = i.full_at_end ended in omega (arith, none);
    }

pub returns-clause-offered : goal.returns-clause-offered
returns-clause-offered c =
    let r = c.room_for-room in
    let i = r.new.self in
    let open_yet = still_open i.ended i.free i.full_at_end (omega (arith, c.if-room-eq0.false, r.ensures.room)) in
    let s = sent_on (sent i.producer) c.split_at.result.0.now (sent c.push_entire_slice.new.self) (sym i.end_is_put ∙ open_yet) (ap has_end c.split_at.ensures.front ∙ c.packets_in-count.ensures.packets) c.in-Ok.ensures.ok.0 in
    s.1 ∙ cc (r.ensures.unchanged, c.split_at.ensures.front)

pub returns-clause-halves : goal.returns-clause-halves
returns-clause-halves c = λ o h. record { one_ring = sender_stays c.room_for-room.new.self.producer c.push_entire_slice.new.self o.consumer c.push_entire_slice.ensures.ring (c.room_for-room.ensures.halves o h).one_ring }
