use Rattle.std.proofs.Common.{◌-◌, ◌++◌, ◌∙◌, List, take, sym, subst, ap, arith}
use Rattle.std.proofs.lemmas.List.{take-set}
use Rattle.rtrb.specs.Fifo.{Allowed}
use Rattle.clk_inlet.specs.Items.{MayFollow, AreShort, has_end}
use Rattle.clk_inlet.specs.Halves.{popped, taken}
use Rattle.clk_inlet.specs.declared.item.Item.{Item}
use Rattle.clk_inlet.proofs.Order.{allowed_short}
use Rattle.clk_inlet.proofs.Taking.{Batch, none_among, front_allowed, ended, at_end, goes_on, keeps, grows, all_seen, in_order, one_ring}
use Rattle.clk_inlet.proofs.outlet.Outlet.take_many.Goals as goal
use Rattle.clk_inlet.proofs.outlet.Outlet.take_many.Goals.{After-pop_seen}

-- what was looked at and popped is a batch
batch : (c : After-pop_seen) → Batch c.args.self.now c.seen_up_to-count.new.self.consumer c.pop_seen.new.consumer c.pop_seen.new.items c.seen_up_to-count.result
batch c =
    let n = c.seen_up_to-count.result in
    let p = c.pop_seen in
    let looked = c.seen_up_to-count.ensures in
    let some = c.if-count-eq0.false in
    let within = looked.count.0 in
    let same = p.auto.items in
    record {
      some = omega arith;
      few = omega arith;
      allowed = subst (λ (l : List Item). Allowed MayFollow l (take n p.new.items)) looked.unchanged p.ensures.allowed;
      received = p.ensures.received ∙ ap (λ (l : List Item). l ++ take n p.new.items) looked.unchanged;
      saw = looked.seen;
      known = p.ensures.known;
      halves = λ i h. (looked.halves i h).one_ring;
      ring = p.ensures.ring;
    }

-- The end was the last item of the batch.
pub returns-then-items-count-eq0-clause-taken : goal.returns-then-items-count-eq0-clause-taken
returns-then-items-count-eq0-clause-taken c =
    let b = batch (goal.at.returns-then-items-count-eq0-clause-taken c).After-pop_seen in
    ended b c.if-items-count-eq0.true ∙ ap (λ (l : List Item). taken c.args.self.now ++ l) (sym (take-set c.pop_seen.new.items (c.seen_up_to-count.result - 1) _))

pub returns-then-items-count-eq0-clause-packets : goal.returns-then-items-count-eq0-clause-packets
returns-then-items-count-eq0-clause-packets c =
    let b = batch (goal.at.returns-then-items-count-eq0-clause-packets c).After-pop_seen in
    ap has_end (take-set c.pop_seen.new.items (c.seen_up_to-count.result - 1) _) ∙ (none_among b).1

pub returns-then-items-count-eq0-clause-may_follow : goal.returns-then-items-count-eq0-clause-may_follow
returns-then-items-count-eq0-clause-may_follow c =
    let b = batch (goal.at.returns-then-items-count-eq0-clause-may_follow c).After-pop_seen in
    subst (Allowed MayFollow (popped c.args.self.now)) (sym (take-set c.pop_seen.new.items (c.seen_up_to-count.result - 1) _)) (front_allowed b)

pub returns-then-items-count-eq0-clause-short : goal.returns-then-items-count-eq0-clause-short
returns-then-items-count-eq0-clause-short c =
    let b = batch (goal.at.returns-then-items-count-eq0-clause-short c).After-pop_seen in
    subst AreShort (sym (take-set c.pop_seen.new.items (c.seen_up_to-count.result - 1) _)) (allowed_short (popped c.args.self.now) (take (c.seen_up_to-count.result - 1) c.pop_seen.new.items) (front_allowed b))

pub returns-then-items-count-eq0-clause-keeps : goal.returns-then-items-count-eq0-clause-keeps
returns-then-items-count-eq0-clause-keeps c = keeps (batch (goal.at.returns-then-items-count-eq0-clause-keeps c).After-pop_seen)

pub returns-then-items-count-eq0-clause-packets_popped : goal.returns-then-items-count-eq0-clause-packets_popped
returns-then-items-count-eq0-clause-packets_popped c =
    let ended_now = at_end (batch (goal.at.returns-then-items-count-eq0-clause-packets_popped c).After-pop_seen) c.if-items-count-eq0.true in
    λ goes_on_yet. absurd (grind (arith, ended_now, goes_on_yet))

pub returns-then-items-count-eq0-clause-grows : goal.returns-then-items-count-eq0-clause-grows
returns-then-items-count-eq0-clause-grows c = grows (batch (goal.at.returns-then-items-count-eq0-clause-grows c).After-pop_seen)

pub returns-then-items-count-eq0-clause-allowed : goal.returns-then-items-count-eq0-clause-allowed
returns-then-items-count-eq0-clause-allowed c = in_order (batch (goal.at.returns-then-items-count-eq0-clause-allowed c).After-pop_seen)

pub returns-then-items-count-eq0-clause-halves : goal.returns-then-items-count-eq0-clause-halves
returns-then-items-count-eq0-clause-halves c = λ i h. record { one_ring = one_ring (batch (goal.at.returns-then-items-count-eq0-clause-halves c).After-pop_seen) i h }

-- All items of the batch were packets.
pub invariant_of-self-else-items-count-eq0 : goal.invariant_of-self-else-items-count-eq0
invariant_of-self-else-items-count-eq0 c =
    let b = batch (goal.at.invariant_of-self-else-items-count-eq0 c).After-pop_seen in
    let looked = c.seen_up_to-count in
    record { end_is_popped = looked.new.self.end_is_popped ∙ ap has_end looked.ensures.unchanged ∙ (none_among b).0 ∙ sym (goes_on b c.if-items-count-eq0.false).0 }

pub returns-clause-taken : goal.returns-clause-taken
returns-clause-taken c = (goes_on (batch (goal.at.returns-clause-taken c).After-pop_seen) c.if-items-count-eq0.false).2

pub returns-clause-short : goal.returns-clause-short
returns-clause-short c =
    let b = batch (goal.at.returns-clause-short c).After-pop_seen in
    allowed_short (popped c.args.self.now) (take c.seen_up_to-count.result c.pop_seen.new.items) b.allowed

pub returns-clause-all_seen : goal.returns-clause-all_seen
returns-clause-all_seen c = λ fewer goes_on_yet. all_seen (batch (goal.at.returns-clause-all_seen c).After-pop_seen) (c.seen_up_to-count.ensures.all fewer)

pub returns-clause-keeps : goal.returns-clause-keeps
returns-clause-keeps c = keeps (batch (goal.at.returns-clause-keeps c).After-pop_seen)

pub returns-clause-packets_popped : goal.returns-clause-packets_popped
returns-clause-packets_popped c = λ goes_on_yet. (batch (goal.at.returns-clause-packets_popped c).After-pop_seen).received

pub returns-clause-grows : goal.returns-clause-grows
returns-clause-grows c = grows (batch (goal.at.returns-clause-grows c).After-pop_seen)

pub returns-clause-allowed : goal.returns-clause-allowed
returns-clause-allowed c = in_order (batch (goal.at.returns-clause-allowed c).After-pop_seen)

pub returns-clause-halves : goal.returns-clause-halves
returns-clause-halves c = λ i h. record { one_ring = one_ring (batch (goal.at.returns-clause-halves c).After-pop_seen) i h }
