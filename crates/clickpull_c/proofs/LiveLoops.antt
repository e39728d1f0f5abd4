-- Pulls of a live router so far, and one more.
use Rattle.std.proofs.Common.{◌≡◌, ℕ, ◌+◌, ◌<◌, ◌≤◌, ◌⊎◌, inl, inr, List, length, map, take, append-nil, slice_set, Some, None, refl, sym, ◌∙◌, subst, arith, lit≤}
use Rattle.std.proofs.lemmas.List.{length-map, length-set, drop-set-lt, take_more_set}
use Rattle.clk_packet.specs.Packets.{packet}
use Rattle.clk_live.specs.declared.draining.Departed.{Departed}
use Rattle.clk_live.specs.declared.pulling.Emitted.{Emitted}
use Rattle.clk_live.specs.State.{LiveState, seen}
use Rattle.clk_live.specs.Pulling.{Emits}
use Rattle.clk_live.specs.declared.draining.DrainEnd.{DrainEnd}
use Rattle.clk_live.specs.Draining.{DrainPull, PullsNext, EndsDrain}
use Rattle.clk_live.proofs.Pulls.{gave-none, gave-more}
use Rattle.clk_live.proofs.Drains.{drained-none, drained-more}
use Rattle.clickpull_c.specs.declared.live.values.CDeparted.{CDeparted}
use Rattle.clickpull_c.specs.declared.live.values.CEmitted.{CEmitted}
use Rattle.clickpull_c.specs.Filled.{IsFilled}
use Rattle.clickpull_c.specs.inside.live.Given.{PulledSoFar, DepartedSoFar}
use Rattle.clickpull_c.specs.live.Drains.{Drains, drain_status}
use Rattle.clickpull_c.specs.live.Values.{departed_in_c, emitted_in_c}
use Rattle.clickpull_c.proofs.Fills.{fill-none, fill-more, front-length, front-set}

-- what a slot has that nothing was put into
free : Emitted
free = record { packet = packet 0 0 1 (lit≤ tt) (lit≤ tt); token = 0 }

free-departed : Departed
free-departed = record { moment = 0; packet = free.packet; token = 0 }

pub pulled-none : (device moment : ℕ) (s : LiveState) (before : List CEmitted) → PulledSoFar device moment s s before before 0
pulled-none device moment s before =
    let slots : List Emitted = map (λ _. free) before in
    record { slots = slots; gave = slots; many = length-map before (λ _. free); so_far = gave-none device moment (seen s) slots; are_filled = fill-none before; unchanged = (refl, refl) }

pub pulled-more : (device moment : ℕ) (old mid new : LiveState) (before filled : List CEmitted) (given : ℕ) (e : Emitted) (y : CEmitted) → given < length before → PulledSoFar device moment old mid before filled given
    → Emits device moment (seen mid) e (seen new) → y ≡ emitted_in_c e → (new.outlets ≡ mid.outlets) × (new.turn ≡ mid.turn) → PulledSoFar device moment old new before (slice_set filled given y) (given + 1)
pulled-more device moment old mid new before filled given e y low so_far one its same =
    let there : given < length so_far.gave = (let many = so_far.many in let all = so_far.so_far.many in omega (arith, low, many, all)) in
    record {
      slots = so_far.slots;
      gave = slice_set so_far.gave given e;
      many = so_far.many;
      so_far = gave-more device moment (seen old) (seen mid) (seen new) so_far.slots so_far.gave given e there so_far.so_far one;
      are_filled =
          subst (λ f. IsFilled before (slice_set filled given y) f) (sym (front-set emitted_in_c so_far.gave given e y there its))
          (fill-more before filled (map emitted_in_c (take given so_far.gave)) y given (front-length emitted_in_c so_far.gave given (omega (arith, there))) low so_far.are_filled);
      unchanged = (same.0 ∙ so_far.unchanged.0, same.1 ∙ so_far.unchanged.1);
    }

pub departed-none : (device : ℕ) (s : LiveState) (before : List CDeparted) → DepartedSoFar device s s before before 0 0
departed-none device s before =
    let slots : List Departed = map (λ _. free-departed) before in
    record { slots = slots; gave = slots; many = length-map before (λ _. free-departed); so_far = drained-none device (seen s) slots; are_filled = fill-none before; unchanged = (refl, refl) }

-- one more pull, which emitted none
pub departed-same : (device : ℕ) (old mid new : LiveState) (before filled : List CDeparted) (made given moment : ℕ) → given < length before → DepartedSoFar device old mid before filled made given
    → PullsNext device (seen mid) (record { moment = moment; got = None }) (seen new) → (new.outlets ≡ mid.outlets) × (new.turn ≡ mid.turn) → DepartedSoFar device old new before filled (made + 1) given
departed-same device old mid new before filled made given moment low so_far one same =
    let there : given < length so_far.gave = (let many = so_far.many in let all = so_far.so_far.many in omega (arith, low, many, all)) in
    record {
      slots = so_far.slots;
      gave = so_far.gave;
      many = so_far.many;
      so_far =
          drained-more device (seen old) (seen mid) (seen new) so_far.slots so_far.gave so_far.gave made given given (record { moment = moment; got = None }) there so_far.so_far one refl (omega arith, omega (arith, there))
          (sym (append-nil (take given so_far.gave))) refl;
      are_filled = so_far.are_filled;
      unchanged = (same.0 ∙ so_far.unchanged.0, same.1 ∙ so_far.unchanged.1);
    }

-- one more pull, which emitted a packet
pub departed-more : (device : ℕ) (old mid new : LiveState) (before filled : List CDeparted) (made given moment : ℕ) (e : Emitted) (y : CDeparted) → given < length before → DepartedSoFar device old mid before filled made given
    → PullsNext device (seen mid) (record { moment = moment; got = Some e }) (seen new) → y ≡ departed_in_c (record { moment = moment; packet = e.packet; token = e.token }) → (new.outlets ≡ mid.outlets) × (new.turn ≡ mid.turn)
    → DepartedSoFar device old new before (slice_set filled given y) (made + 1) (given + 1)
departed-more device old mid new before filled made given moment e y low so_far one its same =
    let there : given < length so_far.gave = (let many = so_far.many in let all = so_far.so_far.many in omega (arith, low, many, all)) in
    let d : Departed = record { moment = moment; packet = e.packet; token = e.token } in
    record {
      slots = so_far.slots;
      gave = slice_set so_far.gave given d;
      many = so_far.many;
      so_far =
          drained-more device (seen old) (seen mid) (seen new) so_far.slots so_far.gave (slice_set so_far.gave given d) made given (given + 1) (record { moment = moment; got = Some e }) there so_far.so_far one (length-set so_far.gave given d)
          (omega arith, omega (arith, there)) (take_more_set so_far.gave given d there) (drop-set-lt (given + 1) so_far.gave given d (omega arith));
      are_filled =
          subst (λ f. IsFilled before (slice_set filled given y) f) (sym (front-set departed_in_c so_far.gave given d y there its))
          (fill-more before filled (map departed_in_c (take given so_far.gave)) y given (front-length departed_in_c so_far.gave given (omega (arith, there))) low so_far.are_filled);
      unchanged = (same.0 ∙ so_far.unchanged.0, same.1 ∙ so_far.unchanged.1);
    }

-- a drain that ends so
pub drained-so-far : (device most : ℕ) (old now : LiveState) (before filled : List CDeparted) (made given status : ℕ) (end : DrainEnd) → made ≤ most → DepartedSoFar device old now before filled made given
    → ((pulls : List DrainPull) → length pulls ≡ made → EndsDrain end now.course device (length before) most (length pulls) given) → status ≡ drain_status end → Drains device most old now before filled given status
drained-so-far device most old now before filled made given status end few so_far ends is =
    let drained = so_far.so_far in
    record {
      slots = so_far.slots;
      gave = so_far.gave;
      end = end;
      many = so_far.many;
      are_drained = record {
        pulls = drained.pulls;
        made = drained.chain;
        few = (let count = drained.count in omega (arith, few, count));
        within = drained.within;
        room = drained.room;
        gave = drained.gave;
        others = drained.others;
        ends = subst (λ n. EndsDrain end now.course device n most (length drained.pulls) given) (sym so_far.many) (ends drained.pulls drained.count);
      };
      are_filled = so_far.are_filled;
      status_is = is;
      unchanged = so_far.unchanged;
    }

-- a drain that stops in midway has filled all places or made all pulls
pub either-full : (given filled places made most n : ℕ) → filled ≡ places → n ≡ made → (given ≡ filled) ⊎ (made ≡ most) → (given ≡ places) ⊎ (n ≡ most)
either-full given filled places made most n same count (inl e) = inl (e ∙ same)
either-full given filled places made most n same count (inr e) = inr (count ∙ e)
