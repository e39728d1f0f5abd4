-- The rate that a Shaper keeps to.
use Rattle.std.proofs.Common.{◌≡◌, ℕ, zero, suc, ◌+◌, ◌-◌, ◌*◌, ◌≤◌, ◌&&◌, if◌then◌else◌, nat_le, Bool, true, false, List, [], ◌∷◌, ◌++◌, is_some, refl, sym, ap, ◌∙◌, subst, mul-add, arith}
use Rattle.std.specs.List.{AllByRecursion}
use Rattle.std.proofs.Math.Nat.{mul-le-mul_left}
use Rattle.std.proofs.lemmas.Bool.{false≢true, and_parts}
use Rattle.std.proofs.lemmas.Bool.Decides.{nat_tests}
use Rattle.clk_packet.specs.Scheduler.{shaper}
use Rattle.clk_sched.specs.declared.visit.Visit.{Visit}
use Rattle.clk_sched.specs.Turns.{Turn, EachAfter, giver, UpToFirst, AsksInOrder}
use Rattle.clk_sched.specs.Laws.{Follows, manner}
use Rattle.clk_sched.specs.Laws.Shaper.{has_passed, packets_passed, keeps_since_each, shaper_order}
use Rattle.clk_sched.specs.Service.{KeepsToRate}
use Rattle.clk_sched.proofs.Runs.Allowed.{onto, each-split}
use Rattle.clk_sched.specs.inside.Holds.Shaper.{has_room}

-- a turn is within a window
abbrev IsFrom : ℕ → ℕ → Turn → Type 0
IsFrom from until t = (from ≤ t.moment) × (t.moment ≤ until)

-- so many packets, from one moment to another, keep to rate and burst
abbrev Keeps : (rate burst from until packets : ℕ) → Type 0
Keeps rate burst from until packets = packets + rate * from ≤ burst + rate * until

-- With one more packet at a moment, those that passed in the latest turns, if any did, keep to the rate.
with-one : (rate burst moment from until : ℕ) (later turns earlier : List Turn) → keeps_since_each rate burst moment later (turns ++ earlier) ≡ true → AllByRecursion (IsFrom from until) turns
    → 1 ≤ packets_passed turns → Keeps rate burst from moment (packets_passed turns + packets_passed later + 1)
with-one rate burst moment from until later [] earlier room within some = absurd (omega (arith, some))
with-one rate burst moment from until later (t ∷ turns) earlier room within some =
    by_passed (has_passed t) refl room some (with-one rate burst moment from until (t ∷ later) turns earlier (and_parts _ _ room).1 within.1)
  where
    from_here : rate * from ≤ rate * t.moment
    from_here = mul-le-mul_left rate within.0.0

    by_passed : (b : Bool) → has_passed t ≡ b
        → ((if b then nat_le ((if b then packets_passed later + 1 else packets_passed later) + 1 + rate * t.moment) (burst + rate * moment) else true) && keeps_since_each rate burst moment (t ∷ later) (turns ++ earlier)) ≡ true
        → 1 ≤ (if b then packets_passed turns + 1 else packets_passed turns)
        → (1 ≤ packets_passed turns → Keeps rate burst from moment (packets_passed turns + (if b then packets_passed later + 1 else packets_passed later) + 1))
        → Keeps rate burst from moment ((if b then packets_passed turns + 1 else packets_passed turns) + packets_passed later + 1)
    by_passed true e room some before = by_count (packets_passed turns) refl
      where
        by_count : (n : ℕ) → packets_passed turns ≡ n → Keeps rate burst from moment (packets_passed turns + 1 + packets_passed later + 1)
        by_count zero none =
            let test : nat_le (packets_passed later + 1 + 1 + rate * t.moment) (burst + rate * moment) ≡ true = (and_parts _ _ room).0 in
            let here : packets_passed later + 1 + 1 + rate * t.moment ≤ burst + rate * moment = grind (arith, nat_tests, test) in
            omega (arith, none, here, from_here)
        by_count (suc n) more = let all = before (omega (arith, more)) in omega (arith, all)
    by_passed false e room some before = let all = before some in omega (arith, all)

-- A turn in which a packet passed had room for it.
passed-room : (rate burst : ℕ) (earlier : List Turn) (t : Turn) → AsksInOrder (shaper_order rate burst earlier t.moment) t.visits → has_passed t ≡ true → has_room rate burst t.moment earlier ≡ true
passed-room rate burst earlier t follows passed = by_room (has_room rate burst t.moment earlier) refl follows.in_order
  where
    by_room : (b : Bool) → has_room rate burst t.moment earlier ≡ b → UpToFirst (if b then 0 ∷ [] else []) t.visits → b ≡ true
    by_room true e order = refl
    by_room false e order = absurd (false≢true (sym (ap (λ l. is_some (giver l)) (none t.visits order)) ∙ passed))
      where
        none : (visits : List Visit) → UpToFirst [] visits → visits ≡ []
        none [] order = refl
        none (v ∷ visits) order = absurd order

-- Turns one after another keep to the rate.
turns-keep : (rate burst inputs from until : ℕ) (earlier done turns : List Turn) → EachAfter (Follows (manner (shaper rate burst) inputs) inputs) (done ++ earlier) turns
    → AllByRecursion (IsFrom from until) done → AllByRecursion (IsFrom from until) turns → 1 ≤ burst → Keeps rate burst from until (packets_passed done) → Keeps rate burst from until (packets_passed done + packets_passed turns)
turns-keep rate burst inputs from until earlier done [] h within more some so_far = omega (arith, so_far)
turns-keep rate burst inputs from until earlier done (t ∷ turns) h within more some so_far =
    by_passed (has_passed t) refl (turns-keep rate burst inputs from until earlier (t ∷ done) turns h.1 (more.0, within) more.1 some)
  where
    to_here : rate * t.moment ≤ rate * until
    to_here = mul-le-mul_left rate more.0.1

    from_here : rate * from ≤ rate * t.moment
    from_here = mul-le-mul_left rate more.0.0

    one_more : has_passed t ≡ true → Keeps rate burst from until (packets_passed done + 1)
    one_more passed = by_count (packets_passed done) refl
      where
        by_count : (n : ℕ) → packets_passed done ≡ n → Keeps rate burst from until (packets_passed done + 1)
        by_count zero none = omega (arith, none, some, from_here, to_here)
        by_count (suc n) is =
            let all = with-one rate burst t.moment from until [] done earlier (passed-room rate burst (done ++ earlier) t h.0 passed) within (omega (arith, is)) in
            omega (arith, all, to_here)

    by_passed : (b : Bool) → has_passed t ≡ b
        → (Keeps rate burst from until (if b then packets_passed done + 1 else packets_passed done) → Keeps rate burst from until ((if b then packets_passed done + 1 else packets_passed done) + packets_passed turns))
        → Keeps rate burst from until (packets_passed done + (if b then packets_passed turns + 1 else packets_passed turns))
    by_passed true e rest = let all = rest (one_more e) in omega (arith, all)
    by_passed false e rest = rest so_far

pub rate-kept : (rate burst inputs : ℕ) (turns : List Turn) → EachAfter (Follows (manner (shaper rate burst) inputs) inputs) [] turns → KeepsToRate rate burst turns
rate-kept rate burst inputs turns h = record { passed_few = λ before range after split from until within some. few before range after split from until within some }
  where
    few : (before range after : List Turn) → turns ≡ before ++ (range ++ after) → (from until : ℕ) → AllByRecursion (IsFrom from until) range → 1 ≤ burst → packets_passed range ≤ burst + rate * (until - from)
    few before [] after split from until within some = omega arith
    few before (t ∷ range) after split from until within some =
        let all = subst (EachAfter (Follows (manner (shaper rate burst) inputs) inputs) []) split h in
        let those = each-split _ _ (t ∷ range) after (each-split _ [] before ((t ∷ range) ++ after) all).1 in
        let kept = turns-keep rate burst inputs from until (onto before []) [] (t ∷ range) those.0 tt within some (let up = mul-le-mul_left rate (rising within.0) in omega (arith, up)) in
        let apart : rate * from + rate * (until - from) ≡ rate * until = sym (mul-add rate from (until - from)) ∙ ap (λ n. rate * n) (let up = rising within.0 in omega (arith, up)) in
        omega (arith, kept, apart)
      where
        rising : IsFrom from until t → from ≤ until
        rising is = omega (arith, is.0, is.1)
