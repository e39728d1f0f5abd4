use Rattle.std.proofs.Common.{◌≡◌, ℕ, List, [], ◌∷◌, ◌++◌, length, refl, sym, ap, subst, arith, lit≤, append-nil}
use Rattle.std.proofs.lemmas.List.{length-append}
use Rattle.clk_inlet.specs.declared.inlet.Inlet.{Inlet}
use Rattle.clk_inlet.specs.declared.item.Item.{Item}
use Rattle.clk_inlet.specs.Items.{packet_item}
use Rattle.clk_inlet.specs.Halves.{pushed, offered}
use Rattle.clickpull_c.specs.Answers.{IsLength}
use Rattle.clickpull_c.specs.Inlets.{RefusesPacket, bad_length, ended, full, EndsBatch, all, refused}
use Rattle.clickpull_c.specs.Examples.{one_item}
use Rattle.clickpull_c.specs.declared.statuses.TheConstants.{OK, BAD_LENGTH, FULL}
use Rattle.clickpull_c.proofs.examples.inlet_examples.Goals as goal

-- a list is no longer one
no-longer : (xs : List Item) (x : Item) → xs ≡ xs ++ x ∷ [] → ⊥
no-longer xs x same = let e = ap length same in let l = length-append xs (x ∷ []) in omega (arith, e, l)

-- a packet of a right length isn't refused for it
right : (i : Inlet) (n : ℕ) → IsLength n → RefusesPacket i n BAD_LENGTH → ⊥
right i n h (bad_length e bad) = bad h
right i n h (ended e g is) = omega (arith, e)
right i n h (full e g is none) = omega (arith, e)

pub returns-clause-too_long : goal.returns-clause-too_long
returns-clause-too_long c = λ i. bad_length refl (λ h. let high = h.1 in omega (arith, high))

pub returns-clause-not_longest : goal.returns-clause-not_longest
returns-clause-not_longest c = λ i. right i 65535 (lit≤ tt, lit≤ tt)

pub returns-clause-not_shortest : goal.returns-clause-not_shortest
returns-clause-not_shortest c = λ i. right i 1 (lit≤ tt, lit≤ tt)

pub returns-clause-length_first : goal.returns-clause-length_first
returns-clause-length_first c = none
  where
    none : (i : Inlet) → RefusesPacket i 0 FULL → ⊥
    none i (bad_length e bad) = omega (arith, e)
    none i (ended e g is) = omega (arith, e)
    none i (full e g is room) = let low = g.0 in omega (arith, low)

pub returns-clause-not_pushed : goal.returns-clause-not_pushed
returns-clause-not_pushed c = λ i accepted. no-longer (pushed i) (packet_item 100 7) accepted.pushes

pub returns-clause-none_pushed : goal.returns-clause-none_pushed
returns-clause-none_pushed c = λ i. record { within = omega arith; pushes = sym (append-nil (pushed i)); offers = sym (append-nil (offered i)) }

pub returns-clause-not_one_pushed : goal.returns-clause-not_one_pushed
returns-clause-not_one_pushed c = λ i accepted. no-longer (pushed i) (packet_item 100 7) accepted.pushes

pub returns-clause-ended : goal.returns-clause-ended
returns-clause-ended c = λ i. all refl refl

pub returns-clause-not_ended_early : goal.returns-clause-not_ended_early
returns-clause-not_ended_early c = none
  where
    fine : (i : Inlet) (n : ℕ) → RefusesPacket i n OK → ⊥
    fine i n (bad_length e bad) = omega (arith, e)
    fine i n (ended e g is) = omega (arith, e)
    fine i n (full e g is room) = omega (arith, e)

    none : (i : Inlet) → EndsBatch i one_item 0 OK → ⊥
    none i (all e n) = omega (arith, n)
    none i (refused item is r) = fine i item.length r

pub returns-clause-ended_by_length : goal.returns-clause-ended_by_length
returns-clause-ended_by_length c = λ i. refused (record { token = 7; length = 65536 }) refl (bad_length refl (λ h. let high = h.1 in omega (arith, high)))

pub returns-clause-not_ended_by_good_length : goal.returns-clause-not_ended_by_good_length
returns-clause-not_ended_by_good_length c = none
  where
    the_item : Item
    the_item = record { token = 7; length = 100 }

    none : (i : Inlet) → EndsBatch i one_item 0 BAD_LENGTH → ⊥
    none i (all e n) = omega (arith, n)
    none i (refused item is r) = let same : the_item ≡ item = cc in right i item.length (subst (λ (x : Item). IsLength x.length) same (lit≤ tt, lit≤ tt)) r
