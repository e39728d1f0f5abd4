use Rattle.std.proofs.Common.{◌≡◌, ℕ, zero, suc, ◌+◌, ◌-◌, ◌<◌, nat_lt, false, if◌then◌else◌, Some, ◌⊎◌, inl, inr, refl, ap, subst, arith}
use Rattle.std.proofs.lemmas.Bool.Decides.{nat_tests}
use Rattle.clk_packet.specs.declared.packet.Kind.TheVariants.{FrontDrop}
use Rattle.clk_router.specs.Course.{sender_at}
use Rattle.clk_router.specs.SettledExamples.{two_devices}
use Rattle.clk_live.specs.Taking.{IsQueueFull, count_of, steps_to}
use Rattle.clk_live.specs.Examples.{two_of_first, filled, with_room}
use Rattle.clk_live.proofs.Fitting.{full-holds}
use Rattle.clk_live.proofs.examples.share_examples.Goals as goal

two-or-full : (place s : ℕ) → sender_at two_devices place ≡ Some s → (count_of s two_of_first ≡ 2) ⊎ IsQueueFull filled place
two-or-full zero s e = let is : 0 ≡ s = cc in subst (λ n. (count_of n two_of_first ≡ 2) ⊎ IsQueueFull filled 0) is (inl refl)
two-or-full (suc zero) s e = inr (record { spec = record { number = 1; queue = 1 }; room = record { kind = FrontDrop; capacity = 2; device = 1 }; sender = refl; queue = refl; full = refl })
two-or-full (suc (suc n)) s e = absurd (cc)

pub returns-clause-or_full : goal.returns-clause-or_full
returns-clause-or_full c = two-or-full

-- a sender that gave another number of packets
not-so-many : (n m : ℕ) → (n ≡ m → ⊥) → (n ≡ m) ⊎ ⊥ → ⊥
not-so-many n m other (inl e) = other e
not-so-many n m other (inr never) = never

pub returns-clause-not_fewer : goal.returns-clause-not_fewer
returns-clause-not_fewer c = λ shares. not-so-many 1 2 (λ e. omega (arith, e)) (shares 1 1 refl)

pub returns-clause-not_more : goal.returns-clause-not_more
returns-clause-not_more c = λ shares. not-so-many 2 1 (λ e. omega (arith, e)) (shares 0 0 refl)

-- a sender that gave fewer while its queue has room
with-room : (count_of 1 two_of_first ≡ 2) ⊎ IsQueueFull with_room 1 → ⊥
with-room (inl e) = omega (arith, e)
with-room (inr full) = let e : 1 ≡ 2 = full-holds with_room 1 (record { number = 1; queue = 1 }) (record { kind = FrontDrop; capacity = 2; device = 1 }) refl refl full in omega (arith, e)

pub returns-clause-not_with_room : goal.returns-clause-not_with_room
returns-clause-not_with_room c = λ shares. with-room (shares 1 1 refl)

steps-on : (place : ℕ) → steps_to 0 2 (suc place) ≡ suc place - 0
steps-on place = let no : nat_lt (suc place) 0 ≡ false = grind (arith, nat_tests) in ap (λ b. if b then suc place + 2 - 0 else suc place - 0) no

-- sender 0 stands before the last packet's sender
before-last : (end place s : ℕ) → sender_at two_devices end ≡ Some 1 → steps_to 0 2 place < steps_to 0 2 end → sender_at two_devices place ≡ Some s → (count_of s two_of_first ≡ 2) ⊎ ⊥
before-last zero place s e before its = absurd (cc)
before-last (suc zero) zero s e before its = let is : 0 ≡ s = cc in subst (λ n. (count_of n two_of_first ≡ 2) ⊎ ⊥) is (inl refl)
before-last (suc zero) (suc place) s e before its = absurd (let steps = steps-on place in omega (arith, before, steps))
before-last (suc (suc n)) place s e before its = absurd (cc)

pub returns-clause-in_turn : goal.returns-clause-in_turn
returns-clause-in_turn c = before-last

pub returns-clause-not_skipped : goal.returns-clause-not_skipped
returns-clause-not_skipped c = λ shares. not-so-many 1 2 (λ e. omega (arith, e)) (shares 0 1 1 refl (omega arith) refl)

pub returns-clause-not_cut_short : goal.returns-clause-not_cut_short
returns-clause-not_cut_short c = λ shares. not-so-many 2 3 (λ e. omega (arith, e)) (shares 1 0 0 refl (omega arith) refl)
