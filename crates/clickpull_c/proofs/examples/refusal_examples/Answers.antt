use Rattle.std.proofs.Common.{◌≡◌, ℕ, zero, suc, Some, refl, arith, lit≤}
use Rattle.clk_router.specs.Course.{sender_at}
use Rattle.clickpull_c.specs.Answers.{RefusesOffer, bad_length, unknown_sender, at_end}
use Rattle.clickpull_c.specs.Examples.{fresh}
use Rattle.clickpull_c.specs.declared.statuses.TheConstants.{BAD_LENGTH, UNKNOWN_SENDER}
use Rattle.clickpull_c.proofs.examples.refusal_examples.Goals as goal

pub returns-clause-too_long : goal.returns-clause-too_long
returns-clause-too_long c = bad_length refl (λ h. let high = h.1 in omega (arith, high))

pub returns-clause-length_first : goal.returns-clause-length_first
returns-clause-length_first c = bad_length refl (λ h. let low = h.0 in omega (arith, low))

pub returns-clause-not_sender_first : goal.returns-clause-not_sender_first
returns-clause-not_sender_first c = none
  where
    none : RefusesOffer fresh 1 0 UNKNOWN_SENDER → ⊥
    none (bad_length e bad) = omega (arith, e)
    none (unknown_sender e h bad) = let low = h.0 in omega (arith, low)
    none (at_end e h bad) = omega (arith, e)

pub returns-clause-not_longest : goal.returns-clause-not_longest
returns-clause-not_longest c = none
  where
    none : RefusesOffer fresh 0 65535 BAD_LENGTH → ⊥
    none (bad_length e bad) = bad (lit≤ tt, lit≤ tt)
    none (unknown_sender e h bad) = omega (arith, e)
    none (at_end e h bad) = omega (arith, e)

pub returns-clause-not_shortest : goal.returns-clause-not_shortest
returns-clause-not_shortest c = none
  where
    none : RefusesOffer fresh 0 1 BAD_LENGTH → ⊥
    none (bad_length e bad) = bad (lit≤ tt, lit≤ tt)
    none (unknown_sender e h bad) = omega (arith, e)
    none (at_end e h bad) = omega (arith, e)

pub returns-clause-unknown : goal.returns-clause-unknown
returns-clause-unknown c = unknown_sender refl (lit≤ tt, lit≤ tt) none
  where
    none : (place : ℕ) → sender_at fresh.setup place ≡ Some 65536 → ⊥
    none zero e = cc
    none (suc n) e = cc

pub returns-clause-not_known : goal.returns-clause-not_known
returns-clause-not_known c = none
  where
    none : RefusesOffer fresh 0 1 UNKNOWN_SENDER → ⊥
    none (bad_length e bad) = omega (arith, e)
    none (unknown_sender e h bad) = bad 0 refl
    none (at_end e h bad) = omega (arith, e)
