-- What the status of an offer tells.
use Rattle.std.proofs.Common.{◌≡◌, ℕ, inl, inr, arith}
use Rattle.clk_router.specs.Course.{Course}
use Rattle.clickpull_c.specs.Answers.{RefusesOffer, bad_length, unknown_sender, at_end}
use Rattle.clickpull_c.specs.Calls.{IsOffered, AnswersOffer}
use Rattle.clickpull_c.specs.declared.statuses.TheConstants.{OK}
use Rattle.clickpull_c.specs.declared.values.COffered.{COffered}

-- An offer that isn't made has another status than OK.
not-ok : (c : Course) (sender length status : ℕ) → RefusesOffer c sender length status → status ≡ OK → ⊥
not-ok c sender length status (bad_length e bad) ok = omega (arith, e, ok)
not-ok c sender length status (unknown_sender e fits none) ok = omega (arith, e, ok)
not-ok c sender length status (at_end e fits ended) ok = omega (arith, e, ok)

pub was-offered : (old new : Course) (sender length : ℕ) (before filled : COffered) (status : ℕ) → AnswersOffer old new sender length before filled status → status ≡ OK → IsOffered old new sender length filled
was-offered old new sender length before filled status (inl made) ok = made.1
was-offered old new sender length before filled status (inr why) ok = absurd (not-ok old sender length status why.0 ok)

pub was-refused : (old new : Course) (sender length : ℕ) (before filled : COffered) (status : ℕ) → AnswersOffer old new sender length before filled status → (status ≡ OK → ⊥)
    → RefusesOffer old sender length status × (new ≡ old) × (filled ≡ before)
was-refused old new sender length before filled status (inl made) other = absurd (other made.0)
was-refused old new sender length before filled status (inr why) other = why
