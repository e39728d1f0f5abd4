use Rattle.std.proofs.Common.{◌≡◌, ◌≤◌, ℕ, refl, lit≤, arith}
use Rattle.clickpull_c.specs.live.Examples.{places, one_filled, filled_behind, two_filled}
use Rattle.clickpull_c.proofs.live.examples.filled_examples.Goals as goal

pub returns-clause-one : goal.returns-clause-one
returns-clause-one c = (lit≤ tt, refl)

pub returns-clause-none : goal.returns-clause-none
returns-clause-none c = (lit≤ tt, refl)

pub returns-clause-not_unfilled : goal.returns-clause-not_unfilled
returns-clause-not_unfilled c = λ h. (let same : places ≡ one_filled = h.1 in let e : ◌≡◌ {A = ℕ} 1 8 = cc in absurd (omega (arith, e)))

pub returns-clause-not_behind : goal.returns-clause-not_behind
returns-clause-not_behind c = λ h. (let same : filled_behind ≡ one_filled = h.1 in let e : ◌≡◌ {A = ℕ} 1 8 = cc in absurd (omega (arith, e)))

pub returns-clause-not_another : goal.returns-clause-not_another
returns-clause-not_another c = λ h. (let same : two_filled ≡ one_filled = h.1 in let e : ◌≡◌ {A = ℕ} 8 2 = cc in absurd (omega (arith, e)))

pub returns-clause-not_too_many : goal.returns-clause-not_too_many
returns-clause-not_too_many c = λ h. (let low : 4 ≤ 3 = h.0 in absurd (omega (arith, low)))
