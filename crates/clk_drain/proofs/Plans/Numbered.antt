-- The devices of a plan, one after another by their numbers.
use Rattle.std.proofs.Common.{◌≡◌, ℕ, zero, suc, ◌+◌, List, [], ◌∷◌, length, subst, arith, add-one, sym}
use Rattle.std.specs.List.{AllZip, range_with_len}
use Rattle.clk_tree.specs.Plan.{Planned}
use Rattle.clk_tree.specs.PlanTree.{device_count}
use Rattle.clk_drain.specs.Outcome.{Device}
use Rattle.clk_drain.specs.Run.{IsDeviceOf}

-- These are all devices of a plan from a number on, in order.
abbrev pub AreDevicesFrom : List Planned → ℕ → List Device → Type 0
AreDevicesFrom plan number [] = number ≡ device_count plan
AreDevicesFrom plan number (d ∷ devices) = IsDeviceOf plan number d × AreDevicesFrom plan (suc number) devices

pub are-many : (plan : List Planned) (first : ℕ) (devices : List Device) → AreDevicesFrom plan first devices → first + length devices ≡ device_count plan
are-many plan first [] h = omega (arith, h)
are-many plan first (d ∷ devices) h = let rest = are-many plan (suc first) devices h.1 in omega (arith, rest)

to-numbers : (plan : List Planned) (first count : ℕ) (devices : List Device) → AreDevicesFrom plan first devices → first + count ≡ device_count plan → AllZip (IsDeviceOf plan) (range_with_len first count) devices
to-numbers plan first zero [] h e = tt
to-numbers plan first (suc count) [] h e = absurd (omega (arith, h, e))
to-numbers plan first zero (d ∷ devices) h e = let many = are-many plan first (d ∷ devices) h in absurd (omega (arith, many, e))
to-numbers plan first (suc count) (d ∷ devices) h e = (h.0, to-numbers plan (first + 1) count devices (subst (λ n. AreDevicesFrom plan n devices) (sym (add-one first)) h.1) (omega (arith, e)))

from-numbers : (plan : List Planned) (first count : ℕ) (devices : List Device) → AllZip (IsDeviceOf plan) (range_with_len first count) devices → first + count ≡ device_count plan → AreDevicesFrom plan first devices
from-numbers plan first zero [] h e = omega (arith, e)
from-numbers plan first (suc count) [] h e = absurd h
from-numbers plan first zero (d ∷ devices) h e = absurd h
from-numbers plan first (suc count) (d ∷ devices) h e = (h.0, subst (λ n. AreDevicesFrom plan n devices) (add-one first) (from-numbers plan (first + 1) count devices h.1 (omega (arith, e))))

pub all-devices : (plan : List Planned) (devices : List Device) → AreDevicesFrom plan 0 devices → AllZip (IsDeviceOf plan) (range_with_len 0 (device_count plan)) devices
all-devices plan devices h = to-numbers plan 0 (device_count plan) devices h (omega arith)

pub devices-of : (plan : List Planned) (devices : List Device) → AllZip (IsDeviceOf plan) (range_with_len 0 (device_count plan)) devices → AreDevicesFrom plan 0 devices
devices-of plan devices h = from-numbers plan 0 (device_count plan) devices h (omega arith)
