-- Paths of a plan: from an element by outputs to a device. A path has fewer steps than there are elements, since none stands on it twice.
use Rattle.std.proofs.lemmas.Bool.Decides.{nat_tests}
use Rattle.std.proofs.lemmas.Grind.{common_steps, elements}
use Rattle.std.proofs.Common.{◌≡◌, ℕ, ◌+◌, ◌≤◌, ◌<◌, zero, suc, Bool, true, false, if◌then◌else◌, List, [], ◌∷◌, length, take, Option, Some, None, slice_get, inl, inr, refl, sym, ap, subst, ◌∙◌, add-one, arith, rules}
use Rattle.std.proofs.lemmas.Bool.{false≢true, cases_order}
use Rattle.std.proofs.lemmas.Option.{slice_get_within, same_Some}
use Rattle.clk_packet.specs.Lists.{stands_in, In}
use Rattle.clk_tree.specs.Plan.{Planned}
use Rattle.clk_tree.specs.PlanTree.{is_device, device_count}
use Rattle.clk_tree.specs.PlanPaths.{has_output, place_fed, place_after, device_of}
use Rattle.clk_tree.proofs.Distinct.DistinctNumbers.{Distinct, distinct-below}
use Rattle.clk_tree.proofs.Building.PathSteps.{path-stays}

-- the element that has one among its sources: the only one
pub fed-is : (plan : List Planned) (s i : ℕ) (e : Planned) → slice_get plan i ≡ Some e → stands_in s e.sources ≡ true
    → ((j : ℕ) (x : Planned) → slice_get plan j ≡ Some x → stands_in s x.sources ≡ true → j ≡ i) → place_fed plan s ≡ i
fed-is [] s i e at among alone = absurd (cc)
fed-is (x ∷ plan) s zero e at among alone = ap (λ b. if b then 0 else place_fed plan s + 1) (ap (λ (p : Planned). stands_in s p.sources) (same_Some x e at) ∙ among)
fed-is (x ∷ plan) s (suc i) e at among alone =
    by_test (stands_in s x.sources) refl (fed-is plan s i e at among (λ j y there stands. let same : suc j ≡ suc i = alone (suc j) y there stands in omega arith))
  where
    by_test : (b : Bool) → stands_in s x.sources ≡ b → place_fed plan s ≡ i → (if b then 0 else place_fed plan s + 1) ≡ suc i
    by_test true is later = let other : 0 ≡ suc i = alone 0 x refl is in absurd (omega arith)
    by_test false is later = ap (λ n. n + 1) later ∙ add-one i

-- a device stands there
abbrev pub is_device_at : Option Planned → Bool
is_device_at None = false
is_device_at (Some e) = is_device e.class

device-output : (o : Option Planned) → is_device_at o ≡ true → has_output o ≡ false
device-output o is = search (rules, false≢true)

-- A path of so many steps leads from an element to a device.
abbrev pub Leads : List Planned → ℕ → ℕ → ℕ → Type 0
Leads plan zero i z = (i ≡ z) × (is_device_at (slice_get plan i) ≡ true)
Leads plan (suc n) i z = (has_output (slice_get plan i) ≡ true) × Leads plan n (place_fed plan i) z

pub leads-device : (plan : List Planned) (n i z : ℕ) → Leads plan n i z → is_device_at (slice_get plan z) ≡ true
leads-device plan zero i z h = subst (λ k. is_device_at (slice_get plan k) ≡ true) h.0 h.1
leads-device plan (suc n) i z h = leads-device plan n (place_fed plan i) z h.1

one-length : (plan : List Planned) (m n i y z : ℕ) → Leads plan m i y → Leads plan n i z → m ≡ n
one-length plan zero zero i y z a b = refl
one-length plan zero (suc n) i y z a b = absurd (false≢true (sym (device-output (slice_get plan i) a.1) ∙ b.0))
one-length plan (suc m) zero i y z a b = absurd (false≢true (sym (device-output (slice_get plan i) b.1) ∙ a.0))
one-length plan (suc m) (suc n) i y z a b = ap suc (one-length plan m n (place_fed plan i) y z a.1 b.1)

-- the elements on a path
abbrev trail : List Planned → ℕ → ℕ → List ℕ
trail plan zero i = i ∷ []
trail plan (suc n) i = i ∷ trail plan n (place_fed plan i)

length-trail : (plan : List Planned) (n i : ℕ) → length (trail plan n i) ≡ suc n
length-trail plan zero i = refl
length-trail plan (suc n) i = ap suc (length-trail plan n (place_fed plan i))

-- a path leads on from each of them
record OnPath (plan : List Planned) (n z x : ℕ) : Type 0 where
  steps : ℕ
  few : steps ≤ n
  leads : Leads plan steps x z

on-path : (plan : List Planned) (n i z x : ℕ) → Leads plan n i z → In x (trail plan n i) → OnPath plan n z x
on-path plan zero i z x h (inl same) = record { steps = 0; few = omega arith; leads = subst (λ k. Leads plan 0 k z) same h }
on-path plan zero i z x h (inr m) = absurd m
on-path plan (suc n) i z x h (inl same) = record { steps = suc n; few = omega arith; leads = subst (λ k. Leads plan (suc n) k z) same h }
on-path plan (suc n) i z x h (inr m) = let o = on-path plan n (place_fed plan i) z x h.1 m in let few = o.few in record { steps = o.steps; few = omega arith; leads = o.leads }

trail-distinct : (plan : List Planned) (n i z : ℕ) → Leads plan n i z → Distinct (trail plan n i)
trail-distinct plan zero i z h = (λ m. m, tt)
trail-distinct plan (suc n) i z h = (
  λ m. let o = on-path plan n (place_fed plan i) z i h.1 m in
      let few = o.few in
      let same = one-length plan o.steps (suc n) i z z o.leads h in
      omega arith,
  trail-distinct plan n (place_fed plan i) z h.1,
)

there : (plan : List Planned) (x : ℕ) (o : Option Planned) → slice_get plan x ≡ o → has_output o ≡ true → x < length plan
there plan x o at has = search (rules, false≢true, slice_get_within)

device-there : (plan : List Planned) (x : ℕ) (o : Option Planned) → slice_get plan x ≡ o → is_device_at o ≡ true → x < length plan
device-there plan x o at is = search (rules, false≢true, slice_get_within)

leads-there : (plan : List Planned) (n x z : ℕ) → Leads plan n x z → x < length plan
leads-there plan n x z h = search (rules, device-there, there)

path-short : (plan : List Planned) (n i z : ℕ) → Leads plan n i z → n < length plan
path-short plan n i z h =
    let few = distinct-below (length plan) (trail plan n i) (trail-distinct plan n i z h) (λ x m. let o = on-path plan n i z x h m in leads-there plan o.steps x z o.leads) in
    let count = length-trail plan n i in
    omega arith

path-end : (plan : List Planned) (n m i z : ℕ) → Leads plan n i z → n ≤ m → place_after plan m i ≡ z
path-end plan zero m i z h few = path-stays plan m i (device-output (slice_get plan i) h.1) ∙ h.0
path-end plan (suc n) zero i z h few = absurd (omega arith)
path-end plan (suc n) (suc m) i z h few = ap (λ b. if b then place_after plan m (place_fed plan i) else i) h.0 ∙ path-end plan n m (place_fed plan i) z h.1 (omega arith)

-- the device at the end of a path is that of its elements
pub leads-to-device : (plan : List Planned) (n i z : ℕ) → Leads plan n i z → device_of plan i ≡ device_count (take z plan)
leads-to-device plan n i z h = search (rules, path-short, path-end)

-- an element from which a device is reached has a path to it
pub record HasPath (plan : List Planned) (i : ℕ) : Type 0 where
  pub steps : ℕ
  pub end : ℕ
  pub leads : Leads plan steps i end

pub has-path : (plan : List Planned) (m i : ℕ) → is_device_at (slice_get plan (place_after plan m i)) ≡ true → HasPath plan i
has-path plan zero i is = record { steps = 0; end = i; leads = (refl, is) }
has-path plan (suc m) i is = by_test (has_output (slice_get plan i)) refl is (has-path plan m (place_fed plan i))
  where
    by_test : (b : Bool) → has_output (slice_get plan i) ≡ b → is_device_at (slice_get plan (if b then place_after plan m (place_fed plan i) else i)) ≡ true
        → (is_device_at (slice_get plan (place_after plan m (place_fed plan i))) ≡ true → HasPath plan (place_fed plan i)) → HasPath plan i
    by_test true has is later = let p = later is in record { steps = suc p.steps; end = p.end; leads = (has, p.leads) }
    by_test false has is later = record { steps = 0; end = i; leads = (refl, is) }

-- no two devices have one number, and each number is below the number of devices
devices-before : (plan : List Planned) (i j : ℕ) → i < j → is_device_at (slice_get plan i) ≡ true → device_count (take i plan) < device_count (take j plan)
devices-before [] i j l is = absurd (false≢true is)
devices-before (e ∷ more) zero zero l is = absurd (omega arith)
devices-before (e ∷ more) zero (suc j) l is = search (rules, false≢true)
devices-before (e ∷ more) (suc i) zero l is = absurd (omega arith)
devices-before (e ∷ more) (suc i) (suc j) l is = search (rules, false≢true, (devices-before more i j (omega arith) is))

pub one-device : (plan : List Planned) (i j : ℕ) → is_device_at (slice_get plan i) ≡ true → is_device_at (slice_get plan j) ≡ true → device_count (take i plan) ≡ device_count (take j plan) → i ≡ j
one-device plan i j a b same = grind (arith, common_steps, elements, nat_tests, cases_order, devices-before)

pub device-below : (plan : List Planned) (i : ℕ) → is_device_at (slice_get plan i) ≡ true → device_count (take i plan) < device_count plan
device-below [] i is = absurd (false≢true is)
device-below (e ∷ more) zero is = search (rules, false≢true)
device-below (e ∷ more) (suc i) is = search (rules, false≢true, (device-below more i is))
