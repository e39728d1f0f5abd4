-- The element to which another is connected, and the devices before a place, step by step.
use Rattle.std.proofs.Common.{◌≡◌, ℕ, ◌+◌, ◌<◌, ◌≤◌, ◌==◌, Bool, true, false, if◌then◌else◌, List, ◌∷◌, length, map, get_or, take, min, drop, slice_get, sym, ap, ◌∙◌, add-zero, rules}
use Rattle.std.specs.List.{list_any}
use Rattle.std.proofs.lemmas.List.{take-map, take_all, drop_all}
use Rattle.std.proofs.lemmas.Bool.{cases_lt}
use Rattle.clk_packet.specs.Lists.{stands_in}
use Rattle.clk_tree.specs.declared.plan.element.Element.{Element}
use Rattle.clk_tree.specs.Plan.{Planned}
use Rattle.clk_tree.specs.PlanTree.{device_count}
use Rattle.clk_tree.specs.PlanPaths.{has_output, place_fed, place_after}
use Rattle.clk_tree.specs.Elements.{planned}
use Rattle.clk_tree.proofs.Building.PartSteps.{left-cons, any-stands}

-- the first element that is left has one among its sources, or not
fed-later : (e : Planned) (more : List Planned) (place : ℕ) → stands_in place e.sources ≡ false → place_fed (e ∷ more) place ≡ place_fed more place + 1
fed-later e more place stands = ap (λ b. if b then 0 else place_fed more place + 1) stands

stands-here : (x : Element) (place : ℕ) (sources : List ℕ) (b : Bool) → sources ≡ x.sources.items → list_any (λ p. p == place) sources ≡ b → stands_in place (planned x).sources ≡ b
stands-here x place sources b of stands = sym (ap (stands_in place) of) ∙ sym (any-stands place sources) ∙ stands

pub place-found : (elements : List Element) (place k fed : ℕ) (x : Element) (sources : List ℕ) → k < length elements → x ≡ get_or elements k x
    → sources ≡ x.sources.items → list_any (λ p. p == place) sources ≡ true
    → fed + place_fed (map planned (drop k elements)) place ≡ place_fed (map planned elements) place → fed ≡ place_fed (map planned elements) place
place-found elements place k fed x sources within is of stands all = search (rules, left-cons, stands-here)

pub place-passed : (elements : List Element) (place k fed : ℕ) (x : Element) (sources : List ℕ) → k < length elements → x ≡ get_or elements k x
    → sources ≡ x.sources.items → list_any (λ p. p == place) sources ≡ false
    → fed + place_fed (map planned (drop k elements)) place ≡ place_fed (map planned elements) place
    → fed + 1 + place_fed (map planned (drop (k + 1) elements)) place ≡ place_fed (map planned elements) place
place-passed elements place k fed x sources within is of stands all = search (rules, left-cons, fed-later, stands-here)

-- A step of the path leads on from an element that has an output, and no other.
pub path-stays : (plan : List Planned) (left at : ℕ) → has_output (slice_get plan at) ≡ false → place_after plan left at ≡ at
path-stays plan left at none = search rules

-- the devices before a place are those before it or the end
take-end : (elements : List Element) (place end : ℕ) → end ≡ min (length elements) place → take end elements ≡ take place elements
take-end elements place end is = search (rules, cases_lt, take_all)

pub devices-counted : (elements : List Element) (place end k count : ℕ) → end ≡ min (length elements) place → length (take end elements) ≤ k
    → count + device_count (map planned (drop k (take end elements))) ≡ device_count (map planned (take end elements)) → count ≡ device_count (take place (map planned elements))
devices-counted elements place end k count is l all = search (rules, add-zero, drop_all, take-end, take-map)
