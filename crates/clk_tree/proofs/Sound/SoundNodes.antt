-- The elements of a plan and those that the checks see stand at the same places.
use Rattle.std.proofs.Common.{◌≡◌, ℕ, ◌+◌, ◌≤◌, zero, suc, true, List, [], ◌∷◌, Option, Some, None, slice_get, option_map, refl, ap, ◌∙◌, arith, rules}
use Rattle.std.proofs.lemmas.Option.{same_Some}
use Rattle.std.specs.List.{cons_option}
use Rattle.clk_syntax.specs.declared.naming.class.Role.{Role}
use Rattle.clk_syntax.specs.declared.naming.class.Role.TheVariants as role
use Rattle.clk_syntax.specs.declared.node.Link.{Link}
use Rattle.clk_syntax.specs.Classes.{Class, role_of}
use Rattle.clk_syntax.specs.Source.{Element}
use Rattle.clk_syntax.specs.Declarations.{class_of}
use Rattle.clk_syntax.specs.Ports.{role_at, is_queue, is_device, has_device}
use Rattle.clk_syntax.specs.Faults.{node, nodes_of}
use Rattle.clk_tree.specs.Plan.{Planned, Known, all_known, planned_at, planned_from, sources_of}
use Rattle.clk_tree.specs.PlanTree as tree
use Rattle.clk_tree.specs.inside.PlanTree.{is_queue_at}
use Rattle.clk_tree.specs.PlanTree.{device_count}
use Rattle.clk_tree.proofs.Sound.SoundChecks.{at-more}
use Rattle.clk_tree.proofs.Sound.SoundClasses.{HasLimits, class-limits}

-- at place j of a plan stands an element of this role, which is the i-th of all
pub record IsPlanned (plan : List Planned) (count : ℕ) (links : List Link) (i j : ℕ) (r : Role) : Type 0 where
  pub element : Planned
  pub at : slice_get plan j ≡ Some element
  pub role : role_of element.class ≡ r
  pub sources : element.sources ≡ sources_of count links i r
  pub limits : HasLimits element.class

abbrev pub known_as : Element → Class → Known
known_as e class = record { name = e.name.letters; class = class }

first-planned : (plan : List Planned) (count : ℕ) (links : List Link) (i : ℕ) (k : Known) (r : Role) → role_of k.class ≡ r → HasLimits k.class
    → IsPlanned (planned_at count links i k ∷ plan) count links (i + 0) 0 r
first-planned plan count links i k r is limits = record {
  element = planned_at count links i k;
  at = refl;
  role = is;
  sources = let place : i ≡ i + 0 = omega arith in ap (sources_of count links i) is ∙ ap (λ n. sources_of count links n r) place;
  limits = limits;
}

later-planned : (first : Planned) (plan : List Planned) (count : ℕ) (links : List Link) (i j : ℕ) (r : Role) → IsPlanned plan count links (i + 1 + j) j r
    → IsPlanned (first ∷ plan) count links (i + suc j) (suc j) r
later-planned first plan count links i j r h = search (rules, at-more)

pub planned-at : (count : ℕ) (links : List Link) (elements : List Element) (i j : ℕ) (r : Role) → role_at (nodes_of elements) j ≡ Some r
    → IsPlanned (planned_from count links i (all_known elements)) count links (i + j) j r
planned-at count links [] i j r at = absurd (cc)
planned-at count links (e ∷ elements) i j r at =
    by_case (class_of e) (class-limits e) j at (λ m. planned-at count links elements i m r) (λ m. planned-at count links elements (i + 1) m r)
  where
    by_case : (o : Option Class) → ((class : Class) → o ≡ Some class → HasLimits class) → (j : ℕ)
        → role_at (cons_option (option_map (node e.name.place) o) (nodes_of elements)) j ≡ Some r
        → ((m : ℕ) → role_at (nodes_of elements) m ≡ Some r → IsPlanned (planned_from count links i (all_known elements)) count links (i + m) m r)
        → ((m : ℕ) → role_at (nodes_of elements) m ≡ Some r → IsPlanned (planned_from count links (i + 1) (all_known elements)) count links (i + 1 + m) m r)
        → IsPlanned (planned_from count links i (cons_option (option_map (known_as e) o) (all_known elements))) count links (i + j) j r
    by_case None limits j at here later = here j at
    by_case (Some class) limits zero at here later =
        let is : role_of class ≡ r = cc in
        first-planned (planned_from count links (i + 1) (all_known elements)) count links i (known_as e class) r is (limits class refl)
    by_case (Some class) limits (suc j) at here later =
        later-planned (planned_at count links i (known_as e class)) (planned_from count links (i + 1) (all_known elements)) count links i j r (later j at)

-- the role of each element of a plan
pub node-at : (count : ℕ) (links : List Link) (elements : List Element) (i j : ℕ) (p : Planned) → slice_get (planned_from count links i (all_known elements)) j ≡ Some p
    → role_at (nodes_of elements) j ≡ Some (role_of p.class)
node-at count links [] i j p at = absurd (cc)
node-at count links (e ∷ elements) i j p at = by_case (class_of e) j at (λ m. node-at count links elements i m p) (λ m. node-at count links elements (i + 1) m p)
  where
    by_case : (o : Option Class) (j : ℕ) → slice_get (planned_from count links i (cons_option (option_map (known_as e) o) (all_known elements))) j ≡ Some p
        → ((m : ℕ) → slice_get (planned_from count links i (all_known elements)) m ≡ Some p → role_at (nodes_of elements) m ≡ Some (role_of p.class))
        → ((m : ℕ) → slice_get (planned_from count links (i + 1) (all_known elements)) m ≡ Some p → role_at (nodes_of elements) m ≡ Some (role_of p.class))
        → role_at (cons_option (option_map (node e.name.place) o) (nodes_of elements)) j ≡ Some (role_of p.class)
    by_case o j at here later = search (rules, same_Some)

-- what a role says of a class
pub queue-class : (class : Class) → tree.is_queue class ≡ is_queue (Some (role_of class))
queue-class class = search rules

pub device-class : (class : Class) → tree.is_device class ≡ is_device (Some (role_of class))
device-class class = search rules

-- a device among the elements that the checks see is one of the plan
pub some-device : (count : ℕ) (links : List Link) (elements : List Element) (i : ℕ) → has_device (nodes_of elements) ≡ true → 1 ≤ device_count (planned_from count links i (all_known elements))
some-device count links [] i has = absurd (cc)
some-device count links (e ∷ elements) i has = search (rules, device-class, (some-device count links elements i), (some-device count links elements (i + 1)))

pub queue-planned : (plan : List Planned) (count : ℕ) (links : List Link) (i j : ℕ) → IsPlanned plan count links i j role.Queue → is_queue_at (slice_get plan j) ≡ true
queue-planned plan count links i j h = ap is_queue_at h.at ∙ queue-class h.element.class ∙ ap (λ r. is_queue (Some r)) h.role
