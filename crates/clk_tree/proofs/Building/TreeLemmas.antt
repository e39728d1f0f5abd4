-- Trees of plans.
use Rattle.std.proofs.lemmas.Grind.{common_steps}
use Rattle.std.proofs.Common.{◌≡◌, ◌⊎◌, ◌≤◌, ◌+◌, ◌-◌, ℕ, List, [], ◌∷◌, ◌++◌, length, map, true, false, Option, Some, IfOk, IsOkUnless, Result, Ok, Err, slice_get, get_or, ◌<◌, drop, sym, ap, ◌∙◌, append-nil, add-one, add-zero, take, drop-cons, arith, rules}
use Rattle.std.proofs.lemmas.List.{drop_all, length-map, take-map}
use Rattle.std.proofs.lemmas.Option.{slice_get_within, slice_get-map, slice_get-get_or}
use Rattle.std.specs.List.{AllByRecursion}
use Rattle.std.proofs.lemmas.Bool.{false≢true}
use Rattle.std.proofs.lemmas.Bool.Decides.{nat_tests}
use Rattle.clk_packet.specs.declared.fault.Fault.{Fault}
use Rattle.clk_packet.specs.declared.fault.Fault.TheVariants.{Memory}
use Rattle.clk_packet.specs.declared.limits.TheConstants.{MAX_INPUTS, MAX_LEVELS}
use Rattle.clk_packet.specs.Scheduler.{Scheduler}
use Rattle.clk_sched.specs.Tree.{Tree, scheduler, root, height}
use Rattle.clk_sched.specs.Built.{built, row}
use Rattle.clk_syntax.specs.Classes.{class_view}
use Rattle.clk_tree.specs.declared.plan.element.Element.{Element}
use Rattle.clk_tree.specs.Plan.{Planned}
use Rattle.clk_tree.specs.Elements.{planned}
use Rattle.clk_tree.specs.PlanTree.{is_queue, queue_count, queue_number, IsRowOf}
use Rattle.clk_tree.specs.inside.PlanTree.{is_queue_at, IsOver, IsBuilt, IsScheduled, number_if}

built-ok : (class : Scheduler) (children : List Tree) → length children ≤ MAX_INPUTS → height (row children) + 1 ≤ MAX_LEVELS
    → built class children ≡ Ok (scheduler class (row children))
unfolding built
built-ok class children few low = grind (arith, nat_tests)

-- an element is a scheduler over inputs that are scheduled a level below
pub record IsSchedulerAt (plan : List Planned) (s levels : ℕ) (e : Planned) : Type 0 where
  pub at : slice_get plan s ≡ Some e
  pub some : 1 ≤ levels
  pub over : IsOver e.class (length e.sources)
  pub below : AllByRecursion (IsScheduled plan (levels - 1)) e.sources

no-queue : (plan : List Planned) (s : ℕ) (e : Planned) → slice_get plan s ≡ Some e → is_queue e.class ≡ false → is_queue_at (slice_get plan s) ≡ true → ⊥
no-queue plan s e at other is = false≢true (sym other ∙ ap is_queue_at (sym at) ∙ is)

scheduled-over : (plan : List Planned) (levels s : ℕ) (e : Planned) → IsScheduled plan levels s → slice_get plan s ≡ Some e → is_queue e.class ≡ false → IsSchedulerAt plan s levels e
scheduled-over plan levels s e h at other = search (rules, no-queue)

-- an element that is scheduled is there
element-at : (elements : List Element) (levels place : ℕ) (x : Element) → IsScheduled (map planned elements) levels place → x ≡ get_or elements place x
    → slice_get (map planned elements) place ≡ Some (planned x)
element-at elements levels place x h is = search (rules, length-map, slice_get_within, slice_get-map, slice_get-get_or)

pub scheduler-here : (elements : List Element) (place levels : ℕ) (x : Element) → IsScheduled (map planned elements) levels place → x ≡ get_or elements place x
    → is_queue (class_view x.class) ≡ false → IsSchedulerAt (map planned elements) place levels (planned x)
scheduler-here elements place levels x h is other = scheduled-over (map planned elements) levels place (planned x) h (element-at elements levels place x h is) other

-- what is made of a scheduler over the trees of its sources, unless memory is refused
pub record IsMade (plan : List Planned) (s levels : ℕ) (result : Result Tree Fault) : Type 0 where
  pub tree : IfOk result (λ t. IsRowOf plan (s ∷ []) (root t))
  pub height : IfOk result (λ t. height (root t) ≤ levels)
  pub fault : IsOkUnless result Memory

pub over-made : (plan : List Planned) (s levels : ℕ) (e : Planned) (children : List Tree) (result : Result Tree Fault) → levels ≤ MAX_LEVELS → IsSchedulerAt plan s levels e
    → length children ≡ length e.sources → IsRowOf plan e.sources (row children) → height (row children) ≤ levels - 1
    → (result ≡ Err Memory) ⊎ IsBuilt e.class children result → IsMade plan s levels result
over-made plan s levels e children result most h count rows low k = search (rules, built-ok)

-- The trees so far, before any others at the places that are left, are those at all the places.
pub record AreSoFar (plan : List Planned) (levels : ℕ) (all rest : List ℕ) (trees : List Tree) : Type 0 where
  pub rows : (more : List Tree) → IsRowOf plan rest (row more) → IsRowOf plan all (row (trees ++ more))
  pub heights : (more : List Tree) → height (row more) ≤ levels → height (row (trees ++ more)) ≤ levels
  pub count : length trees + length rest ≡ length all
  pub scheduled : AllByRecursion (IsScheduled plan levels) rest

-- one more tree is made
pub so-far-more : (plan : List Planned) (levels : ℕ) (all : List ℕ) (k d : ℕ) (trees new : List Tree) (t : Tree) → AreSoFar plan levels all (drop k all) trees → k < length all
    → new ≡ trees ++ t ∷ [] → IsRowOf plan (get_or all k d ∷ []) (root t) → height (root t) ≤ levels → AreSoFar plan levels all (drop (k + 1) all) new
so-far-more plan levels all k d trees new t h l is at low = search (rules, common_steps, add-one, drop-cons)

pub all-made : (plan : List Planned) (levels : ℕ) (all : List ℕ) (k : ℕ) (trees : List Tree) → AreSoFar plan levels all (drop k all) trees → length all ≤ k → IsRowOf plan all (row trees)
all-made plan levels all k trees h l = search (rules, append-nil, drop_all)

number-of : (n : ℕ) (o : Option Planned) → is_queue_at o ≡ true → number_if n o ≡ Some n
number-of n o is = search (rules, false≢true)

-- the number of a queue is how many stand before it
pub queue-numbered : (elements : List Element) (place k number : ℕ) → is_queue_at (slice_get (map planned elements) place) ≡ true → length (take place elements) ≤ k
    → number + queue_count (map planned (drop k (take place elements))) ≡ queue_count (map planned (take place elements)) → queue_number (map planned elements) place ≡ Some number
queue-numbered elements place k number is l all = search (rules, number-of, take-map, drop_all, add-zero)
