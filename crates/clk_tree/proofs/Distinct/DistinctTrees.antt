-- No element of a plan stands twice in the tree of a device: a place in the tree has one way up to the device, so that it stands in the
-- tree of one source of each element above it. Then no queue stands twice, and the tree has fewer elements than the plan.
use Rattle.std.proofs.Common.{◌≡◌, ◌≢◌, ◌≤◌, ◌<◌, ◌+◌, ℕ, zero, suc, List, [], ◌∷◌, ◌++◌, length, true, false, Option, Some, None, MatchOption, slice_get, inl, inr, refl, sym, ap, ap₂, subst, ◌∙◌, length-append, arith, rules}
use Rattle.std.specs.List.{AllByRecursion, filter_map, cons_option}
use Rattle.std.proofs.lemmas.Bool.{false≢true}
use Rattle.std.proofs.lemmas.List.Elements.{filter_map-append}
use Rattle.std.proofs.lemmas.Option.{slice_get_within}
use Rattle.clk_sched.specs.Session.{elements}
use Rattle.clk_packet.specs.Scheduler.{Scheduler}
use Rattle.clk_packet.specs.Lists.{are_distinct, In}
use Rattle.clk_sched.specs.Tree.{Row, end, leaf, node, Tree, root, leaves, leaves_distinct}
use Rattle.clk_syntax.specs.Classes.{Class}
use Rattle.clk_tree.specs.Plan.{Planned}
use Rattle.clk_tree.specs.PlanTree.{is_queue, is_device, queue_number, scheduler_over, IsNode, IsRowOf}
use Rattle.clk_tree.specs.inside.PlanTree.{number_if, sources_at}
use Rattle.clk_tree.proofs.Distinct.DistinctNumbers.{Distinct, in-all, test-distinct, distinct-test, in-append, distinct-append, distinct-mapped, distinct-below}
use Rattle.clk_tree.proofs.Distinct.DistinctQueues.{one-number}

-- What is known of a plan: each source of an element that is no queue leads to it, and no source stands twice.
pub record HasParents (plan : List Planned) (parent : ℕ → ℕ) : Type 0 where
  pub leads : (i : ℕ) (e : Planned) → slice_get plan i ≡ Some e → is_queue e.class ≡ false → AllByRecursion (λ s. parent s ≡ i) e.sources
  pub once : (i : ℕ) (e : Planned) → slice_get plan i ≡ Some e → is_queue e.class ≡ false → are_distinct e.sources ≡ true

-- the elements that a row stands for, each before those above it
abbrev pub places : List Planned → List ℕ → Row → List ℕ
places plan (s ∷ more) (leaf q row) = s ∷ places plan more row
places plan (s ∷ more) (node class inputs row) = s ∷ (places plan (sources_at (slice_get plan s)) inputs ++ places plan more row)
places plan sources row = []

-- What stands at a place of a tree: an element that is no device.
abbrev pub Stands : Option Planned → Type 0
Stands o = MatchOption o ⊥ (λ e. is_device e.class ≡ false)

pub queue-device : (c : Class) → is_queue c ≡ true → is_device c ≡ false
queue-device c e = search (rules, false≢true)

pub node-queue : (c : Class) (over : Scheduler) (inputs : ℕ) → scheduler_over c inputs ≡ Some over → is_queue c ≡ false
node-queue c over inputs e = search rules

pub leaf-stands : (n q : ℕ) (o : Option Planned) → number_if n o ≡ Some q → Stands o
leaf-stands n q o e = search (rules, queue-device)

pub node-stands : (over : Scheduler) (o : Option Planned) → IsNode over o → Stands o
node-stands over o h = search rules

-- a scheduler has no number
node-none : (over : Scheduler) (n : ℕ) (o : Option Planned) → IsNode over o → number_if n o ≡ None
node-none over n o h = search (rules, node-queue)

stands-within : (plan : List Planned) (x : ℕ) (o : Option Planned) → slice_get plan x ≡ o → Stands o → x < length plan
stands-within plan x o at h = search (rules, slice_get_within)

pub places-stand : (plan : List Planned) (sources : List ℕ) (row : Row) (x : ℕ) → IsRowOf plan sources row → In x (places plan sources row) → Stands (slice_get plan x)
places-stand plan [] end x is m = absurd m
places-stand plan [] (leaf q row) x is m = absurd m
places-stand plan [] (node over inputs row) x is m = absurd m
places-stand plan (s ∷ more) end x is m = absurd m
places-stand plan (s ∷ more) (leaf q row) x is (inl e) = subst (λ y. Stands (slice_get plan y)) e (leaf-stands _ q (slice_get plan s) is.0)
places-stand plan (s ∷ more) (leaf q row) x is (inr m) = places-stand plan more row x is.1 m
places-stand plan (s ∷ more) (node over inputs row) x is (inl e) = subst (λ y. Stands (slice_get plan y)) e (node-stands over (slice_get plan s) is.0)
places-stand plan (s ∷ more) (node over inputs row) x is (inr m) = elim (in-append x (places plan (sources_at (slice_get plan s)) inputs) (places plan more row) m) [
  | inl k ↦ places-stand plan (sources_at (slice_get plan s)) inputs x is.1 k
  | inr k ↦ places-stand plan more row x is.2 k
]

-- there are as many as the row has elements, and the queues of the row are theirs
pub places-count : (plan : List Planned) (sources : List ℕ) (row : Row) → IsRowOf plan sources row → length (places plan sources row) ≡ elements row
places-count plan [] end is = refl
places-count plan [] (leaf q row) is = absurd is
places-count plan [] (node over inputs row) is = absurd is
places-count plan (s ∷ more) end is = absurd is
places-count plan (s ∷ more) (leaf q row) is = ap suc (places-count plan more row is.1)
places-count plan (s ∷ more) (node over inputs row) is =
    ap suc (length-append (places plan (sources_at (slice_get plan s)) inputs) (places plan more row)
    ∙ ap₂ (λ a b. a + b) (places-count plan (sources_at (slice_get plan s)) inputs is.1) (places-count plan more row is.2))

pub leaves-places : (plan : List Planned) (sources : List ℕ) (row : Row) → IsRowOf plan sources row → leaves row ≡ filter_map (queue_number plan) (places plan sources row)
leaves-places plan [] end is = refl
leaves-places plan [] (leaf q row) is = absurd is
leaves-places plan [] (node over inputs row) is = absurd is
leaves-places plan (s ∷ more) end is = absurd is
leaves-places plan (s ∷ more) (leaf q row) is = ap₂ cons_option (sym is.0) (leaves-places plan more row is.1)
leaves-places plan (s ∷ more) (node over inputs row) is =
    ap₂ (λ a b. a ++ b) (leaves-places plan inner inputs is.1) (leaves-places plan more row is.2)
    ∙ sym (filter_map-append (queue_number plan) (places plan inner inputs) (places plan more row))
    ∙ ap (λ o. cons_option o (filter_map (queue_number plan) (places plan inner inputs ++ places plan more row))) (sym (node-none over _ (slice_get plan s) is.0))
  where
    inner : List ℕ
    inner = sources_at (slice_get plan s)

-- An element stands so many steps below the device, and not on the way from there.
abbrev pub IsAt : (ℕ → ℕ) → ℕ → ℕ → ℕ → Type 0
IsAt parent top zero x = x ≡ top
IsAt parent top (suc n) x = (x ≢ top) × IsAt parent top n (parent x)

-- the element so many steps up
abbrev pub up : (ℕ → ℕ) → ℕ → ℕ → ℕ
up parent zero x = x
up parent (suc n) x = up parent n (parent x)

up-last : (parent : ℕ → ℕ) (n x : ℕ) → up parent (suc n) x ≡ parent (up parent n x)
up-last parent zero x = refl
up-last parent (suc n) x = up-last parent n (parent x)

one-depth : (parent : ℕ → ℕ) (top m n x : ℕ) → IsAt parent top m x → IsAt parent top n x → m ≡ n
one-depth parent top zero zero x a b = refl
one-depth parent top zero (suc n) x a b = absurd (b.0 a)
one-depth parent top (suc m) zero x a b = absurd (a.0 b)
one-depth parent top (suc m) (suc n) x a b = ap suc (one-depth parent top m n (parent x) a.1 b.1)

-- An element stands under another, which is n steps below the device, or is that one.
pub record IsUnder (parent : ℕ → ℕ) (top n s x : ℕ) : Type 0 where
  pub steps : ℕ
  pub depth : ℕ
  pub sum : depth ≡ steps + n
  pub at : IsAt parent top depth x
  pub leads : up parent steps x ≡ s

under-self : (parent : ℕ → ℕ) (top n s : ℕ) → IsAt parent top n s → IsUnder parent top n s s
under-self parent top n s at = record { steps = 0; depth = n; sum = omega arith; at = at; leads = refl }

under-more : (parent : ℕ → ℕ) (top n s t x : ℕ) → parent t ≡ s → IsUnder parent top (suc n) t x → IsUnder parent top n s x
under-more parent top n s t x e u = record {
  steps = suc u.steps;
  depth = u.depth;
  sum = let sum = u.sum in omega arith;
  at = u.at;
  leads = up-last parent u.steps x ∙ ap parent u.leads ∙ e;
}

-- so it stands under one at most of those that are as many steps below
one-over : (parent : ℕ → ℕ) (top n s t x : ℕ) → IsUnder parent top n s x → IsUnder parent top n t x → s ≡ t
one-over parent top n s t x u v = search (rules, one-depth)

-- and not above itself
not-over : (parent : ℕ → ℕ) (top n s t : ℕ) → IsAt parent top n s → IsUnder parent top (suc n) t s → ⊥
not-over parent top n s t at u = search (rules, one-depth)

-- The elements at these sources of one element are so many steps below the device, unless one is the device itself.
abbrev AreBelow : (ℕ → ℕ) → ℕ → ℕ → List ℕ → Type 0
AreBelow parent top n sources = AllByRecursion (λ s. IsAt parent top n (parent s)) sources

below-all : (parent : ℕ → ℕ) (top n s : ℕ) (sources : List ℕ) → IsAt parent top n s → AllByRecursion (λ t. parent t ≡ s) sources → AreBelow parent top n sources
below-all parent top n s [] at leads = tt
below-all parent top n s (t ∷ more) at leads = (subst (IsAt parent top n) (sym leads.0) at, below-all parent top n s more at leads.1)

pub device-queue : (c : Class) → is_device c ≡ true → is_queue c ≡ false
device-queue c e = search (rules, false≢true)

-- the tree of the device that stands at the top
module _ (plan : List Planned) (parent : ℕ → ℕ) (top : ℕ) (root_of : Planned) (h : HasParents plan parent) (top_at : slice_get plan top ≡ Some root_of) (top_is : is_device root_of.class ≡ true) where
  -- the sources of a scheduler lead to it, and are distinct
  inner-leads : (over : Scheduler) (s : ℕ) (o : Option Planned) → slice_get plan s ≡ o → IsNode over o → AllByRecursion (λ t. parent t ≡ s) (sources_at o)
  inner-leads over s o at is = search (rules, node-queue)

  inner-once : (over : Scheduler) (s : ℕ) (o : Option Planned) → slice_get plan s ≡ o → IsNode over o → Distinct (sources_at o)
  inner-once over s o at is = search (rules, test-distinct, node-queue)

  stands-below : (s : ℕ) → Stands (slice_get plan s) → s ≢ top
  stands-below s stands same = false≢true (sym (subst Stands top_at (subst (λ d. Stands (slice_get plan d)) same stands)) ∙ top_is)

  -- what stands in the tree of a scheduler
  inner-below : (over : Scheduler) (n s : ℕ) → IsNode over (slice_get plan s) → IsAt parent top n (parent s) → AreBelow parent top (suc n) (sources_at (slice_get plan s))
  inner-below over n s is at =
      below-all parent top (suc n) s (sources_at (slice_get plan s)) (stands-below s (node-stands over (slice_get plan s) is), at) (inner-leads over s (slice_get plan s) refl is)

  -- the source under which a place stands
  record IsUnderOne (n : ℕ) (sources : List ℕ) (x : ℕ) : Type 0 where
    source : ℕ
    among : In source sources
    under : IsUnder parent top (suc n) source x

  one-more : (n s : ℕ) (more : List ℕ) (x : ℕ) → IsUnderOne n more x → IsUnderOne n (s ∷ more) x
  one-more n s more x u = record { source = u.source; among = inr u.among; under = u.under }

  one-here : (n s : ℕ) (more : List ℕ) (x : ℕ) → Stands (slice_get plan s) → IsAt parent top n (parent s) → s ≡ x → IsUnderOne n (s ∷ more) x
  one-here n s more x is at same = record {
    source = s;
    among = inl refl;
    under = subst (IsUnder parent top (suc n) s) same (under-self parent top (suc n) s (stands-below s is, at));
  }

  inner-under : (over : Scheduler) (n s x : ℕ) → IsNode over (slice_get plan s) → IsUnderOne (suc n) (sources_at (slice_get plan s)) x → IsUnder parent top (suc n) s x
  inner-under over n s x is u =
      under-more parent top (suc n) s u.source x (in-all (λ t. parent t ≡ s) u.source (sources_at (slice_get plan s)) (inner-leads over s (slice_get plan s) refl is) u.among) u.under

  places-under : (n : ℕ) (sources : List ℕ) (row : Row) (x : ℕ) → IsRowOf plan sources row → AreBelow parent top n sources → In x (places plan sources row) → IsUnderOne n sources x
  places-under n [] end x is below m = absurd m
  places-under n [] (leaf q row) x is below m = absurd m
  places-under n [] (node over inputs row) x is below m = absurd m
  places-under n (s ∷ more) end x is below m = absurd m
  places-under n (s ∷ more) (leaf q row) x is below (inl e) = one-here n s more x (leaf-stands _ q (slice_get plan s) is.0) below.0 e
  places-under n (s ∷ more) (leaf q row) x is below (inr m) = one-more n s more x (places-under n more row x is.1 below.1 m)
  places-under n (s ∷ more) (node over inputs row) x is below (inl e) = one-here n s more x (node-stands over (slice_get plan s) is.0) below.0 e
  places-under n (s ∷ more) (node over inputs row) x is below (inr m) = elim (in-append x (places plan (sources_at (slice_get plan s)) inputs) (places plan more row) m) [
    | inl k ↦ record {
      source = s;
      among = inl refl;
      under = inner-under over n s x is.0 (places-under (suc n) (sources_at (slice_get plan s)) inputs x is.1 (inner-below over n s is.0 below.0) k);
    }
    | inr k ↦ one-more n s more x (places-under n more row x is.2 below.1 k)
  ]

  -- what stands under a source stands under no other
  apart-more : (n s : ℕ) (more : List ℕ) (x : ℕ) → (In s more → ⊥) → IsUnder parent top (suc n) s x → IsUnderOne n more x → ⊥
  apart-more n s more x once u v = once (subst (λ t. In t more) (sym (one-over parent top (suc n) s v.source x u v.under)) v.among)

  apart-here : (n s : ℕ) (more : List ℕ) → Stands (slice_get plan s) → IsAt parent top n (parent s) → (In s more → ⊥) → IsUnderOne n more s → ⊥
  apart-here n s more is at once u = apart-more n s more s once (under-self parent top (suc n) s (stands-below s is, at)) u

  apart-inner : (n s : ℕ) (sources : List ℕ) → Stands (slice_get plan s) → IsAt parent top n (parent s) → IsUnderOne (suc n) sources s → ⊥
  apart-inner n s sources is at u = not-over parent top (suc n) s u.source (stands-below s is, at) u.under

  places-distinct : (n : ℕ) (sources : List ℕ) (row : Row) → IsRowOf plan sources row → AreBelow parent top n sources → Distinct sources → Distinct (places plan sources row)
  places-distinct n [] end is below once = tt
  places-distinct n [] (leaf q row) is below once = tt
  places-distinct n [] (node over inputs row) is below once = tt
  places-distinct n (s ∷ more) end is below once = tt
  places-distinct n (s ∷ more) (leaf q row) is below once = (
    λ m. apart-here n s more (leaf-stands _ q (slice_get plan s) is.0) below.0 once.0 (places-under n more row s is.1 below.1 m),
    places-distinct n more row is.1 below.1 once.1,
  )
  places-distinct n (s ∷ more) (node over inputs row) is below once = (
    λ m. elim (in-append s (places plan (sources_at (slice_get plan s)) inputs) (places plan more row) m) [
      | inl k ↦ apart-inner n s (sources_at (slice_get plan s)) (node-stands over (slice_get plan s) is.0) below.0 (places-under (suc n) (sources_at (slice_get plan s)) inputs s is.1 (inner-below over n s is.0 below.0) k)
      | inr k ↦ apart-here n s more (node-stands over (slice_get plan s) is.0) below.0 once.0 (places-under n more row s is.2 below.1 k)
    ],
    distinct-append (places plan (sources_at (slice_get plan s)) inputs) (places plan more row)
        (places-distinct (suc n) (sources_at (slice_get plan s)) inputs is.1 (inner-below over n s is.0 below.0) (inner-once over s (slice_get plan s) refl is.0))
        (places-distinct n more row is.2 below.1 once.1)
        (λ x k m. apart-more n s more x once.0
        (inner-under over n s x is.0 (places-under (suc n) (sources_at (slice_get plan s)) inputs x is.1 (inner-below over n s is.0 below.0) k))
        (places-under n more row x is.2 below.1 m)),
  )

  tree-places : (t : Tree) → IsRowOf plan root_of.sources (root t) → Distinct (places plan root_of.sources (root t))
  tree-places t row =
      places-distinct 0 root_of.sources (root t) row (h.leads top root_of top_at (device-queue root_of.class top_is)) (test-distinct root_of.sources (h.once top root_of top_at (device-queue root_of.class top_is)))

  pub tree-distinct : (t : Tree) → IsRowOf plan root_of.sources (root t) → leaves_distinct t ≡ true
  tree-distinct t row =
      distinct-test (leaves (root t))
      (subst Distinct (sym (leaves-places plan root_of.sources (root t) row))
      (distinct-mapped (queue_number plan) (places plan root_of.sources (root t)) (one-number plan) (tree-places t row)))

  within-plan : (t : Tree) → IsRowOf plan root_of.sources (root t) → (x : ℕ) → In x (top ∷ places plan root_of.sources (root t)) → x < length plan
  within-plan t row x (inl e) = subst (λ y. y < length plan) e (slice_get_within plan top root_of top_at)
  within-plan t row x (inr m) = stands-within plan x (slice_get plan x) refl (places-stand plan root_of.sources (root t) x row m)

  pub tree-fits : (t : Tree) → IsRowOf plan root_of.sources (root t) → 1 + elements (root t) ≤ length plan
  tree-fits t row =
      let few = distinct-below (length plan) (top ∷ places plan root_of.sources (root t))
      (λ m. stands-below top (places-stand plan root_of.sources (root t) top row m) refl, tree-places t row) (within-plan t row) in
      let count = places-count plan root_of.sources (root t) row in
      omega arith
