-- The queues of a plan, element by element.
use Rattle.std.proofs.Common.{◌≡◌, ℕ, ◌+◌, ◌<◌, ◌≤◌, zero, suc, false, if◌then◌else◌, List, [], ◌∷◌, ◌++◌, length, map, take, drop, get_or, Option, Some, None, refl, sym, ap, ap₂, ◌∙◌, append_assoc, add-one, arith, rules}
use Rattle.std.specs.List.{cons_option}
use Rattle.std.proofs.lemmas.List.{drop_more, map-append}
use Rattle.clk_packet.specs.declared.packet.Kind.{Kind}
use Rattle.clk_syntax.specs.declared.naming.class.Class as declared
use Rattle.clk_syntax.specs.declared.naming.class.Class.TheVariants as kept
use Rattle.clk_syntax.specs.Classes.{Class, class_view}
use Rattle.clk_tree.specs.declared.plan.element.Element.{Element}
use Rattle.clk_tree.specs.declared.plan.parts.QueueSpec.{QueueSpec}
use Rattle.clk_tree.specs.declared.plan.parts.SenderSpec.{SenderSpec}
use Rattle.clk_tree.specs.Plan.{Planned}
use Rattle.clk_tree.specs.Elements.{planned}
use Rattle.clk_tree.specs.PlanTree.{is_queue, queue_count}
use Rattle.clk_tree.specs.PlanPaths.{device_of}
use Rattle.clk_tree.specs.PlanParts.{Queued, queued, senders_of, queue_of, queues_of}
use Rattle.clk_tree.specs.inside.FromPlace.{queues_from}
use Rattle.clk_tree.specs.inside.ByNumber.{senders_to}

-- how many queues there are up to a place
count-more : (elements : List Element) (k : ℕ) (d : Element) → k < length elements → queue_count (take (suc k) (map planned elements))
    ≡ (if is_queue (class_view (get_or elements k d).class) then queue_count (take k (map planned elements)) + 1 else queue_count (take k (map planned elements)))
count-more [] k d within = absurd (omega arith)
count-more (x ∷ elements) zero d within = refl
count-more (x ∷ elements) (suc k) d within = search (rules, (count-more elements k d (omega arith)))

no-queue : (class : declared.Class) → ((kind : Kind) (capacity : ℕ) → class ≡ kept.Queue kind capacity → ⊥) → is_queue (class_view class) ≡ false
no-queue class other = search rules

no-spec : (plan : List Planned) (k : ℕ) (class : Class) → is_queue class ≡ false → queue_of plan k class ≡ None
no-spec plan k class other = search rules

-- the queues in what is left begin with that of the next element
next-queues : (elements : List Element) (k : ℕ) (d : Element) (o : Option Queued) → k < length elements → queue_of (map planned elements) k (class_view (get_or elements k d).class) ≡ o
    → queues_from (map planned elements) k (map planned (drop k elements)) ≡ cons_option o (queues_from (map planned elements) (k + 1) (map planned (drop (k + 1) elements)))
next-queues elements k d o within is = search (rules, drop_more)

-- The queues so far, with those in what is left, and how many there are: after a queue, and after another element.
pub record AreQueues (elements : List Element) (k number : ℕ) (queues : List QueueSpec) : Type 0 where
  pub all : map queued queues ++ queues_from (map planned elements) k (map planned (drop k elements)) ≡ queues_of (map planned elements)
  pub counted : number ≡ queue_count (take k (map planned elements))
  pub bound : number ≤ k

pub queue-added : (elements : List Element) (k number capacity device : ℕ) (kind : Kind) (d : Element) (senders : List SenderSpec) (sent : List ℕ) (spec : QueueSpec) (queues new : List QueueSpec)
    → k < length elements → (get_or elements k d).class ≡ kept.Queue kind capacity → senders ≡ senders_of (map planned elements) → sent ≡ senders_to senders number
    → device ≡ device_of (map planned elements) k → new ≡ queues ++ spec ∷ [] → queued spec ≡ record { kind = kind; capacity = capacity; senders = sent; device = device }
    → AreQueues elements k number queues → AreQueues elements (k + 1) (number + 1) new
queue-added elements k number capacity device kind d senders sent spec queues new within class from made leads added is h =
    let plan = map planned elements in
    let left : List Queued = queues_from (map planned elements) (k + 1) (map planned (drop (k + 1) elements)) in
    let its : queue_of (map planned elements) k (class_view (get_or elements k d).class) ≡ Some (queued spec) =
    ap (λ c. queue_of (map planned elements) k (class_view c)) class
    ∙ sym (ap Some (is ∙ ap₂ (λ (s : List ℕ) (n : ℕ). record { kind = kind; capacity = capacity; senders = s; device = n }) (made ∙ ap₂ senders_to from h.counted) leads)) in
    record {
      all = ap (λ xs. map queued xs ++ left) added ∙ ap (λ xs. xs ++ left) (map-append queued queues (spec ∷ [])) ∙ append_assoc (map queued queues) (queued spec ∷ []) left
          ∙ sym (ap (λ xs. map queued queues ++ xs) (next-queues elements k d (Some (queued spec)) within its)) ∙ h.all;
      counted = ap (λ n. n + 1) h.counted ∙ sym (ap (λ n. queue_count (take n (map planned elements))) (add-one k) ∙ count-more elements k d within
          ∙ ap (λ c. if is_queue (class_view c) then queue_count (take k (map planned elements)) + 1 else queue_count (take k (map planned elements))) class);
      bound = let low = h.bound in omega (arith, low);
    }

pub queue-passed : (elements : List Element) (k number : ℕ) (d : Element) (queues : List QueueSpec) → k < length elements
    → ((kind : Kind) (capacity : ℕ) → (get_or elements k d).class ≡ kept.Queue kind capacity → ⊥) → AreQueues elements k number queues → AreQueues elements (k + 1) number queues
queue-passed elements k number d queues within other h =
    let none = no-queue (get_or elements k d).class other in
    record {
      all = sym (ap (λ xs. map queued queues ++ xs) (next-queues elements k d None within (no-spec (map planned elements) k (class_view (get_or elements k d).class) none))) ∙ h.all;
      counted = h.counted ∙ sym (ap (λ n. queue_count (take n (map planned elements))) (add-one k) ∙ count-more elements k d within
          ∙ ap (λ b. if b then queue_count (take k (map planned elements)) + 1 else queue_count (take k (map planned elements))) none);
      bound = let low = h.bound in omega (arith, low);
    }
