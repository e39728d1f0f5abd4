-- The queue to which an element is connected, and the place of a sender by its number, step by step.
use Rattle.std.proofs.Common.{◌≡◌, ℕ, ◌+◌, ◌<◌, ◌==◌, Bool, true, false, if◌then◌else◌, List, [], ◌∷◌, length, map, get_or, drop, nat_lt, nat_le, refl, ap, add-one, add-zero, cond, rules}
use Rattle.std.specs.List.{insert, prefix_len, list_any}
use Rattle.std.proofs.lemmas.Bool.{leb-true, leb-false, le-ltb, lt-ltb}
use Rattle.clk_packet.specs.Lists.{stands_in}
use Rattle.clk_syntax.proofs.Callers.Lists.{drop-item}
use Rattle.clk_tree.specs.declared.plan.element.Element.{Element}
use Rattle.clk_tree.specs.declared.plan.parts.SenderSpec.{SenderSpec}
use Rattle.clk_tree.specs.Plan.{Planned}
use Rattle.clk_tree.specs.PlanTree.{is_queue}
use Rattle.clk_tree.specs.Elements.{planned}
use Rattle.clk_tree.specs.PlanParts.{queue_fed}
use Rattle.clk_tree.specs.inside.ByNumber.{placed}

-- what is left begins with the element that stands there
pub left-cons : (elements : List Element) (k : ℕ) (x : Element) → k < length elements → x ≡ get_or elements k x → map planned (drop k elements) ≡ planned x ∷ map planned (drop (k + 1) elements)
left-cons elements k x within is = ap (map planned) (drop-item elements k x within is)

pub any-stands : (place : ℕ) (ps : List ℕ) → list_any (λ p. p == place) ps ≡ stands_in place ps
any-stands place ps = search rules

-- the queue to which an element is connected, where the queues begin with one that it is connected to or with another element
fed-later : (e : Planned) (more : List Planned) (place : ℕ) → is_queue e.class ≡ true → stands_in place e.sources ≡ false → queue_fed (e ∷ more) place ≡ queue_fed more place + 1
fed-later e more place queue stands = search rules

-- The queues so far and those in what is left before the one that is fed: it is the first that is left, another is, or no queue.
pub queue-found : (elements : List Element) (place k queue : ℕ) (x : Element) (sources : List ℕ) → k < length elements → x ≡ get_or elements k x → is_queue (planned x).class ≡ true
    → sources ≡ x.sources.items → list_any (λ p. p == place) sources ≡ true
    → queue + queue_fed (map planned (drop k elements)) place ≡ queue_fed (map planned elements) place → queue ≡ queue_fed (map planned elements) place
queue-found elements place k queue x sources within is fed of stands all = search (rules, add-zero, left-cons, any-stands)

pub queue-passed : (elements : List Element) (place k queue : ℕ) (x : Element) (sources : List ℕ) → k < length elements → x ≡ get_or elements k x → is_queue (planned x).class ≡ true
    → sources ≡ x.sources.items → list_any (λ p. p == place) sources ≡ false
    → queue + queue_fed (map planned (drop k elements)) place ≡ queue_fed (map planned elements) place
    → queue + 1 + queue_fed (map planned (drop (k + 1) elements)) place ≡ queue_fed (map planned elements) place
queue-passed elements place k queue x sources within is fed of stands all = search (rules, left-cons, fed-later, any-stands)

pub other-passed : (elements : List Element) (place k queue : ℕ) (x : Element) → k < length elements → x ≡ get_or elements k x → is_queue (planned x).class ≡ false
    → queue + queue_fed (map planned (drop k elements)) place ≡ queue_fed (map planned elements) place
    → queue + queue_fed (map planned (drop (k + 1) elements)) place ≡ queue_fed (map planned elements) place
other-passed elements place k queue x within is other all = search (rules, left-cons)

-- a sender goes after those of no greater number
pub insert-placed : (s : SenderSpec) (senders : List SenderSpec) → insert senders (prefix_len (λ (t : SenderSpec). nat_le t.number s.number) senders) s ≡ placed s senders
insert-placed s [] = refl
insert-placed s (t ∷ more) = by_test (nat_le t.number s.number) refl (insert-placed s more)
  where
    by_test : (b : Bool) → nat_le t.number s.number ≡ b → insert more (prefix_len (λ (r : SenderSpec). nat_le r.number s.number) more) s ≡ placed s more
        → insert (t ∷ more) (cond b (1 + prefix_len (λ (r : SenderSpec). nat_le r.number s.number) more) 0) s ≡ (if nat_lt s.number t.number then s ∷ t ∷ more else t ∷ placed s more)
    by_test b low later = search (rules, add-one, le-ltb, leb-true, lt-ltb, leb-false)
