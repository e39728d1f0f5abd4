-- The leaves of a plan's trees together are its queues, each in the tree of its device.
use Rattle.std.proofs.Common.{◌≡◌, ℕ, ◌<◌, zero, suc, true, nat_lt, List, [], ◌∷◌, length, Option, Some, None, slice_get, inl, inr, refl, sym, ap, subst, ◌∙◌, eq-eqb, eqb-true, arith, rules}
use Rattle.std.proofs.lemmas.Bool.{false≢true, false_from_ne_true, lt-ltb, ltb-true}
use Rattle.std.proofs.lemmas.Option.{same_Some, slice_get_within}
use Rattle.clk_packet.specs.Lists.{stands_in, In}
use Rattle.clk_sched.specs.Tree.{Tree, root, leaves, leaves_distinct}
use Rattle.clk_tree.specs.PlanParts.{Queued, leads_to}
use Rattle.clk_tree.specs.Shares.{all_leaves, AreSharedOut}
use Rattle.clk_tree.proofs.Distinct.DistinctNumbers.{Distinct, in-append, in-left, in-right, in-stands, stands-in, test-distinct, distinct-test, distinct-append}

-- What is known of trees and queues: each tree's leaves are distinct and are the queues of its device, and each queue's device has a tree.
pub record AreLed (queues : List Queued) (trees : List Tree) : Type 0 where
  pub distinct : (d : ℕ) (tree : Tree) → slice_get trees d ≡ Some tree → leaves_distinct tree ≡ true
  pub leads : (d : ℕ) (tree : Tree) → slice_get trees d ≡ Some tree → (q : ℕ) → stands_in q (leaves (root tree)) ≡ leads_to d (slice_get queues q)
  pub there : (q : ℕ) (queue : Queued) → slice_get queues q ≡ Some queue → queue.device < length trees

member-at : {A : Type 0} (xs : List A) (i : ℕ) → i < length xs → (x : A) × (slice_get xs i ≡ Some x)
member-at [] i below = absurd (omega arith)
member-at (x ∷ xs) zero below = (x, refl)
member-at (x ∷ xs) (suc i) below = member-at xs i (omega arith)

-- the tree in which a leaf stands
record IsLeaf (q : ℕ) (trees : List Tree) : Type 0 where
  place : ℕ
  tree : Tree
  at : slice_get trees place ≡ Some tree
  among : In q (leaves (root tree))

leaf-in : (q : ℕ) (trees : List Tree) → In q (all_leaves trees) → IsLeaf q trees
leaf-in q [] m = absurd m
leaf-in q (t ∷ trees) m = elim (in-append q (leaves (root t)) (all_leaves trees) m) [
  | inl k ↦ record { place = 0; tree = t; at = refl; among = k }
  | inr k ↦ (let l = leaf-in q trees k in record { place = suc l.place; tree = l.tree; at = l.at; among = l.among })
]

in-leaf : (q : ℕ) (trees : List Tree) (d : ℕ) (tree : Tree) → slice_get trees d ≡ Some tree → In q (leaves (root tree)) → In q (all_leaves trees)
in-leaf q [] d tree at m = absurd (cc)
in-leaf q (t ∷ trees) zero tree at m = in-left q (leaves (root t)) (all_leaves trees) (subst (λ (s : Tree). In q (leaves (root s))) (sym (same_Some t tree at)) m)
in-leaf q (t ∷ trees) (suc d) tree at m = in-right q (leaves (root t)) (all_leaves trees) (in-leaf q trees d tree at m)

-- leaves that stand in one tree each are distinct together
leaves-apart : (trees : List Tree) → ((d : ℕ) (tree : Tree) → slice_get trees d ≡ Some tree → leaves_distinct tree ≡ true)
    → ((q d e : ℕ) (s t : Tree) → slice_get trees d ≡ Some s → slice_get trees e ≡ Some t → In q (leaves (root s)) → In q (leaves (root t)) → d ≡ e) → Distinct (all_leaves trees)
leaves-apart [] distinct one = tt
leaves-apart (t ∷ trees) distinct one =
    distinct-append (leaves (root t)) (all_leaves trees) (test-distinct (leaves (root t)) (distinct 0 t refl))
    (leaves-apart trees (λ d s at. distinct (suc d) s at) (λ q d e s r at to m k. let same = one q (suc d) (suc e) s r at to m k in omega arith))
    (λ q m k. let l = leaf-in q trees k in let same = one q 0 (suc l.place) t l.tree refl l.at m l.among in omega arith)

led-to : (queues : List Queued) (d q : ℕ) (o : Option Queued) → slice_get queues q ≡ o → leads_to d o ≡ true → (queue : Queued) × (slice_get queues q ≡ Some queue) × (queue.device ≡ d)
led-to queues d q o at is = search (rules, false≢true, eqb-true)

module _ (queues : List Queued) (trees : List Tree) (led : AreLed queues trees) where
  leaf-queue : (q d : ℕ) (tree : Tree) → slice_get trees d ≡ Some tree → In q (leaves (root tree)) → (queue : Queued) × (slice_get queues q ≡ Some queue) × (queue.device ≡ d)
  leaf-queue q d tree at m = led-to queues d q (slice_get queues q) refl (sym (led.leads d tree at q) ∙ in-stands q (leaves (root tree)) m)

  one-tree : (q d e : ℕ) (s t : Tree) → slice_get trees d ≡ Some s → slice_get trees e ≡ Some t → In q (leaves (root s)) → In q (leaves (root t)) → d ≡ e
  one-tree q d e s t at to m k =
      let a = leaf-queue q d s at m in
      let b = leaf-queue q e t to k in
      sym a.2 ∙ ap (λ (x : Queued). x.device) (same_Some a.0 b.0 (sym a.1 ∙ b.1)) ∙ b.2

  own-tree : (q : ℕ) (queue : Queued) (tree : Tree) → slice_get queues q ≡ Some queue → slice_get trees queue.device ≡ Some tree → stands_in q (leaves (root tree)) ≡ true
  own-tree q queue tree at to = led.leads queue.device tree to q ∙ ap (leads_to queue.device) at ∙ eq-eqb queue.device queue.device refl

  each-queue : (q : ℕ) (queue : Queued) → slice_get queues q ≡ Some queue → In q (all_leaves trees)
  each-queue q queue at =
      let to = member-at trees queue.device (led.there q queue at) in
      in-leaf q trees queue.device to.0 to.1 (stands-in q (leaves (root to.0)) (own-tree q queue to.0 at to.1))

  leaves-all : (q : ℕ) → stands_in q (all_leaves trees) ≡ nat_lt q (length queues)
  leaves-all q = by_queue (slice_get queues q) refl
    where
      by_queue : (o : Option Queued) → slice_get queues q ≡ o → stands_in q (all_leaves trees) ≡ nat_lt q (length queues)
      by_queue (Some queue) at = in-stands q (all_leaves trees) (each-queue q queue at) ∙ sym (lt-ltb q (length queues) (slice_get_within queues q queue at))
      by_queue None at =
          false_from_ne_true (stands_in q (all_leaves trees)) (λ is.
          let l = leaf-in q trees (stands-in q (all_leaves trees) is) in
          let k = leaf-queue q l.place l.tree l.at l.among in
          let none : None ≡ Some k.0 = sym at ∙ k.1 in
          absurd (cc))
          ∙ sym (false_from_ne_true (nat_lt q (length queues)) (λ below.
          let some = member-at queues q (ltb-true q (length queues) below) in
          let none : None ≡ Some some.0 = sym at ∙ some.1 in
          absurd (cc)))

  pub shared-out : AreSharedOut queues trees
  shared-out = search (rules, leaves-all, distinct-test, leaves-apart, one-tree, own-tree)
