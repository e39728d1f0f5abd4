-- The trees of the devices of a run, and which queues are their leaves.
use Rattle.std.proofs.Common.{◌≡◌, ℕ, zero, suc, ◌+◌, ◌<◌, Bool, true, false, true≢false, List, [], ◌∷◌, length, map, Option, Some, None, slice_get, get_or, refl, sym, ap, ◌∙◌, subst, eq-eqb, arith, rules}
use Rattle.std.proofs.lemmas.Bool.{ltb-true, ne_eqb}
use Rattle.std.proofs.lemmas.List.{length-map}
use Rattle.std.proofs.lemmas.Option.{slice_get-get_or}
use Rattle.std.specs.List.{flat_map, AllByRecursion}
use Rattle.clk_packet.specs.declared.packet.Kind.TheVariants.{TailDrop}
use Rattle.clk_packet.specs.Lists.{stands_in, are_distinct}
use Rattle.clk_packet.proofs.Callers.Lists.{stands-left, stands-right}
use Rattle.clk_sched.specs.Tree.{Tree, root, leaves, leaves_distinct}
use Rattle.clk_tree.specs.Plan.{Planned}
use Rattle.clk_tree.specs.PlanTree.{device_count, IsTreeOf}
use Rattle.clk_tree.specs.PlanParts.{Queued, leads_to, queues_of}
use Rattle.clk_tree.specs.Shares.{all_leaves, AreTreesOf, AreSharedOut}
use Rattle.clk_drain.specs.Outcome.{Device}
use Rattle.clk_drain.specs.Run.{IsDeviceOf}
use Rattle.clk_drain.proofs.Plans.Numbered.{AreDevicesFrom, are-many}
use Rattle.clk_drain.specs.Opening.{queues_at}
use Rattle.clk_drain.proofs.Plans.Apart.{not-both, apart-parts}
use Rattle.clk_drain.proofs.Plans.QueuesAt.{by-leaves}
use Rattle.clk_drain.proofs.Lists.{all-there}

-- The trees of a plan's devices, in order, and what is known of one that stands among them.
abbrev pub trees_of : List Device → List Tree
trees_of devices = map (λ (d : Device). d.tree) devices

pub are-trees : (plan : List Planned) (first : ℕ) (devices : List Device) → AreDevicesFrom plan first devices → (n : ℕ) (tree : Tree) → slice_get (trees_of devices) n ≡ Some tree → IsTreeOf plan (first + n) tree
are-trees plan first [] h n tree at = absurd (cc)
are-trees plan first (d ∷ devices) h zero tree at = search (rules, h.0.tree)
are-trees plan first (d ∷ devices) h (suc n) tree at = subst (λ m. IsTreeOf plan m tree) (omega arith) (are-trees plan (suc first) devices h.1 n tree at)

-- Of trees whose leaves all differ, each has leaves that differ, and no two have a leaf in common.
pub tree-apart : (trees : List Tree) (n : ℕ) (tree : Tree) → are_distinct (all_leaves trees) ≡ true → slice_get trees n ≡ Some tree → leaves_distinct tree ≡ true
tree-apart [] n tree apart at = absurd (cc)
tree-apart (t ∷ trees) zero tree apart at = search (rules, (apart-parts (leaves (root t)) (all_leaves trees) apart))
tree-apart (t ∷ trees) (suc n) tree apart at = tree-apart trees n tree (apart-parts (leaves (root t)) (all_leaves trees) apart).1 at

leaf-in : (trees : List Tree) (n : ℕ) (tree : Tree) (q : ℕ) → slice_get trees n ≡ Some tree → stands_in q (leaves (root tree)) ≡ true → stands_in q (all_leaves trees) ≡ true
leaf-in [] n tree q at h = absurd (cc)
leaf-in (t ∷ trees) zero tree q at h = stands-left q (leaves (root t)) (all_leaves trees) (search rules)
leaf-in (t ∷ trees) (suc n) tree q at h = stands-right q (leaves (root t)) (all_leaves trees) (leaf-in trees n tree q at h)

one-tree : (trees : List Tree) (m n : ℕ) (a b : Tree) (q : ℕ) → are_distinct (all_leaves trees) ≡ true → slice_get trees m ≡ Some a → slice_get trees n ≡ Some b → stands_in q (leaves (root a)) ≡ true → stands_in q (leaves (root b)) ≡ true → m ≡ n
one-tree [] m n a b q apart am bn ha hb = absurd (cc)
one-tree (t ∷ trees) zero zero a b q apart am bn ha hb = refl
one-tree (t ∷ trees) zero (suc n) a b q apart am bn ha hb = absurd (not-both (leaves (root t)) (all_leaves trees) q apart (search rules) (leaf-in trees n b q bn hb))
one-tree (t ∷ trees) (suc m) zero a b q apart am bn ha hb = absurd (not-both (leaves (root t)) (all_leaves trees) q apart (search rules) (leaf-in trees m a q am ha))
one-tree (t ∷ trees) (suc m) (suc n) a b q apart am bn ha hb = ap suc (one-tree trees m n a b q (apart-parts (leaves (root t)) (all_leaves trees) apart).1 am bn ha hb)

-- What is known of a plan, and of the trees of its devices.
pub record HasTrees (plan : List Planned) (trees : List Tree) : Type 0 where
  pub shared : AreSharedOut (queues_of plan) trees
  pub count : length trees ≡ device_count plan
  pub within : AllByRecursion (λ (k : Queued). k.device < device_count plan) (queues_of plan)
  pub apart : are_distinct (flat_map (λ (k : Queued). k.senders) (queues_of plan)) ≡ true

-- A queue is a leaf of a device's tree exactly if it leads to the device.
pub leads-so : (plan : List Planned) (trees : List Tree) (n : ℕ) (tree : Tree) (q : ℕ) → HasTrees plan trees → slice_get trees n ≡ Some tree → leads_to n (slice_get (queues_of plan) q) ≡ stands_in q (leaves (root tree))
leads-so plan trees n tree q h at = by_leaf (stands_in q (leaves (root tree))) refl (slice_get (queues_of plan) q) refl
  where
    no_queue : Queued
    no_queue = record { kind = TailDrop; capacity = 0; senders = []; device = 0 }

    to : (k : Queued) → slice_get (queues_of plan) q ≡ Some k → stands_in q (leaves (root tree)) ≡ true → k.device ≡ n
    to k is has =
        let below = all-there (λ (q : Queued). q.device < device_count plan) (queues_of plan) q k h.within is in
        let many = h.count in
        let other = slice_get-get_or trees k.device tree (omega (arith, below, many)) in
        one-tree trees k.device n (get_or trees k.device tree) tree q h.shared.once other at (h.shared.own q k (get_or trees k.device tree) is other) has

    by_leaf : (b : Bool) → stands_in q (leaves (root tree)) ≡ b → (o : Option Queued) → slice_get (queues_of plan) q ≡ o → leads_to n o ≡ b
    by_leaf true has None is =
        let inside = ltb-true q (length (queues_of plan)) (sym (h.shared.all q) ∙ leaf-in trees n tree q at has) in
        let some = slice_get-get_or (queues_of plan) q no_queue inside in absurd (cc)
    by_leaf true has (Some k) is = eq-eqb k.device n (to k is has)
    by_leaf false none None is = refl
    by_leaf false none (Some k) is = ne_eqb k.device n (λ same. true≢false (sym (h.shared.own q k tree is (subst (λ m. slice_get trees m ≡ Some tree) (sym same) at)) ∙ none))

-- What is known of a plan whose run has these devices.
pub has-trees : (plan : List Planned) → ((trees : List Tree) → AreTreesOf plan trees → AreSharedOut (queues_of plan) trees) → AllByRecursion (λ (k : Queued). k.device < device_count plan) (queues_of plan)
    → are_distinct (flat_map (λ (k : Queued). k.senders) (queues_of plan)) ≡ true → (devices : List Device) → AreDevicesFrom plan 0 devices → HasTrees plan (trees_of devices)
has-trees plan shared within apart devices each =
    let many : length (trees_of devices) ≡ device_count plan = length-map devices (λ (d : Device). d.tree) ∙ (let sum = are-many plan 0 devices each in omega (arith, sum)) in record {
      shared = shared (trees_of devices) (record { count = many; each = λ d tree at. subst (λ n. IsTreeOf plan n tree) (omega arith) (are-trees plan 0 devices each d tree at) });
      count = many;
      within = within;
      apart = apart;
    }

-- The queues of a device are those that lead to it.
pub its-queues : (plan : List Planned) (trees : List Tree) (n : ℕ) (d : Device) → HasTrees plan trees → slice_get trees n ≡ Some d.tree → IsDeviceOf plan n d → d.queues ≡ queues_at n 0 (queues_of plan)
its-queues plan trees n d h at is = is.queues ∙ by-leaves plan n d.tree (λ q. sym (leads-so plan trees n d.tree q h at))
