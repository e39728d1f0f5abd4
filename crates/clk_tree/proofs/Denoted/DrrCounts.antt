-- DRRScheds above the queues of a plan, as they are counted device by device.
use Rattle.std.proofs.Common.{◌≡◌, ℕ, suc, ◌+◌, ◌<◌, ◌≤◌, ◌==◌, Bool, true, false, List, [], ◌∷◌, length, get_or, Some, slice_get, refl, ap, ◌∙◌, eq-eqb, eqb-true, arith, rules}
use Rattle.std.specs.List.{AllByRecursion}
use Rattle.std.proofs.lemmas.Bool.{false≢true}
use Rattle.std.proofs.lemmas.Option.{slice_get_within, slice_get-get_or}
use Rattle.clk_packet.specs.declared.limits.TheConstants.{MAX_LEVELS}
use Rattle.clk_packet.specs.Lists.{stands_in}
use Rattle.clk_sched.specs.Tree.{Tree, root, leaves}
use Rattle.clk_sched.specs.FewHeads.{drrs_above}
use Rattle.clk_tree.specs.Plan.{Planned}
use Rattle.clk_tree.specs.PlanTree.{device_count, IsTreeOf}
use Rattle.clk_tree.specs.PlanParts.{Queued, queues_of, leads_to}
use Rattle.clk_tree.specs.Shares.{AreTreesOf}
use Rattle.clk_tree.specs.Drrs.{AreDrrsAbove}
use Rattle.clk_tree.proofs.Callers.OneTree.{one-tree}

-- the trees of the first so many devices are counted
pub record AreCounted (plan : List Planned) (n : ℕ) (counts : List ℕ) : Type 0 where
  pub count : length counts ≡ length (queues_of plan)
  pub each : (d q : ℕ) (tree : Tree) → d < n → IsTreeOf plan d tree → leads_to d (slice_get (queues_of plan) q) ≡ true → get_or counts q 0 ≡ drrs_above q (root tree)
  pub low : (q : ℕ) → get_or counts q 0 ≤ MAX_LEVELS

-- the leaves of a tree are the queues of a device
pub record IsOver (queues : List Queued) (d : ℕ) (tree : Tree) : Type 0 where
  pub leads : (q : ℕ) → stands_in q (leaves (root tree)) ≡ leads_to d (slice_get queues q)

-- the counts of a tree's queues are written, and no others
pub record IsWritten (tree : Tree) (old new : List ℕ) : Type 0 where
  pub long : length new ≡ length old
  pub counts : (q : ℕ) → stands_in q (leaves (root tree)) ≡ true → get_or new q 0 ≡ drrs_above q (root tree)
  pub others : (q : ℕ) → stands_in q (leaves (root tree)) ≡ false → get_or new q 0 ≡ get_or old q 0
  pub limit : (q : ℕ) → drrs_above q (root tree) ≤ MAX_LEVELS

-- one tree more
pub counted-more : (plan : List Planned) (n : ℕ) (tree : Tree) (old new : List ℕ) → AreCounted plan n old → IsTreeOf plan n tree → IsOver (queues_of plan) n tree → IsWritten tree old new → AreCounted plan (n + 1) new
counted-more plan n tree old new counted is over written = record {
  count = written.long ∙ counted.count;
  each = λ d q t below its leads. by_device d q t below its leads (d == n) refl;
  low = λ q. by_leaf q (stands_in q (leaves (root tree))) refl;
}
  where
    by_leaf : (q : ℕ) (b : Bool) → stands_in q (leaves (root tree)) ≡ b → get_or new q 0 ≤ MAX_LEVELS
    by_leaf q b e = search (rules, eqb-true, one-tree, false≢true, eq-eqb)

    by_device : (d q : ℕ) (t : Tree) → d < n + 1 → IsTreeOf plan d t → leads_to d (slice_get (queues_of plan) q) ≡ true → (b : Bool) → (d == n) ≡ b → get_or new q 0 ≡ drrs_above q (root t)
    by_device d q t below its leads b e = search (rules, eqb-true, one-tree, false≢true, eq-eqb)

-- all trees are counted
pub counted-all : (plan : List Planned) (n : ℕ) (counts : List ℕ) → n ≡ device_count plan → AreCounted plan n counts → (trees : List Tree) → AreTreesOf plan trees → AreDrrsAbove (queues_of plan) trees counts
counted-all plan n counts all counted trees are = record { count = counted.count; each = each }
  where
    each : (q : ℕ) (queue : Queued) (tree : Tree) → slice_get (queues_of plan) q ≡ Some queue → slice_get trees queue.device ≡ Some tree → slice_get counts q ≡ Some (drrs_above q (root tree))
    each q queue tree at to =
        let there = slice_get_within (queues_of plan) q queue at in
        let made = slice_get_within trees queue.device tree to in
        let leads : leads_to queue.device (slice_get (queues_of plan) q) ≡ true = ap (leads_to queue.device) at ∙ eq-eqb queue.device queue.device refl in
        slice_get-get_or counts q 0 (omega (arith, there, counted.count)) ∙ ap Some (counted.each queue.device q tree (omega (arith, made, are.count, all)) (are.each queue.device tree to) leads)

-- what holds at each place holds of each count
pub all-low : (counts : List ℕ) → ((q : ℕ) → get_or counts q 0 ≤ MAX_LEVELS) → AllByRecursion (λ n. n ≤ MAX_LEVELS) counts
all-low [] low = tt
all-low (n ∷ counts) low = (low 0, all-low counts (λ q. low (suc q)))
