-- The trees of a plan stand over its queues, and apart.
use Rattle.std.proofs.Common.{◌≡◌, ℕ, ◌+◌, ◌<◌, ◌==◌, ◌&&◌, ◌||◌, ◌++◌, List, [], ◌∷◌, length, map, nat_lt, zero, suc, not, Bool, true, false, Option, Some, None, IsSome, IfSome, MatchOption, slice_get, refl, sym, ap, ap₂, ◌∙◌, subst, zero-add, arith, rules}
use Rattle.std.specs.Bool.{⊤}
use Rattle.std.specs.Option.{option_or, option_map}
use Rattle.std.specs.List.{AllByRecursion, position_or_len}
use Rattle.std.proofs.lemmas.Bool.{false≢true}
use Rattle.std.proofs.lemmas.Bool.Decides.{nat_tests}
use Rattle.std.proofs.lemmas.Option.{slice_get-map}
use Rattle.clk_packet.specs.Lists.{stands_in, are_distinct, AreRising}
use Rattle.clk_sched.specs.Tree.{Row, end, leaf, node, Tree, root, nodes, queue_in, queue_at, leaves}
use Rattle.clk_tree.specs.declared.plan.parts.SenderSpec.{SenderSpec}
use Rattle.clk_tree.specs.Plan.{Planned}
use Rattle.clk_tree.specs.PlanTree.{device_count}
use Rattle.clk_tree.specs.PlanParts.{Queued, shared_queues, queues_of, senders_of, sender_names, number_of, SendsWithin}
use Rattle.clk_tree.specs.Shares.{AreTreesOf, AreSharedOut, all_leaves}
use Rattle.clk_tree.proofs.Callers.SharedQueues.{all_shared, shared-numbered}
use Rattle.clk_router.specs.Events.{Room, Setup, room_over, plan_setup}
pub use Rattle.clk_router.specs.inside.Parts.{room_of, setup_of}
pub use Rattle.clk_router.specs.inside.Closable.{is_at}
use Rattle.clk_router.specs.Setups.{IsWired, IsApart}

-- what is a leaf of a part is one of the whole
or-later : (b c : Bool) → c ≡ true → (b || c) ≡ true
or-later true c e = refl
or-later false c e = e

stands-left : (q : ℕ) (xs ys : List ℕ) → stands_in q xs ≡ true → stands_in q (xs ++ ys) ≡ true
stands-left q [] ys e = absurd (false≢true e)
stands-left q (x ∷ xs) ys e = search (rules, (stands-left q xs ys))

stands-right : (q : ℕ) (xs ys : List ℕ) → stands_in q ys ≡ true → stands_in q (xs ++ ys) ≡ true
stands-right q [] ys e = e
stands-right q (x ∷ xs) ys e = or-later (x == q) (stands_in q (xs ++ ys)) (stands-right q xs ys e)

-- a queue that is at an input of a row is a leaf of it
pub queue-stands : (above first next : ℕ) (row : Row) (x input q : ℕ) → queue_in above first next row x input ≡ Some q → stands_in q (leaves row) ≡ true
queue-stands above first next end x input q e = absurd (cc)
queue-stands above first next (leaf p row) x input q e = search (rules, (queue-stands above (suc first) next row x))
queue-stands above first next (node class inputs row) x input q e =
    by_below (queue_in next 0 (suc next) inputs x input) e (queue-stands next 0 (suc next) inputs x input q) (queue-stands above (suc first) (suc (next + nodes inputs)) row x input q)
  where
    by_below : (o : Option ℕ) → option_or o (queue_in above (suc first) (suc (next + nodes inputs)) row x input) ≡ Some q → (o ≡ Some q → stands_in q (leaves inputs) ≡ true)
        → (queue_in above (suc first) (suc (next + nodes inputs)) row x input ≡ Some q → stands_in q (leaves row) ≡ true) → stands_in q (leaves inputs ++ leaves row) ≡ true
    by_below None e below after = stands-right q (leaves inputs) (leaves row) (after e)
    by_below (Some p) e below after = stands-left q (leaves inputs) (leaves row) (below e)

-- and of all the trees
stands-among : (trees : List Tree) (d : ℕ) (tree : Tree) (q : ℕ) → slice_get trees d ≡ Some tree → stands_in q (leaves (root tree)) ≡ true → stands_in q (all_leaves trees) ≡ true
stands-among [] d tree q at here = absurd (cc)
stands-among (t ∷ trees) zero tree q at here = let same : tree ≡ t = cc in stands-left q (leaves (root t)) (all_leaves trees) (subst (λ (x : Tree). stands_in q (leaves (root x)) ≡ true) same here)
stands-among (t ∷ trees) (suc d) tree q at here = stands-right q (leaves (root t)) (all_leaves trees) (stands-among trees d tree q at here)

-- there is a room for each queue
room-there : (trees : List Tree) (n : ℕ) (queues : List Queued) (q : ℕ) → q < length queues → IsSome (slice_get (map (room_over trees) (all_shared n queues)) q)
room-there trees n [] q within = absurd (omega (arith, within))
room-there trees n (x ∷ queues) zero within = refl
room-there trees n (x ∷ queues) (suc q) within = room-there trees (suc n) queues q (omega (arith, within))

room-at : (trees : List Tree) (plan : List Planned) (q : ℕ) → q < length (queues_of plan) → IsSome (slice_get (map (room_over trees) (shared_queues plan)) q)
room-at trees plan q within = subst (λ l. IsSome (slice_get (map (room_over trees) l) q)) (sym (shared-numbered plan)) (room-there trees 0 (queues_of plan) q within)

rooms-there : (trees : List Tree) (plan : List Planned) (senders : List SenderSpec) → AllByRecursion (SendsWithin (length (queues_of plan))) senders
    → AllByRecursion (λ (s : SenderSpec). IsSome (slice_get (map (room_over trees) (shared_queues plan)) s.queue)) senders
rooms-there trees plan [] h = tt
rooms-there trees plan (s ∷ senders) h = (room-at trees plan s.queue h.0, rooms-there trees plan senders h.1)

-- the setup of a plan is wired
pub plan-wired : (plan : List Planned) (trees : List Tree) → AreSharedOut (queues_of plan) trees → AllByRecursion (SendsWithin (length (queues_of plan))) (senders_of plan)
    → IsWired (plan_setup trees plan)
plan-wired plan trees shared senders = record { senders = rooms-there trees plan (senders_of plan) senders; leaves = at_device }
  where
    at_leaf : (d : ℕ) (tree : Tree) (o : Option ℕ) (x input : ℕ) → slice_get trees d ≡ Some tree → queue_at tree x input ≡ o → IfSome o (λ q. IsSome (slice_get (map (room_over trees) (shared_queues plan)) q))
    at_leaf d tree None x input at e = tt
    at_leaf d tree (Some q) x input at e =
        let among : stands_in q (all_leaves trees) ≡ true = stands-among trees d tree q at (queue-stands 0 0 1 (root tree) x input q e) in
        let within : nat_lt q (length (queues_of plan)) ≡ true = sym (shared.all q) ∙ among in
        room-at trees plan q (grind (arith, nat_tests))

    at_tree : (d x input : ℕ) (o : Option Tree) → slice_get trees d ≡ o → MatchOption o ⊤ (λ tree. IfSome (queue_at tree x input) (λ q. IsSome (slice_get (map (room_over trees) (shared_queues plan)) q)))
    at_tree d x input None e = tt
    at_tree d x input (Some tree) e = at_leaf d tree (queue_at tree x input) x input e refl

    at_device : (d x input : ℕ) → MatchOption (slice_get trees d) ⊤ (λ tree. IfSome (queue_at tree x input) (λ q. IsSome (slice_get (map (room_over trees) (shared_queues plan)) q)))
    at_device d x input = at_tree d x input (slice_get trees d) refl

-- no leaf stands in two trees
both-true : (b c : Bool) → (b && c) ≡ true → (b ≡ true) × (c ≡ true)
both-true true c e = (refl, e)
both-true false c e = absurd (false≢true e)

distinct-right : (xs ys : List ℕ) → are_distinct (xs ++ ys) ≡ true → are_distinct ys ≡ true
distinct-right [] ys e = e
distinct-right (x ∷ xs) ys e = let parts = both-true (not (stands_in x (xs ++ ys))) (are_distinct (xs ++ ys)) e in distinct-right xs ys parts.1

distinct-apart : (xs ys : List ℕ) (q : ℕ) → are_distinct (xs ++ ys) ≡ true → stands_in q xs ≡ true → stands_in q ys ≡ true → ⊥
distinct-apart [] ys q distinct a b = absurd (false≢true a)
distinct-apart (x ∷ xs) ys q distinct a b =
    let parts = both-true (not (stands_in x (xs ++ ys))) (are_distinct (xs ++ ys)) distinct in
    by_here (x == q) refl a parts.0 (distinct-apart xs ys q parts.1)
  where
    by_here : (t : Bool) → (x == q) ≡ t → (t || stands_in q xs) ≡ true → not (stands_in x (xs ++ ys)) ≡ true → (stands_in q xs ≡ true → stands_in q ys ≡ true → ⊥) → ⊥
    by_here t e a alone rest = search (rules, stands-right)

one-place : (trees : List Tree) (d e : ℕ) (t u : Tree) (q : ℕ) → are_distinct (all_leaves trees) ≡ true → slice_get trees d ≡ Some t → slice_get trees e ≡ Some u → stands_in q (leaves (root t)) ≡ true
    → stands_in q (leaves (root u)) ≡ true → d ≡ e
one-place [] d e t u q distinct at there a b = absurd (cc)
one-place (x ∷ trees) zero zero t u q distinct at there a b = refl
one-place (x ∷ trees) zero (suc e) t u q distinct at there a b = search (rules, distinct-apart, stands-among)
one-place (x ∷ trees) (suc d) zero t u q distinct at there a b = search (rules, distinct-apart, stands-among)
one-place (x ∷ trees) (suc d) (suc e) t u q distinct at there a b =
    ap suc (one-place trees d e t u q (distinct-right (leaves (root x)) (all_leaves trees) distinct) at there a b)

-- a device that is there has a tree, and a queue of a plan is of such a device
tree-there : (trees : List Tree) (d : ℕ) → d < length trees → (t : Tree) × (slice_get trees d ≡ Some t)
tree-there [] d within = absurd (omega (arith, within))
tree-there (t ∷ trees) zero within = (t, refl)
tree-there (t ∷ trees) (suc d) within = tree-there trees d (omega (arith, within))

queue-there : (queues : List Queued) (q : ℕ) → q < length queues → IsSome (slice_get queues q)
queue-there [] q within = absurd (omega (arith, within))
queue-there (x ∷ queues) zero within = refl
queue-there (x ∷ queues) (suc q) within = queue-there queues q (omega (arith, within))

path-there : (n : ℕ) (queues : List Queued) (q : ℕ) (x : Queued) → AllByRecursion (λ (y : Queued). y.device < n) queues → slice_get queues q ≡ Some x → x.device < n
path-there n [] q x h at = absurd (cc)
path-there n (y ∷ queues) zero x h at = let same : y ≡ x = cc in subst (λ (z : Queued). z.device < n) same h.0
path-there n (y ∷ queues) (suc q) x h at = path-there n queues q x h.1 at

-- the setup of a plan whose queues have the devices at the ends of their paths
abbrev pub setup_by_paths : List Tree → List Planned → Setup
setup_by_paths trees plan = setup_of (sender_names plan) trees (queues_of plan) (senders_of plan)

-- The tree that has a queue as a leaf is the first that has it.
first-with : (q : ℕ) (trees : List Tree) (d : ℕ) (tree : Tree) → are_distinct (all_leaves trees) ≡ true → slice_get trees d ≡ Some tree → stands_in q (leaves (root tree)) ≡ true
    → position_or_len (λ (t : Tree). stands_in q (leaves (root t))) trees ≡ d
first-with q [] d tree distinct at here = absurd (cc)
first-with q (t ∷ trees) zero tree distinct at here = search rules
first-with q (t ∷ trees) (suc d) tree distinct at here =
    by_test (stands_in q (leaves (root t))) refl (first-with q trees d tree (distinct-right (leaves (root t)) (all_leaves trees) distinct) at here)
  where
    by_test : (b : Bool) → stands_in q (leaves (root t)) ≡ b → position_or_len (λ (t : Tree). stands_in q (leaves (root t))) trees ≡ d
        → position_or_len (λ (t : Tree). stands_in q (leaves (root t))) (t ∷ trees) ≡ suc d
    by_test true e later = absurd (distinct-apart (leaves (root t)) (all_leaves trees) q distinct e (stands-among trees d tree q at here))
    by_test false e later = search rules

-- So each queue has the device at the end of its path.
rooms-same : (trees : List Tree) (n : ℕ) (queues : List Queued)
    → ((k : ℕ) (x : Queued) → slice_get queues k ≡ Some x → position_or_len (λ (t : Tree). stands_in (n + k) (leaves (root t))) trees ≡ x.device)
    → map (room_over trees) (all_shared n queues) ≡ map room_of queues
rooms-same trees n [] h = refl
rooms-same trees n (x ∷ queues) h =
    let same : n + 0 ≡ n = omega arith in
    let device = subst (λ l. position_or_len (λ (t : Tree). stands_in l (leaves (root t))) trees ≡ x.device) same (h 0 x refl) in
    ap₂ (λ (d : ℕ) (l : List Room). record { kind = x.kind; capacity = x.capacity; device = d } ∷ l) device
    (rooms-same trees (suc n) queues (λ k y e. let later : n + suc k ≡ suc n + k = omega arith in subst (λ l. position_or_len (λ (t : Tree). stands_in l (leaves (root t))) trees ≡ y.device) later (h (suc k) y e)))

pub setup-by-paths : (plan : List Planned) (trees : List Tree) → AreTreesOf plan trees → AreSharedOut (queues_of plan) trees → AllByRecursion (λ (q : Queued). q.device < device_count plan) (queues_of plan)
    → plan_setup trees plan ≡ setup_by_paths trees plan
setup-by-paths plan trees are shared paths = ap (λ (rooms : List Room). record { trees = trees; queues = rooms; senders = senders_of plan; names = sender_names plan })
    (ap (map (room_over trees)) (shared-numbered plan) ∙ rooms-same trees 0 (queues_of plan) its)
  where
    its : (k : ℕ) (x : Queued) → slice_get (queues_of plan) k ≡ Some x → position_or_len (λ (t : Tree). stands_in (0 + k) (leaves (root t))) trees ≡ x.device
    its k x is =
        let within : x.device < length trees = subst (λ n. x.device < n) (sym are.count) (path-there (device_count plan) (queues_of plan) k x paths is) in
        let tree = tree-there trees x.device within in
        subst (λ l. position_or_len (λ (t : Tree). stands_in l (leaves (root t))) trees ≡ x.device) (sym (zero-add k)) (first-with k trees x.device tree.0 shared.once tree.1 (shared.own k x tree.0 is tree.1))

-- the devices of a plan stand apart
pub paths-apart : (plan : List Planned) (trees : List Tree) → AreTreesOf plan trees → AreSharedOut (queues_of plan) trees → AreRising (map number_of (senders_of plan))
    → AllByRecursion (λ (q : Queued). q.device < device_count plan) (queues_of plan) → IsApart (setup_by_paths trees plan)
paths-apart plan trees are shared rising paths = record { senders = rising; leaves = λ d x input. at_tree d x input (slice_get trees d) refl }
  where
    at_queue : (d q : ℕ) (tree : Tree) (o : Option Queued) → slice_get trees d ≡ Some tree → stands_in q (leaves (root tree)) ≡ true → slice_get (queues_of plan) q ≡ o
        → IfSome (option_map room_of o) (λ (room : Room). room.device ≡ d)
    at_queue d q tree None at stands is = tt
    at_queue d q tree (Some x) at stands is =
        let within : x.device < length trees = subst (λ n. x.device < n) (sym are.count) (path-there (device_count plan) (queues_of plan) q x paths is) in
        let its = tree-there trees x.device within in
        one-place trees x.device d its.0 tree q shared.once its.1 at (shared.own q x its.0 is its.1) stands

    at_leaf : (d : ℕ) (tree : Tree) (o : Option ℕ) (x input : ℕ) → slice_get trees d ≡ Some tree → queue_at tree x input ≡ o
        → IfSome o (λ q. IfSome (slice_get (map room_of (queues_of plan)) q) (λ (room : Room). room.device ≡ d))
    at_leaf d tree None x input at e = tt
    at_leaf d tree (Some q) x input at e =
        rw (slice_get-map room_of (queues_of plan) q) (at_queue d q tree (slice_get (queues_of plan) q) at (queue-stands 0 0 1 (root tree) x input q e) refl)

    at_tree : (d x input : ℕ) (o : Option Tree) → slice_get trees d ≡ o
        → MatchOption o ⊤ (λ tree. IfSome (queue_at tree x input) (λ q. IfSome (slice_get (map room_of (queues_of plan)) q) (λ (room : Room). room.device ≡ d)))
    at_tree d x input None e = tt
    at_tree d x input (Some tree) e = at_leaf d tree (queue_at tree x input) x input e refl

pub plan-apart : (plan : List Planned) (trees : List Tree) → AreTreesOf plan trees → AreSharedOut (queues_of plan) trees → AreRising (map number_of (senders_of plan))
    → AllByRecursion (λ (q : Queued). q.device < device_count plan) (queues_of plan) → IsApart (plan_setup trees plan)
plan-apart plan trees are shared rising paths = subst IsApart (sym (setup-by-paths plan trees are shared paths)) (paths-apart plan trees are shared rising paths)

-- the leaves of a device's tree are the queues of that device
pub leaves-at : (plan : List Planned) (trees : List Tree) → AreTreesOf plan trees → AreSharedOut (queues_of plan) trees → AllByRecursion (λ (q : Queued). q.device < device_count plan) (queues_of plan)
    → (d : ℕ) (tree : Tree) → slice_get trees d ≡ Some tree → (q : ℕ) → stands_in q (leaves (root tree)) ≡ is_at d (slice_get (map room_of (queues_of plan)) q)
leaves-at plan trees are shared paths d tree at q = rw (slice_get-map room_of (queues_of plan) q) (by_queue (slice_get (queues_of plan) q) refl (stands_in q (leaves (root tree))) refl)
  where
    by_device : (x : Queued) (b : Bool) → slice_get (queues_of plan) q ≡ Some x → (x.device == d) ≡ b → stands_in q (leaves (root tree)) ≡ false → b ≡ false
    by_device x b is e not_there = search rules

    by_queue : (o : Option Queued) → slice_get (queues_of plan) q ≡ o → (b : Bool) → stands_in q (leaves (root tree)) ≡ b → b ≡ is_at d (option_map room_of o)
    by_queue None is false e = refl
    by_queue None is true e =
        let among : stands_in q (all_leaves trees) ≡ true = stands-among trees d tree q at e in
        let within : nat_lt q (length (queues_of plan)) ≡ true = sym (shared.all q) ∙ among in
        let there : IsSome (slice_get (queues_of plan) q) = queue-there (queues_of plan) q (grind (arith, nat_tests)) in
        absurd (false≢true (subst IsSome is there))
    by_queue (Some x) is false e = sym (by_device x (x.device == d) is refl e)
    by_queue (Some x) is true e =
        let within : x.device < length trees = subst (λ n. x.device < n) (sym are.count) (path-there (device_count plan) (queues_of plan) q x paths is) in
        let its = tree-there trees x.device within in
        let same : x.device ≡ d = one-place trees x.device d its.0 tree q shared.once its.1 at (shared.own q x its.0 is its.1) e in
        let yes : (x.device == d) ≡ true = grind (arith, nat_tests) in
        sym yes
