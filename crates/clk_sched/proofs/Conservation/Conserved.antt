-- A run conserves the packets of each queue.
use Rattle.std.proofs.lemmas.Grind.{common_steps}
use Rattle.std.proofs.Common.{◌≡◌, ◌≢◌, ℕ, zero, suc, ◌+◌, ◌<◌, ◌≤◌, ◌==◌, ◌&&◌, ◌||◌, if◌then◌else◌, ◌⊎◌, inl, inr, Bool, true, false, List, [], ◌∷◌, ◌++◌, map, reverse, Option, Some, None, refl, sym, ap, ap₂, ◌∙◌, subst, append_assoc, append-nil, eq-or-lt_of_le, arith, rules}
use Rattle.std.specs.List.{flat_map, filter_map, range_with_len, AllByRecursion}
use Rattle.std.proofs.lemmas.Bool.{false≢true}
use Rattle.clk_packet.specs.declared.packet.Packet.{Packet}
use Rattle.clk_sched.specs.declared.visit.Visit.{Visit}
use Rattle.clk_packet.specs.Lists.{stands_in, are_distinct}
use Rattle.clk_packet.specs.Scheduler.{Scheduler}
use Rattle.clk_sched.specs.Tree.{Row, end, leaf, node, Tree, root, nodes, width, leaves, leaves_distinct, queue_at}
use Rattle.clk_sched.specs.Turns.{Turn, EachAfter, all_visits, IsPlain}
use Rattle.clk_sched.specs.Laws.{Manner, in_order, with_heads, Follows}
use Rattle.clk_sched.specs.Laws.Device.{IsDeviceTurn}
use Rattle.clk_sched.specs.Log.{visits_of, pulls, turn, pulls_below}
use Rattle.clk_sched.specs.Run.{IsRun}
use Rattle.clk_sched.proofs.Runs.Rows.{EachObeys}
use Rattle.clk_sched.proofs.Runs.ByRows.{run-rows}
use Rattle.clk_sched.specs.Results.{Traced, traced, leaf_packets, traced_emitted, own_heads, held_at, origin_in}
use Rattle.clk_sched.proofs.Conservation.RowHeads.{row_heads, tree-heads}
use Rattle.clk_sched.specs.Conservation.{from_queue, ConservesPackets}
use Rattle.clk_sched.proofs.Lists.Members.{of-all}
use Rattle.clk_sched.proofs.Runs.Allowed.{onto-reverse, each-follows, device-visit}
use Rattle.clk_sched.proofs.Runs.Heads.{got_by, passed_by}
use Rattle.clk_sched.proofs.Runs.HeadsByManner.{in_order-holds}
use Rattle.clk_sched.proofs.Runs.Blocks.{flat_map-same}
use Rattle.clk_sched.proofs.Trees.TreeLemmas.{stands_in-append}
use Rattle.clk_sched.proofs.Trees.Distinct.{distinct-parts}
use Rattle.clk_sched.proofs.Runs.NoChoice.{root-width}
use Rattle.clk_sched.proofs.Conservation.Origins.{latest-not, passed-not, origin-not, from_queue-append, traced-not, heads-not, node-not, StandsOnlyIn, only-after_leaf, only-after_node, only-inputs, only-here, asks-at}
use Rattle.clk_sched.proofs.Runs.Pulled.{IsPulledIn, pulled-after_leaf, pulled-after_node, pulled-inputs, pulled-root, turns-visits}
use Rattle.clk_sched.proofs.Runs.Gives.{gives, results, gives-results, gives-queue, gives-after_leaf, gives-after_node, gives-passed_and_held}
use Rattle.clk_sched.proofs.Lists.Numbers.{is_number}

from_queue-same : {X : Type 0} (q : ℕ) (f g : X → List Traced) (xs : List X) → ((x : X) → from_queue q (f x) ≡ from_queue q (g x)) → from_queue q (flat_map f xs) ≡ from_queue q (flat_map g xs)
from_queue-same q f g [] h = refl
from_queue-same q f g (x ∷ xs) h = search (rules, from_queue-append, (from_queue-same q f g xs h))

-- of several inputs, one alone gives packets of a queue
from_queue-none : (q : ℕ) (f : ℕ → List Traced) (i a n : ℕ) → ((j : ℕ) → j ≢ i → from_queue q (f j) ≡ []) → i < a → from_queue q (flat_map f (range_with_len a n)) ≡ []
from_queue-none q f i a zero h l = refl
from_queue-none q f i a (suc n) h l = search (rules, from_queue-append, (from_queue-none q f i (a + 1) n h (omega arith)))

from_queue-one : (q : ℕ) (f : ℕ → List Traced) (i a n : ℕ) → ((j : ℕ) → j ≢ i → from_queue q (f j) ≡ []) → a ≤ i → i < a + n → from_queue q (flat_map f (range_with_len a n)) ≡ from_queue q (f i)
from_queue-one q f i a zero h l m = absurd (omega arith)
from_queue-one q f i a (suc n) h l m =
    from_queue-append q (f a) (flat_map f (range_with_len (a + 1) n)) ∙ by_order (eq-or-lt_of_le l) (λ k. from_queue-one q f i (a + 1) n h k (omega arith))
  where
    rest : List Packet
    rest = from_queue q (flat_map f (range_with_len (a + 1) n))

    by_order : (a ≡ i) ⊎ (a < i) → (a + 1 ≤ i → rest ≡ from_queue q (f i)) → from_queue q (f a) ++ rest ≡ from_queue q (f i)
    by_order (inl e) again = ap₂ (λ j k. from_queue q (f j) ++ k) e (from_queue-none q f i (a + 1) n h (omega (arith, e))) ∙ append-nil (from_queue q (f i))
    by_order (inr k) again = ap₂ (λ j k. j ++ k) (h a (λ e. omega (arith, e, k))) (again (omega arith))

-- A queue stands at one input of a row, and what it gave is what the node above the row got from there and what is held below.
record IsConservedBelow (tree : Tree) (log : List Visit) (q above first next : ℕ) (row : Row) : Type 0 where
  input : ℕ
  within : input < width row
  conserved : leaf_packets tree q log ≡ from_queue q (gives log above first next row input) ++ from_queue q (row_heads log next row)
  alone : (j k : ℕ) → j ≢ input → is_number q (origin_in log next row j k) ≡ false

-- the packets that a queue gave, in the log and among the visits of the node at which it stands
leaf-log : (q k above first : ℕ) → (k == q) ≡ true → (log : List Visit)
    → filter_map (λ (v : Visit). if v.fresh && ((v.node == above) && (v.input == first)) then v.got else None) log
    ≡ from_queue q (flat_map (got_by (λ _. Some k) first) (visits_of above log))
leaf-log q k above first e [] = refl
leaf-log q k above first e (v ∷ log) = search (rules, (leaf-log q k above first e log))

filter_map-same : {X Y : Type 0} (f g : X → Option Y) (xs : List X) → ((x : X) → f x ≡ g x) → filter_map f xs ≡ filter_map g xs
filter_map-same f g xs h = search rules

conserved-here : (tree : Tree) (log : List Visit) (q above first next k : ℕ) (row : Row) → (k == q) ≡ true → stands_in q (leaves row) ≡ false → StandsOnlyIn q tree above first next (leaf k row)
    → IsConservedBelow tree log q above first next (leaf k row)
conserved-here tree log q above first next k row e h only =
    record {
      input = 0;
      within = omega arith;
      conserved =
          filter_map-same _ _ log (λ v. ap (λ b. if b then v.got else None) (asks-at q v.fresh (queue_at tree v.node v.input) ∙ ap (λ b. v.fresh && b) (only-here q tree above first next k row e h only v.node v.input)))
          ∙ leaf-log q k above first e log ∙ ap (from_queue q) (sym (gives-queue log above first next k row))
          ∙ sym (append-nil _) ∙ ap (λ l. from_queue q (gives log above first next (leaf k row) 0) ++ l) (sym (heads-not q log next row h));
      alone = λ j p d. search (rules, origin-not);
    }

conserved-after_leaf : (tree : Tree) (log : List Visit) (q above first next k : ℕ) (row : Row) → (k == q) ≡ false → IsConservedBelow tree log q above (suc first) next row → IsConservedBelow tree log q above first next (leaf k row)
conserved-after_leaf tree log q above first next k row e rest =
    record {
      input = suc rest.input;
      within = let l = rest.within in omega arith;
      conserved = rest.conserved ∙ ap (λ l. from_queue q l ++ from_queue q (row_heads log next row)) (sym (gives-after_leaf log above first next k row rest.input));
      alone = λ j p d. search rules;
    }

conserved-after_node : (tree : Tree) (log : List Visit) (q above first next : ℕ) (class : Scheduler) (inputs row : Row) → stands_in q (leaves inputs) ≡ false
    → IsConservedBelow tree log q above (suc first) (suc (next + nodes inputs)) row → IsConservedBelow tree log q above first next (node class inputs row)
conserved-after_node tree log q above first next class inputs row h rest =
    record {
      input = suc rest.input;
      within = let l = rest.within in omega arith;
      conserved =
          rest.conserved
          ∙ ap₂ (λ l m. l ++ m) (ap (from_queue q) (sym (gives-after_node log above first next class inputs row rest.input))) (sym (node-not q log next class inputs row h));
      alone = λ j p d. search (rules, passed-not, origin-not);
    }

-- the heads of a node over the input from which a queue's packets come
own-held : (log : List Visit) (q x : ℕ) (m : Manner) (inputs : Row) (turns : List Turn) (i : ℕ) → EachAfter (Follows m (width inputs)) [] turns → all_visits turns ≡ visits_of x log → i < width inputs
    → ((j k : ℕ) → j ≢ i → is_number q (origin_in log (suc x) inputs j k) ≡ false) → from_queue q (own_heads log x inputs m) ≡ from_queue q (held_at log x inputs i)
own-held log q x (in_order order) inputs turns i law all l alone = search (rules, onto-reverse, in_order-holds)
own-held log q x (with_heads turn_of covers) inputs turns i law all l alone =
    from_queue-one q (held_at log x inputs) i 0 (width inputs) (λ j d. traced-not q _ _ (latest-not q (origin_in log (suc x) inputs j) j (reverse (visits_of x log)) (λ k. alone j k d))) (omega arith) (omega arith)

conserved-node : (tree : Tree) (log : List Visit) (q above first next : ℕ) (class : Scheduler) (inputs row : Row) (pulled : List (List Visit)) → IsPulledIn log above first next (node class inputs row) pulled
    → EachObeys above pulled first next (node class inputs row) → stands_in q (leaves row) ≡ false → IsConservedBelow tree log q next 0 (suc next) inputs
    → IsConservedBelow tree log q above first next (node class inputs row)
conserved-node tree log q above first next class inputs row pulled h obeys other below =
    record {
      input = 0;
      within = omega arith;
      conserved =
          below.conserved ∙ ap (λ l. from_queue q l ++ inner) kept ∙ ap (λ l. l ++ inner) (from_queue-append q passed (held_at log next inputs below.input))
          ∙ append_assoc (from_queue q passed) (from_queue q (held_at log next inputs below.input)) inner
          ∙ ap₂ (λ l m. l ++ m) (passed_results ∙ ap (from_queue q) (sym (gives-results log above first next class inputs row pulled h obeys.0 obeys.1))) (sym heads);
      alone = λ j p d. search (rules, origin-not);
    }
  where
    turns : List Turn
    turns = map (turn next) (pulls_below above first pulled)

    visits : List Visit
    visits = visits_of next log

    all : all_visits turns ≡ visits
    all = turns-visits log above first next class inputs row pulled h

    origin : ℕ → ℕ → Option ℕ
    origin i k = origin_in log (suc next) inputs i k

    passed : List Traced
    passed = flat_map (passed_by (origin below.input) below.input (reverse visits)) visits

    inner : List Packet
    inner = from_queue q (row_heads log (suc next) inputs)

    kept : gives log next 0 (suc next) inputs below.input ≡ passed ++ held_at log next inputs below.input
    kept = gives-passed_and_held log above first next class inputs row pulled h obeys.0 below.input

    passed_results : from_queue q passed ≡ from_queue q (results log next inputs)
    passed_results = from_queue-same q _ _ visits (λ v. search rules)

    heads : from_queue q (row_heads log next (node class inputs row)) ≡ from_queue q (held_at log next inputs below.input) ++ inner
    heads = search (rules, from_queue-append, own-held, each-follows, heads-not, append-nil, turns, all, inner)

conserved-below : (tree : Tree) (log : List Visit) (q : ℕ) (row : Row) (above first next : ℕ) (pulled : List (List Visit)) → IsPulledIn log above first next row pulled → EachObeys above pulled first next row
    → StandsOnlyIn q tree above first next row → stands_in q (leaves row) ≡ true → are_distinct (leaves row) ≡ true → IsConservedBelow tree log q above first next row
conserved-below tree log q end above first next pulled h obeys only stands distinct = absurd (false≢true stands)
conserved-below tree log q (leaf k row) above first next pulled h obeys only stands distinct =
    let parts = distinct-parts q (k ∷ []) (leaves row) distinct in
    by_test (k == q) refl stands parts.2
    (λ e s. conserved-below tree log q row above (suc first) next pulled (pulled-after_leaf log above first next k row pulled h) obeys (only-after_leaf q tree above first next k row h.ordered e only) s parts.1)
  where
    by_test : (b : Bool) → (k == q) ≡ b → (b || stands_in q (leaves row)) ≡ true → ((b || false) ≡ true → stands_in q (leaves row) ≡ false)
        → ((k == q) ≡ false → stands_in q (leaves row) ≡ true → IsConservedBelow tree log q above (suc first) next row) → IsConservedBelow tree log q above first next (leaf k row)
    by_test b e s none rest = search (rules, common_steps, false≢true, distinct-parts, pulled-after_leaf, only-after_leaf, conserved-here, conserved-after_leaf, stands_in-append, pulled-inputs, only-inputs, pulled-after_node, only-after_node, conserved-node, conserved-after_node)
conserved-below tree log q (node class inputs row) above first next pulled h obeys only stands distinct =
    let parts = distinct-parts q (leaves inputs) (leaves row) distinct in
    by_test (stands_in q (leaves inputs)) refl (sym (stands_in-append q (leaves inputs) (leaves row)) ∙ stands)
    (λ s. conserved-below tree log q inputs next 0 (suc next) (pulls_below above first pulled) (pulled-inputs log above first next class inputs row pulled h) obeys.2
    (only-inputs q tree above first next class inputs row (parts.2 s) only) s parts.0)
    parts.2
    (λ e s. conserved-below tree log q row above (suc first) (suc (next + nodes inputs)) pulled (pulled-after_node log above first next class inputs row pulled h) obeys.3
    (only-after_node q tree above first next class inputs row h.ordered e only) s parts.1)
  where
    by_test : (b : Bool) → stands_in q (leaves inputs) ≡ b → (b || stands_in q (leaves row)) ≡ true → (stands_in q (leaves inputs) ≡ true → IsConservedBelow tree log q next 0 (suc next) inputs)
        → (stands_in q (leaves inputs) ≡ true → stands_in q (leaves row) ≡ false)
        → (stands_in q (leaves inputs) ≡ false → stands_in q (leaves row) ≡ true → IsConservedBelow tree log q above (suc first) (suc (next + nodes inputs)) row)
        → IsConservedBelow tree log q above first next (node class inputs row)
    by_test b e s below other rest = search (rules, conserved-node, conserved-after_node)

-- what the device got is what was emitted
pub device-emits : (tree : Tree) (log : List Visit) → IsRun tree log → gives log 0 0 1 (root tree) 0 ≡ traced_emitted tree log
device-emits tree log run = flat_map-same _ _ (visits_of 0 log) (λ v m. one v (of-all (λ (u : Visit). IsPlain u × (u.input ≡ 0)) v (visits_of 0 log) plain m))
  where
    turns-plain : (ps : List (List Visit)) → AllByRecursion IsDeviceTurn (map (turn 0) ps) → AllByRecursion (λ (u : Visit). IsPlain u × (u.input ≡ 0)) (flat_map (visits_of 0) ps)
    turns-plain [] h = tt
    turns-plain (p ∷ ps) h =
        let one = device-visit (visits_of 0 p) h.0 in
        subst (λ us. AllByRecursion (λ (u : Visit). IsPlain u × (u.input ≡ 0)) (us ++ flat_map (visits_of 0) ps)) (sym one.only) ((one.plain, one.input), turns-plain ps h.1)

    plain : AllByRecursion (λ (u : Visit). IsPlain u × (u.input ≡ 0)) (visits_of 0 log)
    plain = subst (AllByRecursion (λ (u : Visit). IsPlain u × (u.input ≡ 0))) (sym (pulled-root tree log run).own_visits) (turns-plain (pulls log) run.device)

    origin : ℕ → Option ℕ
    origin k = origin_in log 1 (root tree) 0 k

    one : (v : Visit) → IsPlain v × (v.input ≡ 0) → got_by origin 0 v ≡ (if v.passed then traced v.got (origin v.pull) else [])
    one v h = search rules

pub conserves-packets : (tree : Tree) → leaves_distinct tree ≡ true → ConservesPackets tree
conserves-packets tree distinct log run q stands =
    let all = conserved-below tree log q (root tree) 0 0 1 (pulls log) (pulled-root tree log run) (run-rows tree log run) (λ x i. refl) stands distinct in
    let first : all.input ≡ 0 = (let l = all.within in let w = root-width tree in omega (arith, l, w)) in
    all.conserved ∙ ap (λ i. from_queue q (gives log 0 0 1 (root tree) i) ++ from_queue q (row_heads log 1 (root tree))) first
    ∙ ap₂ (λ l m. from_queue q l ++ from_queue q m) (device-emits tree log run) (sym (tree-heads tree log))
