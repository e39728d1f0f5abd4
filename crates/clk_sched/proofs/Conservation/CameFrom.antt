-- Every packet that a node passes or holds came from a queue below it.
use Rattle.std.proofs.Common.{◌≡◌, ℕ, zero, suc, ◌+◌, ◌<◌, ◌==◌, ◌&&◌, ◌||◌, inl, inr, if◌then◌else◌, Bool, true, List, [], ◌∷◌, map, reverse, Option, Some, None, refl, sym, ap, ap₂, ◌∙◌, subst, arith, rules}
use Rattle.std.specs.List.{flat_map, filter_map, cons_option, range_with_len, AllByRecursion}
use Rattle.clk_packet.specs.declared.packet.Packet.{Packet}
use Rattle.clk_sched.specs.declared.visit.Visit.{Visit}
use Rattle.clk_packet.specs.Lists.{stands_in, In}
use Rattle.clk_packet.specs.Scheduler.{Scheduler}
use Rattle.clk_sched.specs.Tree.{Row, end, leaf, node, Tree, root, nodes, width, leaves, queue_at}
use Rattle.clk_sched.specs.Laws.{Manner, in_order, with_heads, manner}
use Rattle.clk_sched.specs.Log.{visits_of, pulls, turn, pulls_below}
use Rattle.clk_sched.proofs.Runs.Rows.{EachObeys}
use Rattle.clk_sched.proofs.Runs.ByRows.{run-rows}
use Rattle.clk_sched.specs.Results.{Traced, traced, asks_queue, own_heads, held_at, up_to, latest_origin, origin_in}
use Rattle.clk_sched.proofs.Conservation.RowHeads.{row_heads, tree-heads}
use Rattle.clk_sched.specs.Conservation.{CameFrom, MakesNothing}
use Rattle.clk_sched.proofs.Lists.Members.{of-all, in-filter, all-append, all-flat_map, all-split, all-weaker}
use Rattle.clk_sched.proofs.Lists.Numbers.{same}
use Rattle.clk_sched.proofs.Trees.Numbering.{StandsAt, stands-root, stands-after_leaf, stands-after_node, stands-inputs, at-leaf}
use Rattle.clk_sched.proofs.Runs.Allowed.{AreWithin, turns-within}
use Rattle.clk_sched.proofs.Runs.Heads.{got_by, passed_by, held_in}
use Rattle.clk_sched.proofs.Trees.TreeLemmas.{stands_in-append}
use Rattle.clk_sched.proofs.Runs.NoChoice.{root-width}
use Rattle.clk_sched.proofs.Runs.Blocks.{node-is}
use Rattle.clk_sched.proofs.Runs.Pulled.{IsPulledIn, pulled-after_leaf, pulled-after_node, pulled-inputs, pulled-root, turns-visits}
use Rattle.clk_sched.proofs.Runs.Gives.{gives, result_by, results, gives-results, gives-queue, gives-after_leaf, gives-after_node, gives-passed_and_held}
use Rattle.clk_sched.proofs.Conservation.Conserved.{device-emits}
use Rattle.clk_sched.proofs.Lists.Numbers.{is_number}

range-in : (i a n : ℕ) → In i (range_with_len a n) → i < a + n
range-in i a zero m = absurd m
range-in i a (suc n) (inl e) = omega (arith, e)
range-in i a (suc n) (inr m) = let l = range-in i (a + 1) n m in omega arith

all-flat_map-in : {X Y : Type 0} (P : Y → Type 0) (f : X → List Y) (x : X) (xs : List X) → AllByRecursion P (flat_map f xs) → In x xs → AllByRecursion P (f x)
all-flat_map-in P f x [] h m = absurd m
all-flat_map-in P f x (y ∷ xs) h (inl e) = subst (λ z. AllByRecursion P (f z)) e (all-split P (f y) (flat_map f xs) h).0
all-flat_map-in P f x (y ∷ xs) h (inr m) = all-flat_map-in P f x xs (all-split P (f y) (flat_map f xs) h).1 m

-- a queue of a part of a row is one of the row
or-left : (a b : Bool) → a ≡ true → (a || b) ≡ true
or-left a b e = search

or-right : (a b : Bool) → b ≡ true → (a || b) ≡ true
or-right a b e = search rules

-- what was given by a visit of a log is among all that was
among-given : (given : Visit → Option Packet) (v : Visit) (p : Packet) (log : List Visit) → In v log → given v ≡ Some p → In p (filter_map given log)
among-given given v p [] m e = absurd m
among-given given v p (u ∷ log) (inl s) e = subst (λ o. In p (cons_option o (filter_map given log))) (sym (ap given s ∙ e)) (inl refl)
among-given given v p (u ∷ log) (inr m) e = search (rules, (among-given given v p log m e))

abbrev AllFrom : Tree → List Visit → Row → List Traced → Type 0
AllFrom tree log row ts = AllByRecursion (CameFrom tree log row) ts

came-wider : (tree : Tree) (log : List Visit) (row other : Row) → ((q : ℕ) → stands_in q (leaves row) ≡ true → stands_in q (leaves other) ≡ true) → (ts : List Traced) → AllFrom tree log row ts → AllFrom tree log other ts
came-wider tree log row other wider ts h = search (rules, all-weaker)

in-after_leaf : (k : ℕ) (row : Row) (q : ℕ) → stands_in q (leaves row) ≡ true → stands_in q (leaves (leaf k row)) ≡ true
in-after_leaf k row q h = or-right (k == q) (stands_in q (leaves row)) h

in-after_node : (class : Scheduler) (inputs row : Row) (q : ℕ) → stands_in q (leaves row) ≡ true → stands_in q (leaves (node class inputs row)) ≡ true
in-after_node class inputs row q h = stands_in-append q (leaves inputs) (leaves row) ∙ or-right (stands_in q (leaves inputs)) (stands_in q (leaves row)) h

in-inputs : (class : Scheduler) (inputs row : Row) (q : ℕ) → stands_in q (leaves inputs) ≡ true → stands_in q (leaves (node class inputs row)) ≡ true
in-inputs class inputs row q h = stands_in-append q (leaves inputs) (leaves row) ∙ or-left (stands_in q (leaves inputs)) (stands_in q (leaves row)) h

-- what the node above a row got, and what is held in the row, came from queues of the row
record AllCame (tree : Tree) (log : List Visit) (above first next : ℕ) (row : Row) : Type 0 where
  got : (i : ℕ) → i < width row → AllFrom tree log row (gives log above first next row i)
  held : AllFrom tree log row (row_heads log next row)

-- a queue gave what was got from it
came-here : (tree : Tree) (log : List Visit) (above first next k : ℕ) (row : Row) → StandsAt tree above first next (leaf k row) → AllFrom tree log (leaf k row) (gives log above first next (leaf k row) 0)
came-here tree log above first next k row stands =
    subst (AllFrom tree log (leaf k row)) (sym (gives-queue log above first next k row))
    (all-flat_map (CameFrom tree log (leaf k row)) (got_by (λ _. Some k) first) (visits_of above log) (λ v m. search (rules, or-left, same, among-given, in-filter, node-is, given, is-given)))
  where
    given : Visit → Option Packet
    given v = if asks_queue tree k v then v.got else None

    is-given : (v : Visit) → v.node ≡ above → v.fresh ≡ true → v.input ≡ first → given v ≡ v.got
    is-given v n f i = ap (λ b. if b then v.got else None) (ap₂ (λ b o. is_number k (if b then o else None)) f (ap₂ (queue_at tree) n i ∙ at-leaf tree above first next k row stands) ∙ same k)

came-after_leaf : (tree : Tree) (log : List Visit) (above first next k : ℕ) (row : Row) → StandsAt tree above first next (leaf k row) → AllCame tree log above (suc first) next row
    → AllCame tree log above first next (leaf k row)
came-after_leaf tree log above first next k row stands rest =
    record { got = λ i l. by_input i l; held = came-wider tree log row (leaf k row) (in-after_leaf k row) (row_heads log next row) rest.held }
  where
    by_input : (i : ℕ) → i < suc (width row) → AllFrom tree log (leaf k row) (gives log above first next (leaf k row) i)
    by_input zero l = came-here tree log above first next k row stands
    by_input (suc i) l =
        subst (AllFrom tree log (leaf k row)) (sym (gives-after_leaf log above first next k row i))
        (came-wider tree log row (leaf k row) (in-after_leaf k row) (gives log above (suc first) next row i) (rest.got i (omega arith)))

-- what a node passed, and what it holds
came-own : (tree : Tree) (log : List Visit) (above first next : ℕ) (class : Scheduler) (inputs row : Row) (pulled : List (List Visit)) → IsPulledIn log above first next (node class inputs row) pulled
    → EachObeys above pulled first next (node class inputs row) → AllCame tree log next 0 (suc next) inputs
    → AllFrom tree log inputs (results log next inputs) × AllFrom tree log inputs (own_heads log next inputs (manner class (width inputs)))
came-own tree log above first next class inputs row pulled h obeys below = (
  all-flat_map (CameFrom tree log inputs) (result_by log next inputs) visits (λ v m. passed v m),
  held (manner class (width inputs)),
)
  where
    visits : List Visit
    visits = visits_of next log

    within : AreWithin (width inputs) visits
    within =
        subst (AreWithin (width inputs)) (turns-visits log above first next class inputs row pulled h)
        (turns-within class (width inputs) [] (map (turn next) (pulls_below above first pulled)) obeys.0)

    origin : ℕ → ℕ → Option ℕ
    origin i k = origin_in log (suc next) inputs i k

    both : (i : ℕ) → i < width inputs → AllFrom tree log inputs (flat_map (passed_by (origin i) i (reverse visits)) visits) × AllFrom tree log inputs (held_in (origin i) i (reverse visits))
    both i l =
        all-split (CameFrom tree log inputs) (flat_map (passed_by (origin i) i (reverse visits)) visits) (held_in (origin i) i (reverse visits))
        (subst (AllFrom tree log inputs) (gives-passed_and_held log above first next class inputs row pulled h obeys.0 i) (below.got i l))

    passed : (v : Visit) → In v visits → AllFrom tree log inputs (result_by log next inputs v)
    passed v m =
        by_test v.passed (v.input == v.input) (same v.input)
        (all-flat_map-in (CameFrom tree log inputs) (passed_by (origin v.input) v.input (reverse visits)) v visits (both v.input (of-all _ v visits within m)).0 m)
      where
        by_test : (b c : Bool) → c ≡ true → AllFrom tree log inputs (if b && c then traced v.got (latest_origin (origin v.input) v.input (up_to v.pull (reverse visits))) else [])
            → AllFrom tree log inputs (if b then traced v.got (latest_origin (origin v.input) v.input (up_to v.pull (reverse visits))) else [])
        by_test b c e k = search rules

    held : (m : Manner) → AllFrom tree log inputs (own_heads log next inputs m)
    held (in_order order) = tt
    held (with_heads turn_of covers) = all-flat_map (CameFrom tree log inputs) (held_at log next inputs) (range_with_len 0 (width inputs)) (λ i m. (both i (let l = range-in i 0 (width inputs) m in omega arith)).1)

came-node : (tree : Tree) (log : List Visit) (above first next : ℕ) (class : Scheduler) (inputs row : Row) (pulled : List (List Visit)) → IsPulledIn log above first next (node class inputs row) pulled
    → EachObeys above pulled first next (node class inputs row) → AllCame tree log next 0 (suc next) inputs → AllCame tree log above (suc first) (suc (next + nodes inputs)) row
    → AllCame tree log above first next (node class inputs row)
came-node tree log above first next class inputs row pulled h obeys below rest =
    record {
      got = λ i l. by_input i l;
      held =
          all-append (CameFrom tree log (node class inputs row)) (own_heads log next inputs (manner class (width inputs))) _ (from_inputs _ own.1)
          (all-append (CameFrom tree log (node class inputs row)) (row_heads log (suc next) inputs) _ (from_inputs _ below.held)
          (came-wider tree log row (node class inputs row) (in-after_node class inputs row) _ rest.held));
    }
  where
    own : AllFrom tree log inputs (results log next inputs) × AllFrom tree log inputs (own_heads log next inputs (manner class (width inputs)))
    own = came-own tree log above first next class inputs row pulled h obeys below

    from_inputs : (ts : List Traced) → AllFrom tree log inputs ts → AllFrom tree log (node class inputs row) ts
    from_inputs ts k = came-wider tree log inputs (node class inputs row) (in-inputs class inputs row) ts k

    by_input : (i : ℕ) → i < suc (width row) → AllFrom tree log (node class inputs row) (gives log above first next (node class inputs row) i)
    by_input zero l =
        subst (AllFrom tree log (node class inputs row)) (sym (gives-results log above first next class inputs row pulled h obeys.0 obeys.1)) (from_inputs _ own.0)
    by_input (suc i) l =
        subst (AllFrom tree log (node class inputs row)) (sym (gives-after_node log above first next class inputs row i))
        (came-wider tree log row (node class inputs row) (in-after_node class inputs row) (gives log above (suc first) (suc (next + nodes inputs)) row i) (rest.got i (omega arith)))

all-came : (tree : Tree) (log : List Visit) (row : Row) (above first next : ℕ) (pulled : List (List Visit)) → StandsAt tree above first next row → IsPulledIn log above first next row pulled
    → EachObeys above pulled first next row → AllCame tree log above first next row
all-came tree log end above first next pulled stands h obeys = record { got = λ i l. absurd (omega arith); held = tt }
all-came tree log (leaf k row) above first next pulled stands h obeys =
    came-after_leaf tree log above first next k row stands
    (all-came tree log row above (suc first) next pulled (stands-after_leaf tree above first next k row stands) (pulled-after_leaf log above first next k row pulled h) obeys)
all-came tree log (node class inputs row) above first next pulled stands h obeys =
    came-node tree log above first next class inputs row pulled h obeys
    (all-came tree log inputs next 0 (suc next) (pulls_below above first pulled) (stands-inputs tree above first next class inputs row stands)
    (pulled-inputs log above first next class inputs row pulled h) obeys.2)
    (all-came tree log row above (suc first) (suc (next + nodes inputs)) pulled (stands-after_node tree above first next class inputs row stands)
    (pulled-after_node log above first next class inputs row pulled h) obeys.3)

pub makes-nothing : (tree : Tree) → MakesNothing tree
makes-nothing tree log run =
    let all = all-came tree log (root tree) 0 0 1 (pulls log) (stands-root tree) (pulled-root tree log run) (run-rows tree log run) in (
      subst (AllFrom tree log (root tree)) (device-emits tree log run) (all.got 0 (omega (arith, root-width tree))),
      subst (AllFrom tree log (root tree)) (sym (tree-heads tree log)) all.held,
    )
