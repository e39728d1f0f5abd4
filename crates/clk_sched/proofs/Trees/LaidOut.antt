-- Tables that have an entry and a state for each scheduler of a tree lay it out.
use Rattle.std.proofs.Common.{◌≡◌, ℕ, suc, ◌+◌, ◌<◌, ◌≤◌, ◌==◌, nat_lt, Bool, true, false, List, [], ◌∷◌, ◌++◌, length, map, slice_get, Option, Some, MatchOption, refl, sym, ap, ap₂, ◌∙◌, subst, append-nil, append_assoc, length-append, add-zero, arith, rules}
use Rattle.std.proofs.lemmas.Bool.Decides.{nat_tests}
use Rattle.std.proofs.lemmas.List.{length-map}
use Rattle.std.proofs.lemmas.Option.{slice_get_within}
use Rattle.std.specs.List.{AllByRecursion}
use Rattle.clk_packet.specs.declared.limits.TheConstants.{MAX_INPUTS}
use Rattle.clk_sched.specs.declared.session.inputs.Below.{Below}
use Rattle.clk_sched.specs.declared.session.inputs.Inputs.{Inputs}
use Rattle.clk_sched.specs.declared.session.nodes.Nodes.{Nodes}
use Rattle.clk_sched.specs.declared.session.state.State.{State}
use Rattle.clk_packet.specs.Scheduler.{Scheduler, prio, HasArguments}
use Rattle.clk_sched.specs.Tree.{Row, end, leaf, node, Tree, root, nodes, width, IsWellFormed}
use Rattle.clk_sched.specs.inside.Places.{inputs_of, below_of, EachHasInputs, edges_to_all, IsAfter, IsWithin, IsWired}
use Rattle.clk_sched.specs.inside.Pulling.{EachHolds}
use Rattle.clk_sched.specs.Session.{elements}
use Rattle.clk_sched.specs.inside.Session.{IsLaidOut}
use Rattle.clk_sched.specs.inside.Holds.OfClass.{Fits, Holds}
use Rattle.clk_sched.specs.inside.LaidOut.{Entry, below_row, first_leaf, last_leaf, entry, entry_over, entries, Kind, kinds, AreFirst}

-- how many there are of each

pub length-inputs : (next : ℕ) (row : Row) → length (inputs_of next row) ≡ width row
length-inputs next end = refl
length-inputs next (leaf q row) = ap suc (length-inputs next row)
length-inputs next (node class inputs row) = ap suc (length-inputs (suc (next + nodes inputs)) row)

pub length-entries : (next : ℕ) (row : Row) → length (entries next row) ≡ nodes row
length-entries next end = refl
length-entries next (leaf q row) = length-entries next row
length-entries next (node class inputs row) =
    ap suc (length-append (entries (suc next) inputs) (entries (suc (next + nodes inputs)) row)
    ∙ ap₂ (λ n k. n + k) (length-entries (suc next) inputs) (length-entries (suc (next + nodes inputs)) row))

pub length-kinds : (row : Row) → length (kinds row) ≡ nodes row
length-kinds end = refl
length-kinds (leaf q row) = length-kinds row
length-kinds (node class inputs row) = ap suc (length-append (kinds inputs) (kinds row) ∙ ap₂ (λ n k. n + k) (length-kinds inputs) (length-kinds row))

-- what a list has from a place on
abbrev Sits : {X Y : Type 0} → (Y → X → Type 0) → List X → ℕ → List Y → Type 0
Sits R xs n [] = Unit {0}
Sits R xs n (y ∷ ys) = MatchOption (slice_get xs n) ⊥ (R y) × Sits R xs (suc n) ys

sits-split : {X Y : Type 0} (R : Y → X → Type 0) (xs : List X) (n : ℕ) (ys zs : List Y) → Sits R xs n (ys ++ zs) → Sits R xs n ys × Sits R xs (n + length ys) zs
sits-split R xs n [] zs h = (tt, subst (λ m. Sits R xs m zs) (sym (add-zero n)) h)
sits-split R xs n (y ∷ ys) zs h = let r = sits-split R xs (suc n) ys zs h.1 in ((h.0, r.0), subst (λ m. Sits R xs m zs) (let e : suc n + length ys ≡ n + suc (length ys) = omega arith in e) r.1)

seam : {X : Type 0} (before : List X) (x : X) (xs : List X) → slice_get (before ++ x ∷ xs) (length before) ≡ Some x
seam [] x xs = refl
seam (y ∷ before) x xs = seam before x xs

sits-next : {X Y : Type 0} (R : Y → X → Type 0) (before : List X) (x : X) (xs : List X) (ys : List Y) → Sits R ((before ++ x ∷ []) ++ xs) (length (before ++ x ∷ [])) ys → Sits R (before ++ x ∷ xs) (suc (length before)) ys
sits-next R before x xs ys h = search (rules, length-append, append_assoc)

abbrev IsEntry : Entry → Inputs → Type 0
IsEntry e p = entry p ≡ e

abbrev IsFirst : Kind → State → Type 0
IsFirst k s = Holds k.0 k.1 [] s

sits-entries : (before table : List Inputs) → Sits IsEntry (before ++ table) (length before) (map entry table)
sits-entries before [] = tt
sits-entries before (p ∷ table) = (subst (λ o. MatchOption o ⊥ (IsEntry (entry p))) (sym (seam before p table)) refl, sits-next IsEntry before p table (map entry table) (sits-entries (before ++ p ∷ []) table))

sits-first : (before states : List State) (kinds : List Kind) → AreFirst kinds states → Sits IsFirst (before ++ states) (length before) kinds
sits-first before [] [] h = tt
sits-first before (s ∷ states) [] h = tt
sits-first before [] (k ∷ kinds) h = absurd h
sits-first before (s ∷ states) (k ∷ kinds) h = (subst (λ o. MatchOption o ⊥ (IsFirst k)) (sym (seam before s states)) h.0, sits-next IsFirst before s states kinds (sits-first (before ++ s ∷ []) states kinds h.1))

length-first : (kinds : List Kind) (states : List State) → AreFirst kinds states → length states ≡ length kinds
length-first [] [] h = refl
length-first [] (s ∷ states) h = absurd h
length-first (k ∷ kinds) [] h = absurd h
length-first (k ∷ kinds) (s ∷ states) h = ap suc (length-first kinds states h.1)

-- All that tables say of a node over a row.
record IsPlaced (table : List Inputs) (states : List State) (x : ℕ) (class : Scheduler) (row : Row) : Type 0 where
  inputs : MatchOption (slice_get table x) ⊥ (IsEntry (entry_over x row))
  state : MatchOption (slice_get states x) ⊥ (Holds class (width row) [])
  some : 1 ≤ width row
  few : width row ≤ MAX_INPUTS
  arguments : HasArguments class (width row)
  after : AllByRecursion (IsAfter (length table) x) (inputs_of (suc x) row)
  edges : elements row ≡ edges_to_all table (inputs_of (suc x) row)
  within : AllByRecursion (IsWithin table x (below_row row)) (inputs_of (suc x) row)
  last : x + nodes row < length table

-- each scheduler of a row is in its place
abbrev ArePlaced : List Inputs → List State → ℕ → Row → Type 0
ArePlaced table states next end = Unit {0}
ArePlaced table states next (leaf q row) = ArePlaced table states next row
ArePlaced table states next (node class inputs row) =
    IsPlaced table states next class inputs × ArePlaced table states (suc next) inputs × ArePlaced table states (suc (next + nodes inputs)) row

after-all : (size x next : ℕ) (row : Row) → x < next → next + nodes row ≤ size → AllByRecursion (IsAfter size x) (inputs_of next row)
after-all size x next end l k = tt
after-all size x next (leaf q row) l k = (tt, after-all size x next row l k)
after-all size x next (node class inputs row) l k = ((l, omega arith), after-all size x (suc (next + nodes inputs)) row (omega arith) (omega arith))

-- the entries of a row after those of the inputs of its first scheduler
entries-after : (table : List Inputs) (next : ℕ) (inputs row : Row) → Sits IsEntry table (suc next) (entries (suc next) inputs ++ entries (suc (next + nodes inputs)) row)
    → Sits IsEntry table (suc next) (entries (suc next) inputs) × Sits IsEntry table (suc (next + nodes inputs)) (entries (suc (next + nodes inputs)) row)
entries-after table next inputs row h = search (rules, sits-split, length-entries)

edges-all : (table : List Inputs) (next : ℕ) (row : Row) → Sits IsEntry table next (entries next row) → elements row ≡ edges_to_all table (inputs_of next row)
edges-all table next end h = refl
edges-all table next (leaf q row) h = omega (arith, edges-all table next row h)
edges-all table next (node class inputs row) h = search (rules, entries-after, (edges-all table (suc (next + nodes inputs)) row (entries-after table next inputs row h.1).1))

match-weaker : {X : Type 0} (P Q : X → Type 0) (o : Option X) → ((x : X) → P x → Q x) → MatchOption o ⊥ P → MatchOption o ⊥ Q
match-weaker P Q o f h = search rules

-- What stands at the inputs of a row is within what a table says of the row.
within-all : (table : List Inputs) (x next : ℕ) (row : Row) (b : Below) → b.first ≤ first_leaf row → last_leaf row ≤ b.last → next + nodes row ≤ suc (x + b.nodes) → Sits IsEntry table next (entries next row)
    → AllByRecursion (IsWithin table x b) (inputs_of next row)
within-all table x next end b low high most h = tt
within-all table x next (leaf q row) b low high most h = ((omega (arith, low), omega (arith, high)), within-all table x next row b (omega (arith, low)) (omega (arith, high)) most h)
within-all table x next (node class inputs row) b low high most h = (
  match-weaker (IsEntry (entry_over next inputs)) (λ (p : Inputs). (b.first ≤ (below_of p).first) × ((below_of p).last ≤ b.last) × (next + (below_of p).nodes ≤ x + b.nodes)) (slice_get table next)
      (λ p e. subst (λ (c : Below). (b.first ≤ c.first) × (c.last ≤ b.last) × (next + c.nodes ≤ x + b.nodes)) (sym (ap (λ (q : Entry). q.1) e)) (omega (arith, low), omega (arith, high), omega (arith, most))) h.0,
  within-all table x (suc (next + nodes inputs)) row b (omega (arith, low)) (omega (arith, high)) (omega (arith, most)) (entries-after table next inputs row h.1).1,
)

placed : (table : List Inputs) (states : List State) (next : ℕ) (row : Row) → IsWellFormed row → next + nodes row ≤ length table → Sits IsEntry table next (entries next row) → Sits IsFirst states next (kinds row)
    → ArePlaced table states next row
placed table states next end formed size e f = tt
placed table states next (leaf q row) formed size e f = placed table states next row formed size e f
placed table states next (node class inputs row) formed size e f =
    let es = entries-after table next inputs row e.1 in
    let fs = sits-split IsFirst states (suc next) (kinds inputs) (kinds row) f.1 in (
      record {
        inputs = e.0;
        state = f.0;
        some = formed.0.0;
        few = formed.0.1;
        arguments = formed.1;
        after = after-all (length table) next (suc next) inputs (omega arith) (omega arith);
        edges = edges-all table (suc next) inputs es.0;
        within = within-all table next (suc next) inputs (below_row inputs) (omega arith) (omega arith) (omega arith) es.0;
        last = omega arith;
      },
      placed table states (suc next) inputs formed.2 (omega arith) es.0 fs.0,
      placed table states (suc (next + nodes inputs)) row formed.3 (omega arith) es.1
          (subst (λ n. Sits IsFirst states n (kinds row)) (let k = length-kinds inputs in let s : suc next + length (kinds inputs) ≡ suc (next + nodes inputs) = omega (arith, k) in s) fs.1),
    )

has-inputs : (table : List Inputs) (states : List State) (x : ℕ) (class : Scheduler) (row : Row) → IsPlaced table states x class row → MatchOption (slice_get table x) ⊥ (λ (p : Inputs). p.each.items ≡ inputs_of (suc x) row)
has-inputs table states x class row h = match-weaker (IsEntry (entry_over x row)) (λ (p : Inputs). p.each.items ≡ inputs_of (suc x) row) (slice_get table x) (λ p e. ap (λ (q : Entry). q.0) e) h.inputs

each-has : (table : List Inputs) (states : List State) (next : ℕ) (row : Row) → ArePlaced table states next row → EachHasInputs table next row
each-has table states next end h = tt
each-has table states next (leaf q row) h = each-has table states next row h
each-has table states next (node class inputs row) h =
    (has-inputs table states next class inputs h.0, each-has table states (suc next) inputs h.1, each-has table states (suc (next + nodes inputs)) row h.2)

each-holds : (table : List Inputs) (states : List State) (next : ℕ) (row : Row) → ArePlaced table states next row → EachHolds states (λ x. []) next row
each-holds table states next end h = tt
each-holds table states next (leaf q row) h = each-holds table states next row h
each-holds table states next (node class inputs row) h = (h.0.state, each-holds table states (suc next) inputs h.1, each-holds table states (suc (next + nodes inputs)) row h.2)

record Found (table : List Inputs) (states : List State) (x : ℕ) : Type 0 where
  class : Scheduler
  row : Row
  placed : IsPlaced table states x class row

found : (table : List Inputs) (states : List State) (next : ℕ) (row : Row) → ArePlaced table states next row → (x : ℕ) → next ≤ x → x < next + nodes row → Found table states x
found table states next end h x l k = absurd (omega arith)
found table states next (leaf q row) h x l k = found table states next row h x l k
found table states next (node class inputs row) h x l k =
    by_place (next == x) refl (nat_lt x (suc (next + nodes inputs))) refl (λ m n. found table states (suc next) inputs h.1 x m n) (λ m n. found table states (suc (next + nodes inputs)) row h.2 x m n)
  where
    by_place : (b : Bool) → (next == x) ≡ b → (c : Bool) → nat_lt x (suc (next + nodes inputs)) ≡ c → (suc next ≤ x → x < suc next + nodes inputs → Found table states x)
        → (suc (next + nodes inputs) ≤ x → x < suc (next + nodes inputs) + nodes row → Found table states x) → Found table states x
    by_place true e c d below after =
        let same : next ≡ x = grind (arith, nat_tests) in
        record { class = class; row = inputs; placed = subst (λ n. IsPlaced table states n class inputs) same h.0 }
    by_place false e true d below after =
        let apart : suc next ≤ x = grind (arith, nat_tests) in
        let within : x < suc (next + nodes inputs) = grind (arith, nat_tests) in
        below apart (omega (arith, within))
    by_place false e false d below after =
        let past : suc (next + nodes inputs) ≤ x = grind (arith, nat_tests) in
        after past (omega arith)

at : {X : Type 0} (P : X → Type 0) (o : Option X) (x : X) → o ≡ Some x → MatchOption o ⊥ P → P x
at P o x e h = subst (λ u. MatchOption u ⊥ P) e h

wired : (table : List Inputs) (states : List State) (x : ℕ) (p : Inputs) → slice_get table x ≡ Some p → Found table states x → IsWired table x p
wired table states x p e f =
    let here : entry p ≡ entry_over x f.row = at (IsEntry (entry_over x f.row)) (slice_get table x) p e f.placed.inputs in
    let each : p.each.items ≡ inputs_of (suc x) f.row = ap (λ (q : Entry). q.0) here in
    let below : below_of p ≡ below_row f.row = ap (λ (q : Entry). q.1) here in
    record {
      few = subst (λ n. n ≤ MAX_INPUTS) (sym (ap length each ∙ length-inputs (suc x) f.row)) f.placed.few;
      after = subst (AllByRecursion (IsAfter (length table) x)) (sym each) f.placed.after;
      edges = ap (λ (b : Below). b.edges) below ∙ f.placed.edges ∙ ap (edges_to_all table) (sym each);
      within = subst (AllByRecursion (IsWithin table x (below_of p))) (sym each) (subst (λ (b : Below). AllByRecursion (IsWithin table x b) (inputs_of (suc x) f.row)) (sym below) f.placed.within);
      last = subst (λ (b : Below). x + b.nodes < length table) (sym below) f.placed.last;
    }

fits : (table : List Inputs) (states : List State) (x : ℕ) (p : Inputs) (s : State) → slice_get table x ≡ Some p → slice_get states x ≡ Some s → Found table states x → Fits s (length p.each.items)
fits table states x p s e g f = search (rules, at, placed, length-inputs)

-- the device over a tree
abbrev device : Tree → Row
device tree = node prio (root tree) end

width-root : (tree : Tree) → width (root tree) ≡ 1
width-root tree = search rules

-- Tables to which the device was added, with all that is below it, lay out a tree.
pub lays-out : (tree : Tree) (n : Nodes) → IsWellFormed (root tree) → map entry n.inputs.items ≡ entry_over 0 (root tree) ∷ entries 1 (root tree) → AreFirst ((prio, width (root tree)) ∷ kinds (root tree)) n.states.items
    → n.log.items ≡ [] → n.pull ≡ 0 → n.moment ≡ 0 → IsLaidOut tree n
lays-out tree n formed e f log pull moment =
    record {
      stands = record { here = has-inputs table states 0 prio (root tree) each.0; below = each-has table states 1 (root tree) each.1 };
      wired = λ x p g. wired table states x p g (find x p g);
      fit = record { lengths = length-first (kinds (device tree)) states all_first ∙ length-kinds (device tree) ∙ (let s : suc (nodes (root tree) + 0) ≡ length table = omega (arith, size) in s); each = λ x p s g k. fits table states x p s g k (find x p g) };
      size = size;
      holds = record { here = each.0.state; below = each-holds table states 1 (root tree) each.1 };
      log = log;
      pull = pull;
      moment = moment;
    }
  where
    table : List Inputs
    table = n.inputs.items

    states : List State
    states = n.states.items

    all_entries : map entry table ≡ entries 0 (device tree)
    all_entries = e ∙ ap (λ l. entry_over 0 (root tree) ∷ l) (sym (append-nil (entries 1 (root tree))))

    all_first : AreFirst (kinds (device tree)) states
    all_first = subst (λ l. AreFirst ((prio, width (root tree)) ∷ l) states) (sym (append-nil (kinds (root tree)))) f

    size : length table ≡ suc (nodes (root tree))
    size = sym (length-map table entry) ∙ ap length e ∙ ap suc (length-entries 1 (root tree))

    each : ArePlaced table states 0 (device tree)
    each =
        placed table states 0 (device tree) (let w = width-root tree in ((omega (arith, w), omega (arith, w)), tt, formed, tt)) (omega (arith, size))
        (subst (Sits IsEntry table 0) all_entries (sits-entries [] table)) (sits-first [] states (kinds (device tree)) all_first)

    find : (x : ℕ) (p : Inputs) → slice_get table x ≡ Some p → Found table states x
    find x p g = found table states 0 (device tree) each x (omega arith) (let l = slice_get_within table x p g in omega (arith, l, size))
