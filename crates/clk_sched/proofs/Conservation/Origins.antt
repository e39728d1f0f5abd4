-- Where a queue doesn't stand, no packet comes from it; and where it stands once.
use Rattle.std.proofs.Common.{◌≡◌, ℕ, zero, suc, ◌+◌, ◌<◌, ◌==◌, ◌&&◌, if◌then◌else◌, Bool, true, false, List, [], ◌∷◌, ◌++◌, Option, None, option_and_then, refl, ap₂, ◌∙◌, rules}
use Rattle.std.specs.List.{flat_map}
use Rattle.std.proofs.lemmas.Bool.{false≢true}
use Rattle.std.proofs.lemmas.List.Elements.{filter_map-append}
use Rattle.clk_packet.specs.declared.packet.Packet.{Packet}
use Rattle.clk_sched.specs.declared.visit.Visit.{Visit}
use Rattle.clk_packet.specs.Lists.{stands_in}
use Rattle.clk_packet.specs.Scheduler.{Scheduler}
use Rattle.clk_sched.specs.Tree.{Row, end, leaf, node, Tree, nodes, width, queue_in, queue_at, leaves}
use Rattle.clk_sched.specs.Laws.{Manner, manner}
use Rattle.clk_sched.specs.Log.{visits_of}
use Rattle.clk_sched.specs.Results.{Traced, traced, asked_pull, latest_origin, passed_origin, origin_in, own_heads}
use Rattle.clk_sched.proofs.Conservation.RowHeads.{row_heads}
use Rattle.clk_sched.specs.Conservation.{from_queue}
use Rattle.clk_sched.proofs.Trees.Numbering.{queue_in-before, queue_in-after, queue_in-earlier, or_none}
use Rattle.clk_sched.proofs.Trees.Distinct.{or-neither, stands-neither}
use Rattle.clk_sched.proofs.Lists.Numbers.{is_number}

queue_in-not : (q above first next : ℕ) (row : Row) (x i : ℕ) → stands_in q (leaves row) ≡ false → is_number q (queue_in above first next row x i) ≡ false
queue_in-not q above first next end x i h = refl
queue_in-not q above first next (leaf k row) x i h =
    let parts = or-neither (k == q) (stands_in q (leaves row)) h in (search (rules, ((above == x) && (first == i)), parts.0, (queue_in-not q above (suc first) next row x i parts.1)))
queue_in-not q above first next (node class inputs row) x i h =
    let parts = stands-neither q (leaves inputs) (leaves row) h in
    (search (rules, (queue_in next 0 (suc next) inputs x i), (queue_in-not q next 0 (suc next) inputs x i parts.0), (queue_in-not q above (suc first) (suc (next + nodes inputs)) row x i parts.1)))

-- where nothing that is got at an input comes from a queue, nor does what was got there last, or what is passed from there
and_then-not : (q : ℕ) (f : ℕ → Option ℕ) (o : Option ℕ) → ((n : ℕ) → is_number q (f n) ≡ false) → is_number q (option_and_then f o) ≡ false
and_then-not q f o h = search rules

pub latest-not : (q : ℕ) (origin : ℕ → Option ℕ) (i : ℕ) (latest : List Visit) → ((k : ℕ) → is_number q (origin k) ≡ false) → is_number q (latest_origin origin i latest) ≡ false
latest-not q origin i latest h = and_then-not q origin (asked_pull i latest) h

pub passed-not : (q : ℕ) (origin : ℕ → ℕ → Option ℕ) (k : ℕ) (visits : List Visit) → ((i n : ℕ) → is_number q (origin i n) ≡ false) → is_number q (passed_origin origin k visits) ≡ false
passed-not q origin k visits h = search rules

pub origin-not : (q : ℕ) (log : List Visit) (next : ℕ) (row : Row) (i k : ℕ) → stands_in q (leaves row) ≡ false → is_number q (origin_in log next row i k) ≡ false
origin-not q log next end i k h = refl
origin-not q log next (leaf p row) zero k h = (or-neither (p == q) (stands_in q (leaves row)) h).0
origin-not q log next (leaf p row) (suc i) k h = origin-not q log next row i k (or-neither (p == q) (stands_in q (leaves row)) h).1
origin-not q log next (node class inputs row) zero k h =
    let parts = stands-neither q (leaves inputs) (leaves row) h in
    passed-not q (λ j n. origin_in log (suc next) inputs j n) k (visits_of next log) (λ j n. origin-not q log (suc next) inputs j n parts.0)
origin-not q log next (node class inputs row) (suc i) k h =
    let parts = stands-neither q (leaves inputs) (leaves row) h in origin-not q log (suc (next + nodes inputs)) row i k parts.1

pub from_queue-append : (q : ℕ) (xs ys : List Traced) → from_queue q (xs ++ ys) ≡ from_queue q xs ++ from_queue q ys
from_queue-append q xs ys = filter_map-append _ xs ys

pub traced-not : (q : ℕ) (o : Option Packet) (origin : Option ℕ) → is_number q origin ≡ false → from_queue q (traced o origin) ≡ []
traced-not q o origin e = search rules

flat_map-not : {X : Type 0} (q : ℕ) (f : X → List Traced) (xs : List X) → ((x : X) → from_queue q (f x) ≡ []) → from_queue q (flat_map f xs) ≡ []
flat_map-not q f [] h = refl
flat_map-not q f (x ∷ xs) h = from_queue-append q (f x) (flat_map f xs) ∙ ap₂ (λ l m. l ++ m) (h x) (flat_map-not q f xs h)

own-not : (q : ℕ) (log : List Visit) (x : ℕ) (inputs : Row) (m : Manner) → stands_in q (leaves inputs) ≡ false → from_queue q (own_heads log x inputs m) ≡ []
own-not q log x inputs m h = search (rules, flat_map-not, traced-not, latest-not, origin-not)

pub heads-not : (q : ℕ) (log : List Visit) (next : ℕ) (row : Row) → stands_in q (leaves row) ≡ false → from_queue q (row_heads log next row) ≡ []
heads-not q log next end h = refl
heads-not q log next (leaf k row) h = heads-not q log next row (or-neither (k == q) (stands_in q (leaves row)) h).1
heads-not q log next (node class inputs row) h =
    let parts = stands-neither q (leaves inputs) (leaves row) h in
    from_queue-append q (own_heads log next inputs (manner class (width inputs))) _
    ∙ ap₂ (λ l m. l ++ m) (own-not q log next inputs (manner class (width inputs)) parts.0)
    (from_queue-append q (row_heads log (suc next) inputs) _ ∙ ap₂ (λ l m. l ++ m) (heads-not q log (suc next) inputs parts.0) (heads-not q log (suc (next + nodes inputs)) row parts.1))

-- the heads of a scheduler over inputs from which the queue doesn't come are none of its
pub node-not : (q : ℕ) (log : List Visit) (next : ℕ) (class : Scheduler) (inputs row : Row) → stands_in q (leaves inputs) ≡ false
    → from_queue q (row_heads log next (node class inputs row)) ≡ from_queue q (row_heads log (suc (next + nodes inputs)) row)
node-not q log next class inputs row h = search (rules, from_queue-append, own-not, heads-not)

-- a queue stands in a tree just where it stands in a row
abbrev pub StandsOnlyIn : ℕ → Tree → ℕ → ℕ → ℕ → Row → Type 0
StandsOnlyIn q tree above first next row = (x i : ℕ) → is_number q (queue_at tree x i) ≡ is_number q (queue_in above first next row x i)

pub only-after_leaf : (q : ℕ) (tree : Tree) (above first next k : ℕ) (row : Row) → above < next → (k == q) ≡ false → StandsOnlyIn q tree above first next (leaf k row) → StandsOnlyIn q tree above (suc first) next row
only-after_leaf q tree above first next k row o e only x i = search (rules, queue_in-earlier)

pub only-after_node : (q : ℕ) (tree : Tree) (above first next : ℕ) (class : Scheduler) (inputs row : Row) → above < next → stands_in q (leaves inputs) ≡ false
    → StandsOnlyIn q tree above first next (node class inputs row) → StandsOnlyIn q tree above (suc first) (suc (next + nodes inputs)) row
only-after_node q tree above first next class inputs row o h only x i = search (rules, queue_in-before, false≢true, or_none, queue_in-not, queue_in-after)

pub only-inputs : (q : ℕ) (tree : Tree) (above first next : ℕ) (class : Scheduler) (inputs row : Row) → stands_in q (leaves row) ≡ false → StandsOnlyIn q tree above first next (node class inputs row)
    → StandsOnlyIn q tree next 0 (suc next) inputs
only-inputs q tree above first next class inputs row h only x i = search (rules, queue_in-not)

-- a queue is asked by a fresh visit where it stands
pub asks-at : (q : ℕ) (fresh : Bool) (o : Option ℕ) → is_number q (if fresh then o else None) ≡ (fresh && is_number q o)
asks-at q fresh o = search rules

pub only-here : (q : ℕ) (tree : Tree) (above first next k : ℕ) (row : Row) → (k == q) ≡ true → stands_in q (leaves row) ≡ false → StandsOnlyIn q tree above first next (leaf k row)
    → (x i : ℕ) → is_number q (queue_at tree x i) ≡ ((x == above) && (i == first))
only-here q tree above first next k row e h only x i = search (rules, queue_in-not)
