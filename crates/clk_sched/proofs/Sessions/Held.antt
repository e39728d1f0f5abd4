-- What the states of nodes hold as heads is what their visits say.
use Rattle.std.proofs.lemmas.Grind.{common_steps}
use Rattle.std.proofs.Common.{◌≡◌, ℕ, zero, suc, ◌+◌, ◌<◌, ◌==◌, List, [], ◌∷◌, ◌++◌, length, map, reverse, take, get_or, Option, Some, None, MatchOption, slice_get, refl, sym, ap, ap₂, ◌∙◌, append_assoc, append-nil, arith, rules}
use Rattle.std.specs.List.{flat_map, filter_map, cons_option, range_with_len}
use Rattle.std.proofs.lemmas.List.{take_more, map-append, reverse-append}
use Rattle.std.proofs.lemmas.List.Elements.{filter_map-append}
use Rattle.std.proofs.lemmas.List.Concat.{flat_map-append}
use Rattle.clk_packet.specs.declared.packet.Packet.{Packet}
use Rattle.clk_sched.specs.declared.visit.Visit.{Visit}
use Rattle.clk_sched.specs.declared.session.drr.Served.{Served}
use Rattle.clk_sched.specs.declared.session.nodes.Nodes.{Nodes}
use Rattle.clk_sched.specs.declared.session.state.State.{State}
use Rattle.clk_sched.specs.declared.session.state.State.TheVariants.{Drr}
use Rattle.clk_packet.specs.Scheduler.{Scheduler, prio, drr}
use Rattle.clk_sched.specs.Tree.{Row, end, leaf, node, Tree, root, nodes, width}
use Rattle.clk_sched.specs.Turns.{Turn, visits_before}
use Rattle.clk_sched.specs.Heads.{head_at}
use Rattle.clk_sched.specs.Log.{visits_of, pulls}
use Rattle.clk_sched.specs.Laws.{manner}
use Rattle.clk_sched.specs.inside.Holds.OfClass.{Holds}
use Rattle.clk_sched.specs.Results.{heads, Traced, traced, held_at, own_heads}
use Rattle.clk_sched.proofs.Conservation.RowHeads.{row_heads, tree-heads}
use Rattle.clk_sched.specs.Run.{IsRun}
use Rattle.clk_sched.specs.inside.Pulling.{History, EachHolds}
use Rattle.clk_sched.specs.inside.Session.{history_of, IsAfterRun}
use Rattle.clk_sched.specs.inside.Held.{heads_in, heads_of, heads_of_all}
use Rattle.clk_sched.proofs.Runs.Blocks.{filter-flat_map}
use Rattle.clk_sched.proofs.Runs.Pulled.{joined}

-- what is there of the members up to the next
pub filter_map-more : {X Y : Type 0} (h : X → Option Y) (xs : List X) (i : ℕ) (x : X) → i < length xs → x ≡ get_or xs i x → filter_map h (take (i + 1) xs) ≡ filter_map h (take i xs) ++ cons_option (h x) []
filter_map-more h xs i x l e = grind (arith, common_steps, take_more, filter_map-append)

-- A history has all visits of a node.
pub visits-history : (ps : List (List Visit)) (x : ℕ) → visits_before (history_of ps x) ≡ flat_map (λ p. reverse (visits_of x p)) ps
visits-history [] x = refl
visits-history (p ∷ ps) x = search (rules, (visits-history ps x))

flat_map-reverse : {X Y : Type 0} (f : X → List Y) (xs : List X) → flat_map (λ x. reverse (f x)) (reverse xs) ≡ reverse (flat_map f xs)
flat_map-reverse f [] = refl
flat_map-reverse f (x ∷ xs) = grind (arith, common_steps, reverse-append, flat_map-append, append-nil, (flat_map-reverse f xs))

-- The visits in the history of a node are all that it made, the latest first.
pub visits-of_run : (tree : Tree) (log : List Visit) → IsRun tree log → (x : ℕ) → visits_before (history_of (reverse (pulls log)) x) ≡ reverse (visits_of x log)
visits-of_run tree log run x =
    visits-history (reverse (pulls log)) x ∙ flat_map-reverse (visits_of x) (pulls log)
    ∙ ap reverse (sym (ap (visits_of x) (joined tree log run) ∙ filter-flat_map (λ (v : Visit). v.node == x) (λ p. p) (pulls log)))

-- the packets of heads with their origins
abbrev without_origins : List Traced → List Packet
without_origins ts = map (λ (t : Traced). t.0) ts

traced-packet : (o : Option Packet) (origin : Option ℕ) → without_origins (traced o origin) ≡ cons_option o []
traced-packet o origin = search rules

cons-append : {X : Type 0} (o : Option X) (xs : List X) → cons_option o xs ≡ cons_option o [] ++ xs
cons-append o xs = search rules

-- the heads of inputs from one on
heads-of_inputs : (log : List Visit) (x : ℕ) (inputs : Row) (row : List Served) (i n : ℕ) → length row ≡ n
    → ((k : ℕ) (s : Served) → slice_get row k ≡ Some s → s.head ≡ head_at (i + k) (reverse (visits_of x log)))
    → heads_in row ≡ without_origins (flat_map (held_at log x inputs) (range_with_len i n))
heads-of_inputs log x inputs [] i zero e each = refl
heads-of_inputs log x inputs [] i (suc n) e each = absurd (omega arith)
heads-of_inputs log x inputs (s ∷ row) i zero e each = absurd (omega arith)
heads-of_inputs log x inputs (s ∷ row) i (suc n) e each =
    cons-append s.head (heads_in row)
    ∙ ap₂ (λ o l. cons_option o [] ++ l) (each 0 s refl ∙ ap (λ k. head_at k (reverse (visits_of x log))) (omega arith)) (heads-of_inputs log x inputs row (i + 1) n (omega arith) rest)
    ∙ ap (λ l. l ++ without_origins (flat_map (held_at log x inputs) (range_with_len (i + 1) n))) (sym (traced-packet (head_at i (reverse (visits_of x log))) _))
    ∙ sym (map-append (λ (t : Traced). t.0) (held_at log x inputs i) (flat_map (held_at log x inputs) (range_with_len (i + 1) n)))
  where
    rest : (k : ℕ) (t : Served) → slice_get row k ≡ Some t → t.head ≡ head_at ((i + 1) + k) (reverse (visits_of x log))
    rest k t f = each (suc k) t f ∙ ap (λ j. head_at j (reverse (visits_of x log))) (omega arith)

-- the heads of a node
heads-of_node : (log : List Visit) (x : ℕ) (class : Scheduler) (inputs : Row) (turns : List Turn) (s : State) → visits_before turns ≡ reverse (visits_of x log) → Holds class (width inputs) turns s
    → heads_of s ≡ without_origins (own_heads log x inputs (manner class (width inputs)))
heads-of_node log x (drr quanta) inputs turns (Drr d) e h =
    heads-of_inputs log x inputs d.value.row.items 0 (width inputs) h.length_is (λ k s f. (h.each k s f).head_is ∙ ap₂ head_at (omega arith) e)
heads-of_node log x (drr quanta) inputs turns s e h = absurd h
heads-of_node log x class inputs turns (Drr d) e h = absurd h
heads-of_node log x class inputs turns s e h = refl

-- the heads of the node of this number, and of so many nodes from one on
abbrev heads_there : Option State → List Packet
heads_there None = []
heads_there (Some s) = heads_of s

abbrev heads_from : List State → ℕ → ℕ → List Packet
heads_from states next zero = []
heads_from states next (suc n) = heads_there (slice_get states next) ++ heads_from states (suc next) n

from-split : (states : List State) (next m n : ℕ) → heads_from states next (m + n) ≡ heads_from states next m ++ heads_from states (next + m) n
from-split states next zero n = ap₂ (heads_from states) (omega arith) (omega arith)
from-split states next (suc m) n =
    ap (heads_from states next) (let e : suc m + n ≡ suc (m + n) = omega arith in e)
    ∙ ap (λ l. heads_there (slice_get states next) ++ l) (from-split states (suc next) m n ∙ ap (λ k. heads_from states (suc next) m ++ heads_from states k n) (omega arith))
    ∙ sym (append_assoc (heads_there (slice_get states next)) (heads_from states (suc next) m) (heads_from states (next + suc m) n))

from-later : (s : State) (states : List State) (next n : ℕ) → heads_from (s ∷ states) (suc next) n ≡ heads_from states next n
from-later s states next zero = refl
from-later s states next (suc n) = ap (λ l. heads_there (slice_get states next) ++ l) (from-later s states (suc next) n)

from-all : (states : List State) → heads_from states 0 (length states) ≡ heads_of_all states
from-all [] = refl
from-all (s ∷ states) = ap (λ l. heads_of s ++ l) (from-later s states 0 (length states) ∙ from-all states)

-- what is held by the node of a number
held-there : (log : List Visit) (x : ℕ) (class : Scheduler) (inputs : Row) (turns : List Turn) (o : Option State) → visits_before turns ≡ reverse (visits_of x log)
    → MatchOption o ⊥ (Holds class (width inputs) turns) → heads_there o ≡ without_origins (own_heads log x inputs (manner class (width inputs)))
held-there log x class inputs turns o e h = search (rules, heads-of_node)

-- the heads of a row
heads-of_row : (log : List Visit) (states : List State) (history : History) (next : ℕ) (row : Row) → ((x : ℕ) → visits_before (history x) ≡ reverse (visits_of x log))
    → EachHolds states history next row → heads_from states next (nodes row) ≡ without_origins (row_heads log next row)
heads-of_row log states history next end e h = refl
heads-of_row log states history next (leaf q row) e h = heads-of_row log states history next row e h
heads-of_row log states history next (node class inputs row) e h =
    ap₂ (λ l m. l ++ m) (held-there log next class inputs (history next) (slice_get states next) (e next) h.0)
    (from-split states (suc next) (nodes inputs) (nodes row)
    ∙ ap₂ (λ l m. l ++ m) (heads-of_row log states history (suc next) inputs e h.1)
    (ap (λ k. heads_from states k (nodes row)) (omega arith) ∙ heads-of_row log states history (suc (next + nodes inputs)) row e h.2)
    ∙ sym (map-append (λ (t : Traced). t.0) (row_heads log (suc next) inputs) (row_heads log (suc (next + nodes inputs)) row)))
    ∙ sym (map-append (λ (t : Traced). t.0) (own_heads log next inputs (manner class (width inputs))) (row_heads log (suc next) inputs ++ row_heads log (suc (next + nodes inputs)) row))

-- After a run the states of the nodes hold the heads that its log tells of.
pub heads-after_run : (tree : Tree) (n : Nodes) → IsAfterRun tree n → heads_of_all n.states.items ≡ heads tree n.log.items
heads-after_run tree n h =
    sym (from-all n.states.items) ∙ ap (heads_from n.states.items 0) (h.fit.lengths ∙ h.size)
    ∙ ap₂ (λ l m. l ++ m) (held-there n.log.items 0 prio (root tree) (history 0) (slice_get n.states.items 0) (visits 0) h.holds.here)
    (heads-of_row n.log.items n.states.items history 1 (root tree) visits h.holds.below)
    ∙ ap without_origins (sym (tree-heads tree n.log.items))
  where
    history : History
    history = history_of (reverse (pulls n.log.items))

    visits : (x : ℕ) → visits_before (history x) ≡ reverse (visits_of x n.log.items)
    visits x = visits-of_run tree n.log.items h.run x
