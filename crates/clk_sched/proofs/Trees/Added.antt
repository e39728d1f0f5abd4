-- How tables of nodes grow as trees are laid out in them.
use Rattle.std.proofs.lemmas.Grind.{common_steps}
use Rattle.std.proofs.Common.{◌≡◌, ℕ, suc, ◌+◌, ◌≤◌, List, [], ◌∷◌, ◌++◌, length, map, get_or, slice_set, sym, ap, ap₂, ◌∙◌, subst, append_assoc, length-append, add-suc, add-zero, arith, rules}
use Rattle.std.proofs.Math.Seq.{set-append_seam}
use Rattle.std.proofs.lemmas.List.{length-map, map-append, map-set}
use Rattle.clk_sched.specs.declared.session.inputs.Input.{Input}
use Rattle.clk_sched.specs.declared.session.inputs.Inputs.{Inputs}
use Rattle.clk_sched.specs.declared.session.layout.Tables.{Tables}
use Rattle.clk_sched.specs.declared.session.state.State.{State}
use Rattle.clk_sched.specs.declared.session.state.State.TheVariants.{Prio}
use Rattle.clk_packet.specs.Scheduler.{prio}
use Rattle.clk_sched.specs.Tree.{Row, end, leaf, node, Tree, root, nodes, width}
use Rattle.clk_sched.specs.Built.{row}
use Rattle.clk_sched.specs.inside.Places.{inputs_of, below_of}
use Rattle.clk_sched.specs.Session.{elements}
use Rattle.clk_sched.specs.inside.Holds.OfClass.{Holds}
use Rattle.clk_sched.specs.inside.LaidOut.{elements_of, nodes_of, input_of, below_row, entry, entry_over, entries, entries_of, Kind, kinds, kinds_of, AreFirst, Adds, AddsNode}
use Rattle.clk_sched.proofs.Trees.TreeLemmas.{rest}
use Rattle.clk_sched.proofs.Trees.LaidOut.{length-entries}

length-entries_of : (next : ℕ) (tree : Tree) → length (entries_of next tree) ≡ nodes_of tree
length-entries_of next tree = search (rules, length-entries)

pub nodes-elements : (below : Row) → nodes below ≤ elements below
nodes-elements end = omega arith
nodes-elements (leaf q below) = omega (arith, nodes-elements below)
nodes-elements (node class inputs below) = omega (arith, nodes-elements inputs, nodes-elements below)

pub nodes_of-elements_of : (tree : Tree) → nodes_of tree ≤ elements_of tree
nodes_of-elements_of tree = search (rules, nodes-elements)

-- what a tree and those after it make
inputs-row : (next : ℕ) (trees : List Tree) (first : Tree) → 1 ≤ length trees → first ≡ get_or trees 0 first → input_of next first ∷ inputs_of (next + nodes_of first) (row (rest trees)) ≡ inputs_of next (row trees)
inputs-row next trees first h e = grind (arith, common_steps, add-zero, add-suc)

-- how tables grow
pub adds-size : (a b : Tables) (tree : Tree) → Adds a b (entries_of (length a.inputs.items) tree) (kinds_of tree) → length b.inputs.items ≡ length a.inputs.items + nodes_of tree
adds-size a b tree f = search (rules, length-map, length-append, length-entries_of)

pub adds-row : (a b c : Tables) (trees : List Tree) (first : Tree) → 1 ≤ length trees → first ≡ get_or trees 0 first → Adds a b (entries_of (length a.inputs.items) first) (kinds_of first)
    → Adds b c (entries (length b.inputs.items) (row (rest trees))) (kinds (row (rest trees))) → Adds a c (entries (length a.inputs.items) (row trees)) (kinds (row trees))
adds-row a b c trees first h e f g = grind (arith, common_steps, adds-size)

pub inputs-more : (a b : Tables) (trees : List Tree) (first : Tree) (each : List Input) → 1 ≤ length trees → first ≡ get_or trees 0 first → Adds a b (entries_of (length a.inputs.items) first) (kinds_of first)
    → (each ++ input_of (length a.inputs.items) first ∷ []) ++ inputs_of (length b.inputs.items) (row (rest trees)) ≡ each ++ inputs_of (length a.inputs.items) (row trees)
inputs-more a b trees first each h e f = search (rules, append_assoc, adds-size, inputs-row)

are_first-then : (before : List Kind) (states : List State) (k : Kind) (s : State) → AreFirst before states → Holds k.0 k.1 [] s → AreFirst (before ++ k ∷ []) (states ++ s ∷ [])
are_first-then [] [] k s h f = (f, tt)
are_first-then [] (t ∷ states) k s h f = absurd h
are_first-then (j ∷ before) [] k s h f = absurd h
are_first-then (j ∷ before) (t ∷ states) k s h f = (h.0, are_first-then before states k s h.1 f)

-- A node is added: its entry takes the place that was kept for it.
pub adds-node : (old a b new : Tables) (below : Row) (state : State) (place p : Inputs) → a.inputs.items ≡ old.inputs.items ++ place ∷ [] → a.states.items ≡ old.states.items ++ state ∷ []
    → Adds a b (entries (length a.inputs.items) below) (kinds below) → p.each.items ≡ inputs_of (length a.inputs.items) below → below_of p ≡ below_row below
    → new.inputs.items ≡ slice_set b.inputs.items (length old.inputs.items) p → new.states.items ≡ b.states.items → AddsNode old new state below
adds-node old a b new below state place p kept held f each edges put same class holds =
    record {
      inputs =
          ap (map entry) put ∙ map-set entry b.inputs.items n p
          ∙ ap₂ (λ l e. slice_set l n e) (f.inputs ∙ ap₂ (λ l m. l ++ entries m below) (ap (map entry) kept ∙ map-append entry old.inputs.items (place ∷ [])) size ∙ append_assoc (map entry old.inputs.items) (entry place ∷ []) (entries (suc n) below))
          (ap₂ (λ l m. (l, m)) (each ∙ ap (λ m. inputs_of m below) size) edges)
          ∙ ap (λ m. slice_set (map entry old.inputs.items ++ (entry place ∷ entries (suc n) below)) m (entry_over n below)) (sym (length-map old.inputs.items entry))
          ∙ set-append_seam (map entry old.inputs.items) (entry place) (entries (suc n) below) (entry_over n below);
      states = λ before h.
          subst (AreFirst (before ++ ((class, width below) ∷ kinds below))) (sym same)
          (subst (λ l. AreFirst l b.states.items) (append_assoc before ((class, width below) ∷ []) (kinds below))
          (f.states (before ++ (class, width below) ∷ []) (subst (AreFirst (before ++ (class, width below) ∷ [])) (sym held) (are_first-then before old.states.items (class, width below) state h holds))));
    }
  where
    n : ℕ
    n = length old.inputs.items

    size : length a.inputs.items ≡ suc n
    size = ap length kept ∙ length-append old.inputs.items (place ∷ []) ∙ (let e : n + 1 ≡ suc n = omega arith in e)

pub row-root : (tree : Tree) → row (tree ∷ []) ≡ root tree
row-root tree = search rules

-- The device was added to empty tables, over a tree.
pub adds-device : (tree : Tree) (trees : List Tree) (old new : Tables) → trees ≡ tree ∷ [] → old.inputs.items ≡ [] → old.states.items ≡ [] → AddsNode old new Prio (row trees)
    → (map entry new.inputs.items ≡ entry_over 0 (root tree) ∷ entries 1 (root tree)) × AreFirst ((prio, width (root tree)) ∷ kinds (root tree)) new.states.items
adds-device tree trees old new one no_inputs no_states adds =
    let added = subst (AddsNode old new Prio) (ap row one ∙ row-root tree) adds prio tt in (
      added.inputs ∙ ap (λ l. map entry l ++ (entry_over (length l) (root tree) ∷ entries (suc (length l)) (root tree))) no_inputs,
      added.states [] (subst (AreFirst []) (sym no_states) tt),
    )
