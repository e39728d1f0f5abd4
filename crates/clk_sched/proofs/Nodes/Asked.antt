-- A node that asks one of its inputs.
use Rattle.std.proofs.Common.{◌≡◌, ◌⊎◌, ℕ, suc, ◌+◌, ◌-◌, ◌<◌, ◌≤◌, true, List, length, get_or, slice_get, slice_index, Option, Some, None, IsSome, is_some, inl, inr, refl, sym, ap, ◌∙◌, arith, rules}
use Rattle.std.proofs.lemmas.Bool.{false≢true}
use Rattle.std.proofs.lemmas.Option.{slice_get-get_or, get_or_from_slice_get, slice_get-map}
use Rattle.clk_packet.specs.declared.packet.Packet.{Packet}
use Rattle.clk_sched.specs.declared.visit.Visit.{Visit}
use Rattle.clk_sched.specs.declared.session.nodes.Nodes.{Nodes}
use Rattle.clk_sched.specs.declared.session.inputs.Input.{Input}
use Rattle.clk_sched.specs.declared.session.inputs.Input.TheVariants.{Queue, Node}
use Rattle.clk_sched.specs.declared.session.inputs.Inputs.{Inputs}
use Rattle.clk_sched.specs.Tree.{Row, nodes}
use Rattle.clk_sched.specs.inside.Places.{inputs_of, StandsIn, AreWired, IsAfter, edges_of, edges_at, option_edges_to, input_at, option_input, queue_of, queue_asked}
use Rattle.clk_sched.specs.inside.Pulling.{CanPull, Keeps, Pulls, Asks, HasPulled, added, now_of, after}
use Rattle.clk_sched.specs.inside.Ranks.{Ranked, inputs_in}
use Rattle.clk_sched.proofs.Classes.RankLemmas.{read-at}
use Rattle.clk_sched.proofs.Lists.Members.{of-all, in-slice, some-below}
use Rattle.clk_sched.proofs.Trees.Below.{lies-within}
use Rattle.clk_sched.proofs.Nodes.Below.{IsChildAt, child-at, queue-at}
use Rattle.clk_sched.proofs.Nodes.Pulling.{pulling-asks, pulling-before}
use Rattle.clk_sched.proofs.Nodes.Asking.{added-none, keeps-more, keeps-ahead}

pub entry : {X : Type 0} (xs : List X) (i : ℕ) (x : X) → i < length xs → x ≡ get_or xs i x → slice_get xs i ≡ Some x
entry xs i x l e = slice_get-get_or xs i x l ∙ ap Some (sym e)

-- what stands at an input, as it is looked up
pub input-is : (table : List Inputs) (x i : ℕ) (p : Inputs) (input : Input) → slice_get table x ≡ Some p → IsSome (input_at table x i) → input ≡ get_or p.each.items i input → input_at table x i ≡ Some input
input-is table x i p input e h k = search (rules, entry, some-below)

pub row-input : (table : List Inputs) (x i : ℕ) (row : Row) (input : Input) → StandsIn table x row → input_at table x i ≡ Some input → slice_get (inputs_of (suc x) row) i ≡ Some input
row-input table x i row input h e = search rules

-- a scheduler at an input stands after its node, and can be pulled where its edge can be gone
pub child-after : (table : List Inputs) (x i child : ℕ) → AreWired table → input_at table x i ≡ Some (Node child) → (x < child) × (child < length table)
child-after table x i child wired e = by_place (slice_get table x) refl e
  where
    by_place : (o : Option Inputs) → slice_get table x ≡ o → option_input o i ≡ Some (Node child) → (x < child) × (child < length table)
    by_place None f k = absurd (false≢true (ap is_some k))
    by_place (Some p) f k = of-all (IsAfter (length table) x) (Node child) p.each.items (wired x p f).after (in-slice p.each.items i (Node child) k)

pub edges-scheduler : (table : List Inputs) (x i child : ℕ) → input_at table x i ≡ Some (Node child) → edges_at table x i ≡ suc (edges_of table child)
edges-scheduler table x i child e = ap (option_edges_to table) e

pub child-can : (a : Nodes) (x i child : ℕ) → CanPull a x (edges_at a.inputs.items x i) → input_at a.inputs.items x i ≡ Some (Node child) → (x < child) × CanPull a child (edges_of a.inputs.items child)
child-can a x i child can e =
    let after = child-after a.inputs.items x i child can.wired e in
    let edges = edges-scheduler a.inputs.items x i child e in
    let room = can.room in (after.0, record { wired = can.wired; fit = can.fit; there = after.1; room = omega (arith, edges, room); moment = can.moment })

-- What stays while a scheduler at an input is pulled stays for the node above it.
pub keeps-child : (a b : Nodes) (x i child : ℕ) → input_at a.inputs.items x i ≡ Some (Node child) → x < child → Keeps child a b (edges_of a.inputs.items child) → Keeps (suc x) a b (edges_at a.inputs.items x i - 1)
keeps-child a b x i child e after h = let edges = edges-scheduler a.inputs.items x i child e in keeps-ahead child (suc x) a b _ (keeps-more a b _ _ h (omega (arith, edges))) after

-- the queue that a visit asks at an input
pub queue-visited : (table : List Inputs) (x i : ℕ) (input : Input) (v : Visit) → input_at table x i ≡ Some input → v.node ≡ x → v.input ≡ i → v.fresh ≡ true → queue_asked table v ≡ queue_of (Some input)
queue-visited table x i input v e node at fresh = search

-- a queue is asked
pub asks-queue : (a : Nodes) (x i q : ℕ) (got : Option Packet) → input_at a.inputs.items x i ≡ Some (Queue q) → Asks a a x i got
asks-queue a x i q got e row history visits own going unasked v at input fresh gets = search (rules, queue-at, row-input, added-none, pulling-asks)

-- a scheduler is asked
pub asks-child : (a b : Nodes) (x i child : ℕ) (got : Option Packet) → input_at a.inputs.items x i ≡ Some (Node child) → Pulls a b child got → Asks a b x i got
asks-child a b x i child got e pulls row history visits own going unasked v at input fresh gets = (
  pulling-asks (now_of a) history x row a.states.items visits own going.pulling i unasked (added a b) got (here.asked (now_of a) history (added a b) got r.block) b.states.items
      (here.holds_back b.states.items (after history a.moment (added a b)) r.holds) (λ y away. r.outside y (search rules)) v at input fresh gets,
  λ y l. r.outside y (outside y l),
)
  where
    here : IsChildAt (suc x) row i child
    here = child-at (suc x) row i child (row-input a.inputs.items x i row (Node child) going.stands e)

    r : HasPulled a b history child here.class here.inputs got
    r = pulls here.class here.inputs history (here.stands a.inputs.items going.stands.below) (here.holds a.states.items history (pulling-before (now_of a) history x row a.states.items visits own going.pulling i unasked)) going.before

    outside : (y : ℕ) → (y ≤ x) ⊎ (suc (x + nodes row) ≤ y) → (y < child) ⊎ (suc (child + nodes here.inputs) ≤ y)
    outside y (inl l) = let k = here.ahead in inl (omega arith)
    outside y (inr l) = let k = (lies-within (suc x) row i (child + nodes here.inputs) (here.lies (child + nodes here.inputs) (omega arith) (omega arith))).1 in inr (omega arith)

-- an entry of a list of ranks names an input of its order
abbrev pub rank_at : List Ranked → ℕ → Ranked
rank_at order k = get_or order k (record { pass = 0; input = 0 })

pub entry-input : (order : List Ranked) (k : ℕ) → k < length order → (rank_at order k).input ≡ slice_index (inputs_in order) k
entry-input order k l = search (rules, get_or_from_slice_get, slice_get-map, slice_get-get_or)

pub read-input : (order : List Ranked) (k i : ℕ) (r : Ranked) → k < length order → r ≡ get_or order k r → i ≡ r.input → i ≡ slice_index (inputs_in order) k
read-input order k i r l is e = e ∙ ap (λ (s : Ranked). s.input) (read-at order k r (record { pass = 0; input = 0 }) l is) ∙ entry-input order k l
