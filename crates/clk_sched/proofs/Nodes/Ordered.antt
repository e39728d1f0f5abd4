-- What it takes to ask the inputs of a node in an order that names none twice.
use Rattle.std.proofs.Common.{◌≡◌, ℕ, zero, suc, ◌+◌, ◌<◌, List, [], ◌∷◌, length, slice_get, Option, Some, IsSome, IfSome, MatchOption, refl, sym, ap, ◌∙◌, subst, arith, rules}
use Rattle.std.specs.List.{AllByRecursion}
use Rattle.std.proofs.lemmas.Option.{slice_get-get_or}
use Rattle.clk_packet.specs.declared.packet.Packet.{Packet}
use Rattle.clk_sched.specs.declared.session.inputs.Input.TheVariants.{Queue}
use Rattle.clk_sched.specs.declared.session.inputs.Inputs.{Inputs}
use Rattle.clk_sched.specs.declared.session.nodes.Nodes.{Nodes}
use Rattle.clk_sched.specs.declared.session.state.State.{State}
use Rattle.clk_packet.specs.Scheduler.{Scheduler}
use Rattle.clk_sched.specs.Tree.{Row, end, leaf, node, nodes, width}
use Rattle.clk_sched.specs.inside.Places.{inputs_of, StandsIn, edges_of, edges_in, input_at, option_input}
use Rattle.clk_sched.specs.inside.Holds.OfClass.{Fits}
use Rattle.clk_sched.specs.inside.Pulling.{AreApart, CanPull, Keeps, TakesTurn}
use Rattle.clk_sched.specs.inside.Turning.{HasAskedAll, HadTurn}
use Rattle.clk_sched.proofs.Lists.Members.{all-weaker}
use Rattle.clk_sched.proofs.Nodes.Asking.{keeps-more, keeps-ahead}
use Rattle.clk_sched.proofs.Nodes.Edges.{edges-order}
use Rattle.clk_sched.proofs.Nodes.InOrder.{packet_of}
use Rattle.clk_sched.proofs.Classes.Orders.{IsOrderOf}

length-inputs : (next : ℕ) (row : Row) → length (inputs_of next row) ≡ width row
length-inputs next end = refl
length-inputs next (leaf q row) = ap suc (length-inputs next row)
length-inputs next (node class inputs row) = ap suc (length-inputs (suc (next + nodes inputs)) row)

-- a node has as many inputs as its row
pub stands-width : (table : List Inputs) (x : ℕ) (row : Row) (p : Inputs) → StandsIn table x row → slice_get table x ≡ Some p → length p.each.items ≡ width row
stands-width table x row p h e = ap length (subst (λ o. MatchOption o ⊥ (λ (q : Inputs). q.each.items ≡ inputs_of (suc x) row)) e h.here) ∙ length-inputs (suc x) row

pub can-order : (a : Nodes) (x : ℕ) (p : Inputs) (order : List ℕ) → CanPull a x (edges_of a.inputs.items x) → slice_get a.inputs.items x ≡ Some p → AreApart (λ (i : ℕ). i) order
    → CanPull a x (edges_in a.inputs.items x order)
can-order a x p order can e apart = search (rules, edges-order)

pub order-there : (table : List Inputs) (x : ℕ) (p : Inputs) (order : List ℕ) → slice_get table x ≡ Some p → AllByRecursion (λ i. i < length p.each.items) order
    → AllByRecursion (λ i. IsSome (input_at table x i)) order
order-there table x p order e h =
    all-weaker (λ i. i < length p.each.items) (λ i. IsSome (input_at table x i)) order
    (λ i l. subst (λ o. IsSome (option_input o i)) (sym e) (subst IsSome (sym (slice_get-get_or p.each.items i (Queue 0) l)) refl)) h

pub keeps-order : {f : ℕ} (a b : Nodes) (x : ℕ) (p : Inputs) (order : List ℕ) → CanPull a x (edges_of a.inputs.items x) → slice_get a.inputs.items x ≡ Some p → AreApart (λ (i : ℕ). i) order
    → Keeps f a b (edges_in a.inputs.items x order) → Keeps f a b (edges_of a.inputs.items x)
keeps-order a b x p order can e apart h = keeps-more a b _ _ h (edges-order a.inputs.items x p order can.wired e apart)

-- what stands at a place of a list
pub item-there : {X : Type 0} (xs : List X) (i : ℕ) → i < length xs → (x : X) × (slice_get xs i ≡ Some x)
item-there [] i l = absurd (omega arith)
item-there (x ∷ xs) zero l = (x, refl)
item-there (x ∷ xs) (suc i) l = item-there xs i (omega arith)

-- an order of some inputs of a node
abbrev pub IsOrderAt : List Inputs → ℕ → List ℕ → Type 0
IsOrderAt table x order = (p : Inputs) → slice_get table x ≡ Some p → IsOrderOf (length p.each.items) order

-- What it takes to ask in such an order, and what stays.
pub can-ask : (a : Nodes) (x : ℕ) (order : List ℕ) → CanPull a x (edges_of a.inputs.items x) → IsOrderAt a.inputs.items x order → CanPull a x (edges_in a.inputs.items x order)
can-ask a x order can is = let p = item-there a.inputs.items x can.there in can-order a x p.0 order can p.1 (is p.0 p.1).apart

pub inputs-asked : (table : List Inputs) (x : ℕ) (order : List ℕ) → x < length table → IsOrderAt table x order → AllByRecursion (λ i. IsSome (input_at table x i)) order
inputs-asked table x order l is = let p = item-there table x l in order-there table x p.0 order p.1 (is p.0 p.1).within

pub keeps-asked : {f : ℕ} (a b : Nodes) (x : ℕ) (order : List ℕ) → CanPull a x (edges_of a.inputs.items x) → IsOrderAt a.inputs.items x order → Keeps f a b (edges_in a.inputs.items x order) → Keeps f a b (edges_of a.inputs.items x)
keeps-asked a b x order can is h = let p = item-there a.inputs.items x can.there in keeps-order a b x p.0 order can p.1 (is p.0 p.1).apart h

-- the same as an order of the inputs of the row that stands there
pub row-order : (table : List Inputs) (x : ℕ) (row : Row) (order : List ℕ) → x < length table → StandsIn table x row → IsOrderAt table x order → IsOrderOf (width row) order
row-order table x row order l stands is = let p = item-there table x l in subst (λ n. IsOrderOf n order) (stands-width table x row p.0 stands p.1) (is p.0 p.1)

-- Inputs were asked in an order, and that was a node's turn.
pub had-order : {S : Type 0} (gives : S → ℕ → Option Packet → S → Type 0) (a b : Nodes) (q r : S) (x : ℕ) (order : List ℕ) (o : Option (ℕ × Packet)) (before now : State) → CanPull a x (edges_of a.inputs.items x)
    → IsOrderAt a.inputs.items x order → HasAskedAll gives a b q r x order o → IfSome (slice_get a.inputs.items x) (λ (p : Inputs). Fits now (length p.each.items)) → ((class : Scheduler) → TakesTurn a b x class before now (packet_of o))
    → HadTurn gives a b q r x before now (packet_of o)
had-order gives a b q r x order o before now can is h fits turn = record { keeps = keeps-ahead (suc x) x a b _ (keeps-asked a b x order can is h.keeps) (omega arith); answers = h.answers; fits = fits; turn = turn }
