-- The turn of a StrideSched.
use Rattle.std.proofs.Common.{◌≡◌, ℕ, suc, ◌+◌, ◌<◌, List, ◌∷◌, length, take, slice_get, slice_index, Option, Some, None, IsSome, IfSome, sym, ap, ap₂, ◌∙◌, subst, arith, rules}
use Rattle.std.specs.List.{AllByRecursion}
use Rattle.std.proofs.lemmas.List.{length-map}
use Rattle.std.proofs.lemmas.Option.{slice_get-get_or}
use Rattle.std.specs.Global.{Box}
use Rattle.clk_packet.specs.declared.packet.Packet.{Packet}
use Rattle.clk_sched.specs.declared.visit.Visit.{Visit}
use Rattle.clk_sched.specs.declared.session.inputs.Inputs.{Inputs}
use Rattle.clk_sched.specs.declared.session.nodes.Nodes.{Nodes}
use Rattle.clk_sched.specs.declared.session.state.State.{State}
use Rattle.clk_sched.specs.declared.session.state.State.TheVariants.{Stride}
use Rattle.clk_sched.specs.declared.session.stride.Passes.{Passes}
use Rattle.clk_packet.specs.Scheduler.{Scheduler, stride}
use Rattle.clk_sched.specs.Turns.{Turn, AsksInOrder, giver}
use Rattle.clk_sched.specs.inside.Holds.OfClass.{FitsPasses}
use Rattle.clk_sched.specs.inside.Holds.Stride.{HoldsPasses}
use Rattle.clk_sched.specs.inside.Places.{edges_of, edges_in, input_at}
use Rattle.clk_sched.specs.inside.Pulling.{Now, CanPull, AsksAll, TakesTurn, now_of, as_turn, with_turn, asked_in_order}
use Rattle.clk_sched.specs.inside.Ranks.{Ranked, AreInOrder, inputs_in}
use Rattle.clk_sched.specs.inside.Turning.{HasAskedAll, HadTurn}
use Rattle.clk_sched.specs.inside.Winning.{IsWonAt}
use Rattle.clk_sched.proofs.Classes.Orders.{IsOrderOf, stride-order}
use Rattle.clk_sched.proofs.Classes.StridePasses.{order-is, row-in_order}
use Rattle.clk_sched.proofs.Nodes.InOrder.{IsWithin, packet_of, HasTurnedBy, turned-in-order, in_order-giver, walked-inputs, with_turn-given, after-own}
use Rattle.clk_sched.proofs.Nodes.Ordered.{item-there, IsOrderAt, row-order, can-ask, inputs-asked, had-order}

-- by what a StrideSched holds, a scheduler of no other class has a turn
stride-alone : (a b : Nodes) (x : ℕ) (s : Box Passes) (now : State) (got : Option Packet) → ((tickets : List ℕ) → TakesTurn a b x (stride tickets) (Stride s) now got) → (class : Scheduler) → TakesTurn a b x class (Stride s) now got
stride-alone a b x s now got h (stride tickets) row history ready holds = h tickets row history ready holds
stride-alone a b x s now got h class row history ready holds = absurd holds

-- passes that fit the inputs of a node, if it is in the table
abbrev pub FitsAt : List Inputs → ℕ → Passes → Type 0
FitsAt table x s = IfSome (slice_get table x) (λ p. FitsPasses (length p.each.items) s)

-- The row of such passes names inputs that there are, and none twice.
pub stride-asks : (table : List Inputs) (x : ℕ) (s : Passes) (order : List ℕ) → FitsAt table x s → order ≡ inputs_in s.row.items → IsOrderAt table x order
stride-asks table x s order fits is p e =
    let here : FitsPasses (length p.each.items) s = subst (λ o. IfSome o (λ (q : Inputs). FitsPasses (length q.each.items) s)) e fits in
    subst (IsOrderOf (length p.each.items)) (sym (is ∙ order-is here.tickets here.turns s here.holds)) (stride-order here.tickets (length p.each.items) here.turns here.inputs_are)

-- The row of such passes is in order.
pub stride-in_order : (table : List Inputs) (x : ℕ) (s : Passes) → x < length table → FitsAt table x s → AreInOrder s.row.items
stride-in_order table x s there fits =
    let place = item-there table x there in
    let here : FitsPasses (length place.0.each.items) s = subst (λ o. IfSome o (λ (q : Inputs). FitsPasses (length q.each.items) s)) place.1 fits in
    row-in_order here.tickets here.turns s here.holds

won-turn : (now : Now) (x place moment : ℕ) (packet : Packet) (order tickets : List ℕ) (turns : List Turn) (s z : Passes) → order ≡ inputs_in s.row.items → place < length order → IsWonAt s z place
    → HoldsPasses tickets turns s → HoldsPasses tickets (as_turn moment (asked_in_order now x order (Some (place, packet))) ∷ turns) z
won-turn now x place moment packet order tickets turns s z is l won holds =
    won tickets turns (as_turn moment (asked_in_order now x order (Some (place, packet)))) holds
    (walked-inputs now x order place packet l ∙ ap₂ (λ n l. take n l) (let next : suc place ≡ place + 1 = omega arith in next) is)
    (in_order-giver now x order (Some (place, packet)) l ∙ sym (slice_get-get_or order place 0 l) ∙ ap (λ l. slice_get l place) is)

-- Such passes fit still, since the pull that was won is one more turn.
pub stride-fits : (table : List Inputs) (now : Now) (x place moment : ℕ) (packet : Packet) (order : List ℕ) (s z : Passes) → FitsAt table x s → order ≡ inputs_in s.row.items → place < length order
    → IsWonAt s z place → FitsAt table x z
stride-fits table now x place moment packet order s z fits is l won = by_place (slice_get table x) fits
  where
    by_place : (o : Option Inputs) → IfSome o (λ (p : Inputs). FitsPasses (length p.each.items) s) → IfSome o (λ (p : Inputs). FitsPasses (length p.each.items) z)
    by_place None h = tt
    by_place (Some p) h =
        record {
          tickets = h.tickets;
          turns = as_turn moment (asked_in_order now x order (Some (place, packet))) ∷ h.turns;
          inputs_are = h.inputs_are;
          holds = won-turn now x place moment packet order h.tickets h.turns s z is l won h.holds;
        }

-- what is held after a turn in which inputs were asked in this order
abbrev pub HoldsThen : Nodes → ℕ → List ℕ → Option (ℕ × Packet) → Passes → Passes → Type 0
HoldsThen a x order r s z = (tickets : List ℕ) (turns : List Turn) → HoldsPasses tickets turns s → HoldsPasses tickets (with_turn a.moment (asked_in_order (now_of a) x order r) turns) z

pub stride-won : (a : Nodes) (x place : ℕ) (packet : Packet) (order : List ℕ) (s z : Passes) → order ≡ inputs_in s.row.items → place < length order → IsWonAt s z place → HoldsThen a x order (Some (place, packet)) s z
stride-won a x place packet order s z is l won tickets turns holds =
    subst (λ ts. HoldsPasses tickets ts z) (sym (with_turn-given a.moment (asked_in_order (now_of a) x order (Some (place, packet))) turns (slice_index order place) (in_order-giver (now_of a) x order (Some (place, packet)) l)))
    (won-turn (now_of a) x place a.moment packet order tickets turns s z is l won holds)

none-turn : (moment : ℕ) (own : List Visit) (tickets : List ℕ) (turns : List Turn) (s : Passes) → giver own ≡ None → HoldsPasses tickets turns s → HoldsPasses tickets (with_turn moment own turns) s
none-turn moment own tickets turns s e holds = search rules

pub stride-none : (a : Nodes) (x : ℕ) (order : List ℕ) (s : Passes) → HoldsThen a x order None s s
stride-none a x order s tickets turns holds = none-turn a.moment (asked_in_order (now_of a) x order None) tickets turns s (in_order-giver (now_of a) x order None tt) holds

pub stride-turn : (a b : Nodes) (x : ℕ) (s z : Box Passes) (order : List ℕ) (r : Option (ℕ × Packet)) (tickets : List ℕ) → x < length a.inputs.items → FitsAt a.inputs.items x s.value → order ≡ inputs_in s.value.row.items → IsWithin order r
    → AsksAll a b x order (asked_in_order (now_of a) x order r) → HoldsThen a x order r s.value z.value → TakesTurn a b x (stride tickets) (Stride s) (Stride z) (packet_of r)
stride-turn a b x s z order r tickets there fits is within asked follows row history ready holds =
    record {
      turned = by.turned;
      holds = subst (λ turns. HoldsPasses tickets turns z.value) (sym (after-own a b history x own by.own_is)) (follows tickets (history x) holds);
    }
  where
    own : List Visit
    own = asked_in_order (now_of a) x order r

    by : HasTurnedBy a b history x (stride tickets) row own (packet_of r)
    by = turned-in-order a b history x (stride tickets) row order r ready within asked (row-order a.inputs.items x row order there ready.stands (stride-asks a.inputs.items x s.value order fits is))
        (λ h. subst (λ l. AsksInOrder l own) (is ∙ order-is tickets (history x) s.value holds) h)

-- what is wanted for asking the inputs of its row
pub stride-may : (a : Nodes) (x : ℕ) (s : Passes) (row : List Ranked) → CanPull a x (edges_of a.inputs.items x) → FitsAt a.inputs.items x s → row ≡ s.row.items
    → CanPull a x (edges_in a.inputs.items x (inputs_in row)) × AllByRecursion (λ i. IsSome (input_at a.inputs.items x i)) (inputs_in row)
stride-may a x s row can fits e =
    let is : IsOrderAt a.inputs.items x (inputs_in row) = stride-asks a.inputs.items x s (inputs_in row) fits (ap inputs_in e) in (can-ask a x (inputs_in row) can is, inputs-asked a.inputs.items x (inputs_in row) can.there is)

-- The input at a place of the row gave a packet.
pub had-won : {S : Type 0} (gives : S → ℕ → Option Packet → S → Type 0) (a b : Nodes) (q r : S) (x place : ℕ) (packet : Packet) (s z : Passes) (row : List Ranked) (o : Option (ℕ × Packet)) → CanPull a x (edges_of a.inputs.items x)
    → FitsAt a.inputs.items x s → row ≡ s.row.items → o ≡ Some (place, packet) → IfSome o (λ k. k.0 < length row) → HasAskedAll gives a b q r x (inputs_in row) o → IsWonAt s z place
    → (held holds : Box Passes) → held.value ≡ s → holds.value ≡ z → HadTurn gives a b q r x (Stride held) (Stride holds) (Some packet)
had-won gives a b q r x place packet s z row o can fits e is within asked won held holds before after =
    boxed (subst (FitsAt a.inputs.items x) (sym before) fits) (ap inputs_in e ∙ ap (λ (p : Passes). inputs_in p.row.items) (sym before))
    (subst (λ p. IsWonAt held.value p place) (sym after) (subst (λ p. IsWonAt p z place) (sym before) won))
  where
    order : List ℕ
    order = inputs_in row

    given : HasAskedAll gives a b q r x order (Some (place, packet))
    given = subst (HasAskedAll gives a b q r x order) is asked

    below : place < length order
    below = subst (λ n. place < n) (sym (length-map row (λ (k : Ranked). k.input))) (subst (λ k. IfSome k (λ g. g.0 < length row)) is within)

    boxed : FitsAt a.inputs.items x held.value → order ≡ inputs_in held.value.row.items → IsWonAt held.value holds.value place → HadTurn gives a b q r x (Stride held) (Stride holds) (Some packet)
    boxed fits e won =
        had-order gives a b q r x order (Some (place, packet)) (Stride held) (Stride holds) can (stride-asks a.inputs.items x held.value order fits e) given
        (stride-fits a.inputs.items (now_of a) x place a.moment packet order held.value holds.value fits e below won)
        (stride-alone a b x held (Stride holds) (Some packet)
        (λ tickets. stride-turn a b x held holds order (Some (place, packet)) tickets can.there fits e below given.asks (stride-won a x place packet order held.value holds.value e below won)))

-- None of them gave one.
pub had-lost : {S : Type 0} (gives : S → ℕ → Option Packet → S → Type 0) (a b : Nodes) (q r : S) (x : ℕ) (s : Passes) (row : List Ranked) (o : Option (ℕ × Packet)) → CanPull a x (edges_of a.inputs.items x) → FitsAt a.inputs.items x s
    → row ≡ s.row.items → o ≡ None → HasAskedAll gives a b q r x (inputs_in row) o → (held holds : Box Passes) → held.value ≡ s → holds.value ≡ s → HadTurn gives a b q r x (Stride held) (Stride holds) None
had-lost gives a b q r x s row o can fits e is asked held holds before after =
    let order = inputs_in row in
    let here : order ≡ inputs_in held.value.row.items = ap inputs_in e ∙ ap (λ (p : Passes). inputs_in p.row.items) (sym before) in
    let still : holds.value ≡ held.value = after ∙ sym before in
    let fits_here : FitsAt a.inputs.items x held.value = subst (FitsAt a.inputs.items x) (sym before) fits in
    let given : HasAskedAll gives a b q r x order None = subst (HasAskedAll gives a b q r x order) is asked in
    had-order gives a b q r x order None (Stride held) (Stride holds) can (stride-asks a.inputs.items x held.value order fits_here here) given (subst (FitsAt a.inputs.items x) (sym still) fits_here)
    (stride-alone a b x held (Stride holds) None
    (λ tickets. stride-turn a b x held holds order None tickets can.there fits_here here tt given.asks (subst (HoldsThen a x order None held.value) (sym still) (stride-none a x order held.value))))
