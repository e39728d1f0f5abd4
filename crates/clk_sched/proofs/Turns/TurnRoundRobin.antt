-- The turn of a RoundRobinSched.
use Rattle.std.proofs.lemmas.Grind.{common_steps}
use Rattle.std.proofs.Common.{◌≡◌, ℕ, zero, suc, ◌+◌, ◌-◌, ◌*◌, ◌%◌, ◌<◌, ◌≤◌, List, ◌∷◌, ◌++◌, length, map, get_or, slice_get, slice_index, Option, Some, None, IsSome, IfSome, refl, sym, ap, ap₂, ◌∙◌, subst, mod-lt, mod-eq_of_lt, arith, rules}
use Rattle.std.specs.List.{AllByRecursion, range_with_len}
use Rattle.std.specs.Vec.{vec_len}
use Rattle.std.proofs.lemmas.List.{length-append}
use Rattle.std.proofs.lemmas.List.FromFn.{length-range_with_len, get_or-range_with_len}
use Rattle.std.proofs.lemmas.Nat.{mod-mul-add}
use Rattle.clk_packet.specs.declared.packet.Packet.{Packet}
use Rattle.clk_sched.specs.declared.visit.Visit.{Visit}
use Rattle.clk_sched.specs.declared.session.inputs.Inputs.{Inputs}
use Rattle.clk_sched.specs.declared.session.nodes.Nodes.{Nodes}
use Rattle.clk_sched.specs.declared.session.state.State.{State}
use Rattle.clk_sched.specs.declared.session.state.State.TheVariants.{RoundRobin}
use Rattle.clk_sched.specs.declared.session.round_robin.Beginning.{Beginning}
use Rattle.clk_packet.specs.Scheduler.{Scheduler, round_robin}
use Rattle.clk_sched.specs.Tree.{width}
use Rattle.clk_sched.specs.Turns.{AsksInOrder}
use Rattle.clk_sched.specs.Laws.RoundRobin.{beginning, round_robin_order}
use Rattle.clk_sched.specs.inside.Places.{edges_of, edges_in, input_at}
use Rattle.clk_sched.specs.inside.Pulling.{CanPull, Keeps, AsksAll, now_of, after, added, asked_in_order, TakesTurn}
use Rattle.clk_sched.specs.inside.Turning.{HasAskedAll, HadTurn}
use Rattle.clk_sched.proofs.Lists.Members.{all-weaker, all-split}
use Rattle.clk_sched.proofs.Lists.Ranges.{range-append}
use Rattle.clk_sched.proofs.Nodes.Asking.{keeps-more, keeps-ahead, asks-front, asked-vain, edges-append, apart-split, can-go_on}
use Rattle.clk_sched.proofs.Nodes.Asked.{entry}
use Rattle.clk_sched.proofs.Nodes.Placed.{fits-there, fits-each}
use Rattle.clk_sched.proofs.Nodes.InTwo.{past, past-length, in_order-first, index-first, index-second, asked-both}
use Rattle.clk_sched.proofs.Classes.Orders.{IsOrderOf, IsBeyond, around}
use Rattle.clk_sched.proofs.Classes.RoundRobinTurns.{round_robin-order}
use Rattle.clk_sched.proofs.Nodes.InOrder.{IsWithin, HasTurnedBy, packet_of, turned-in-order, after-own, giver_at, in_order-giver}
use Rattle.clk_sched.proofs.Nodes.Ordered.{stands-width, can-order, order-there, keeps-order}

-- by what a RoundRobinSched holds, a scheduler of no other class has a turn
round_robin-alone : (a b : Nodes) (x : ℕ) (s : Beginning) (now : State) (got : Option Packet) → TakesTurn a b x round_robin (RoundRobin s) now got → (class : Scheduler) → TakesTurn a b x class (RoundRobin s) now got
round_robin-alone a b x s now got h round_robin row history ready holds = h row history ready holds
round_robin-alone a b x s now got h class row history ready holds = absurd holds

-- numbers around so many, before they wrap and after
before-wrap : (n s j m : ℕ) → s + j + m ≤ n → map (λ k. (s + k) % n) (range_with_len j m) ≡ range_with_len (s + j) m
before-wrap n s j zero l = refl
before-wrap n s j (suc m) l = search (rules, mod-eq_of_lt, (before-wrap n s (j + 1) m (omega arith)))

after-wrap : (n s j m low : ℕ) → s + j ≡ n + low → low + m ≤ n → map (λ k. (s + k) % n) (range_with_len j m) ≡ range_with_len low m
after-wrap n s j zero low e l = refl
after-wrap n s j (suc m) low e l =
    let is : s + j ≡ 1 * n + low = omega (arith, e) in
    let here : (s + j) % n ≡ low = ap (λ k. k % n) is ∙ mod-mul-add 1 n low (omega arith) in
    ap₂ (λ i is. i ∷ is) here (after-wrap n s (j + 1) m (low + 1) (omega (arith, e)) (omega arith))

map-join : (f : ℕ → ℕ) (xs ys : List ℕ) → map f (xs ++ ys) ≡ map f xs ++ map f ys
map-join f xs ys = grind (arith, common_steps)

-- the order of a RoundRobinSched, in two parts
abbrev pub parts : ℕ → ℕ → List ℕ
parts first n = range_with_len first (n - first) ++ range_with_len 0 first

pub order-parts : (n first : ℕ) → first < n → map (λ k. (first + k) % n) (range_with_len 0 n) ≡ parts first n
order-parts n first l = search (rules, range-append, map-join, before-wrap, after-wrap)

-- the next beginning, by what was given
abbrev pub begins_next : ℕ → ℕ → Option ℕ → ℕ
begins_next n first None = first
begins_next n first (Some i) = (i + 1) % n

pub round_robin-turn : (a b : Nodes) (x n first next : ℕ) (p : Inputs) (r : Option (ℕ × Packet)) → slice_get a.inputs.items x ≡ Some p → n ≡ length p.each.items → first < n → IsWithin (parts first n) r
    → AsksAll a b x (parts first n) (asked_in_order (now_of a) x (parts first n) r) → next ≡ begins_next n first (giver_at (parts first n) r)
    → TakesTurn a b x round_robin (RoundRobin (record { input = first })) (RoundRobin (record { input = next })) (packet_of r)
round_robin-turn a b x n first next p r e all low within asked is row history ready holds =
    record {
      turned = done.turned;
      holds = is ∙ (search (rules, after-own, first_is, own, done, (giver_at order r), (in_order-giver (now_of a) x order r within))) ∙ ap (λ k. beginning k (after history a.moment (added a b) x)) inputs;
    }
  where
    order : List ℕ
    order = parts first n

    inputs : n ≡ width row
    inputs = all ∙ stands-width a.inputs.items x row p ready.stands e

    first_is : first ≡ beginning n (history x)
    first_is = holds ∙ ap (λ k. beginning k (history x)) (sym inputs)

    law : order ≡ round_robin_order n (history x)
    law = sym (order-parts n first low) ∙ ap (λ s. map (λ k. (s + k) % n) (range_with_len 0 n)) first_is

    own : List Visit
    own = asked_in_order (now_of a) x order r

    done : HasTurnedBy a b history x round_robin row own (packet_of r)
    done =
        turned-in-order a b history x round_robin row order r ready within asked
        (subst (λ k. IsOrderOf k order) inputs (subst (IsOrderOf n) (sym law) (round_robin-order n (history x) (omega arith))))
        (λ h. subst (λ k. AsksInOrder (round_robin_order k (history x)) own) inputs (subst (λ l. AsksInOrder l own) law h))

-- both parts name all inputs, and none twice
pub parts-order : (n first : ℕ) → first < n → IsOrderOf n (parts first n)
parts-order n first l =
    let all = around n first 0 n l (omega arith) in
    subst (IsOrderOf n) (order-parts n first l)
    (record { within = all-weaker (IsBeyond n first 0) (λ i. i < n) (map (λ k. (first + k) % n) (range_with_len 0 n)) (λ i b. b.place.within) all.0; apart = all.1 })

-- The inputs of a node, and the one at which it begins.
pub record Begins (table : List Inputs) (x n first : ℕ) : Type 0 where
  pub inputs : Inputs
  pub place : slice_get table x ≡ Some inputs
  pub count : n ≡ length inputs.each.items
  pub low : first < n
  pub few : n ≤ 64

pub begins : (a : Nodes) (x n : ℕ) (b : Beginning) (p : Inputs) → CanPull a x (edges_of a.inputs.items x) → p ≡ get_or a.inputs.items x p → n ≡ vec_len p.each
    → slice_get a.states.items x ≡ Some (RoundRobin b) → Begins a.inputs.items x n b.input
begins a x n b p can e all state =
    let place : slice_get a.inputs.items x ≡ Some p = entry a.inputs.items x p can.there e in
    let count : n ≡ length p.each.items = all ∙ p.each.ok.0 in
    let few = (can.wired x p place).few in
    record {
      inputs = p;
      place = place;
      count = count;
      low = subst (λ m. b.input < m) (sym count) (fits-each a.inputs.items x (RoundRobin b) (fits-there a.inputs.items a.states.items x (RoundRobin b) can.fit state) p place);
      few = omega (arith, few, count);
    }

-- what is wanted for asking the first part, and after that the second
abbrev pub MayAsk : Nodes → ℕ → ℕ → ℕ → Type 0
MayAsk a x first count = CanPull a x (edges_in a.inputs.items x (range_with_len first count)) × AllByRecursion (λ i. IsSome (input_at a.inputs.items x i)) (range_with_len first count) × (first + count ≤ 64)

there-both : (table : List Inputs) (x n first : ℕ) → Begins table x n first
    → AllByRecursion (λ i. IsSome (input_at table x i)) (range_with_len first (n - first)) × AllByRecursion (λ i. IsSome (input_at table x i)) (range_with_len 0 first)
there-both table x n first h =
    all-split (λ i. IsSome (input_at table x i)) (range_with_len first (n - first)) (range_with_len 0 first)
    (order-there table x h.inputs (parts first n) h.place (subst (λ k. AllByRecursion (λ i. i < k) (parts first n)) h.count (parts-order n first h.low).within))

pub may-first : (a : Nodes) (x n first : ℕ) → Begins a.inputs.items x n first → CanPull a x (edges_of a.inputs.items x) → MayAsk a x first (n - first)
may-first a x n first h can = let low = h.low in let few = h.few in (
  can-order a x h.inputs (range_with_len first (n - first)) can h.place (apart-split (range_with_len first (n - first)) (range_with_len 0 first) (parts-order n first h.low).apart).0,
  (there-both a.inputs.items x n first h).0,
  omega (arith, low, few),
)

pub may-second : {f : ℕ} (a b : Nodes) (x n first : ℕ) → Begins a.inputs.items x n first → CanPull a x (edges_of a.inputs.items x) → Keeps f a b (edges_in a.inputs.items x (range_with_len first (n - first))) → MayAsk b x 0 first
may-second a b x n first h can kept =
    let both = can-order a x h.inputs (parts first n) can h.place (parts-order n first h.low).apart in
    let edges = edges-append a.inputs.items x (range_with_len first (n - first)) (range_with_len 0 first) in
    let low = h.low in
    let few = h.few in (
      subst (λ t. CanPull b x (edges_in t x (range_with_len 0 first))) (sym kept.inputs)
          (can-go_on a b x (edges_in a.inputs.items x (range_with_len first (n - first))) (edges_in a.inputs.items x (range_with_len 0 first))
          (record { wired = both.wired; fit = both.fit; there = both.there; room = let r = both.room in omega (arith, edges); moment = both.moment }) kept),
      subst (λ t. AllByRecursion (λ i. IsSome (input_at t x i)) (range_with_len 0 first)) (sym kept.inputs) (there-both a.inputs.items x n first h).1,
      omega (arith, low, few),
    )

-- Both parts were asked, up to a place, and that was its turn.
pub had-both : {S : Type 0} (gives : S → ℕ → Option Packet → S → Type 0) (a b : Nodes) (q r : S) (x n first next : ℕ) (o : Option (ℕ × Packet)) → Begins a.inputs.items x n first → CanPull a x (edges_of a.inputs.items x)
    → HasAskedAll gives a b q r x (parts first n) o → IsWithin (parts first n) o → next ≡ begins_next n first (giver_at (parts first n) o) → next < n
    → HadTurn gives a b q r x (RoundRobin (record { input = first })) (RoundRobin (record { input = next })) (packet_of o)
had-both gives a b q r x n first next o h can asked within is lower =
    record {
      keeps = keeps-ahead (suc x) x a b _ (keeps-order a b x h.inputs (parts first n) can h.place (parts-order n first h.low).apart asked.keeps) (omega arith);
      answers = asked.answers;
      fits = subst (λ k. IfSome k (λ (p : Inputs). next < length p.each.items)) (sym h.place) (subst (λ m. next < m) h.count lower);
      turn = round_robin-alone a b x (record { input = first }) (RoundRobin (record { input = next })) (packet_of o) (round_robin-turn a b x n first next h.inputs o h.place h.count h.low within asked.asks is);
    }

-- The first part gave a packet.
pub had-first : {S : Type 0} (gives : S → ℕ → Option Packet → S → Type 0) (a b : Nodes) (q r : S) (x n first k : ℕ) (p : Packet) (o : Option (ℕ × Packet)) → Begins a.inputs.items x n first → CanPull a x (edges_of a.inputs.items x)
    → o ≡ Some (k, p) → IfSome o (λ g. g.0 < n - first) → HasAskedAll gives a b q r x (range_with_len first (n - first)) o
    → HadTurn gives a b q r x (RoundRobin (record { input = first })) (RoundRobin (record { input = (first + k + 1) % n })) (Some p)
had-first gives a b q r x n first k p o h can is place given =
    let low = h.low in
    had-both gives a b q r x n first ((first + k + 1) % n) (Some (k, p)) h can
    (record {
      keeps = keeps-more a b _ _ asked.keeps (omega (arith, edges));
      answers = asked.answers;
      asks = subst (AsksAll a b x (parts first n)) (in_order-first (now_of a) x one other k p inside) (asks-front a b x one other (asked_in_order (now_of a) x one (Some (k, p))) asked.asks);
    })
    (omega (arith, inside, length-append one other)) (ap (λ i. (i + 1) % n) (sym input)) (mod-lt (first + k + 1) (omega (arith, low)))
  where
    one : List ℕ
    one = range_with_len first (n - first)

    other : List ℕ
    other = range_with_len 0 first

    asked : HasAskedAll gives a b q r x one (Some (k, p))
    asked = subst (HasAskedAll gives a b q r x one) is given

    within : k < n - first
    within = subst (λ g. IfSome g (λ v. v.0 < n - first)) is place

    inside : k < length one
    inside = subst (λ m. k < m) (sym (length-range_with_len first (n - first))) within

    edges : edges_in a.inputs.items x (one ++ other) ≡ edges_in a.inputs.items x one + edges_in a.inputs.items x other
    edges = edges-append a.inputs.items x one other

    input : slice_index (parts first n) k ≡ first + k
    input = index-first one other k inside ∙ get_or-range_with_len first (n - first) k 0 within

-- The first part gave none, and the second a packet.
pub had-second : {S : Type 0} (gives : S → ℕ → Option Packet → S → Type 0) (a b c : Nodes) (q r s : S) (x n first k : ℕ) (p : Packet) (o u : Option (ℕ × Packet)) → Begins a.inputs.items x n first → CanPull a x (edges_of a.inputs.items x)
    → o ≡ None → HasAskedAll gives a b q r x (range_with_len first (n - first)) o → u ≡ Some (k, p) → IfSome u (λ g. g.0 < first) → HasAskedAll gives b c r s x (range_with_len 0 first) u
    → HadTurn gives a c q s x (RoundRobin (record { input = first })) (RoundRobin (record { input = k + 1 })) (Some p)
had-second gives a b c q r s x n first k p o u h can none vain is place given =
    let low = h.low in
    had-both gives a c q s x n first (k + 1) (Some (past one k, p)) h can
    (asked-both gives a b c q r s x one other (Some (k, p)) (asked-vain gives a b q r x one o none vain) (subst (HasAskedAll gives b c r s x other) is given))
    (omega (arith, within, past-length one k, length-append one other, length-range_with_len 0 first)) (sym (mod-eq_of_lt (omega (arith, within, low))) ∙ ap (λ i. (i + 1) % n) (sym input)) (omega (arith, within, low))
  where
    one : List ℕ
    one = range_with_len first (n - first)

    other : List ℕ
    other = range_with_len 0 first

    within : k < first
    within = subst (λ g. IfSome g (λ v. v.0 < first)) is place

    input : slice_index (parts first n) (past one k) ≡ k
    input = index-second one other k ∙ get_or-range_with_len 0 first k 0 within ∙ omega arith

-- Neither part gave one.
pub had-none : {S : Type 0} (gives : S → ℕ → Option Packet → S → Type 0) (a b c : Nodes) (q r s : S) (x n first : ℕ) (o u : Option (ℕ × Packet)) → Begins a.inputs.items x n first → CanPull a x (edges_of a.inputs.items x) → o ≡ None
    → HasAskedAll gives a b q r x (range_with_len first (n - first)) o → u ≡ None → HasAskedAll gives b c r s x (range_with_len 0 first) u
    → HadTurn gives a c q s x (RoundRobin (record { input = first })) (RoundRobin (record { input = first })) None
had-none gives a b c q r s x n first o u h can none vain neither given =
    let one = range_with_len first (n - first) in
    let other = range_with_len 0 first in
    had-both gives a c q s x n first first None h can (asked-both gives a b c q r s x one other None (asked-vain gives a b q r x one o none vain) (subst (HasAskedAll gives b c r s x other) neither given)) tt refl h.low
