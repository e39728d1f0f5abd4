-- Inputs that give nothing, since all queues below them are empty: what it visits below them, and what stays.
use Rattle.std.proofs.Common.{◌≡◌, ℕ, zero, suc, ◌+◌, ◌-◌, ◌<◌, ◌≤◌, nat_lt, Bool, true, false, List, [], ◌∷◌, ◌++◌, length, slice_get, Option, Some, None, IsSome, IfSome, MatchOption, refl, sym, ap, ap₂, ◌∙◌, subst, append-nil, append_assoc, arith, rules}
use Rattle.std.specs.List.{AllByRecursion, flat_map}
use Rattle.std.proofs.lemmas.List.{length-append}
use Rattle.std.proofs.lemmas.Bool.{false≢true}
use Rattle.std.proofs.lemmas.Bool.Decides.{nat_tests}
use Rattle.clk_packet.specs.declared.packet.Packet.{Packet}
use Rattle.clk_sched.specs.declared.visit.Visit.{Visit}
use Rattle.clk_sched.specs.declared.session.inputs.Below.{Below}
use Rattle.clk_sched.specs.declared.session.inputs.Input.{Input}
use Rattle.clk_sched.specs.declared.session.inputs.Input.TheVariants.{Queue, Node}
use Rattle.clk_sched.specs.declared.session.inputs.Inputs.{Inputs}
use Rattle.clk_sched.specs.declared.session.nodes.Nodes.{Nodes}
use Rattle.clk_sched.specs.declared.session.state.State.{State}
use Rattle.clk_sched.specs.declared.session.state.State.{State}
use Rattle.clk_sched.specs.Log.{asking}
use Rattle.clk_sched.specs.Answers.{Answers}
use Rattle.clk_sched.specs.inside.Places.{AreWired, below_of, IsWithin, edges_of, edges_at, edges_in, input_at, option_input, queue_asked}
use Rattle.clk_sched.specs.inside.Pulling.{CanPull, Keeps, Asks, added, now_of}
use Rattle.clk_sched.specs.inside.Looking.{Logs}
use Rattle.clk_sched.specs.inside.Resting.{block_below, block_to, resting_block, IsAtRest, AreAtRest, IsIdleAt, IsIdleTo, IsIdleNode, with_block}
use Rattle.clk_sched.specs.inside.Turning.{HasAsked, HasAskedAll, WasPulled}
use Rattle.clk_sched.proofs.Lists.Members.{of-all, in-slice}
use Rattle.clk_sched.proofs.Nodes.Asked.{child-after, child-can, keeps-child, queue-visited, asks-queue, asks-child}
use Rattle.clk_sched.proofs.Nodes.Asking.{IsAsking, answers-then, asking-first, can-go_on, keeps-more, keeps-none}
use Rattle.clk_sched.proofs.Nodes.InTwo.{asked-both}
use Rattle.clk_sched.proofs.Nodes.Logged.{asked-logged, queue-answers}

-- Visits that are logged in parts.
pub block-none : (a : Nodes) → with_block a [] ≡ a
block-none a =
    let spare : a.log.spare - 0 ≡ a.log.spare = omega arith in
    ap₂ (λ items spare. record { inputs = a.inputs; states = a.states; log = record { items = items; spare = spare; kind = a.log.kind }; pull = a.pull; moment = a.moment }) (append-nil a.log.items) spare

pub block-then : (a : Nodes) (one other : List Visit) → with_block (with_block a one) other ≡ with_block a (one ++ other)
block-then a one other =
    let size = length-append one other in
    let spare : a.log.spare - length one - length other ≡ a.log.spare - length (one ++ other) = omega (arith, size) in
    ap₂ (λ items spare. record { inputs = a.inputs; states = a.states; log = record { items = items; spare = spare; kind = a.log.kind }; pull = a.pull; moment = a.moment }) (append_assoc a.log.items one other) spare

block-logs : (a : Nodes) (v : Visit) → Logs a (with_block a (v ∷ [])) v
block-logs a v = record { inputs = refl; states = refl; pull = refl; moment = refl; log = refl }

pub block-next : (a : Nodes) (visits : List Visit) (v : Visit) → Logs (with_block a visits) (with_block a (visits ++ v ∷ [])) v
block-next a visits v = subst (λ c. Logs (with_block a visits) c v) (block-then a visits (v ∷ [])) (block-logs (with_block a visits) v)

-- What stands at an input was asked and gave nothing, and the visit is yet to be logged.
pub record IsReached {S : Type 0} (gives : S → ℕ → Option Packet → S → Type 0) (old new : Nodes) (q : S) (x i : ℕ) : Type 0 where
  pub keeps : Keeps (suc x) old new (edges_at old.inputs.items x i - 1)
  pub asks : Asks old new x i None
  pub answers : (v : Visit) → v.node ≡ x → v.input ≡ i → v.fresh ≡ true → v.got ≡ None → Answers gives (queue_asked old.inputs.items) q (added old new ++ v ∷ []) q

-- Nodes at rest can be pulled so many levels deep, and log their visits.
abbrev pub RestsTo : {S : Type 0} → (S → ℕ → Option Packet → S → Type 0) → S → ℕ → Type 0
RestsTo gives q deep =
    (a : Nodes) (x : ℕ) → length a.inputs.items ≤ x + deep → CanPull a x (edges_of a.inputs.items x) → IsIdleTo gives deep a.inputs.items a.states.items q x
    → WasPulled gives a (with_block a (resting_block deep a.inputs.items a.states.items (now_of a) x)) q q x None

-- the visits below an input, which stands there
abbrev below : ℕ → Nodes → Option Input → List Visit
below deep a input = block_below (λ m. resting_block deep a.inputs.items a.states.items (now_of a) m) input

reached-queue : {S : Type 0} (gives : S → ℕ → Option Packet → S → Type 0) (a : Nodes) (q : S) (x i leaf : ℕ) → CanPull a x (edges_at a.inputs.items x i) → input_at a.inputs.items x i ≡ Some (Queue leaf) → gives q leaf None q
    → IsReached gives a (with_block a []) q x i
reached-queue gives a q x i leaf can stands empty =
    subst (λ b. IsReached gives a b q x i) (sym (block-none a))
    (record {
      keeps = keeps-more a a 0 _ (keeps-none a can.fit) (omega arith);
      asks = asks-queue a x i leaf None stands;
      answers = queue-answers gives a q q x i leaf None stands empty;
    })

reached-node : {S : Type 0} (gives : S → ℕ → Option Packet → S → Type 0) (a b : Nodes) (q : S) (x i m : ℕ) → input_at a.inputs.items x i ≡ Some (Node m) → x < m → WasPulled gives a b q q m None → IsReached gives a b q x i
reached-node gives a b q x i m stands after h =
    record {
      keeps = keeps-child a b x i m stands after h.keeps;
      asks = asks-child a b x i m None stands h.pulls;
      answers = λ v node at fresh none. search (rules, h.answers, answers-then, (queue-visited a.inputs.items x i (Node m) v stands node at fresh));
    }

pub reached : {S : Type 0} (gives : S → ℕ → Option Packet → S → Type 0) (a : Nodes) (q : S) (deep x i : ℕ) → RestsTo gives q deep → length a.inputs.items ≤ suc x + deep → CanPull a x (edges_at a.inputs.items x i) → IsSome (input_at a.inputs.items x i)
    → IsIdleAt gives q (λ m. IsIdleTo gives deep a.inputs.items a.states.items q m) (input_at a.inputs.items x i) → IsReached gives a (with_block a (below deep a (input_at a.inputs.items x i))) q x i
reached gives a q deep x i rests low can there idle = by_input (input_at a.inputs.items x i) refl there idle
  where
    by_input : (o : Option Input) → input_at a.inputs.items x i ≡ o → IsSome o → IsIdleAt gives q (λ m. IsIdleTo gives deep a.inputs.items a.states.items q m) o → IsReached gives a (with_block a (below deep a o)) q x i
    by_input None e some idle = absurd (false≢true some)
    by_input (Some (Queue leaf)) e some idle = reached-queue gives a q x i leaf can e idle
    by_input (Some (Node m)) e some idle =
        let at = child-can a x i m can e in
        let after = at.0 in
        reached-node gives a (with_block a (below deep a (Some (Node m)))) q x i m e after (rests a m (omega (arith, low, after)) at.1 idle)

-- the visits below an input of a node, and the one to it
abbrev pub visits_to : ℕ → Nodes → ℕ → ℕ → List Visit
visits_to deep a x i = block_to (λ m. resting_block deep a.inputs.items a.states.items (now_of a) m) a.inputs.items (now_of a) x i

pub reached-logs : (a : Nodes) (deep x i : ℕ) → Logs (with_block a (below deep a (input_at a.inputs.items x i))) (with_block a (visits_to deep a x i)) (asking a.pull a.moment x i None)
reached-logs a deep x i = block-next a (below deep a (input_at a.inputs.items x i)) (asking a.pull a.moment x i None)

pub reached-asked : {S : Type 0} (gives : S → ℕ → Option Packet → S → Type 0) (a : Nodes) (q : S) (deep x i : ℕ) → RestsTo gives q deep → length a.inputs.items ≤ suc x + deep → CanPull a x (edges_at a.inputs.items x i) → IsSome (input_at a.inputs.items x i)
    → IsIdleAt gives q (λ m. IsIdleTo gives deep a.inputs.items a.states.items q m) (input_at a.inputs.items x i) → HasAsked gives a (with_block a (visits_to deep a x i)) q q x i None
reached-asked gives a q deep x i rests low can there idle =
    let h = reached gives a q deep x i rests low can there idle in
    asked-logged gives a (with_block a (below deep a (input_at a.inputs.items x i))) (with_block a (visits_to deep a x i)) q q x i None (asking a.pull a.moment x i None) there h.keeps h.answers h.asks refl (reached-logs a deep x i)

-- Inputs of a node were asked in an order, and none gave a packet.
pub reached-all : {S : Type 0} (gives : S → ℕ → Option Packet → S → Type 0) (a : Nodes) (q : S) (deep x : ℕ) (order : List ℕ) → RestsTo gives q deep → length a.inputs.items ≤ suc x + deep → CanPull a x (edges_in a.inputs.items x order)
    → AllByRecursion (λ i. IsSome (input_at a.inputs.items x i)) order → ((i : ℕ) → IsIdleAt gives q (λ m. IsIdleTo gives deep a.inputs.items a.states.items q m) (input_at a.inputs.items x i))
    → HasAskedAll gives a (with_block a (flat_map (visits_to deep a x) order)) q q x order None
reached-all gives a q deep x [] rests low can there idle = subst (λ b. IsAsking gives a b q q x []) (sym (block-none a)) (asking-first gives a q x can.fit)
reached-all gives a q deep x (i ∷ order) rests low can there idle =
    let room = can.room in
    let first = reached-asked gives a q deep x i rests low (record { wired = can.wired; fit = can.fit; there = can.there; room = omega (arith, room); moment = can.moment }) there.0 (idle i) in
    let b = with_block a (visits_to deep a x i) in
    let others = reached-all gives b q deep x order rests low (can-go_on a b x (edges_at a.inputs.items x i) (edges_in a.inputs.items x order) can first.keeps) there.1 idle in
    subst (λ c. HasAskedAll gives a c q q x (i ∷ order) None) (block-then a (visits_to deep a x i) (flat_map (visits_to deep a x) order))
    (asked-both gives a b (with_block b (flat_map (visits_to deep a x) order)) q q q x (i ∷ []) order None
    (record { keeps = keeps-more a b _ _ first.keeps (omega arith); answers = first.answers; asks = first.asks }) others)

-- A node whose leaves are all among queues that are known to be empty, and that is at rest as all nodes below it.
module _ {S : Type 0} (gives : S → ℕ → Option Packet → S → Type 0) (n : Nodes) (q : S) (x : ℕ) (b : Below) (wired : AreWired n.inputs.items) (leaves : ℕ) (wide : b.last < b.first + leaves)
    (empty : (k : ℕ) → k < leaves → gives q (b.first + k) None q) (rest : AreAtRest n.states.items x b.nodes) where
  -- what stands at an input of a node within that
  queue-idle : (leaf : ℕ) → b.first ≤ leaf → leaf ≤ b.last → gives q leaf None q
  queue-idle leaf low high = let same : b.first + (leaf - b.first) ≡ leaf = omega (arith, low) in subst (λ l. gives q l None q) same (empty (leaf - b.first) (omega (arith, low, high, wide)))

  abbrev IdleWithin : ℕ → Type 0
  IdleWithin deep = (y : ℕ) (p : Inputs) → slice_get n.inputs.items y ≡ Some p → x ≤ y → y + (below_of p).nodes ≤ x + b.nodes → b.first ≤ (below_of p).first → (below_of p).last ≤ b.last → IsIdleTo gives deep n.inputs.items n.states.items q y

  idle-step : (deep : ℕ) → IdleWithin deep → IdleWithin (suc deep)
  idle-step deep inner y p e after most low high = (rest y after (omega (arith, most)), λ i. by_input i (input_at n.inputs.items y i) refl)
    where
      stands : (i : ℕ) (input : Input) → input_at n.inputs.items y i ≡ Some input → IsWithin n.inputs.items y (below_of p) input
      stands i input k = of-all (IsWithin n.inputs.items y (below_of p)) input p.each.items (wired y p e).within (in-slice p.each.items i input (sym (ap (λ o. option_input o i) e) ∙ k))

      below_it : (m : ℕ) → y < m → (o : Option Inputs) → slice_get n.inputs.items m ≡ o
          → MatchOption o ⊥ (λ (c : Inputs). ((below_of p).first ≤ (below_of c).first) × ((below_of c).last ≤ (below_of p).last) × (m + (below_of c).nodes ≤ y + (below_of p).nodes)) → IsIdleTo gives deep n.inputs.items n.states.items q m
      below_it m past None f h = absurd h
      below_it m past (Some c) f h =
          inner m c f (omega (arith, after, past)) (let few = h.2 in omega (arith, most, few)) (let first = h.0 in omega (arith, low, first)) (let last = h.1 in omega (arith, high, last))

      by_input : (i : ℕ) (o : Option Input) → input_at n.inputs.items y i ≡ o → IsIdleAt gives q (λ m. IsIdleTo gives deep n.inputs.items n.states.items q m) o
      by_input i None k = tt
      by_input i (Some (Queue leaf)) k = let h = stands i (Queue leaf) k in queue-idle leaf (let l = h.0 in omega (arith, low, l)) (let l = h.1 in omega (arith, high, l))
      by_input i (Some (Node m)) k = below_it m (child-after n.inputs.items y i m wired k).0 (slice_get n.inputs.items m) refl (stands i (Node m) k)

  idle-within : (deep : ℕ) → IdleWithin deep
  idle-within zero y p e after most low high = tt
  idle-within (suc deep) y p e after most low high = idle-step deep (λ z c f a m l h. idle-within deep z c f a m l h) y p e after most low high

  pub idle-node : (p : Inputs) → slice_get n.inputs.items x ≡ Some p → below_of p ≡ b → IsIdleNode gives n q x
  idle-node p e is deep low =
      let same : (x + (below_of p).nodes ≤ x + b.nodes) × (b.first ≤ (below_of p).first) × ((below_of p).last ≤ b.last) = subst (λ (c : Below). (x + c.nodes ≤ x + b.nodes) × (b.first ≤ c.first) × (c.last ≤ b.last)) (sym is) (omega arith, omega arith, omega arith) in
      idle-within deep x p e (omega arith) same.0 same.1 same.2

-- one node more
pub rest-more : (states : List State) (x k : ℕ) → ((y : ℕ) → x ≤ y → y < x + k → IfSome (slice_get states y) IsAtRest) → IfSome (slice_get states (x + k)) IsAtRest → (y : ℕ) → x ≤ y → y < x + (k + 1) → IfSome (slice_get states y) IsAtRest
rest-more states x k each next y low high = by_place (nat_lt y (x + k)) refl
  where
    by_place : (b : Bool) → nat_lt y (x + k) ≡ b → IfSome (slice_get states y) IsAtRest
    by_place true is = each y low (grind (arith, nat_tests))
    by_place false is = let same : x + k ≡ y = let past : x + k ≤ y = grind (arith, nat_tests) in omega (arith, past, high) in subst (λ z. IfSome (slice_get states z) IsAtRest) same next
