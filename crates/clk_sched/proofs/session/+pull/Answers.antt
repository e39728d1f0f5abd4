use Rattle.std.proofs.Common.{IfSome, slice_get, ◌≡◌, ℕ, ◌+◌, ◌-◌, ◌<◌, ◌≤◌, true, List, [], ◌∷◌, length, vec_len, get_or, take, drop, Option, Some, None, IsSome, refl, sym, ap, ◌∙◌, subst, arith, rules}
use Rattle.std.specs.Global.{Box}
use Rattle.std.specs.List.{AllByRecursion, range_with_len}
use Rattle.std.proofs.lemmas.List.{length-drop, length-map}
use Rattle.std.proofs.lemmas.List.FromFn.{length-range_with_len, get_or-range_with_len}
use Rattle.clk_packet.specs.declared.packet.Packet.{Packet}
use Rattle.clk_sched.specs.declared.session.drr.Deficits.{Deficits}
use Rattle.clk_sched.specs.declared.session.stride.Passes.{Passes}
use Rattle.clk_sched.specs.declared.session.inputs.Inputs.{Inputs}
use Rattle.clk_sched.specs.declared.session.nodes.Nodes.{Nodes}
use Rattle.clk_sched.specs.declared.session.inputs.Input.TheVariants.{Node}
use Rattle.clk_sched.specs.declared.session.state.State.TheVariants.{RoundRobin, Drr, Stride}
use Rattle.clk_sched.specs.inside.Places.{edges_of, edges_in, input_at}
use Rattle.clk_sched.specs.inside.Holds.OfClass.{IsStride, IsShaper}
use Rattle.clk_sched.specs.inside.Pulling.{CanPull, Asks}
use Rattle.clk_sched.specs.inside.Ranks.{Ranked, AreInOrder, inputs_in}
use Rattle.clk_sched.proofs.Lists.Ranges.{range-front}
use Rattle.clk_sched.proofs.Nodes.Asking.{IsAsking, asking-first, asked-vain, answers-then, asking-ready, asking-given, asking-next, asking-all}
use Rattle.clk_sched.proofs.Nodes.Asked.{entry, read-input, input-is, child-after, keeps-child, queue-visited, asks-queue, asks-child}
use Rattle.clk_sched.proofs.Classes.RankLemmas.{after-place, inputs-after, in_order-after}
use Rattle.clk_sched.proofs.Nodes.Idle.{rest-can, asking-past, turn-can, turn-past}
use Rattle.clk_sched.proofs.Nodes.Placed.{can-turn, kept-there, passes-same, pulled-back, some-same, state-there}
use Rattle.clk_sched.proofs.Turns.TurnPrio.{prio-asks, prio-pulled}
use Rattle.clk_sched.proofs.Turns.TurnRoundRobin.{Begins, begins}
use Rattle.clk_sched.proofs.Turns.RoundRobinAsks as round
use Rattle.clk_sched.proofs.Turns.RoundRobinAsks.{round-none, on-begins, on-may, on-first, on-second-may, on-second, on-neither, on-same, on-found, on-few}
use Rattle.clk_sched.proofs.Nodes.First.{on-none, on-vain}
use Rattle.clk_sched.proofs.Nodes.Got.{pulled-got}
use Rattle.clk_sched.proofs.Nodes.Ordered.{item-there}
use Rattle.std.proofs.lemmas.Option.{get_or_from_slice_get}
use Rattle.clk_sched.specs.declared.session.round_robin.Beginning.{Beginning}
use Rattle.clk_sched.proofs.Nodes.Logged.{queue-answers, asked-logged}
use Rattle.clk_sched.proofs.Turns.LooksDrr.{looks-at-asked}
use Rattle.clk_sched.proofs.Turns.TurnDrr.{looks-below, making-first, making-can, making-next, making-passed, making-all, had-ended}
use Rattle.clk_sched.proofs.Turns.TurnStride.{stride-in_order}
use Rattle.clk_sched.proofs.Turns.StrideAsks.{left-after, left-order, turned-won, turned-lost, out-may, out-there, out-pulled, stride-there, first-may, first-some, first-order, first-won, stride-none}
use Rattle.clk_sched.proofs.Turns.ShaperRow.{below-refused, below-answered, whole-answered, answers-keep, goes-may, goes-room, goes-edges, goes-order, goes-inputs}
use Rattle.clk_sched.specs.inside.Tokens.{GoesDown}
use Rattle.clk_sched.specs.inside.Turning.{HasAsked, HasAskedAll, WasPulled}
use Rattle.clk_sched.specs.inside.Looking.{IsHead}
use Rattle.clk_sched.proofs.Nodes.InOrder.{packet_of}
use Rattle.clk_sched.proofs.session.+pull.Goals as goal
use Rattle.clk_sched.proofs.session.+pull.Goals.{nodes::Nodes::ask_in_turn-then-vain, nodes::Nodes::ask_in_turn-else-vain}

-- a box with something else in it
abbrev boxed : {X : Type 0} → Box X → X → Box X
boxed b x = record { ptr = b.ptr; alloc = b.alloc; value = x }

pub nodes::Nodes::ask-returns-in-Queue-clause-answers : goal.nodes::Nodes::ask-returns-in-Queue-clause-answers
nodes::Nodes::ask-returns-in-Queue-clause-answers g t c = search (rules, entry, input-is, queue-answers)

pub nodes::Nodes::ask-returns-in-Queue-clause-asks : goal.nodes::Nodes::ask-returns-in-Queue-clause-asks
nodes::Nodes::ask-returns-in-Queue-clause-asks g t c = search (rules, entry, input-is, asks-queue)

pub nodes::Nodes::ask-returns-in-Node-clause-keeps : goal.nodes::Nodes::ask-returns-in-Node-clause-keeps
nodes::Nodes::ask-returns-in-Node-clause-keeps g t c =
    let table = c.args.self.now.inputs.items in
    let place = entry table c.args.node c.index.result.now (c.requires.can_pull.there) c.index.ensures in
    let input : input_at table c.args.node c.args.input ≡ Some (Node c.in-Node.child) = input-is table c.args.node c.args.input c.index.result.now c.index-2.result.now place c.requires.within c.index-2.ensures ∙ ap Some c.in-Node.is in
    keeps-child c.args.self.now c.pull.new.self c.args.node c.args.input c.in-Node.child input (child-after table c.args.node c.args.input c.in-Node.child c.requires.can_pull.wired input).0 c.pull.ensures.keeps

pub nodes::Nodes::ask-returns-in-Node-clause-answers : goal.nodes::Nodes::ask-returns-in-Node-clause-answers
nodes::Nodes::ask-returns-in-Node-clause-answers g t c = search (rules, entry, input-is, answers-then, queue-visited)

pub nodes::Nodes::ask-returns-in-Node-clause-asks : goal.nodes::Nodes::ask-returns-in-Node-clause-asks
nodes::Nodes::ask-returns-in-Node-clause-asks g t c =
    let table = c.args.self.now.inputs.items in
    let place = entry table c.args.node c.index.result.now (c.requires.can_pull.there) c.index.ensures in
    let input : input_at table c.args.node c.args.input ≡ Some (Node c.in-Node.child) = input-is table c.args.node c.args.input c.index.result.now c.index-2.result.now place c.requires.within c.index-2.ensures ∙ ap Some c.in-Node.is in
    subst (Asks c.args.self.now c.pull.new.self c.args.node c.args.input) (sym c.packet.ensures)
    (asks-child c.args.self.now c.pull.new.self c.args.node c.args.input c.in-Node.child c.pull.result input c.pull.ensures.pulls)

pub nodes::Nodes::ask_in_order-pass_resting_of-place-requires-clause-can_pull : goal.nodes::Nodes::ask_in_order-pass_resting_of-place-requires-clause-can_pull
nodes::Nodes::ask_in_order-pass_resting_of-place-requires-clause-can_pull g t c =
    let now = c.loop-place.self in
    let k = c.loop-place.place in
    let rest = rest-can g.Q.Ask.gives c.args.self.now now c.args.q.now c.loop-place.q c.args.node k (inputs_in c.args.order.now) c.requires.can_pull c.requires.within c.loop-place.invariant.1 in
    subst (λ l. CanPull now c.args.node (edges_in now.inputs.items c.args.node l)) (sym (inputs-after c.args.order.now k)) rest.0

pub nodes::Nodes::ask_in_order-pass_resting_of-place-requires-clause-within : goal.nodes::Nodes::ask_in_order-pass_resting_of-place-requires-clause-within
nodes::Nodes::ask_in_order-pass_resting_of-place-requires-clause-within g t c =
    let now = c.loop-place.self in
    let k = c.loop-place.place in
    let rest = rest-can g.Q.Ask.gives c.args.self.now now c.args.q.now c.loop-place.q c.args.node k (inputs_in c.args.order.now) c.requires.can_pull c.requires.within c.loop-place.invariant.1 in
    subst (AllByRecursion (λ i. IsSome (input_at now.inputs.items c.args.node i))) (sym (inputs-after c.args.order.now k)) rest.1

pub nodes::Nodes::ask_in_order-pass_resting_of-place-requires-clause-order : goal.nodes::Nodes::ask_in_order-pass_resting_of-place-requires-clause-order
nodes::Nodes::ask_in_order-pass_resting_of-place-requires-clause-order g t c =
    subst AreInOrder (sym (after-place c.args.order.now c.loop-place.place)) (in_order-after c.loop-place.place c.args.order.now c.requires.order)

-- what was asked once so many more of an order were skipped
order-past : {S : Type 0} (gives : S → ℕ → Option Packet → S → Type 0) (a b c : Nodes) (p q : S) (x k n : ℕ) (order : List Ranked) → IsAsking gives a b p q x (take k (inputs_in order))
    → HasAskedAll gives b c q q x (take n (inputs_in (take (length order - k) (drop k order)))) None → IsAsking gives a c p q x (take (k + n) (inputs_in order))
order-past gives a b c p q x k n order h passed = asking-past gives a b c p q x k n (inputs_in order) h (subst (λ l. HasAskedAll gives b c q q x (take n l) None) (inputs-after order k) passed)

order-below : (k : ℕ) (order : List Ranked) → k < length order → k < length (inputs_in order)
order-below k order l = subst (λ n. k < n) (sym (length-map order (λ (r : Ranked). r.input))) l

order-within : (k n : ℕ) (order : List Ranked) → k < length order → n ≤ length (take (length order - k) (drop k order)) → k + n ≤ length order
order-within k n order l within = let size = ap length (after-place order k) ∙ length-drop k order in omega (arith, l, within, size)

pub nodes::Nodes::ask_in_order-look-requires : goal.nodes::Nodes::ask_in_order-look-requires
nodes::Nodes::ask_in_order-look-requires g t c =
    let order = c.args.order.now in
    let k = c.loop-place.place + c.pass_resting_of-place.result in
    let test : k < length order = c.if-place-order.true in
    let past = order-past g.Q.Ask.gives c.args.self.now c.loop-place.self c.pass_resting_of-place.new.self c.args.q.now c.loop-place.q c.args.node c.loop-place.place c.pass_resting_of-place.result order c.loop-place.invariant.1 c.pass_resting_of-place.ensures.asked in
    let ready = asking-ready g.Q.Ask.gives c.args.self.now c.pass_resting_of-place.new.self c.args.q.now c.loop-place.q c.args.node k c.input.result (inputs_in order) c.requires.can_pull c.requires.within past (order-below k order test) (read-input order k c.input.result c.index-order-place.result test c.index-order-place.is c.input.ensures) in
    let same = ap length past.keeps.inputs in
    let less = c.decreases in
    λ κs le. (omega (arith, same, less), (search, (ready.0, ready.1)))

pub nodes::Nodes::ask_in_order-returns-in-Some-clause-asked : goal.nodes::Nodes::ask_in_order-returns-in-Some-clause-asked
nodes::Nodes::ask_in_order-returns-in-Some-clause-asked g t c =
    let order = c.args.order.now in
    let k = c.loop-place.place + c.pass_resting_of-place.result in
    let test : k < length order = c.if-place-order.true in
    let past = order-past g.Q.Ask.gives c.args.self.now c.loop-place.self c.pass_resting_of-place.new.self c.args.q.now c.loop-place.q c.args.node c.loop-place.place c.pass_resting_of-place.result order c.loop-place.invariant.1 c.pass_resting_of-place.ensures.asked in
    asking-given g.Q.Ask.gives c.args.self.now c.pass_resting_of-place.new.self c.look.new.self c.args.q.now c.loop-place.q c.look.new.q c.args.node k c.input.result c.look.result c.in-Some.packet (inputs_in order) (order-below k order test) past (read-input order k c.input.result c.index-order-place.result test c.index-order-place.is c.input.ensures) c.in-Some.is c.look.ensures

pub nodes::Nodes::ask_in_order-loop-place-preserved-then-place-order : goal.nodes::Nodes::ask_in_order-loop-place-preserved-then-place-order
nodes::Nodes::ask_in_order-loop-place-preserved-then-place-order g t c =
    let order = c.args.order.now in
    let k = c.loop-place.place + c.pass_resting_of-place.result in
    let test : k < length order = c.if-place-order.true in
    let past = order-past g.Q.Ask.gives c.args.self.now c.loop-place.self c.pass_resting_of-place.new.self c.args.q.now c.loop-place.q c.args.node c.loop-place.place c.pass_resting_of-place.result order c.loop-place.invariant.1 c.pass_resting_of-place.ensures.asked in (
      omega (arith, test),
      asking-next g.Q.Ask.gives c.args.self.now c.pass_resting_of-place.new.self c.look.new.self c.args.q.now c.loop-place.q c.look.new.q c.args.node k c.input.result c.look.result (inputs_in order) (order-below k order test) past (read-input order k c.input.result c.index-order-place.result test c.index-order-place.is c.input.ensures) c.in_default.is c.look.ensures,
    )

pub nodes::Nodes::ask_in_order-loop-place-preserved : goal.nodes::Nodes::ask_in_order-loop-place-preserved
nodes::Nodes::ask_in_order-loop-place-preserved g t c = (
  order-within c.loop-place.place c.pass_resting_of-place.result c.args.order.now c.loop-place-test.true c.pass_resting_of-place.ensures.within,
  order-past g.Q.Ask.gives c.args.self.now c.loop-place.self c.pass_resting_of-place.new.self c.args.q.now c.loop-place.q c.args.node c.loop-place.place c.pass_resting_of-place.result c.args.order.now c.loop-place.invariant.1 c.pass_resting_of-place.ensures.asked,
)

pub nodes::Nodes::ask_in_order-returns-clause-asked : goal.nodes::Nodes::ask_in_order-returns-clause-asked
nodes::Nodes::ask_in_order-returns-clause-asked g t c = search (rules, length-map, asking-all)

pub nodes::Nodes::ask_in_turn-pass_idle-place-requires : goal.nodes::Nodes::ask_in_turn-pass_idle-place-requires
nodes::Nodes::ask_in_turn-pass_idle-place-requires g t c = search (rules, turn-can)

pub nodes::Nodes::ask_in_turn-look-requires : goal.nodes::Nodes::ask_in_turn-look-requires
nodes::Nodes::ask_in_turn-look-requires g t c =
    let order = range_with_len c.args.first c.args.count in
    let k = c.loop-place.place + c.pass_idle-place.result in
    let test : k < c.args.count = c.if-place-count.true in
    let within = c.pass_idle-place.ensures.within in
    let past = turn-past g.Q.Ask.gives c.args.self.now c.loop-place.self c.pass_idle-place.new.self c.args.q.now c.loop-place.q c.args.node c.args.first c.args.count c.loop-place.place c.pass_idle-place.result (omega (arith, test)) c.loop-place.invariant.1 c.pass_idle-place.ensures.asked in
    let ready = asking-ready g.Q.Ask.gives c.args.self.now c.pass_idle-place.new.self c.args.q.now c.loop-place.q c.args.node k (c.args.first + k) order c.requires.can_pull c.requires.within past (subst (λ n. k < n) (sym (length-range_with_len c.args.first c.args.count)) test) (sym (get_or-range_with_len c.args.first c.args.count k 0 test)) in
    let same = ap length past.keeps.inputs in
    let less = c.decreases in
    λ κs le. (omega (arith, same, less), (search, (ready.0, ready.1)))

pub nodes::Nodes::ask_in_turn-returns-in-Some : goal.nodes::Nodes::ask_in_turn-returns-in-Some
nodes::Nodes::ask_in_turn-returns-in-Some g t c =
    let order = range_with_len c.args.first c.args.count in
    let k = c.loop-place.place + c.pass_idle-place.result in
    let test : k < c.args.count = c.if-place-count.true in
    let past = turn-past g.Q.Ask.gives c.args.self.now c.loop-place.self c.pass_idle-place.new.self c.args.q.now c.loop-place.q c.args.node c.args.first c.args.count c.loop-place.place c.pass_idle-place.result (omega (arith, test)) c.loop-place.invariant.1 c.pass_idle-place.ensures.asked in
    record {
      place = test;
      asked = asking-given g.Q.Ask.gives c.args.self.now c.pass_idle-place.new.self c.look.new.self c.args.q.now c.loop-place.q c.look.new.q c.args.node k (c.args.first + k) c.look.result c.in-Some.packet order (subst (λ n. k < n) (sym (length-range_with_len c.args.first c.args.count)) test) past (sym (get_or-range_with_len c.args.first c.args.count k 0 test)) c.in-Some.is c.look.ensures;
    }

-- what was asked once an input gave nothing
turn-vain : {S : Type 0} (gives : S → ℕ → Option Packet → S → Type 0) (a b n c : Nodes) (p q r : S) (x first count k idle : ℕ) (got : Option Packet) → k + idle < count → IsAsking gives a b p q x (take k (range_with_len first count))
    → HasAskedAll gives b n q q x (range_with_len (first + k) idle) None → got ≡ None → HasAsked gives n c q r x (first + (k + idle)) got → IsAsking gives a c p r x (take (k + idle + 1) (range_with_len first count))
turn-vain gives a b n c p q r x first count k idle got below h past vain asked =
    asking-next gives a n c p q r x (k + idle) (first + (k + idle)) got (range_with_len first count) (subst (λ m. k + idle < m) (sym (length-range_with_len first count)) below) (turn-past gives a b n p q x first count k idle (omega (arith, below)) h past)
    (sym (get_or-range_with_len first count (k + idle) 0 below)) vain asked

pub nodes::Nodes::ask_in_turn-pass_resting-place-requires-then-place-count : goal.nodes::Nodes::ask_in_turn-pass_resting-place-requires-then-place-count
nodes::Nodes::ask_in_turn-pass_resting-place-requires-then-place-count g t c =
    let k = c.loop-place.place + c.pass_idle-place.result + 1 in
    let test : c.loop-place.place + c.pass_idle-place.result < c.args.count = c.if-place-count.true in
    let few = c.requires.few in
    let h = turn-vain g.Q.Ask.gives c.args.self.now c.loop-place.self c.pass_idle-place.new.self c.look.new.self c.args.q.now c.loop-place.q c.look.new.q c.args.node c.args.first c.args.count c.loop-place.place c.pass_idle-place.result c.look.result test
    c.loop-place.invariant.1 c.pass_idle-place.ensures.asked c.in_default.is c.look.ensures in
    let can = turn-can g.Q.Ask.gives c.args.self.now c.look.new.self c.args.q.now c.look.new.q c.args.node c.args.first c.args.count k (omega (arith, test)) c.requires.can_pull c.requires.within h in
    record { can_pull = can.0; within = can.1; few = omega (arith, test, few) }

pub nodes::Nodes::ask_in_turn-loop-place-init : goal.nodes::Nodes::ask_in_turn-loop-place-init
nodes::Nodes::ask_in_turn-loop-place-init g t c =
    elim c.if-vain.branch [
      | nodes::Nodes::ask_in_turn-then-vain w ↦ search (rules, asked-vain, range-front)
      | nodes::Nodes::ask_in_turn-else-vain w ↦ (
        omega arith,
        subst (λ k. IsAsking g.Q.Ask.gives c.args.self.now c.if-vain.self c.args.q.now c.args.q.now c.args.node (take k (range_with_len c.args.first c.args.count))) (sym w.place-is)
            (subst (λ now. IsAsking g.Q.Ask.gives c.args.self.now now c.args.q.now c.args.q.now c.args.node []) (sym w.self-is) (asking-first g.Q.Ask.gives c.args.self.now c.args.q.now c.args.node c.requires.can_pull.fit)),
      )
    ]

pub nodes::Nodes::ask_in_turn-loop-place-preserved-then-place-count : goal.nodes::Nodes::ask_in_turn-loop-place-preserved-then-place-count
nodes::Nodes::ask_in_turn-loop-place-preserved-then-place-count g t c =
    let k = c.loop-place.place + c.pass_idle-place.result + 1 in
    let test : c.loop-place.place + c.pass_idle-place.result < c.args.count = c.if-place-count.true in
    let within = c.pass_resting-place-then-place-count.ensures.within in
    let most : k + c.pass_resting-place-then-place-count.result ≤ c.args.count = omega (arith, test, within) in
    let h = turn-vain g.Q.Ask.gives c.args.self.now c.loop-place.self c.pass_idle-place.new.self c.look.new.self c.args.q.now c.loop-place.q c.look.new.q c.args.node c.args.first c.args.count c.loop-place.place c.pass_idle-place.result c.look.result test
    c.loop-place.invariant.1 c.pass_idle-place.ensures.asked c.in_default.is c.look.ensures in
    (most, turn-past g.Q.Ask.gives c.args.self.now c.look.new.self c.pass_resting-place-then-place-count.new.self c.args.q.now c.look.new.q c.args.node c.args.first c.args.count k c.pass_resting-place-then-place-count.result most h c.pass_resting-place-then-place-count.ensures.asked)

pub nodes::Nodes::ask_in_turn-loop-place-preserved : goal.nodes::Nodes::ask_in_turn-loop-place-preserved
nodes::Nodes::ask_in_turn-loop-place-preserved g t c =
    let test = c.loop-place-test.true in
    let within = c.pass_idle-place.ensures.within in
    let most : c.loop-place.place + c.pass_idle-place.result ≤ c.args.count = omega (arith, test, within) in
    (most, turn-past g.Q.Ask.gives c.args.self.now c.loop-place.self c.pass_idle-place.new.self c.args.q.now c.loop-place.q c.args.node c.args.first c.args.count c.loop-place.place c.pass_idle-place.result most c.loop-place.invariant.1 c.pass_idle-place.ensures.asked)

pub nodes::Nodes::ask_in_turn-returns : goal.nodes::Nodes::ask_in_turn-returns
nodes::Nodes::ask_in_turn-returns g t c = search (rules, length-range_with_len, asking-all)

pub nodes::Nodes::look-returns : goal.nodes::Nodes::look-returns
nodes::Nodes::look-returns g t c = search (rules, asked-logged)

pub prio::pull_prio-ask_in_turn-requires : goal.prio::pull_prio-ask_in_turn-requires
prio::pull_prio-ask_in_turn-requires g t c =
    let p = c.index.result.now in
    let place = entry c.args.nodes.now.inputs.items c.args.node p c.requires.can_pull.there c.index.ensures in
    let count = c.len-inputs.ensures ∙ p.each.ok.0 in
    let may = prio-asks c.args.nodes.now c.args.node c.len-inputs.result p c.requires.can_pull place count in
    λ κs le. (omega arith, (search, (may.0, (may.1, may.2))))

pub prio::pull_prio-returns-in-Some : goal.prio::pull_prio-returns-in-Some
prio::pull_prio-returns-in-Some g t c =
    let p = c.index.result.now in
    let place = entry c.args.nodes.now.inputs.items c.args.node p c.requires.can_pull.there c.index.ensures in
    let count = c.len-inputs.ensures ∙ p.each.ok.0 in
    pulled-got c.new.ensures
    (subst (WasPulled g.Q.Ask.gives c.args.nodes.now c.ask_in_turn.new.self c.args.q.now c.ask_in_turn.new.q c.args.node) (ap packet_of c.in-Some.is ∙ ap Some (sym c.in-Some.packet-is))
    (prio-pulled g.Q.Ask.gives c.args.nodes.now c.ask_in_turn.new.self c.args.q.now c.ask_in_turn.new.q c.args.node c.len-inputs.result p c.ask_in_turn.result c.requires.can_pull c.requires.holds place count c.ask_in_turn.ensures.place c.ask_in_turn.ensures.asked))

pub prio::pull_prio-returns-in-None : goal.prio::pull_prio-returns-in-None
prio::pull_prio-returns-in-None g t c =
    let p = c.index.result.now in
    let place = entry c.args.nodes.now.inputs.items c.args.node p c.requires.can_pull.there c.index.ensures in
    let count = c.len-inputs.ensures ∙ p.each.ok.0 in
    pulled-got c.new-in-None.ensures
    (prio-pulled g.Q.Ask.gives c.args.nodes.now c.ask_in_turn.new.self c.args.q.now c.ask_in_turn.new.q c.args.node c.len-inputs.result p None c.requires.can_pull c.requires.holds place count tt
    (subst (HasAskedAll g.Q.Ask.gives c.args.nodes.now c.ask_in_turn.new.self c.args.q.now c.ask_in_turn.new.q c.args.node (range_with_len 0 c.len-inputs.result)) c.in-None.is c.ask_in_turn.ensures.asked))

pub nodes::Nodes::pull-ask_on-requires : goal.nodes::Nodes::pull-ask_on-requires
nodes::Nodes::pull-ask_on-requires g t c =
    let a = c.args.self.now in
    let x = c.args.node in
    let there = state-there a x _ c.requires.can_pull in
    let begun = entry a.states.items x c.index.result.now there c.index.ensures ∙ ap Some c.in-Stride.is in
    λ κs le. (omega arith, (search, (c.in-Stride.passes, on-none g.Q.Ask.gives a c.args.q.now x (Stride c.in-Stride.passes) (inputs_in c.in-Stride.passes.value.row.items) c.requires.can_pull begun)))

pub nodes::Nodes::pull-returns-then-is_vain : goal.nodes::Nodes::pull-returns-then-is_vain
nodes::Nodes::pull-returns-then-is_vain g t c =
    let a = c.args.self.now in
    let x = c.args.node in
    let there = state-there a x _ c.requires.can_pull in
    let begun = entry a.states.items x c.index.result.now there c.index.ensures ∙ ap Some c.in-Stride.is in
    c.ask_on.ensures c.in-Stride.passes (on-none g.Q.Ask.gives a c.args.q.now x (Stride c.in-Stride.passes) (inputs_in c.in-Stride.passes.value.row.items) c.requires.can_pull begun)

pub nodes::Nodes::pull-pull-requires-else-is_vain : goal.nodes::Nodes::pull-pull-requires-else-is_vain
nodes::Nodes::pull-pull-requires-else-is_vain g t c =
    let a = c.args.self.now in
    let x = c.args.node in
    let there = state-there a x _ c.requires.can_pull in
    let begun = entry a.states.items x c.index.result.now there c.index.ensures ∙ ap Some c.in-Stride.is in
    λ κs le. (omega arith, (search, (c.requires.can_pull, subst (λ o. IfSome o IsStride) (sym begun) tt)))

pub nodes::Nodes::pull-pull-requires-in-Shaper : goal.nodes::Nodes::pull-pull-requires-in-Shaper
nodes::Nodes::pull-pull-requires-in-Shaper g t c =
    let a = c.args.self.now in
    let x = c.args.node in
    let there = state-there a x _ c.requires.can_pull in
    let begun = entry a.states.items x c.index.result.now there c.index.ensures ∙ ap Some c.in-Shaper.is in
    λ κs le. (omega arith, (search, (c.requires.can_pull, subst (λ o. IfSome o IsShaper) (sym begun) tt)))

pub drr::Deficits::look_by_asking-returns : goal.drr::Deficits::look_by_asking-returns
drr::Deficits::look_by_asking-returns g t c = search (rules, looks-at-asked)

pub drr::Deficits::turn-loop-looks-init : goal.drr::Deficits::turn-loop-looks-init
drr::Deficits::turn-loop-looks-init g t c = search (rules, making-first)

pub drr::Deficits::turn-look_at_head-requires-clause-can_pull : goal.drr::Deficits::turn-look_at_head-requires-clause-can_pull
drr::Deficits::turn-look_at_head-requires-clause-can_pull g t c =
    let below : c.loop-looks.looks < length c.args.self.now.row.items = looks-below c.args.self.now c.loop-looks.looks c.len-inputs.result c.loop-looks-test.true c.len-inputs.ensures in
    (making-can g.Q.Ask.gives c.args.nodes.now c.loop-looks.nodes c.args.q.now c.loop-looks.q c.args.node c.args.self.now c.loop-looks.self c.loop-looks.looks c.requires.can_pull c.requires.fits c.loop-looks.invariant.0 below).0

pub drr::Deficits::turn-look_at_head-requires-clause-within : goal.drr::Deficits::turn-look_at_head-requires-clause-within
drr::Deficits::turn-look_at_head-requires-clause-within g t c =
    let below : c.loop-looks.looks < length c.args.self.now.row.items = looks-below c.args.self.now c.loop-looks.looks c.len-inputs.result c.loop-looks-test.true c.len-inputs.ensures in
    (making-can g.Q.Ask.gives c.args.nodes.now c.loop-looks.nodes c.args.q.now c.loop-looks.q c.args.node c.args.self.now c.loop-looks.self c.loop-looks.looks c.requires.can_pull c.requires.fits c.loop-looks.invariant.0 below).1

pub drr::Deficits::turn-returns-then-look_at_head : goal.drr::Deficits::turn-returns-then-look_at_head
drr::Deficits::turn-returns-then-look_at_head g t c = search (rules, looks-below, had-ended, making-passed)

pub drr::Deficits::turn-loop-looks-preserved-in-Some : goal.drr::Deficits::turn-loop-looks-preserved-in-Some
drr::Deficits::turn-loop-looks-preserved-in-Some g t c = search (rules, looks-below, making-next)

pub drr::Deficits::turn-look_by_asking-got-requires : goal.drr::Deficits::turn-look_by_asking-got-requires
drr::Deficits::turn-look_by_asking-got-requires g t c =
    let below : c.loop-looks.looks < length c.args.self.now.row.items = looks-below c.args.self.now c.loop-looks.looks c.len-inputs.result c.loop-looks-test.true c.len-inputs.ensures in
    let can = making-can g.Q.Ask.gives c.args.nodes.now c.loop-looks.nodes c.args.q.now c.loop-looks.q c.args.node c.args.self.now c.loop-looks.self c.loop-looks.looks c.requires.can_pull c.requires.fits c.loop-looks.invariant.0 below in
    λ κs le. (omega arith, (search, (can.0, (can.1, subst (IsHead c.loop-looks.self) c.in-None.is c.head-head.ensures.held))))

pub drr::Deficits::turn-returns-then-passed : goal.drr::Deficits::turn-returns-then-passed
drr::Deficits::turn-returns-then-passed g t c = search (rules, looks-below, had-ended, making-passed)

pub drr::Deficits::turn-pass_over_idle-looks-requires : goal.drr::Deficits::turn-pass_over_idle-looks-requires
drr::Deficits::turn-pass_over_idle-looks-requires g t c =
    let below : c.loop-looks.looks < length c.args.self.now.row.items = looks-below c.args.self.now c.loop-looks.looks c.len-inputs.result c.loop-looks-test.true c.len-inputs.ensures in
    record {
      first = c.args.nodes.now;
      before = c.args.q.now;
      begun = c.args.self.now;
      looks = c.loop-looks.looks;
      can = c.requires.can_pull;
      fits = c.requires.fits;
      making = c.loop-looks.invariant.0;
      within = omega (arith, below);
    }

pub drr::Deficits::turn-loop-looks-preserved-then-vain : goal.drr::Deficits::turn-loop-looks-preserved-then-vain
drr::Deficits::turn-loop-looks-preserved-then-vain g t c =
    let below : c.loop-looks.looks < length c.args.self.now.row.items = looks-below c.args.self.now c.loop-looks.looks c.len-inputs.result c.loop-looks-test.true c.len-inputs.ensures in
    let few = c.pass_over_idle-looks.ensures.few in (
      c.pass_over_idle-looks.ensures.goes_on c.args.nodes.now c.args.q.now c.args.self.now c.loop-looks.looks c.loop-looks.invariant.0 (omega (arith, below, few)),
      omega (arith, below, few),
    )

pub drr::Deficits::turn-loop-looks-preserved : goal.drr::Deficits::turn-loop-looks-preserved
drr::Deficits::turn-loop-looks-preserved g t c = search (rules, looks-below, making-next)

pub drr::Deficits::turn-returns : goal.drr::Deficits::turn-returns
drr::Deficits::turn-returns g t c =
    let a = c.args.nodes.now in
    let x = c.args.node in
    let d = c.args.self.now in
    let all : c.loop-looks.looks ≡ length d.row.items = let f = c.loop-looks-test.false in let m = c.loop-looks.invariant.1 in omega (arith, f, m) in
    had-ended g.Q.Ask.gives a c.loop-looks.nodes c.args.q.now c.loop-looks.q x d c.loop-looks.self None c.requires.can_pull c.requires.fits (making-all g.Q.Ask.gives a c.loop-looks.nodes c.args.q.now c.loop-looks.q x d c.loop-looks.self c.loop-looks.looks c.loop-looks.invariant.0 all)

pub round_robin::Beginning::pull-ask_first-requires : goal.round_robin::Beginning::pull-ask_first-requires
round_robin::Beginning::pull-ask_first-requires g t c =
    λ κs le. (omega arith, (search, (c.requires.can_pull, subst (λ o. IfSome o (λ input. slice_get c.args.nodes.now.states.items c.args.node ≡ Some (RoundRobin (record { input = input })))) c.in-Some.is c.first_input.ensures)))

pub round_robin::Beginning::pull-ask_on-requires : goal.round_robin::Beginning::pull-ask_on-requires
round_robin::Beginning::pull-ask_on-requires g t c = λ κs le. (omega arith, (search, round-none g.Q.Ask.gives c.args.nodes.now c.args.q.now c.args.node c.requires.can_pull c.requires.holds))

pub round_robin::Beginning::pull-returns-in-None : goal.round_robin::Beginning::pull-returns-in-None
round_robin::Beginning::pull-returns-in-None g t c = let on = round-none g.Q.Ask.gives c.args.nodes.now c.args.q.now c.args.node c.requires.can_pull c.requires.holds in c.ask_on.ensures on.0 on.1

-- what stands at a node, in words of the inputs it has
round-begins : (a : Nodes) (x : ℕ) (b : Beginning) → CanPull a x (edges_of a.inputs.items x) → slice_get a.states.items x ≡ Some (RoundRobin b) → (p : Inputs) × Begins a.inputs.items x (vec_len p.each) b.input × (slice_get a.inputs.items x ≡ Some p)
round-begins a x b can begun = let p = item-there a.inputs.items x can.there in (p.0, begins a x (vec_len p.0.each) b p.0 can (sym (get_or_from_slice_get a.inputs.items x p.0 p.0 p.1)) refl begun, p.1)

pub round_robin::Beginning::ask_first-look-requires : goal.round_robin::Beginning::ask_first-look-requires
round_robin::Beginning::ask_first-look-requires g t c =
    let a = c.args.nodes.now in
    let x = c.args.node in
    let b : Beginning = record { input = c.args.input } in
    let begins = round-begins a x b c.requires.can_pull c.requires.holds in
    let may = round.first-may g.Q.Ask.gives a c.args.q.now x (vec_len begins.0.each) b c.requires.can_pull c.requires.holds begins.1 in
    λ κs le. (omega arith, (search, (may.0, may.1)))

pub round_robin::Beginning::ask_first-ask_on-requires : goal.round_robin::Beginning::ask_first-ask_on-requires
round_robin::Beginning::ask_first-ask_on-requires g t c =
    let a = c.args.nodes.now in
    let b : Beginning = record { input = c.args.input } in
    let same = ap length c.look.ensures.keeps.inputs in
    λ κs le. (
      omega (arith, same),
      (
        search,
        (b, on-vain g.Q.Ask.gives a c.look.new.self c.args.q.now c.look.new.q c.args.node c.args.input (RoundRobin b) (c.args.input ∷ []) c.look.result c.requires.can_pull c.requires.holds refl c.in_default.is c.look.ensures),
      ),
    )

pub round_robin::Beginning::ask_first-returns-in_default : goal.round_robin::Beginning::ask_first-returns-in_default
round_robin::Beginning::ask_first-returns-in_default g t c =
    let a = c.args.nodes.now in
    let b : Beginning = record { input = c.args.input } in
    c.ask_on.ensures b (on-vain g.Q.Ask.gives a c.look.new.self c.args.q.now c.look.new.q c.args.node c.args.input (RoundRobin b) (c.args.input ∷ []) c.look.result c.requires.can_pull c.requires.holds refl c.in_default.is c.look.ensures)

pub round_robin::Beginning::ask_first-input_after-requires : goal.round_robin::Beginning::ask_first-input_after-requires
round_robin::Beginning::ask_first-input_after-requires g t c =
    let a = c.args.nodes.now in
    let x = c.args.node in
    let b : Beginning = record { input = c.args.input } in
    let p = c.index.result.now in
    let h = begins a x c.len-inputs.result b p c.requires.can_pull (subst (λ l. p ≡ get_or l x p) c.look.ensures.keeps.inputs c.index.ensures) c.len-inputs.ensures c.requires.holds in
    h.low

pub round_robin::Beginning::ask_first-returns : goal.round_robin::Beginning::ask_first-returns
round_robin::Beginning::ask_first-returns g t c =
    let a = c.args.nodes.now in
    let x = c.args.node in
    let b : Beginning = record { input = c.args.input } in
    let p = c.index.result.now in
    let h = begins a x c.len-inputs.result b p c.requires.can_pull (subst (λ l. p ≡ get_or l x p) c.look.ensures.keeps.inputs c.index.ensures) c.len-inputs.ensures c.requires.holds in
    pulled-got c.new.ensures
    (round.first-gave g.Q.Ask.gives a c.args.q.now x c.len-inputs.result b c.requires.can_pull c.requires.holds h c.look.new.self c.begin_at.new.nodes c.look.new.q c.input_after.result c.look.result c.in-Some.packet c.in-Some.is c.look.ensures c.input_after.ensures c.begin_at.ensures)

pub round_robin::Beginning::ask_on-overflow_add-first : goal.round_robin::Beginning::ask_on-overflow_add-first
round_robin::Beginning::ask_on-overflow_add-first g t c =
    let few = on-few g.Q.Ask.gives c.args.nodes.now c.args.q.now c.args.node c.args.asked c.of-beginning.result c.len-inputs.result c.index.result.now c.of-beginning.ensures c.requires c.index.ensures c.len-inputs.ensures in
    omega (arith, few)

pub round_robin::Beginning::ask_on-overflow_sub-inputs : goal.round_robin::Beginning::ask_on-overflow_sub-inputs
round_robin::Beginning::ask_on-overflow_sub-inputs g t c =
    let few = on-few g.Q.Ask.gives c.args.nodes.now c.args.q.now c.args.node c.args.asked c.of-beginning.result c.len-inputs.result c.index.result.now c.of-beginning.ensures c.requires c.index.ensures c.len-inputs.ensures in
    omega (arith, few)

pub round_robin::Beginning::ask_on-overflow_sub-inputs-2 : goal.round_robin::Beginning::ask_on-overflow_sub-inputs-2
round_robin::Beginning::ask_on-overflow_sub-inputs-2 g t c =
    let few = on-few g.Q.Ask.gives c.args.nodes.now c.args.q.now c.args.node c.args.asked c.of-beginning.result c.len-inputs.result c.index.result.now c.of-beginning.ensures c.requires c.index.ensures c.len-inputs.ensures in
    omega (arith, few)

pub round_robin::Beginning::ask_on-overflow_add-first-in-Some : goal.round_robin::Beginning::ask_on-overflow_add-first-in-Some
round_robin::Beginning::ask_on-overflow_add-first-in-Some g t c =
    let few = on-few g.Q.Ask.gives c.args.nodes.now c.args.q.now c.args.node c.args.asked c.of-beginning.result c.len-inputs.result c.index.result.now c.of-beginning.ensures c.requires c.index.ensures c.len-inputs.ensures in
    let within = subst (λ k. IfSome k (λ g. g.0 < c.len-inputs.result - c.of-beginning.result.input - c.args.asked)) c.in-Some.is c.ask_in_turn.ensures.place in
    omega (arith, few, within)

pub round_robin::Beginning::ask_on-overflow_add-first-in-Some-2 : goal.round_robin::Beginning::ask_on-overflow_add-first-in-Some-2
round_robin::Beginning::ask_on-overflow_add-first-in-Some-2 g t c =
    let few = on-few g.Q.Ask.gives c.args.nodes.now c.args.q.now c.args.node c.args.asked c.of-beginning.result c.len-inputs.result c.index.result.now c.of-beginning.ensures c.requires c.index.ensures c.len-inputs.ensures in
    let within = subst (λ k. IfSome k (λ g. g.0 < c.len-inputs.result - c.of-beginning.result.input - c.args.asked)) c.in-Some.is c.ask_in_turn.ensures.place in
    omega (arith, few, within)

pub round_robin::Beginning::ask_on-ask_in_turn-requires : goal.round_robin::Beginning::ask_on-ask_in_turn-requires
round_robin::Beginning::ask_on-ask_in_turn-requires g t c =
    let n = c.args.nodes.now in
    let b = c.of-beginning.result in
    let p = c.index.result.now in
    let count = c.len-inputs.result in
    let all = c.len-inputs.ensures in
    let place = c.index.ensures in
    let m = on-found g.Q.Ask.gives n c.args.q.now c.args.node c.args.asked b c.of-beginning.ensures c.requires in
    let may = on-may g.Q.Ask.gives n c.args.q.now c.args.node c.args.asked b m count p place all in
    λ κs le. (omega arith, (search, (may.0, (may.1, may.2))))

pub round_robin::Beginning::ask_on-returns-in-Some : goal.round_robin::Beginning::ask_on-returns-in-Some
round_robin::Beginning::ask_on-returns-in-Some g t c d k =
    let n = c.args.nodes.now in
    let b = c.of-beginning.result in
    let p = c.index.result.now in
    let count = c.len-inputs.result in
    let all = c.len-inputs.ensures in
    let place = c.index.ensures in
    pulled-got c.new.ensures
    (on-same g.Q.Ask.gives n c.begin_at.new.nodes c.args.q.now c.ask_in_turn.new.q c.args.node c.args.asked b d (Some c.in-Some.packet) c.of-beginning.ensures
    (λ m.
    on-first g.Q.Ask.gives n c.args.q.now c.args.node c.args.asked b m count p place all c.ask_in_turn.new.self c.begin_at.new.nodes c.ask_in_turn.new.q c.in-Some.place c.input_after-input.result c.in-Some.packet c.ask_in_turn.result c.in-Some.is c.ask_in_turn.ensures.place
    c.ask_in_turn.ensures.asked c.input_after-input.ensures c.begin_at.ensures) k)

pub round_robin::Beginning::ask_on-ask_in_turn-requires-2 : goal.round_robin::Beginning::ask_on-ask_in_turn-requires-2
round_robin::Beginning::ask_on-ask_in_turn-requires-2 g t c =
    let n = c.args.nodes.now in
    let b = c.of-beginning.result in
    let p = c.index.result.now in
    let count = c.len-inputs.result in
    let all = c.len-inputs.ensures in
    let place = c.index.ensures in
    let m = on-found g.Q.Ask.gives n c.args.q.now c.args.node c.args.asked b c.of-beginning.ensures c.requires in
    let may = on-second-may g.Q.Ask.gives n c.args.q.now c.args.node c.args.asked b m count p place all c.ask_in_turn.new.self c.ask_in_turn.new.q c.ask_in_turn.result c.ask_in_turn.ensures.asked in
    let same = ap length c.ask_in_turn.ensures.asked.keeps.inputs in
    λ κs le. (omega (arith, same), (search, (may.0, (may.1, may.2))))

pub round_robin::Beginning::ask_on-returns-in-Some-ask_in_turn : goal.round_robin::Beginning::ask_on-returns-in-Some-ask_in_turn
round_robin::Beginning::ask_on-returns-in-Some-ask_in_turn g t c d k =
    let n = c.args.nodes.now in
    let b = c.of-beginning.result in
    let p = c.index.result.now in
    let count = c.len-inputs.result in
    let all = c.len-inputs.ensures in
    let place = c.index.ensures in
    pulled-got c.new-in-Some-ask_in_turn.ensures
    (on-same g.Q.Ask.gives n c.begin_at-in-Some-ask_in_turn.new.nodes c.args.q.now c.ask_in_turn-2.new.q c.args.node c.args.asked b d (Some c.in-Some-ask_in_turn.packet) c.of-beginning.ensures
    (λ m.
    on-second g.Q.Ask.gives n c.args.q.now c.args.node c.args.asked b m count p place all c.ask_in_turn.new.self c.ask_in_turn-2.new.self c.begin_at-in-Some-ask_in_turn.new.nodes c.ask_in_turn.new.q c.ask_in_turn-2.new.q c.in-Some-ask_in_turn.place c.in-Some-ask_in_turn.packet c.ask_in_turn.result c.ask_in_turn-2.result
    c.in_default.is c.ask_in_turn.ensures.asked c.in-Some-ask_in_turn.is c.ask_in_turn-2.ensures.place c.ask_in_turn-2.ensures.asked c.begin_at-in-Some-ask_in_turn.ensures) k)

pub round_robin::Beginning::ask_on-returns-in-None : goal.round_robin::Beginning::ask_on-returns-in-None
round_robin::Beginning::ask_on-returns-in-None g t c d k =
    let n = c.args.nodes.now in
    let b = c.of-beginning.result in
    let p = c.index.result.now in
    let count = c.len-inputs.result in
    let all = c.len-inputs.ensures in
    let place = c.index.ensures in
    pulled-got c.new-in-None.ensures
    (on-same g.Q.Ask.gives n c.ask_in_turn-2.new.self c.args.q.now c.ask_in_turn-2.new.q c.args.node c.args.asked b d None c.of-beginning.ensures
    (λ m.
    on-neither g.Q.Ask.gives n c.args.q.now c.args.node c.args.asked b m count p place all c.ask_in_turn.new.self c.ask_in_turn-2.new.self c.ask_in_turn.new.q c.ask_in_turn-2.new.q c.ask_in_turn.result c.ask_in_turn-2.result c.in_default.is c.ask_in_turn.ensures.asked c.in-None.is
    c.ask_in_turn-2.ensures.asked) k)

pub stride::Passes::turn-ask_in_order-requires : goal.stride::Passes::turn-ask_in_order-requires
stride::Passes::turn-ask_in_order-requires g t c =
    let n = c.args.nodes.now in
    let x = c.args.node in
    let after = sym (left-after c.row.result.now c.args.self.now c.args.asked c.row.ensures) in
    λ κs le. (
      omega arith,
      (
        search,
        (
          subst (λ l. CanPull n x (edges_in n.inputs.items x l)) after c.requires.can_pull,
          (
            subst (AllByRecursion (λ i. IsSome (input_at n.inputs.items x i))) after c.requires.there,
            left-order c.row.result.now c.args.self.now c.args.asked c.row.ensures (stride-in_order n.inputs.items x c.args.self.now c.requires.can_pull.there c.requires.fits),
          ),
        ),
      ),
    )

pub stride::Passes::turn-won-requires-clause-order : goal.stride::Passes::turn-won-requires-clause-order
stride::Passes::turn-won-requires-clause-order g t c = stride-in_order c.args.nodes.now.inputs.items c.args.node c.args.self.now c.requires.can_pull.there c.requires.fits

pub stride::Passes::turn-returns-in-Some : goal.stride::Passes::turn-returns-in-Some
stride::Passes::turn-returns-in-Some g t c =
    turned-won g.Q.Ask.gives c.args.nodes.now c.ask_in_order.new.self c.args.q.now c.ask_in_order.new.q c.args.node c.args.asked c.in-Some.place c.in-Some.packet c.args.self.now c.won.new.self c.row.result.now c.ask_in_order.result (c.requires.fits, c.requires.within)
    c.row.ensures c.in-Some.is c.ask_in_order.ensures.place c.ask_in_order.ensures.asked c.won.ensures.holds

pub stride::Passes::turn-returns-in-None : goal.stride::Passes::turn-returns-in-None
stride::Passes::turn-returns-in-None g t c =
    turned-lost g.Q.Ask.gives c.args.nodes.now c.ask_in_order.new.self c.args.q.now c.ask_in_order.new.q c.args.node c.args.asked c.args.self.now c.row.result.now c.ask_in_order.result (c.requires.fits, c.requires.within) c.row.ensures c.in-None.is
    c.ask_in_order.ensures.asked

pub stride::Passes::ask_on-turn-got-requires : goal.stride::Passes::ask_on-turn-got-requires
stride::Passes::ask_on-turn-got-requires g t c =
    let passes = c.in-Stride.passes in
    let may = out-may g.Q.Ask.gives c.args.nodes.now c.take.new.self c.args.q.now c.args.node c.args.asked passes c.deref_mut.result.now (record { held = c.requires.0; may = c.requires.1; state = c.take.ensures.state ∙ ap Some c.in-Stride.is; out = c.take.ensures.taken; is = c.deref_mut.ensures.value }) in
    let same = ap (λ (n : Nodes). length n.inputs.items) c.take.ensures.taken in
    λ κs le. (omega (arith, same), (search, (may.can, (may.there, (may.fits.0, may.fits.1)))))

pub stride::Passes::ask_on-put-requires : goal.stride::Passes::ask_on-put-requires
stride::Passes::ask_on-put-requires g t c =
    let passes = c.in-Stride.passes in
    out-there g.Q.Ask.gives c.args.nodes.now c.take.new.self c.turn-got.new.nodes c.args.q.now c.turn-got.new.q c.args.node c.args.asked passes (boxed passes c.turn-got.new.self) c.deref_mut.result.now c.turn-got.result
    (record { held = c.requires.0; may = c.requires.1; state = c.take.ensures.state ∙ ap Some c.in-Stride.is; out = c.take.ensures.taken; is = c.deref_mut.ensures.value }) c.turn-got.ensures

pub stride::Passes::ask_on-returns : goal.stride::Passes::ask_on-returns
stride::Passes::ask_on-returns g t c held m =
    let passes = c.in-Stride.passes in
    pulled-got c.new.ensures
    (out-pulled g.Q.Ask.gives c.args.nodes.now c.take.new.self c.turn-got.new.nodes c.put.new.self c.args.q.now c.turn-got.new.q c.args.node c.args.asked passes _ c.deref_mut.result.now c.turn-got.result
    (record { held = held; may = m; state = c.take.ensures.state ∙ ap Some c.in-Stride.is; out = c.take.ensures.taken; is = c.deref_mut.ensures.value }) c.turn-got.ensures c.put.ensures)

-- the input that is asked first
first-is : (o : Option ℕ) (i : ℕ) (order : List ℕ) → o ≡ Some i → IfSome o (λ input. take 1 order ≡ input ∷ []) → take 1 order ≡ i ∷ []
first-is o i order is h = subst (λ p. IfSome p (λ input. take 1 order ≡ input ∷ [])) is h

pub stride::Passes::pull-ask_first-requires : goal.stride::Passes::pull-ask_first-requires
stride::Passes::pull-ask_first-requires g t c =
    λ κs le. (
      omega arith,
      (
        search,
        (
          c.requires.can_pull,
          (c.requires.holds, λ held is. first-is c.first_input.result c.in-Some.input (inputs_in held.value.row.items) c.in-Some.is (c.first_input.ensures held is)),
        ),
      ),
    )

pub stride::Passes::pull-ask_on-requires : goal.stride::Passes::pull-ask_on-requires
stride::Passes::pull-ask_on-requires g t c = λ κs le. (omega arith, (search, stride-none g.Q.Ask.gives c.args.nodes.now c.args.q.now c.args.node c.requires.can_pull c.requires.holds))

pub stride::Passes::pull-returns-in-None : goal.stride::Passes::pull-returns-in-None
stride::Passes::pull-returns-in-None g t c = let on = stride-none g.Q.Ask.gives c.args.nodes.now c.args.q.now c.args.node c.requires.can_pull c.requires.holds in c.ask_on.ensures on.0 on.1

pub stride::Passes::ask_first-look-requires : goal.stride::Passes::ask_first-look-requires
stride::Passes::ask_first-look-requires g t c =
    let a = c.args.nodes.now in
    let x = c.args.node in
    let held = stride-there a.states.items x (state-there a x _ c.requires.can_pull) c.requires.holds in
    let may = first-may g.Q.Ask.gives a c.args.q.now x held.0 c.requires.can_pull held.1 c.args.input (c.requires.first held.0 held.1) in
    λ κs le. (omega arith, (search, (may.0, may.1)))

pub stride::Passes::ask_first-ask_on-requires : goal.stride::Passes::ask_first-ask_on-requires
stride::Passes::ask_first-ask_on-requires g t c =
    let a = c.args.nodes.now in
    let x = c.args.node in
    let held = stride-there a.states.items x (state-there a x _ c.requires.can_pull) c.requires.holds in
    let same = ap length c.look.ensures.keeps.inputs in
    λ κs le. (omega (arith, same), (search, (held.0, on-vain g.Q.Ask.gives a c.look.new.self c.args.q.now c.look.new.q x c.args.input (Stride held.0) (inputs_in held.0.value.row.items) c.look.result c.requires.can_pull held.1 (c.requires.first held.0 held.1) c.in_default.is c.look.ensures)))

pub stride::Passes::ask_first-returns-in_default : goal.stride::Passes::ask_first-returns-in_default
stride::Passes::ask_first-returns-in_default g t c =
    let a = c.args.nodes.now in
    let x = c.args.node in
    let held = stride-there a.states.items x (state-there a x _ c.requires.can_pull) c.requires.holds in
    c.ask_on.ensures held.0 (on-vain g.Q.Ask.gives a c.look.new.self c.args.q.now c.look.new.q x c.args.input (Stride held.0) (inputs_in held.0.value.row.items) c.look.result c.requires.can_pull held.1 (c.requires.first held.0 held.1) c.in_default.is c.look.ensures)

pub stride::Passes::ask_first-win_first_at-requires-clause-order : goal.stride::Passes::ask_first-win_first_at-requires-clause-order
stride::Passes::ask_first-win_first_at-requires-clause-order g t c later here =
    let a = c.args.nodes.now in
    let x = c.args.node in
    let held = stride-there a.states.items x (state-there a x _ c.requires.can_pull) c.requires.holds in
    let same = passes-same held.0 later (some-same (Stride held.0) (Stride later) (sym (c.look.ensures.keeps.ahead x (omega arith) ∙ held.1) ∙ here)) in
    subst (λ (b : Box Passes). (0 < length b.value.row.items) × AreInOrder b.value.row.items) same
    (first-some g.Q.Ask.gives a c.args.q.now x held.0 c.requires.can_pull held.1 c.args.input (c.requires.first held.0 held.1), first-order g.Q.Ask.gives a c.args.q.now x held.0 c.requires.can_pull held.1)

pub stride::Passes::ask_first-returns : goal.stride::Passes::ask_first-returns
stride::Passes::ask_first-returns g t c =
    let a = c.args.nodes.now in
    let x = c.args.node in
    let held = stride-there a.states.items x (state-there a x _ c.requires.can_pull) c.requires.holds in
    pulled-got c.new.ensures
    (first-won g.Q.Ask.gives a c.args.q.now x held.0 c.requires.can_pull held.1 c.look.new.self c.win_first_at.new.nodes c.look.new.q c.args.input c.look.result c.in-Some.packet (c.requires.first held.0 held.1) c.in-Some.is c.look.ensures
    (c.win_first_at.ensures held.0 (c.look.ensures.keeps.ahead x (omega arith) ∙ held.1)))

pub drr::Deficits::pull-turn-got-requires : goal.drr::Deficits::pull-turn-got-requires
drr::Deficits::pull-turn-got-requires g t c =
    let a = c.args.nodes.now in
    let can = can-turn a c.take.new.self c.args.node (Drr c.in-Drr.deficits) c.take.ensures.taken (c.take.ensures.state ∙ ap Some c.in-Drr.is) c.requires.can_pull in
    let same = ap (λ (n : Nodes). length n.inputs.items) c.take.ensures.taken in
    λ κs le. (omega (arith, same), (search, (can.0, subst (λ (d : Deficits). IfSome (slice_get c.take.new.self.inputs.items c.args.node) (λ (p : Inputs). length d.row.items ≡ length p.each.items)) (sym c.deref_mut.ensures.value) can.1)))

pub drr::Deficits::pull-put-requires : goal.drr::Deficits::pull-put-requires
drr::Deficits::pull-put-requires g t c =
    let can = can-turn c.args.nodes.now c.take.new.self c.args.node (Drr c.in-Drr.deficits) c.take.ensures.taken (c.take.ensures.state ∙ ap Some c.in-Drr.is) c.requires.can_pull in
    let turned = c.turn-got.ensures c.in-Drr.deficits (boxed c.in-Drr.deficits c.turn-got.new.self) (sym c.deref_mut.ensures.value) refl in
    kept-there c.take.new.self c.turn-got.new.nodes c.args.node _ _ can.0 turned.keeps

pub drr::Deficits::pull-returns : goal.drr::Deficits::pull-returns
drr::Deficits::pull-returns g t c =
    pulled-got c.new.ensures
    (pulled-back g.Q.Ask.gives c.args.nodes.now c.take.new.self c.turn-got.new.nodes c.put.new.self c.args.q.now c.turn-got.new.q c.args.node _ (Drr c.in-Drr.deficits) (Drr _) c.turn-got.result c.take.ensures.taken
    (c.take.ensures.state ∙ ap Some c.in-Drr.is) c.requires.can_pull (c.turn-got.ensures c.in-Drr.deficits _ (sym c.deref_mut.ensures.value) refl) c.put.ensures)

pub shaper::Bucket::pull-answer_up-requires-clause-room : goal.shaper::Bucket::pull-answer_up-requires-clause-room
shaper::Bucket::pull-answer_up-requires-clause-room g t c =
    let room = goes-room c.args.nodes.now c.take_down-last.new.nodes c.args.node c.take_down-last.result.0 _ c.requires.can_pull c.take_down-last.ensures in omega (arith, room)

pub shaper::Bucket::pull-returns-then-not-token : goal.shaper::Bucket::pull-returns-then-not-token
shaper::Bucket::pull-returns-then-not-token g t c = pulled-got c.new.ensures (search (rules, whole-answered, goes-order, below-refused))

pub shaper::Bucket::pull-ask-got-requires : goal.shaper::Bucket::pull-ask-got-requires
shaper::Bucket::pull-ask-got-requires g t c =
    let a = c.args.nodes.now in
    let b = c.take_down-last.new.nodes in
    let last = c.take_down-last.result.0 in
    let may = goes-may a b c.args.node last _ c.take_down-last.ensures in
    let same = ap (λ v. length v.items) (goes-inputs a b c.args.node last _ c.take_down-last.ensures) in
    λ κs le. (omega (arith, same), (search, (may.0, may.1)))

pub shaper::Bucket::pull-answer_at-requires-clause-room : goal.shaper::Bucket::pull-answer_at-requires-clause-room
shaper::Bucket::pull-answer_at-requires-clause-room g t c =
    let a = c.args.nodes.now in
    let b = c.take_down-last.new.nodes in
    let last = c.take_down-last.result.0 in
    let room = goes-room a b c.args.node last _ c.requires.can_pull c.take_down-last.ensures in
    let edges = goes-edges a b c.args.node last _ c.take_down-last.ensures in
    omega (arith, room)

pub shaper::Bucket::pull-answer_up-requires-2-clause-room : goal.shaper::Bucket::pull-answer_up-requires-2-clause-room
shaper::Bucket::pull-answer_up-requires-2-clause-room g t c =
    let a = c.args.nodes.now in
    let b = c.take_down-last.new.nodes in
    let last = c.take_down-last.result.0 in
    let room = goes-room a b c.args.node last _ c.requires.can_pull c.take_down-last.ensures in
    let edges = goes-edges a b c.args.node last _ c.take_down-last.ensures in
    let more = (answers-keep c.ask-got.new.self c.answer_at.new.nodes last c.ask-got.result c.answer_at.ensures b.inputs.items c.ask-got.ensures.keeps.fit).1 in
    omega (arith, room, more)

pub shaper::Bucket::pull-returns : goal.shaper::Bucket::pull-returns
shaper::Bucket::pull-returns g t c =
    let a = c.args.nodes.now in
    let b = c.take_down-last.new.nodes in
    let last = c.take_down-last.result.0 in
    let down : GoesDown a b c.args.node last true = subst (GoesDown a b c.args.node last) c.if-not-token.false c.take_down-last.ensures in
    pulled-got c.new-2.ensures
    (whole-answered g.Q.Ask.gives a c.answer_at.new.nodes c.answer_up-2.new.nodes c.args.q.now c.ask-got.new.q c.args.node last c.ask-got.result (goes-order a b c.args.node last _ c.take_down-last.ensures)
    (below-answered g.Q.Ask.gives a b c.ask-got.new.self c.answer_at.new.nodes c.args.q.now c.ask-got.new.q c.args.node last c.ask-got.result down
    (record { keeps = c.ask-got.ensures.keeps; answers = c.ask-got.ensures.answers; asks = c.ask-got.ensures.asks }) c.answer_at.ensures)
    c.answer_up-2.ensures
    )
