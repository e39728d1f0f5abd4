use Rattle.std.proofs.Common.{◌≡◌, ◌<◌, ◌∙◌, length, take, None, IsSome, refl, sym, ap, subst, arith}
use Rattle.std.specs.List.{AllByRecursion}
use Rattle.std.proofs.lemmas.List.{length-drop, length-map}
use Rattle.clk_sched.specs.inside.Places.{edges_in, input_at}
use Rattle.clk_sched.specs.inside.Pulling.{CanPull}
use Rattle.clk_sched.specs.inside.Ranks.{Ranked, AreInOrder, inputs_in}
use Rattle.clk_sched.specs.inside.Turning.{HasAskedAll}
use Rattle.clk_sched.proofs.Classes.RankLemmas.{after-place, inputs-after, in_order-after}
use Rattle.clk_sched.proofs.Nodes.Asked.{read-input}
use Rattle.clk_sched.proofs.Nodes.Asking.{asking-first, asking-ready, asking-next}
use Rattle.clk_sched.proofs.Nodes.Idle.{rest-can, asking-past, asking-still}
use Rattle.clk_sched.proofs.session.nodes.Nodes.pass_resting_of.Goals as goal

pub loop-place-init : goal.loop-place-init
loop-place-init g c = (omega arith, asking-first g.Q.Ask.gives c.args.self.now c.args.q.now c.args.node c.requires.can_pull.fit)

pub pass_idle_of-idle-requires : goal.pass_idle_of-idle-requires
pass_idle_of-idle-requires g c =
    let k = c.loop-place.place in
    let now = c.loop-place.self in
    let rest = rest-can g.Q.Ask.gives c.args.self.now now c.args.q.now c.args.q.now c.args.node k (inputs_in c.args.order.now) c.requires.can_pull c.requires.within c.loop-place.invariant.1 in
    let after = sym (inputs-after c.args.order.now k) in
    record {
      can_pull = subst (λ l. CanPull now c.args.node (edges_in now.inputs.items c.args.node l)) after rest.0;
      within = subst (AllByRecursion (λ i. IsSome (input_at now.inputs.items c.args.node i))) after rest.1;
      order = subst AreInOrder (sym (after-place c.args.order.now k)) (in_order-after k c.args.order.now c.requires.order);
    }

pub loop-place-preserved-then-idle-gt0 : goal.loop-place-preserved-then-idle-gt0
loop-place-preserved-then-idle-gt0 g c =
    let k = c.loop-place.place in
    let n = c.pass_idle_of-idle.result in
    let within = c.pass_idle_of-idle.ensures.within in
    let size = ap length (after-place c.args.order.now k) ∙ length-drop k c.args.order.now in (
      omega (arith, within, size),
      asking-past g.Q.Ask.gives c.args.self.now c.loop-place.self c.pass_idle_of-idle.new.self c.args.q.now c.args.q.now c.args.node k n (inputs_in c.args.order.now) c.loop-place.invariant.1
          (subst (λ l. HasAskedAll g.Q.Ask.gives c.loop-place.self c.pass_idle_of-idle.new.self c.args.q.now c.args.q.now c.args.node (take n l) None) (inputs-after c.args.order.now k) c.pass_idle_of-idle.ensures.asked),
    )

pub skip-requires : goal.skip-requires
skip-requires g c =
    let k = c.loop-place.place in
    let below : k < length c.args.order.now = c.loop-place-test.true in
    let h = asking-still g.Q.Ask.gives c.args.self.now c.loop-place.self c.pass_idle_of-idle.new.self c.args.q.now c.args.q.now c.args.node k c.pass_idle_of-idle.result c.args.order.now (omega arith) c.loop-place.invariant.1 c.pass_idle_of-idle.ensures.asked in
    let ready = asking-ready g.Q.Ask.gives c.args.self.now c.pass_idle_of-idle.new.self c.args.q.now c.args.q.now c.args.node k c.input.result (inputs_in c.args.order.now) c.requires.can_pull c.requires.within h
    (subst (λ n. k < n) (sym (length-map c.args.order.now (λ (r : Ranked). r.input))) below) (read-input c.args.order.now k c.input.result c.index-order-place.result below c.index-order-place.is c.input.ensures) in
    record { can_pull = ready.0; within = ready.1 }

pub loop-place-preserved : goal.loop-place-preserved
loop-place-preserved g c =
    let k = c.loop-place.place in
    let below : k < length c.args.order.now = c.loop-place-test.true in
    let h = asking-still g.Q.Ask.gives c.args.self.now c.loop-place.self c.pass_idle_of-idle.new.self c.args.q.now c.args.q.now c.args.node k c.pass_idle_of-idle.result c.args.order.now (omega arith) c.loop-place.invariant.1 c.pass_idle_of-idle.ensures.asked in (
      omega (arith, below),
      asking-next g.Q.Ask.gives c.args.self.now c.pass_idle_of-idle.new.self c.skip.new.self c.args.q.now c.args.q.now c.args.q.now c.args.node k c.input.result None (inputs_in c.args.order.now)
          (subst (λ n. k < n) (sym (length-map c.args.order.now (λ (r : Ranked). r.input))) below) h (read-input c.args.order.now k c.input.result c.index-order-place.result below c.index-order-place.is c.input.ensures) refl (c.skip.ensures.asked c.if-not-skip.false),
    )

pub returns-then-not-skip-clause-asked : goal.returns-then-not-skip-clause-asked
returns-then-not-skip-clause-asked g c =
    subst (λ now. HasAskedAll g.Q.Ask.gives c.args.self.now now c.args.q.now c.args.q.now c.args.node (take c.loop-place.place (inputs_in c.args.order.now)) None) (sym (c.skip.ensures.stays c.if-not-skip.true))
    (asking-still g.Q.Ask.gives c.args.self.now c.loop-place.self c.pass_idle_of-idle.new.self c.args.q.now c.args.q.now c.args.node c.loop-place.place c.pass_idle_of-idle.result c.args.order.now (omega arith) c.loop-place.invariant.1 c.pass_idle_of-idle.ensures.asked)

pub returns-clause-asked : goal.returns-clause-asked
returns-clause-asked g c =
    let most = c.loop-place.invariant.0 in
    let test = c.loop-place-test.false in
    let all : c.loop-place.place ≡ length c.args.order.now = omega (arith, most, test) in
    subst (λ n. HasAskedAll g.Q.Ask.gives c.args.self.now c.loop-place.self c.args.q.now c.args.q.now c.args.node (take n (inputs_in c.args.order.now)) None) all c.loop-place.invariant.1
