use Rattle.std.proofs.Common.{◌+◌, ◌<◌, None, refl, sym, subst, arith, rules}
use Rattle.std.specs.List.{range_with_len}
use Rattle.std.proofs.lemmas.List.FromFn.{length-range_with_len, get_or-range_with_len}
use Rattle.clk_sched.specs.inside.Turning.{HasAskedAll}
use Rattle.clk_sched.proofs.Nodes.Asking.{asking-ready, asking-next, asking-all}
use Rattle.clk_sched.proofs.Nodes.Idle.{asking-front}
use Rattle.clk_sched.proofs.session.nodes.Nodes.pass_resting.Goals as goal

pub skip-requires : goal.skip-requires
skip-requires g c =
    let k = c.loop-place.place in
    let below : k < c.args.count = c.loop-place-test.true in
    let ready = asking-ready g.Q.Ask.gives c.args.self.now c.loop-place.self c.args.q.now c.args.q.now c.args.node k (c.args.first + k) (range_with_len c.args.first c.args.count) c.requires.can_pull c.requires.within c.loop-place.invariant
    (subst (λ n. k < n) (sym (length-range_with_len c.args.first c.args.count)) below) (sym (get_or-range_with_len c.args.first c.args.count k 0 below)) in
    record { can_pull = ready.0; within = ready.1 }

pub loop-place-preserved : goal.loop-place-preserved
loop-place-preserved g c =
    let k = c.loop-place.place in
    let below : k < c.args.count = c.loop-place-test.true in
    asking-next g.Q.Ask.gives c.args.self.now c.loop-place.self c.skip.new.self c.args.q.now c.args.q.now c.args.q.now c.args.node k (c.args.first + k) None (range_with_len c.args.first c.args.count)
    (subst (λ n. k < n) (sym (length-range_with_len c.args.first c.args.count)) below) c.loop-place.invariant (sym (get_or-range_with_len c.args.first c.args.count k 0 below)) refl (c.skip.ensures.asked c.if-not-skip.false)

pub returns-then-not-skip-clause-asked : goal.returns-then-not-skip-clause-asked
returns-then-not-skip-clause-asked g c =
    let k = c.loop-place.place in
    let below : k < c.args.count = c.loop-place-test.true in
    subst (λ now. HasAskedAll g.Q.Ask.gives c.args.self.now now c.args.q.now c.args.q.now c.args.node (range_with_len c.args.first k) None) (sym (c.skip.ensures.stays c.if-not-skip.true))
    (asking-front g.Q.Ask.gives c.args.self.now c.loop-place.self c.args.q.now c.args.q.now c.args.node c.args.first c.args.count k k refl (omega (arith, below)) c.loop-place.invariant)

pub returns-clause-asked : goal.returns-clause-asked
returns-clause-asked g c = search (rules, length-range_with_len, asking-all)
