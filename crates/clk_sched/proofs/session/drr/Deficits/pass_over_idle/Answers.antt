use Rattle.std.proofs.Common.{sym, subst}
use Rattle.clk_sched.specs.declared.session.nodes.Nodes.{Nodes}
use Rattle.clk_sched.specs.inside.Making.{GoesOnInVain}
use Rattle.clk_sched.proofs.Turns.TurnDrr.{going-can, goes-next}
use Rattle.clk_sched.proofs.Turns.PastIdle.{bound-past, past-room, past-all_at_once}
use Rattle.clk_sched.proofs.session.drr.Deficits.pass_over_idle.Goals as goal

pub record_idle-requires-clause-room : goal.record_idle-requires-clause-room
record_idle-requires-clause-room g c =
    let free = c.count_without_heads-count in
    past-room g.Q.Ask.gives c.args.nodes.now c.args.q.now c.args.node c.args.self.now free.result
    (bound-past g.Q.Ask.gives _ _ _ _ c.idle_ahead-idle.result c.args.most _ c.requires c.idle_ahead-idle.ensures.ahead c.idle_ahead-idle.ensures.few free.ensures.few free.ensures.none)

pub returns-then-count-gt0-clause-goes_on : goal.returns-then-count-gt0-clause-goes_on
returns-then-count-gt0-clause-goes_on g c =
    let free = c.count_without_heads-count in
    subst (λ (n : Nodes). GoesOnInVain g.Q.Ask.gives c.args.nodes.now n c.args.q.now c.args.node c.args.self.now c.pass_over.new.self free.result) (sym c.record_idle.ensures)
    (past-all_at_once g.Q.Ask.gives c.args.nodes.now c.args.q.now c.args.node c.args.self.now c.pass_over.new.self free.result
    (bound-past g.Q.Ask.gives _ _ _ _ c.idle_ahead-idle.result c.args.most _ c.requires c.idle_ahead-idle.ensures.ahead c.idle_ahead-idle.ensures.few free.ensures.few free.ensures.none)
    c.if-count-gt0.true c.pass_over.ensures.cursor c.pass_over.ensures.row)

pub skip-requires : goal.skip-requires
skip-requires g c =
    let can = going-can g.Q.Ask.gives c.args.nodes.now c.loop-count.nodes c.args.q.now c.args.node c.args.self.now c.loop-count.self c.args.most c.loop-count.count c.requires c.loop-count.invariant c.loop-count-test.true in
    record { can_pull = can.0; within = can.1 }

pub loop-count-preserved : goal.loop-count-preserved
loop-count-preserved g c =
    goes-next g.Q.Ask.gives c.args.nodes.now c.loop-count.nodes c.skip.new.nodes c.args.q.now c.args.node c.args.self.now c.loop-count.self c.skip.new.self c.loop-count.count c.loop-count.invariant (c.skip.ensures.skips c.if-not-skip.false)
