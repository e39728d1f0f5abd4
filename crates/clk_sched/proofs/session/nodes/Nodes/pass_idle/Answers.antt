use Rattle.std.proofs.Common.{None, sym, subst, arith}
use Rattle.std.specs.List.{range_with_len}
use Rattle.clk_sched.specs.inside.Turning.{HasAskedAll}
use Rattle.clk_sched.proofs.Nodes.Idle.{there-at, idle-room, idle-recorded}
use Rattle.clk_sched.proofs.session.nodes.Nodes.pass_idle.Goals as goal

pub idle_from-idle-requires-clause-within : goal.idle_from-idle-requires-clause-within
idle_from-idle-requires-clause-within g c = there-at c.args.self.now.inputs.items c.args.node c.args.first c.args.count c.requires.within

pub record_idle-requires-clause-room : goal.record_idle-requires-clause-room
record_idle-requires-clause-room g c =
    let room = idle-room c.args.self.now c.args.node c.args.first c.args.count c.requires.can_pull c.requires.within in
    omega (arith, room)

pub returns-then-idle-gt0-clause-asked : goal.returns-then-idle-gt0-clause-asked
returns-then-idle-gt0-clause-asked g c =
    let idle = c.idle_from-idle.result in
    subst (λ now. HasAskedAll g.Q.Ask.gives c.args.self.now now c.args.q.now c.args.q.now c.args.node (range_with_len c.args.first idle) None) (sym c.record_idle.ensures)
    (idle-recorded g.Q.Ask.gives c.args.self.now c.args.q.now c.args.node c.args.first idle c.requires.can_pull.fit c.idle_from-idle.ensures.idle)
