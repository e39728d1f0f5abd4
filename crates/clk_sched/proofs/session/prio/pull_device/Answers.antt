use Rattle.clk_sched.proofs.Turns.TurnPrio.{device-asks, device-pulled}
use Rattle.clk_sched.proofs.session.prio.pull_device.Goals as goal

pub look-requires-clause-can_pull : goal.look-requires-clause-can_pull
look-requires-clause-can_pull g c = (device-asks c.args.nodes.now 0 c.requires.can_pull c.requires.one).0

pub look-requires-clause-within : goal.look-requires-clause-within
look-requires-clause-within g c = (device-asks c.args.nodes.now 0 c.requires.can_pull c.requires.one).1

pub returns : goal.returns
returns g c = device-pulled g.Q.Ask.gives c.args.nodes.now c.look.new.self c.args.q.now c.look.new.q 0 c.look.result c.requires.can_pull c.requires.holds c.requires.one c.look.ensures
