use Rattle.std.proofs.Common.{◌+◌, ◌<◌, length, arith}
use Rattle.clk_sched.specs.declared.session.state.State.TheVariants.{RoundRobin}
use Rattle.clk_sched.proofs.Nodes.Idle.{input-there}
use Rattle.clk_sched.proofs.Nodes.Ordered.{item-there}
use Rattle.clk_sched.proofs.Nodes.Placed.{fits-each, fits-there}
use Rattle.clk_sched.proofs.session.round_robin.Beginning.first_input.Goals as goal

pub idle_from-requires-clause-within : goal.idle_from-requires-clause-within
idle_from-requires-clause-within g c i l =
    let a = c.args.nodes.now in
    let x = c.args.node in
    let b = c.of-beginning.result in
    let p = item-there a.inputs.items x c.requires.can_pull.there in
    let low : b.input < length p.0.each.items = fits-each a.inputs.items x (RoundRobin b) (fits-there a.inputs.items a.states.items x (RoundRobin b) c.requires.can_pull.fit c.of-beginning.ensures) p.0 p.1 in
    input-there a.inputs.items x (b.input + i) p.0 p.1 (omega (arith, low, l))
