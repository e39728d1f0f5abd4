use Rattle.std.proofs.Common.{◌-◌, ◌≤◌, length, take}
use Rattle.clk_sched.specs.inside.Ranks.{inputs_in}
use Rattle.clk_sched.proofs.Nodes.Asking.{IsAsking}
use Rattle.clk_sched.proofs.session.nodes.Nodes.pass_resting_of.Given as goal

abbrev pub invariant-loop-place : goal.invariant-loop-place
invariant-loop-place g l = (l.place ≤ length l.fn.order) × IsAsking g.Q.Ask.gives l.fn.self l.self l.fn.q l.fn.q l.node (take l.place (inputs_in l.fn.order))

abbrev pub decreases-loop-place : goal.decreases-loop-place
decreases-loop-place g l = length l.fn.order - l.place
