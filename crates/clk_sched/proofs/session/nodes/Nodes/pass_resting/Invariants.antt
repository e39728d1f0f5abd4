use Rattle.std.proofs.Common.{take}
use Rattle.std.specs.List.{range_with_len}
use Rattle.clk_sched.proofs.Nodes.Asking.{IsAsking}
use Rattle.clk_sched.proofs.session.nodes.Nodes.pass_resting.Given as goal

abbrev pub invariant-loop-place : goal.invariant-loop-place
invariant-loop-place g l = IsAsking g.Q.Ask.gives l.initial.self l.self l.fn.q l.fn.q l.node (take l.place (range_with_len l.fn.first l.fn.count))
