use Rattle.std.proofs.Common.{◌≡◌, take}
use Rattle.clk_sched.specs.inside.Held.{heads_of_all}
use Rattle.clk_sched.proofs.session.heads.held_heads.Given as goal

abbrev pub invariant-loop-state : goal.invariant-loop-state
invariant-loop-state l = l.heads.items ≡ heads_of_all (take l.state-index l.nodes.states.items)
