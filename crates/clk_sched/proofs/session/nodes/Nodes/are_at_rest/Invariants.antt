use Rattle.std.proofs.Common.{ℕ, ◌+◌, ◌<◌, ◌≤◌, IfSome, slice_get}
use Rattle.clk_sched.specs.inside.Resting.{IsAtRest}
use Rattle.clk_sched.proofs.session.nodes.Nodes.are_at_rest.Given as goal

abbrev pub invariant-loop-place : goal.invariant-loop-place
invariant-loop-place l = (y : ℕ) → l.node ≤ y → y < l.node + l.place → IfSome (slice_get l.fn.self.states.items y) IsAtRest
