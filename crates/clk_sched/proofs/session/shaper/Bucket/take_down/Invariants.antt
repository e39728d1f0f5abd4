use Rattle.std.proofs.Common.{◌-◌, length}
use Rattle.clk_sched.specs.inside.Tokens.{GoesDown}
use Rattle.clk_sched.proofs.session.shaper.Bucket.take_down.Given as goal

abbrev pub invariant-loop-token : goal.invariant-loop-token
invariant-loop-token l = GoesDown l.fn.nodes l.nodes l.fn.node l.last l.token

abbrev pub decreases-loop-token : goal.decreases-loop-token
decreases-loop-token l = length l.fn.nodes.inputs.items - l.last
