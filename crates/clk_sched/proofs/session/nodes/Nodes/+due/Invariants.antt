use Rattle.std.proofs.Common.{◌+◌, ◌*◌}
use Rattle.clk_sched.specs.inside.Places.{edges_of, edges_to, edges_to_all}
use Rattle.clk_sched.proofs.session.nodes.Nodes.+due.Given as goal

-- how many edges stand below what is walked, times three, and the step: an input, the inputs, the node
abbrev pub decreases-due_from : goal.decreases-due_from
decreases-due_from g l = 3 * edges_to l.self.now.inputs.items l.input.now

abbrev pub decreases-due_among : goal.decreases-due_among
decreases-due_among g l = 3 * edges_to_all l.self.now.inputs.items l.inputs.now + 1

abbrev pub decreases-due_at : goal.decreases-due_at
decreases-due_at g l = 3 * edges_of l.self.now.inputs.items l.node + 2
