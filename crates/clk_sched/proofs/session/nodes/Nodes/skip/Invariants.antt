use Rattle.std.proofs.Common.{length}
use Rattle.clk_sched.proofs.Nodes.Resting.{visits_to}
use Rattle.clk_sched.proofs.session.nodes.Nodes.skip.Given as goal

abbrev pub ghost-pass_visits : goal.ghost-pass_visits
ghost-pass_visits g a = visits_to (length a.self.now.inputs.items) a.self.now a._node a._input
