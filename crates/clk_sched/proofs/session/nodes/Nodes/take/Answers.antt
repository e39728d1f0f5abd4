use Rattle.std.proofs.Common.{ap}
use Rattle.clk_sched.specs.inside.Turning.{with_state}
use Rattle.clk_sched.proofs.session.nodes.Nodes.take.Goals as goal

pub returns-clause-taken : goal.returns-clause-taken
returns-clause-taken c = ap (with_state c.args.self.now c.args.node) c.replace.ensures.after
