use Rattle.std.proofs.Common.{ap}
use Rattle.clk_sched.specs.inside.Turning.{with_state}
use Rattle.clk_sched.proofs.session.nodes.Nodes.put.Goals as goal

pub returns : goal.returns
returns c = ap (with_state c.args.self.now c.args.node) c.replace.ensures.after
