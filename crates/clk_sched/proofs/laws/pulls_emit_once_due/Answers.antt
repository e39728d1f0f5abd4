use Rattle.clk_sched.proofs.Runs.EmitsDue.{emits-due}
use Rattle.clk_sched.proofs.laws.pulls_emit_once_due.Goals as goal

pub returns : goal.returns
returns c = emits-due
