use Rattle.clk_sched.proofs.Runs.NoChoice.{leaves-no_choice, pulls-leave_no_choice}
use Rattle.clk_sched.proofs.laws.runs_leave_no_choice.Goals as goal

pub returns-clause-runs : goal.returns-clause-runs
returns-clause-runs c = leaves-no_choice

pub returns-clause-pulls : goal.returns-clause-pulls
returns-clause-pulls c = pulls-leave_no_choice
