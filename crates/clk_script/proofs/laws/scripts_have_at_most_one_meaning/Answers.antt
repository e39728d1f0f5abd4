use Rattle.clk_script.specs.Examples.{two_queues}
use Rattle.clk_script.proofs.Meanings.OneMeaning.{has-one_meaning, has-one_log, two_queues-wired}
use Rattle.clk_script.proofs.laws.scripts_have_at_most_one_meaning.Goals as goal

pub returns-clause-wired : goal.returns-clause-wired
returns-clause-wired c = λ setup wired. has-one_meaning setup wired c.histories_leave_no_choice.ensures c.runs_leave_no_choice.ensures.pulls

pub returns-clause-two_queues : goal.returns-clause-two_queues
returns-clause-two_queues c = has-one_meaning two_queues two_queues-wired c.histories_leave_no_choice.ensures c.runs_leave_no_choice.ensures.pulls

pub returns-clause-logs : goal.returns-clause-logs
returns-clause-logs c = λ setup wired. has-one_log setup wired c.histories_leave_no_choice.ensures c.runs_leave_no_choice.ensures.pulls
