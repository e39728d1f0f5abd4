use Rattle.clk_script.proofs.Record.Sound.{records-mean}
use Rattle.clk_script.proofs.Record.Fitting.{only-fitting}
use Rattle.clk_script.proofs.laws.records_mean_their_course.Goals as goal

pub returns-clause-course : goal.returns-clause-course
returns-clause-course c = records-mean

pub returns-clause-fitting : goal.returns-clause-fitting
returns-clause-fitting c = only-fitting
