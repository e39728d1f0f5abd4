use Rattle.std.proofs.Common.{refl}
use Rattle.clap.proofs.OnLiterals.{clap_on_literals}
use Rattle.clk_words.proofs.examples.word_examples.Goals as goal

pub returns-clause-none : goal.returns-clause-none
unfolding clap_on_literals
returns-clause-none c = (refl, refl)

pub returns-clause-checks : goal.returns-clause-checks
unfolding clap_on_literals
returns-clause-checks c = (refl, refl)

pub returns-clause-lints : goal.returns-clause-lints
unfolding clap_on_literals
returns-clause-lints c = refl

pub returns-clause-lints_traces : goal.returns-clause-lints_traces
unfolding clap_on_literals
returns-clause-lints_traces c = refl

pub returns-clause-scripts : goal.returns-clause-scripts
unfolding clap_on_literals
returns-clause-scripts c = refl

pub returns-clause-follows : goal.returns-clause-follows
unfolding clap_on_literals
returns-clause-follows c = refl

pub returns-clause-visits : goal.returns-clause-visits
unfolding clap_on_literals
returns-clause-visits c = refl

pub returns-clause-runs : goal.returns-clause-runs
unfolding clap_on_literals
returns-clause-runs c = refl

pub returns-clause-paces : goal.returns-clause-paces
unfolding clap_on_literals
returns-clause-paces c = refl

pub returns-clause-no_trace : goal.returns-clause-no_trace
unfolding clap_on_literals
returns-clause-no_trace c = refl

pub returns-clause-no_step : goal.returns-clause-no_step
unfolding clap_on_literals
returns-clause-no_step c = refl

pub returns-clause-one_too_many : goal.returns-clause-one_too_many
unfolding clap_on_literals
returns-clause-one_too_many c = refl

pub returns-clause-no_command : goal.returns-clause-no_command
unfolding clap_on_literals
returns-clause-no_command c = refl

pub returns-clause-help : goal.returns-clause-help
unfolding clap_on_literals
returns-clause-help c = refl

pub returns-clause-version : goal.returns-clause-version
unfolding clap_on_literals
returns-clause-version c = refl

pub returns-clause-lives : goal.returns-clause-lives
unfolding clap_on_literals
returns-clause-lives c = refl

pub returns-clause-records : goal.returns-clause-records
unfolding clap_on_literals
returns-clause-records c = refl

pub returns-clause-no_record_of_a_run : goal.returns-clause-no_record_of_a_run
unfolding clap_on_literals
returns-clause-no_record_of_a_run c = refl

pub returns-clause-explains : goal.returns-clause-explains
unfolding clap_on_literals
returns-clause-explains c = (refl, refl)

pub returns-clause-explains_first : goal.returns-clause-explains_first
unfolding clap_on_literals
returns-clause-explains_first c = (refl, refl)

pub returns-clause-unexplained : goal.returns-clause-unexplained
unfolding clap_on_literals
returns-clause-unexplained c = (refl, refl)
