use Rattle.std.proofs.Common.{◌≤◌, List, [], drop, length, take, refl, lit≤, subst, arith}
use Rattle.std.proofs.lemmas.Bool.{false≢true}
use Rattle.clk_sched.specs.declared.visit.Visit.{Visit}
use Rattle.clk_sched.specs.Bound.{closing_bound}
use Rattle.clk_sched.specs.Log.{pulls}
use Rattle.clk_sched.specs.Session.{given_in, LastGives}
use Rattle.clk_sched.specs.Tree.{queue}
use Rattle.clk_drain.specs.Moments.{HasMoments}
use Rattle.clk_drain.specs.RunExamples.{log_a, log_b, only_closing, pull_too_many, step_skipped, closing_late, closing_pauses, closing_goes_on, closing_waits}
use Rattle.clk_drain.proofs.Runs.WorkedMoments.{moments-are, too-many, skipped, late, pauses, one-running, closing-is}
use Rattle.clk_drain.proofs.examples.moment_examples.Goals as goal

pub returns-clause-is_two_steps : goal.returns-clause-is_two_steps
returns-clause-is_two_steps c = record { running = pulls log_a; closing = []; pulls_are = refl; within = lit≤ tt; each_step = refl; each_tick = refl; stops = tt; few = lit≤ tt }

pub returns-clause-is_step_and_closing : goal.returns-clause-is_step_and_closing
returns-clause-is_step_and_closing c = record { running = take 1 (pulls log_b); closing = drop 1 (pulls log_b); pulls_are = refl; within = lit≤ tt; each_step = refl; each_tick = refl; stops = refl; few = lit≤ tt }

pub returns-clause-is_only_closing : goal.returns-clause-is_only_closing
returns-clause-is_only_closing c = record { running = []; closing = pulls only_closing; pulls_are = refl; within = lit≤ tt; each_step = refl; each_tick = refl; stops = refl; few = lit≤ tt }

pub returns-clause-not_pull_too_many : goal.returns-clause-not_pull_too_many
returns-clause-not_pull_too_many c = λ (h : HasMoments 3 2 (queue 0) pull_too_many). too-many (length h.running) (length h.closing) h.within (moments-are (queue 0) pull_too_many h)

pub returns-clause-not_step_skipped : goal.returns-clause-not_step_skipped
returns-clause-not_step_skipped c = λ (h : HasMoments 3 2 (queue 0) step_skipped). skipped (length h.running) (length h.closing) h.within (moments-are (queue 0) step_skipped h)

pub returns-clause-not_closing_late : goal.returns-clause-not_closing_late
returns-clause-not_closing_late c = λ (h : HasMoments 3 2 (queue 0) closing_late). late (length h.running) (length h.closing) h.within (moments-are (queue 0) closing_late h)

pub returns-clause-not_closing_pauses : goal.returns-clause-not_closing_pauses
returns-clause-not_closing_pauses c = λ (h : HasMoments 3 2 (queue 0) closing_pauses). pauses (length h.running) (length h.closing) h.within (moments-are (queue 0) closing_pauses h)

pub returns-clause-not_closing_goes_on : goal.returns-clause-not_closing_goes_on
returns-clause-not_closing_goes_on c = λ (h : HasMoments 3 2 (queue 0) closing_goes_on).
    let one = one-running (length h.running) (length h.closing) h.within (moments-are (queue 0) closing_goes_on h) in
    absurd (false≢true (subst LastGives (closing-is (queue 0) closing_goes_on 1 h one) h.stops))

pub returns-clause-not_closing_waits : goal.returns-clause-not_closing_waits
returns-clause-not_closing_waits c = λ (h : HasMoments 3 2 (queue 0) closing_waits).
    let one = one-running (length h.running) (length h.closing) h.within (moments-are (queue 0) closing_waits h) in
    let few = subst (λ (closing : List (List Visit)). length closing ≤ closing_bound (queue 0) (length (given_in closing))) (closing-is (queue 0) closing_waits 1 h one) h.few in
    absurd (omega (arith, few))
