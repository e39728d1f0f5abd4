use Rattle.std.proofs.Common.{refl}
use Rattle.clk_command.proofs.LiveLemmas.{ends-with, kept-writes}
use Rattle.clk_command.proofs.RunningLemmas.{trace-tells}
use Rattle.clk_command.proofs.live.replayed_trace.Goals as goal

pub returns-clause-writes : goal.returns-clause-writes
returns-clause-writes g c =
    let tells = trace-tells _ _ c.in_ok-traces.ensures.sound c.in_ok-traces.ensures.sent in
    kept-writes _ c.args.pace _ _ _ _ _ _ c.new.ensures.taken c.if-write_failed.false c.records_of_plans_mean_their_course.ensures tells c.in_ok-outcome.ensures.known c.in_ok-outcome.ensures.ran

pub returns-clause-replayed : goal.returns-clause-replayed
returns-clause-replayed g c =
    let tells = trace-tells _ _ c.in_ok-traces.ensures.sound c.in_ok-traces.ensures.sent in
    let writes = kept-writes _ c.args.pace _ _ _ _ _ _ c.new.ensures.taken c.if-write_failed.false c.records_of_plans_mean_their_course.ensures tells c.in_ok-outcome.ensures.known c.in_ok-outcome.ensures.ran in
    ends-with _ _ _ _ c.plans_have_at_most_one_meaning.ensures.texts (writes.means refl) (rw c.deref.ensures.value at c.in_ok-replay.ensures.logs)
