use Rattle.std.proofs.Common.{[], ◌∷◌, Some, None, arith}
use Rattle.std.proofs.lemmas.Bool.{false≢true}
use Rattle.clk_router.specs.Events.{pulled}
use Rattle.clk_script.specs.Examples.{two_devices, shaped, one_left, pulled_at, great_sender, from_great}
use Rattle.clk_script.proofs.Record.Examples.{lines-are}
use Rattle.clk_script.proofs.laws.record_examples.Goals as goal

pub returns-clause-lines : goal.returns-clause-lines
returns-clause-lines c = lines-are

pub returns-clause-no_unknown_sender : goal.returns-clause-no_unknown_sender
returns-clause-no_unknown_sender c text means =
    let fits = c.records_mean_their_course.ensures.fitting shaped one_left None text ((omega arith, omega arith), tt) tt means in
    false≢true fits.names.0.0

pub returns-clause-no_great_sender : goal.returns-clause-no_great_sender
returns-clause-no_great_sender c text means =
    let fits = c.records_mean_their_course.ensures.fitting great_sender from_great None text ((omega arith, omega arith), tt) tt means in
    let below = fits.names.0.1 in
    absurd (omega (arith, below))

pub returns-clause-no_great_device : goal.returns-clause-no_great_device
returns-clause-no_great_device c setup text means =
    let fits = c.records_mean_their_course.ensures.fitting setup (pulled 65536 0 [] ∷ []) None text ((omega arith, omega arith), tt) tt means in
    let below = fits.names.0 in
    absurd (omega (arith, below))

pub returns-clause-no_late : goal.returns-clause-no_late
returns-clause-no_late c text means =
    let fits =
    c.records_mean_their_course.ensures.fitting two_devices (pulled_at 1099511627776) None text ((omega arith, omega arith), ((omega arith, omega arith), ((omega arith, omega arith), tt))) tt means
    in
    let below = fits.limits.moments.1 in
    absurd (omega (arith, below))

pub returns-clause-no_drained_late : goal.returns-clause-no_drained_late
returns-clause-no_drained_late c text means =
    let fits =
    c.records_mean_their_course.ensures.fitting two_devices (pulled_at 3) (Some 1099511627776) text ((omega arith, omega arith), ((omega arith, omega arith), ((omega arith, omega arith), tt))) (omega arith) means
    in
    let below = fits.limits.last in
    absurd (omega (arith, below))

pub returns-clause-no_long : goal.returns-clause-no_long
returns-clause-no_long c setup events text small many means =
    let fits = c.records_mean_their_course.ensures.fitting setup events None text small tt means in
    let few = fits.limits.few in
    absurd (omega (arith, few, many))

pub returns-clause-no_drained_long : goal.returns-clause-no_drained_long
returns-clause-no_drained_long c setup events moment text small ends many means =
    let fits = c.records_mean_their_course.ensures.fitting setup events (Some moment) text small ends means in
    let few = fits.limits.few in
    absurd (omega (arith, few, many))
