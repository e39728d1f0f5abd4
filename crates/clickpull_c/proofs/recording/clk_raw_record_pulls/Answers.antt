use Rattle.std.proofs.Common.{◌+◌, length, take, replicate, None, refl, ap, ◌∙◌, arith, length-append}
use Rattle.clk_script.specs.declared.script.Command.TheVariants.{Pull}
use Rattle.clk_script.specs.Record.{command_text, record_text}
use Rattle.clk_script.proofs.Callers.Records.{pull-short}
use Rattle.clickpull_c.specs.Recording.{full}
use Rattle.clickpull_c.proofs.Records.{added-keeps, pulls-more, pulls-front, pulls-short}
use Rattle.clickpull_c.proofs.recording.clk_raw_record_pulls.Goals as goal

pub returns-in_default-clause-answer : goal.returns-in_default-clause-answer
returns-in_default-clause-answer c =
    let l = c.loop-made in
    let command = Pull c.args.device c.args.moment in
    let so_far = l.invariant.0 in
    let none = c.in_default.ensures.full refl in
    let test = c.loop-made-test.true in
    let more = ap length (pulls-more l.made command) in
    let both = length-append (record_text (replicate l.made command) None) (command_text command) in
    let front = pulls-front (l.made + 1) c.args.pulls command (omega (arith, test)) in
    let too_long = none.0 in
    let line = ap length c.command_line-line.ensures.line in
    let end = so_far.end_is in
    let same = l.invariant.1 in
    full refl (c.if-not-may_go_on.ensures.yes refl) (omega (arith, more, both, front, too_long, line, end, same))
    (ap (take c.args.used.now) none.1 ∙ added-keeps (record_text (replicate l.made command) None) c.args.text.now l.text c.args.used.now l.end so_far same) refl refl

pub returns-in_default-clause-enough : goal.returns-in_default-clause-enough
returns-in_default-clause-enough c =
    let l = c.loop-made in
    let command = Pull c.args.device c.args.moment in
    let none = c.in_default.ensures.full refl in
    let test = c.loop-made-test.true in
    let short = pull-short c.args.device c.args.moment (omega arith) (c.if-not-may_go_on.ensures.yes refl).early in
    let lines = pulls-short l.made command short in
    let too_long = none.0 in
    let line = ap length c.command_line-line.ensures.line in
    let end = l.invariant.0.end_is in
    let same = l.invariant.1 in
    λ room is. omega (arith, room, test, short, lines, too_long, line, end, same)
