use Rattle.std.proofs.Common.{inr}
use Rattle.clk_script.specs.Script.{lines_of}
use Rattle.clk_script.specs.inside.ScriptRouter.{named_by}
use Rattle.clk_script.proofs.Texts.ReadingLemmas.{reading-end, reading-sound, ends-read, ends-wrong, ends-wrong-text}
use Rattle.clk_script.proofs.reading.Reading.end.Goals as goal

pub returns-in-Some : goal.returns-in-Some
returns-in-Some c text h = inr (ends-wrong-text _ text c.in-Some.fault (rw c.in-Some.is at h))

pub returns-in-Some-fault : goal.returns-in-Some-fault
returns-in-Some-fault c text h =
    let reading = reading-end (named_by c.args.numbers.now c.args.devices) text c.args.last.now c.args.self c.read_lines.new.self c.in_default.is h c.in_ok-read_lines.ensures.read in
    inr (ends-wrong _ text c.in-Some-fault.fault (rw c.in-Some-fault.is at reading))

pub returns-in-None : goal.returns-in-None
returns-in-None c text h =
    let names = named_by c.args.numbers.now c.args.devices in
    let reading = reading-end names text c.args.last.now c.args.self c.read_lines.new.self c.in_default.is h c.in_ok-read_lines.ensures.read in
    ends-read names text c.read_lines.new.self (reading-sound names (lines_of text) c.read_lines.new.self c.in-None.is reading)
