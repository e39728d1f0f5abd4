use Rattle.std.proofs.Common.{◌≡◌, None, List, ◌++◌, length}
use Rattle.clk_script.specs.declared.script.ScriptLine.{ScriptLine}
use Rattle.clk_script.specs.Script.{lines_of}
use Rattle.clk_script.specs.inside.ScriptRouter.{named_by}
use Rattle.clk_script.specs.inside.Reading.{AreRead}
use Rattle.clk_script.proofs.reading.Reading.read_lines.Given as goal

-- Some lines are read, and what is left follows them.
abbrev pub invariant-loop-rest : goal.invariant-loop-rest
invariant-loop-rest l = record {
  none : l.self.fault ≡ None;
  lines : (read : List ScriptLine) × (read ++ lines_of l.rest ≡ lines_of l.text) × ((lines : List ScriptLine) → AreRead (named_by l.numbers l.devices) lines l.fn.self → AreRead (named_by l.numbers l.devices) (lines ++ read) l.self);
}

abbrev pub decreases-loop-rest : goal.decreases-loop-rest
decreases-loop-rest l = length l.rest
