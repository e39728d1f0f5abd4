-- The lines of a script by their numbers, in words for proofs.
use Rattle.std.specs.Prelude.{ℕ, Bool, Option, is_some}
use Rattle.std.specs.Option.{option_map_or}
use Rattle.clk_script.specs.declared.script.Command.TheVariants.{Send, Pull}
use Rattle.clk_script.specs.declared.script.ScriptLine.{ScriptLine}
use Rattle.clk_script.specs.declared.script.ScriptLine.TheVariants as line
use Rattle.clk_script.specs.Script.{line_with, drain_in}

-- a `send` of this sender and length, if both are in range
abbrev pub send_of : Option ℕ → Option ℕ → ScriptLine
send_of sender length = line_with Send sender length

-- a `pull` of this moment and device, if both are in range
abbrev pub pull_of : Option ℕ → Option ℕ → ScriptLine
pull_of moment device = line_with (λ m d. Pull d m) moment device

-- a `drain` from this moment, if it is in range
abbrev pub drain_of : Option ℕ → ScriptLine
drain_of moment = option_map_or line.Drain moment line.Malformed

-- whether a line is a drain
abbrev pub is_drain : ScriptLine → Bool
is_drain l = is_some (drain_in l)
