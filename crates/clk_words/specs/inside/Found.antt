-- What is told by the command that was found in the words, if there is one.
use Rattle.std.specs.Prelude.{Bool, false, List, Option}
use Rattle.std.specs.Option.{option_map_or}
use Rattle.clap.specs.Walk.{Row, Text}
use Rattle.clk_words.specs.Words.{Task, builtin, task_by, explains}

-- what the words ask for by their command
abbrev pub task_of : Option (Text × List Row) → Task
task_of command = option_map_or (λ (found : Text × List Row). task_by found.0 found.1) command builtin

-- whether the words of the command have `--explain`
abbrev pub explains_below : Option (Text × List Row) → Bool
explains_below command = option_map_or (λ (found : Text × List Row). explains found.1) command false
