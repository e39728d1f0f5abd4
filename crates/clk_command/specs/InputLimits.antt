-- How many bytes a task reads of its inputs at most.
use Rattle.std.specs.Prelude.{ℕ, if◌then◌else◌}
use Rattle.std.specs.Str.{bytes_eq}
use Rattle.clk_packet.specs.declared.limits.TheConstants.{MAX_TRACE_BYTES}
use Rattle.clk_syntax.specs.declared.limits.TheConstants.{MAX_TREE_BYTES}
use Rattle.clk_script.specs.declared.limits.TheConstants.{MAX_SCRIPT_BYTES}
use Rattle.clk_words.specs.Words.{Task, builtin, check, lint, over, Work, script, dash}

-- how many bytes some work reads of its second input at most
abbrev pub most_of_work : Work → ℕ
most_of_work (script visits) = MAX_SCRIPT_BYTES
most_of_work job = MAX_TRACE_BYTES

-- how many bytes a task reads of standard input at most
abbrev pub most_of_input : Task → ℕ
most_of_input builtin = MAX_SCRIPT_BYTES
most_of_input (check tree) = MAX_TREE_BYTES
most_of_input (lint tree) = MAX_TREE_BYTES
most_of_input (over tree input job) = if bytes_eq tree dash then MAX_TREE_BYTES else most_of_work job
