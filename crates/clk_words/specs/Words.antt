-- What the words after the program's name ask for. How a grammar reads words is clap's own definition (`matches_of`, `subcommand_of`), and
-- so is which kind of error it returns for words that it doesn't accept (`fault_of`).
use Rattle.std.specs.Prelude.{⊤, ◌≡◌, ◌≢◌, ◌⊎◌, ◌^◌, ◌&&◌, ◌||◌, ℕ, Bool, true, false, not, is_some, IfSome, List, [], ◌∷◌, length, nat_lt, if◌then◌else◌, Option, Some, None, codes, unwrap_or, option_map, pos}
use Rattle.std.specs.Option.{option_map_or}
use Rattle.std.specs.List.{AllByRecursion, list_all}
use Rattle.std.specs.Str.{bytes_eq}
use Rattle.std.specs.Str.Parse.{digits_value, without_leading_plus}
use Rattle.std.specs.Char.{digit_value}
use Rattle.clap.specs.Walk.{Row, Rule, Text, first_of, one_of, rule_of}
use Rattle.clap.specs.Simple.{App, app_of, matches_of, new_app, new_rule, on_top, with_rule, with_subcommand, subcommand_of}
use Rattle.clap.specs.declared.builder.action.ArgAction.TheVariants.{SetTrue}
use Rattle.clap.specs.declared.builder.arg.Arg.{Arg}
use Rattle.clap.specs.declared.builder.command.Command.{Command}
use Rattle.clap.specs.declared.builder.command.Command.TheViews.{out-Command as fields_of}
use Rattle.clap.specs.declared.builder.value_parser.ValueParser.TheVariants.{Signed}
use Rattle.std.specs.Borrow.{Bor}
use Rattle.clk_gate.specs.declared.limits.TheConstants.{MAX_STEP, MAX_LIMIT}
use Rattle.clk_words.specs.declared.words.Asked.{Asked}
use Rattle.clk_words.specs.declared.words.Asked.TheVariants.{Builtin, Check, Lint, Over}
use Rattle.clk_words.specs.declared.words.Job.{Job}
use Rattle.clk_words.specs.declared.words.Job.TheVariants.{LintTrace, Script, Run, Live}

-- a word that names a file, and is required
abbrev pub file_word : Text → Rule
file_word name = record (new_rule name) { required = true }

-- `--name FILE`
abbrev pub file_option : Text → Rule
file_option name = record (new_rule name) { long = Some name; value_names = 1 }

-- `--name N`, a number from 1 to `most`, with a default
abbrev pub number_option : Text → ℕ → Text → Rule
number_option name most default = record (new_rule name) {
  long = Some name;
  value_names = 1;
  parser = Some (Signed (pos 1) (pos most));
  defaults = default ∷ [];
}

-- `--name`
abbrev pub flag_option : Text → Rule
flag_option name = record (new_rule name) { long = Some name; action = Some SetTrue }

-- `NAME [--explain]`
abbrev pub titled_words : Text → App
titled_words name = with_rule (new_app name) (flag_option (codes "explain"))

-- `check TREE`
abbrev pub check_words : App
check_words = with_rule (titled_words (codes "check")) (file_word (codes "TREE"))

-- `lint TREE [TRACE]`
abbrev pub lint_words : App
lint_words = with_rule (with_rule (titled_words (codes "lint")) (file_word (codes "TREE"))) (new_rule (codes "TRACE"))

-- `script TREE SCRIPT [--visits FILE]`
abbrev pub script_words : App
script_words = with_rule (with_rule (with_rule (titled_words (codes "script")) (file_word (codes "TREE"))) (file_word (codes "SCRIPT"))) (file_option (codes "visits"))

-- `NAME TREE TRACE [--step N] [--limit N]`
abbrev pub traced_words : Text → App
traced_words name = with_rule (with_rule (with_rule (with_rule (titled_words name)
    (file_word (codes "TREE"))) (file_word (codes "TRACE")))
    (number_option (codes "step") MAX_STEP (codes "1"))) (number_option (codes "limit") MAX_LIMIT (codes "1000"))

-- `run TREE TRACE [--step N] [--limit N] [--visits FILE]`
abbrev pub run_words : App
run_words = with_rule (traced_words (codes "run")) (file_option (codes "visits"))

-- `live TREE TRACE [--step N] [--limit N] [--record FILE] [--visits FILE]`
abbrev pub live_words : App
live_words = with_rule (with_rule (traced_words (codes "live")) (file_option (codes "record"))) (file_option (codes "visits"))

-- `[--explain]`, the program without its commands: the first word isn't the program's name
abbrev pub top_words : App
top_words = on_top (λ s. record s { no_binary_name = true; has_version = true }) (titled_words (codes "clickpull"))

-- the words of the program: one of five commands, no words at all, or a question for help or the version
abbrev pub program_words : App
program_words = with_subcommand (with_subcommand (with_subcommand (with_subcommand (with_subcommand top_words check_words.top) lint_words.top) script_words.top) run_words.top) live_words.top

-- An argument reads words by this rule.
pub record IsWord (arg : Arg) (rule : Rule) : Type 0 where
  pub reads : rule_of arg ≡ rule
  pub local : arg.global ≡ false

-- A command with its subcommands reads words by this grammar.
pub record Reads (command : Command) (app : App) : Type 0 where
  pub reads : app_of command ≡ app
  pub local : (fields_of command).has_globals ≡ false

-- what is done over a tree and a second input; files are named by their paths
pub data Work : Type 0 where
  lint_trace : Work
  script : Option Text → Work
  run : (step limit : ℕ) (visits : Option Text) → Work
  live : (step limit : ℕ) (record_file visits : Option Text) → Work

-- what the words ask for
pub data Task : Type 0 where
  builtin : Task
  check : Text → Task
  lint : Text → Task
  over : (tree input : Text) → Work → Task

-- whether a run is recorded: a file is named for its record or for its visits
abbrev pub is_recorded : Option Text → Option Text → Bool
is_recorded record_file visits = is_some record_file || is_some visits

-- the path that stands for standard input, and for standard output as the path of visits
abbrev pub dash : Text
dash = codes "-"

-- whether a task reads standard input
abbrev pub reads_input : Task → Bool
reads_input builtin = true
reads_input (check tree) = bytes_eq tree dash
reads_input (lint tree) = bytes_eq tree dash
reads_input (over tree input job) = bytes_eq tree dash || bytes_eq input dash

-- whether visits go to standard output, where they follow the answer
abbrev pub visits_follow : Option Text → Bool
visits_follow visits = option_map_or (λ path. bytes_eq path dash) visits false

-- whether visits go to a file
abbrev pub go_to_file : Option Text → Bool
go_to_file visits = option_map_or (λ path. not (bytes_eq path dash)) visits false

-- whether some work writes a file
abbrev pub writes_file : Work → Bool
writes_file lint_trace = false
writes_file (script visits) = go_to_file visits
writes_file (run step limit visits) = go_to_file visits
writes_file (live step limit record_file visits) = is_some record_file || go_to_file visits

-- whether all that some work writes goes to standard output: no file is written, and no record made
abbrev pub writes_output_alone : Work → Bool
writes_output_alone (live step limit record_file visits) = false
writes_output_alone job = not (writes_file job)

-- whether all that a task writes goes to standard output
abbrev pub answers_alone : Task → Bool
answers_alone (over tree input job) = writes_output_alone job
answers_alone task = true

-- a file that is to be written has another path than these
abbrev pub IsApartFrom : Text → List Text → Type 0
IsApartFrom path others = AllByRecursion (λ (other : Text). path ≢ other) others

-- visits, if they are asked for, go to standard output, or to a file that has another path than these
abbrev pub GoApartFrom : Option Text → List Text → Type 0
GoApartFrom visits others = IfSome visits (λ (path : Text). (path ≡ dash) ⊎ IsApartFrom path others)

-- no file that some work writes has the path of another of its files, and no record goes to the path that stands for standard input
abbrev pub WritesApart : Work → List Text → Type 0
WritesApart lint_trace inputs = ⊤
WritesApart (script visits) inputs = GoApartFrom visits inputs
WritesApart (run step limit visits) inputs = GoApartFrom visits inputs
WritesApart (live step limit None visits) inputs = GoApartFrom visits inputs
WritesApart (live step limit (Some record_file) visits) inputs = IsApartFrom record_file (dash ∷ inputs) × GoApartFrom visits (record_file ∷ inputs)

-- At most one input of a task is standard input, and no file that it writes has the path of another of its files.
abbrev pub AreApart : Task → Type 0
AreApart (over tree input job) = (tree ≡ dash → input ≢ dash) × WritesApart job (tree ∷ input ∷ [])
AreApart task = ⊤

-- A task may be one whose files are not apart: it writes a file, or both its inputs are standard input.
abbrev pub MayClash : Task → Type 0
MayClash (over tree input job) = ((tree ≡ dash) × (input ≡ dash)) ⊎ (writes_file job ≡ true)
MayClash task = ⊥

-- whether these are the digits of a number of 32 bits
abbrev pub is_number : Text → Bool
is_number digits = nat_lt 0 (length digits) && list_all (λ d. nat_lt (digit_value d) 10) digits && nat_lt (digits_value 10 digits) (2 ^ 32)

-- the number whose digits follow a plus sign, if there is one; 1 for any other text
abbrev pub number_or_one : Text → ℕ
number_or_one text = if is_number (without_leading_plus text) then digits_value 10 (without_leading_plus text) else 1

-- the nearest number from 1 to `most`
abbrev pub within_one_and : ℕ → ℕ → ℕ
within_one_and most n = if nat_lt n 1 then 1 else (if nat_lt most n then most else n)

-- the number from 1 to `most` that an option has, or its default
abbrev pub number_of : List Row → Text → ℕ → ℕ
number_of rows name most = within_one_and most (option_map_or number_or_one (one_of name rows) 1)

-- the path that a required word has, or no bytes if the word is missing
abbrev pub path_of : List Row → Text → Text
path_of rows name = unwrap_or (first_of name rows) []

-- a borrowed text
abbrev pub text_of : Bor Text → Text
text_of t = t.now

-- what is to be done over a tree and a second input, with the texts of the paths
abbrev pub work : Job → Work
work LintTrace = lint_trace
work (Script visits) = script (option_map text_of visits)
work (Run pace visits) = run pace.step pace.limit (option_map text_of visits)
work (Live pace record_file visits) = live pace.step pace.limit (option_map text_of record_file) (option_map text_of visits)

-- what is asked for, with the texts of the paths
abbrev pub task : Asked → Task
task Builtin = builtin
task (Check tree) = check tree.now
task (Lint tree) = lint tree.now
task (Over tree input job) = over tree.now input.now (work job)

-- what `lint` asks for: the warnings of a tree, or those of a tree and a trace if one is named
abbrev pub lint_task : Text → Option Text → Task
lint_task tree trace = option_map_or (λ path. over tree path lint_trace) trace (lint tree)

-- what a command asks for, by its name and what was found of its words
abbrev pub task_by : Text → List Row → Task
task_by name rows =
    if bytes_eq name (codes "check") then check (path_of rows (codes "TREE"))
    else if bytes_eq name (codes "lint") then lint_task (path_of rows (codes "TREE")) (first_of (codes "TRACE") rows)
    else if bytes_eq name (codes "script") then over (path_of rows (codes "TREE")) (path_of rows (codes "SCRIPT")) (script (first_of (codes "visits") rows))
    else if bytes_eq name (codes "run") then over (path_of rows (codes "TREE")) (path_of rows (codes "TRACE")) (run (number_of rows (codes "step") MAX_STEP) (number_of rows (codes "limit") MAX_LIMIT) (first_of (codes "visits") rows))
    else if bytes_eq name (codes "live") then over (path_of rows (codes "TREE")) (path_of rows (codes "TRACE")) (live (number_of rows (codes "step") MAX_STEP) (number_of rows (codes "limit") MAX_LIMIT) (first_of (codes "record") rows) (first_of (codes "visits") rows))
    else builtin

-- what the words ask for, by their command if they have one
abbrev pub task_in : List Text → Task
task_in words = option_map_or (λ (found : Text × List Row). task_by found.0 found.1) (subcommand_of program_words words) builtin

-- whether the words of the program or of a command have `--explain`
abbrev pub explains : List Row → Bool
explains rows = option_map_or (λ value. bytes_eq value (codes "true")) (first_of (codes "explain") rows) false

-- whether a fault is to be explained: the words before the command or those of the command say so
abbrev pub is_explained : List Text → Bool
is_explained words = explains (matches_of program_words words) || option_map_or (λ (found : Text × List Row). explains found.1) (subcommand_of program_words words) false
