-- The lines of a script, and which fault it has (this project's own format).
use Rattle.std.specs.Prelude.{ℕ, ◌+◌, List, [], ◌∷◌, length, map, filter, Bool, false, ◌==◌, ◌||◌, nat_lt, if◌then◌else◌, Option, Some, None, is_some, codes, slice_get}
use Rattle.std.specs.Option.{option_or, option_map_or}
use Rattle.std.specs.List.{slice_split, filter_map, list_any}
use Rattle.std.specs.Str.{bytes_eq}
use Rattle.std.specs.Str.Lines.{lines}
use Rattle.clk_packet.specs.declared.limits.TheConstants.{MAX_SENDER, MAX_LENGTH}
use Rattle.clk_packet.specs.Numbers.{has_bytes, number_in}
use Rattle.clk_packet.specs.declared.fault.Fault.{Fault}
use Rattle.clk_packet.specs.declared.fault.Fault.TheVariants.{TooLarge, BadScript, UnknownSender}
use Rattle.clk_script.specs.declared.limits.TheConstants.{MAX_SCRIPT_BYTES, MAX_LINES, MAX_MOMENT, MAX_DEVICE}
use Rattle.clk_script.specs.declared.script.Command.{Command}
use Rattle.clk_script.specs.declared.script.Command.TheVariants.{Send, Pull}
use Rattle.clk_script.specs.declared.script.ScriptLine.{ScriptLine}
use Rattle.clk_script.specs.declared.script.ScriptLine.TheVariants as line

-- whether a byte is a space or a tab
abbrev pub is_blank : ℕ → Bool
is_blank byte = (byte == 32) || (byte == 9)

-- the parts between blanks, without the empty ones
abbrev pub fields : List ℕ → List (List ℕ)
fields text = filter has_bytes (slice_split is_blank text)

-- the line of a command with two numbers, if both are there
abbrev pub line_with : (ℕ → ℕ → Command) → Option ℕ → Option ℕ → ScriptLine
line_with command first second = option_map_or (λ m. option_map_or (λ n. line.Command (command m n)) second line.Malformed) first line.Malformed

-- the line of the word `send` and these fields: a sender and a length
abbrev pub sender_and_length : List (List ℕ) → ScriptLine
sender_and_length (sender ∷ length ∷ []) = line_with Send (number_in 0 MAX_SENDER sender) (number_in 1 MAX_LENGTH length)
sender_and_length arguments = line.Malformed

-- the line of the word `pull` and these fields: a moment, and a device, which is device 0 if none is named
abbrev pub moment_and_device : List (List ℕ) → ScriptLine
moment_and_device (moment ∷ []) = line_with (λ m d. Pull d m) (number_in 0 MAX_MOMENT moment) (Some 0)
moment_and_device (moment ∷ device ∷ []) = line_with (λ m d. Pull d m) (number_in 0 MAX_MOMENT moment) (number_in 0 MAX_DEVICE device)
moment_and_device arguments = line.Malformed

-- the moment of the word `drain` and these fields, if they are one moment
abbrev pub only_moment : List (List ℕ) → Option ℕ
only_moment (moment ∷ []) = number_in 0 MAX_MOMENT moment
only_moment arguments = None

-- The line of these fields: `send S L`, `pull M`, `pull M D`, `drain M`, a blank line, or none of these.
abbrev pub line_of_fields : List (List ℕ) → ScriptLine
line_of_fields [] = line.Blank
line_of_fields (word ∷ arguments) =
    if bytes_eq word (codes "send") then sender_and_length arguments
    else if bytes_eq word (codes "pull") then moment_and_device arguments
    else if bytes_eq word (codes "drain") then option_map_or line.Drain (only_moment arguments) line.Malformed
    else line.Malformed

-- the line of a text
abbrev pub line_of : List ℕ → ScriptLine
line_of text = line_of_fields (fields text)

-- what the commands of a script may name: these senders, and the first `devices` devices
pub record Names : Type 0 where
  pub senders : List ℕ
  pub devices : ℕ

-- the fault of the command in the line with this number, if it has one
abbrev pub command_fault : Names → ℕ → Command → Option Fault
command_fault names number (Send sender length) = if list_any (λ s. s == sender) names.senders then None else Some (UnknownSender sender)
command_fault names number (Pull device moment) = if nat_lt device names.devices then None else Some (BadScript number)

-- the fault of the line with this number, if it has one: after a drain only blank lines may follow
abbrev pub line_fault : Names → Bool → ℕ → ScriptLine → Option Fault
line_fault names drained number line.Blank = None
line_fault names drained number line.Malformed = Some (BadScript number)
line_fault names drained number (line.Command command) = if drained then Some (BadScript number) else command_fault names number command
line_fault names drained number (line.Drain moment) = if drained then Some (BadScript number) else None

-- The fault of the line with this number, if it has one: it is one line too many, whatever it says, or has a fault of its own.
abbrev pub fault_at : Names → Bool → ℕ → ScriptLine → Option Fault
fault_at names drained number l = if nat_lt MAX_LINES number then Some TooLarge else line_fault names drained number l

-- the moment of a line, if it is a drain
abbrev pub drain_in : ScriptLine → Option ℕ
drain_in (line.Drain moment) = Some moment
drain_in l = None

-- The fault of the first of these lines that has one. The lines are counted from `number` on, and `drained` says whether a drain came
-- before them.
abbrev pub first_fault : Names → Bool → ℕ → List ScriptLine → Option Fault
first_fault names drained number [] = None
first_fault names drained number (l ∷ more) =
    option_or (fault_at names drained number l) (first_fault names (drained || is_some (drain_in l)) (number + 1) more)

-- the lines of a script: a line ends with a line feed, which the last may lack, and loses one carriage return right before it
abbrev pub lines_of : List ℕ → List ScriptLine
lines_of script = map line_of (lines script)

-- The fault of a script, if it has one: it has too many bytes, or else the fault of the first line that has one.
abbrev pub script_fault : Names → List ℕ → Option Fault
script_fault names script = if nat_lt MAX_SCRIPT_BYTES (length script) then Some TooLarge else first_fault names false 1 (lines_of script)

-- the command of a line, if it is one
abbrev pub command_in : ScriptLine → Option Command
command_in (line.Command command) = Some command
command_in l = None

-- the commands of a script, in order
abbrev pub commands_of : List ℕ → List Command
commands_of script = filter_map command_in (lines_of script)

-- the moment from which a script drains the devices, if it has a drain
abbrev pub closing_moment : List ℕ → Option ℕ
closing_moment script = slice_get (filter_map drain_in (lines_of script)) 0
