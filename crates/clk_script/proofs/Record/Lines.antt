-- What the lines of a record say, command by command.
use Rattle.std.proofs.Common.{◌≡◌, ℕ, zero, suc, ◌<◌, ◌≤◌, ◌^◌, List, [], ◌∷◌, ◌++◌, map, codes, decimal, Option, Some, None, IfSome, refl, ap, ◌∙◌, append_assoc, rules}
use Rattle.std.specs.List.{AllByRecursion}
use Rattle.clk_packet.specs.declared.limits.TheConstants.{MAX_SENDER, MAX_LENGTH}
use Rattle.clk_packet.specs.Numbers.{number_in}
use Rattle.clk_tree.proofs.Callers.Numbers.{decimal-digits, number-again}
use Rattle.clk_script.specs.declared.script.Command.{Command}
use Rattle.clk_script.specs.declared.script.Command.TheVariants.{Send, Pull}
use Rattle.clk_script.specs.declared.script.ScriptLine.{ScriptLine}
use Rattle.clk_script.specs.declared.script.ScriptLine.TheVariants as line
use Rattle.clk_script.specs.Script.{lines_of}
use Rattle.clk_script.specs.inside.Numbered.{send_of, pull_of, drain_of}
use Rattle.clk_script.specs.declared.limits.TheConstants.{MAX_MOMENT, MAX_DEVICE}
use Rattle.clk_script.specs.Record.{command_text, drain_text, record_text, IsSmall}
use Rattle.clk_script.proofs.Texts.PlainLines.{IsField, digits-field, line-spaced}

-- what the line of a command is read as: the command, or a malformed line where a number is out of range
abbrev pub line_said : Command → ScriptLine
line_said (Send sender size) = send_of (number_in 0 MAX_SENDER (decimal sender)) (number_in 1 MAX_LENGTH (decimal size))
line_said (Pull zero moment) = pull_of (number_in 0 MAX_MOMENT (decimal moment)) (Some 0)
line_said (Pull (suc d) moment) = pull_of (number_in 0 MAX_MOMENT (decimal moment)) (number_in 0 MAX_DEVICE (decimal (suc d)))

-- what that of a drain is read as, if there is one
abbrev pub drain_said : Option ℕ → List ScriptLine
drain_said None = []
drain_said (Some moment) = drain_of (number_in 0 MAX_MOMENT (decimal moment)) ∷ []

number-field : (n : ℕ) → n < 2 ^ 64 → IsField (decimal n)
number-field n small = digits-field (decimal n) (decimal-digits n small)

two-numbers : (m n : ℕ) (rest : List ℕ) → (decimal m ++ 32 ∷ (decimal n ++ 10 ∷ [])) ++ rest ≡ (decimal m ++ 32 ∷ decimal n) ++ 10 ∷ rest
two-numbers m n rest = search (rules, append_assoc)

line-command : (command : Command) (rest : List ℕ) → IsSmall command → lines_of (command_text command ++ rest) ≡ line_said command ∷ lines_of rest
line-command (Send sender size) rest small =
    ap (λ t. lines_of (codes "send " ++ t)) (two-numbers sender size rest)
    ∙ line-spaced (codes "send") (decimal sender ∷ decimal size ∷ []) rest (record { some = refl; all = refl }) (number-field sender small.0, (number-field size small.1, tt))
line-command (Pull zero moment) rest small =
    ap (λ t. lines_of (codes "pull " ++ t)) (append_assoc (decimal moment) (10 ∷ []) rest)
    ∙ line-spaced (codes "pull") (decimal moment ∷ []) rest (record { some = refl; all = refl }) (number-field moment small.1, tt)
line-command (Pull (suc d) moment) rest small =
    ap (λ t. lines_of (codes "pull " ++ t)) (two-numbers moment (suc d) rest)
    ∙ line-spaced (codes "pull") (decimal moment ∷ decimal (suc d) ∷ []) rest (record { some = refl; all = refl }) (number-field moment small.1, (number-field (suc d) small.0, tt))

line-drain : (drain : Option ℕ) → IfSome drain (λ moment. moment < 2 ^ 64) → lines_of (drain_text drain) ≡ drain_said drain
line-drain None small = refl
line-drain (Some moment) small = line-spaced (codes "drain") (decimal moment ∷ []) [] (record { some = refl; all = refl }) (number-field moment small, tt)

-- the lines of a record
pub lines-record : (commands : List Command) (drain : Option ℕ) → AllByRecursion IsSmall commands → IfSome drain (λ moment. moment < 2 ^ 64)
    → lines_of (record_text commands drain) ≡ map line_said commands ++ drain_said drain
lines-record [] drain small ends = line-drain drain ends
lines-record (command ∷ more) drain small ends = search (rules, line-drain, append_assoc, line-command, (lines-record more drain small.1 ends))

-- the numbers of a command are within their ranges
abbrev pub CanSay : Command → Type 0
CanSay (Send sender size) = (sender ≤ MAX_SENDER) × (1 ≤ size) × (size ≤ MAX_LENGTH)
CanSay (Pull device moment) = (device ≤ MAX_DEVICE) × (moment ≤ MAX_MOMENT)

can-small : (command : Command) → CanSay command → IsSmall command
can-small command can = search rules

pub all-small : (commands : List Command) → AllByRecursion CanSay commands → AllByRecursion IsSmall commands
all-small [] can = tt
all-small (command ∷ more) can = (can-small command can.0, all-small more can.1)

pub drain-small : (drain : Option ℕ) → IfSome drain (λ moment. moment ≤ MAX_MOMENT) → IfSome drain (λ moment. moment < 2 ^ 64)
drain-small drain fits = search rules

-- the line of such a command is read as the command
pub line-again : (command : Command) → CanSay command → line_said command ≡ line.Command command
line-again command can = search (rules, number-again)

-- the line of a drain within the range of moments
abbrev pub drain_lines : Option ℕ → List ScriptLine
drain_lines None = []
drain_lines (Some moment) = line.Drain moment ∷ []

drain-again : (drain : Option ℕ) → IfSome drain (λ moment. moment ≤ MAX_MOMENT) → drain_said drain ≡ drain_lines drain
drain-again drain fits = search (rules, number-again)

-- all lines of such a record are read as its commands and its drain
pub lines-again : (commands : List Command) (drain : Option ℕ) → AllByRecursion CanSay commands → IfSome drain (λ moment. moment ≤ MAX_MOMENT)
    → map line_said commands ++ drain_said drain ≡ map line.Command commands ++ drain_lines drain
lines-again [] drain can fits = drain-again drain fits
lines-again (command ∷ more) drain can fits = search (rules, drain-again, line-again, (lines-again more drain can.1 fits))
