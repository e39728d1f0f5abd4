-- A record that means anything was written from events that fit.
use Rattle.std.proofs.Common.{◌≡◌, ℕ, zero, suc, ◌+◌, ◌<◌, ◌≤◌, ◌^◌, ◌||◌, Bool, false, List, [], ◌∷◌, ◌++◌, length, map, decimal, Option, Some, None, IfSome, refl, subst, length-append, arith, rules}
use Rattle.std.specs.List.{filter_map, AllByRecursion}
use Rattle.std.proofs.lemmas.List.{length-map}
use Rattle.clk_packet.specs.declared.limits.TheConstants.{MAX_SENDER, MAX_LENGTH}
use Rattle.clk_packet.specs.Numbers.{number_in}
use Rattle.clk_tree.proofs.Callers.Numbers.{number-read}
use Rattle.clk_router.specs.Events.{Setup, Event, offered, pulled, moment_in}
use Rattle.clk_script.specs.declared.script.Command.{Command}
use Rattle.clk_script.specs.declared.script.Command.TheVariants.{Send, Pull}
use Rattle.clk_script.specs.declared.script.ScriptLine.{ScriptLine}
use Rattle.clk_script.specs.Script.{Names, line_fault, first_fault, lines_of, script_fault}
use Rattle.clk_script.specs.inside.Numbered.{is_drain, send_of, pull_of, drain_of}
use Rattle.clk_script.specs.declared.limits.TheConstants.{MAX_LINES, MAX_MOMENT, MAX_DEVICE}
use Rattle.clk_script.specs.Meaning.{names_of, command_of}
use Rattle.clk_script.specs.Record.{record_text, drain_count, IsSmall, FitsNames, OnlyFittingRecordsMean}
use Rattle.clk_script.specs.inside.ScriptRouter.{IsSound}
use Rattle.clk_script.proofs.Meanings.ScriptLemmas.{each-command-sound}
use Rattle.clk_script.proofs.Record.Lines.{CanSay, line_said, drain_said, line-again, lines-record}
use Rattle.clk_script.proofs.Record.Sound.{commands-are}

-- a number that was read is in the range
within : (least most n x : ℕ) → n < 2 ^ 64 → number_in least most (decimal n) ≡ Some x → (least ≤ n) × (n ≤ most)
within least most n x small e = search (rules, number-read)

-- a command whose line has nothing wrong has numbers within their ranges
said-within : (names : Names) (number : ℕ) (command : Command) → IsSmall command → line_fault names false number (line_said command) ≡ None → CanSay command
said-within names number (Send sender size) small e = by_numbers (number_in 0 MAX_SENDER (decimal sender)) (number_in 1 MAX_LENGTH (decimal size)) refl refl e
  where
    by_numbers : (o p : Option ℕ) → number_in 0 MAX_SENDER (decimal sender) ≡ o → number_in 1 MAX_LENGTH (decimal size) ≡ p → line_fault names false number (send_of o p) ≡ None
        → (sender ≤ MAX_SENDER) × (1 ≤ size) × (size ≤ MAX_LENGTH)
    by_numbers o p f g h = search (rules, within)
said-within names number (Pull zero moment) small e = search (rules, within)
said-within names number (Pull (suc d) moment) small e = by_numbers (number_in 0 MAX_MOMENT (decimal moment)) (number_in 0 MAX_DEVICE (decimal (suc d))) refl refl e
  where
    by_numbers : (o p : Option ℕ) → number_in 0 MAX_MOMENT (decimal moment) ≡ o → number_in 0 MAX_DEVICE (decimal (suc d)) ≡ p → line_fault names false number (pull_of o p) ≡ None
        → (suc d ≤ MAX_DEVICE) × (moment ≤ MAX_MOMENT)
    by_numbers None p f g h = absurd (cc)
    by_numbers (Some m) None f g h = absurd (cc)
    by_numbers (Some m) (Some c) f g h = ((within 0 MAX_DEVICE (suc d) c small.0 g).1, (within 0 MAX_MOMENT moment m small.1 f).1)

drain-within : (names : Names) (number moment : ℕ) → moment < 2 ^ 64 → line_fault names false number (drain_of (number_in 0 MAX_MOMENT (decimal moment))) ≡ None → moment ≤ MAX_MOMENT
drain-within names number moment small e = search (rules, within)

-- where nothing is wrong with lines, nothing is wrong with the first, nor with the others
first-fine : (names : Names) (drained : Bool) (number : ℕ) (l : ScriptLine) (more : List ScriptLine) → first_fault names drained number (l ∷ more) ≡ None
    → (number ≤ MAX_LINES) × (line_fault names drained number l ≡ None) × (first_fault names (drained || is_drain l) (number + 1) more ≡ None)
first-fine names drained number l more e = search rules

few-lines : (names : Names) (drained : Bool) (number : ℕ) (all : List ScriptLine) → first_fault names drained number all ≡ None → number ≤ MAX_LINES + 1 → number + length all ≤ MAX_LINES + 1
few-lines names drained number [] e few = omega (arith, few)
few-lines names drained number (l ∷ more) e few =
    let fine = first-fine names drained number l more e in
    let rest = few-lines names (drained || is_drain l) (number + 1) more fine.2 (let at = fine.0 in omega (arith, at)) in
    omega (arith, rest)

all-within : (names : Names) (number : ℕ) (commands : List Command) (drain : Option ℕ) → AllByRecursion IsSmall commands → IfSome drain (λ moment. moment < 2 ^ 64)
    → first_fault names false number (map line_said commands ++ drain_said drain) ≡ None → AllByRecursion CanSay commands × IfSome drain (λ moment. moment ≤ MAX_MOMENT)
all-within names number [] drain small ends e = search (rules, drain-within, first-fine, said-within, line-again)
all-within names number (command ∷ more) drain small ends e =
    let fine = first-fine names false number (line_said command) (map line_said more ++ drain_said drain) e in
    let can : CanSay command = said-within names number command small.0 fine.1 in
    let rest = all-within names (number + 1) more drain small.1 ends (subst (λ l. first_fault names (false || is_drain l) (number + 1) (map line_said more ++ drain_said drain) ≡ None) (line-again command can) fine.2) in
    ((can, rest.0), rest.1)

-- the lines of a script with nothing wrong have nothing wrong
sound-lines : (names : Names) (script : List ℕ) → script_fault names script ≡ None → first_fault names false 1 (lines_of script) ≡ None
sound-lines names script e = search rules

length-said : (drain : Option ℕ) → length (drain_said drain) ≡ drain_count drain
length-said drain = search rules

-- what is so of commands is so of their events
names-fit : (setup : Setup) (events : List Event) → AllByRecursion CanSay (map command_of events) → AllByRecursion (IsSound (names_of setup)) (map command_of events) → AllByRecursion (FitsNames setup) events
names-fit setup [] can sound = tt
names-fit setup (offered p outcome ∷ more) can sound = ((sound.0.0, can.0.0), names-fit setup more can.1 sound.1)
names-fit setup (pulled device moment visits ∷ more) can sound = (can.0.0, names-fit setup more can.1 sound.1)

moments-fit : (events : List Event) → AllByRecursion CanSay (map command_of events) → AllByRecursion (λ moment. moment ≤ MAX_MOMENT) (filter_map moment_in events)
moments-fit [] can = tt
moments-fit (offered p outcome ∷ more) can = moments-fit more can.1
moments-fit (pulled device moment visits ∷ more) can = (can.0.1, moments-fit more can.1)

pub only-fitting : (setup : Setup) → OnlyFittingRecordsMean setup
only-fitting setup events drain text small ends means = record {
  names = names-fit setup events all.0 (subst (AllByRecursion (IsSound (names_of setup))) (commands-are commands drain all.0 all.1) (each-command-sound (names_of setup) script means.1.sound));
  limits = record { moments = moments-fit events all.0; last = all.1; few = few };
}
  where
    commands : List Command
    commands = map command_of events

    script : List ℕ
    script = record_text commands drain

    said : first_fault (names_of setup) false 1 (map line_said commands ++ drain_said drain) ≡ None
    said = subst (λ l. first_fault (names_of setup) false 1 l ≡ None) (lines-record commands drain small ends) (sound-lines (names_of setup) script means.1.sound)

    all : AllByRecursion CanSay commands × IfSome drain (λ moment. moment ≤ MAX_MOMENT)
    all = all-within (names_of setup) 1 commands drain small ends said

    few : length events + drain_count drain ≤ MAX_LINES
    few = search (rules, names-fit, commands-are, each-command-sound, moments-fit, lines-record, sound-lines, all-within, few-lines, length-append, length-map, length-said, commands, said)
