-- The record of events that fit is a script with nothing wrong, and means what happened.
use Rattle.std.proofs.Common.{◌≡◌, ℕ, ◌+◌, ◌*◌, ◌≤◌, false, nat_lt, List, [], ◌∷◌, ◌++◌, length, map, Option, Some, None, IfSome, slice_get, refl, sym, ap, subst, ◌∙◌, length-append, arith, rules}
use Rattle.std.specs.List.{filter_map, flat_map, AllByRecursion}
use Rattle.std.proofs.lemmas.List.{length-map}
use Rattle.std.proofs.lemmas.Bool.Decides.{nat_tests}
use Rattle.clk_router.specs.Events.{Setup, Event, offered, pulled, moment_in, IsOfDevice}
use Rattle.clk_script.specs.declared.script.Command.{Command}
use Rattle.clk_script.specs.declared.script.Command.TheVariants.{Send, Pull}
use Rattle.clk_script.specs.declared.script.ScriptLine.TheVariants as line
use Rattle.clk_script.specs.Script.{Names, command_fault, first_fault, lines_of, script_fault, command_in, commands_of, drain_in, closing_moment}
use Rattle.clk_script.specs.declared.limits.TheConstants.{MAX_SCRIPT_BYTES, MAX_LINES, MAX_MOMENT}
use Rattle.clk_script.specs.Meaning.{names_of, command_of, course_text, IsClosed}
use Rattle.clk_script.specs.inside.ScriptRouter.{IsSound}
use Rattle.clk_script.specs.Record.{command_text, drain_text, record_text, drain_count, FitsNames, RecordsMeanTheirCourse}
use Rattle.clk_script.proofs.Callers.Records.{send-short, pull-short, drain-short}
use Rattle.clk_script.proofs.Record.Lines.{CanSay, all-small, drain-small, drain_lines, lines-record, lines-again}

-- the commands and the drain of such lines
commands-again : (commands : List Command) (drain : Option ℕ) → filter_map command_in (map line.Command commands ++ drain_lines drain) ≡ commands
commands-again [] drain = search rules
commands-again (command ∷ more) drain = ap (λ l. command ∷ l) (commands-again more drain)

drain-again : (commands : List Command) (drain : Option ℕ) → slice_get (filter_map drain_in (map line.Command commands ++ drain_lines drain)) 0 ≡ drain
drain-again [] drain = search rules
drain-again (command ∷ more) drain = drain-again more drain

no-command_fault : (names : Names) (number : ℕ) (command : Command) → IsSound names command → command_fault names number command ≡ None
no-command_fault names number command sound = search rules

in-number : (number : ℕ) → number ≤ MAX_LINES → nat_lt MAX_LINES number ≡ false
in-number number few = grind (arith, nat_tests)

-- nothing is wrong with lines that are few enough
no-fault : (names : Names) (number : ℕ) (commands : List Command) (drain : Option ℕ) → AllByRecursion (IsSound names) commands → number + (length commands + drain_count drain) ≤ MAX_LINES + 1
    → first_fault names false number (map line.Command commands ++ drain_lines drain) ≡ None
no-fault names number [] None sound few = refl
no-fault names number [] (Some moment) sound few = rw (in-number number (omega (arith, few))) refl
no-fault names number (command ∷ more) drain sound few = search (rules, in-number, no-command_fault, (no-fault names (number + 1) more drain sound.1 (omega (arith, few))))

-- a line has at most 25 bytes
command-short : (command : Command) → CanSay command → length (command_text command) ≤ 25
command-short (Send sender size) can = send-short sender size can.0 can.2
command-short (Pull device moment) can = pull-short device moment can.0 can.1

ending-short : (drain : Option ℕ) → IfSome drain (λ moment. moment ≤ MAX_MOMENT) → length (drain_text drain) ≤ 25 * drain_count drain
ending-short None fits = omega arith
ending-short (Some moment) fits = drain-short moment fits

record-short : (commands : List Command) (drain : Option ℕ) → AllByRecursion CanSay commands → IfSome drain (λ moment. moment ≤ MAX_MOMENT)
    → length (record_text commands drain) ≤ 25 * (length commands + drain_count drain)
record-short [] drain can fits = let short = ending-short drain fits in omega (arith, short)
record-short (command ∷ more) drain can fits =
    let one = command-short command can.0 in
    let rest = record-short more drain can.1 fits in
    let joined = length-append (command_text command) (flat_map command_text more) in
    let all = length-append (command_text command ++ flat_map command_text more) (drain_text drain) in
    let others = length-append (flat_map command_text more) (drain_text drain) in
    omega (arith, one, rest, joined, all, others)

-- the lines of a record whose numbers are within their ranges, and its commands
lines-are : (commands : List Command) (drain : Option ℕ) → AllByRecursion CanSay commands → IfSome drain (λ moment. moment ≤ MAX_MOMENT)
    → lines_of (record_text commands drain) ≡ map line.Command commands ++ drain_lines drain
lines-are commands drain can fits = lines-record commands drain (all-small commands can) (drain-small drain fits) ∙ lines-again commands drain can fits

pub commands-are : (commands : List Command) (drain : Option ℕ) → AllByRecursion CanSay commands → IfSome drain (λ moment. moment ≤ MAX_MOMENT) → commands_of (record_text commands drain) ≡ commands
commands-are commands drain can fits = ap (filter_map command_in) (lines-are commands drain can fits) ∙ commands-again commands drain

-- nothing is wrong with such a record, where it names what is there and is short enough
record-sound : (names : Names) (commands : List Command) (drain : Option ℕ) → AllByRecursion CanSay commands → AllByRecursion (IsSound names) commands → IfSome drain (λ moment. moment ≤ MAX_MOMENT)
    → length commands + drain_count drain ≤ MAX_LINES → script_fault names (record_text commands drain) ≡ None
record-sound names commands drain can sound fits few =
    let short = record-short commands drain can fits in
    let small : nat_lt MAX_SCRIPT_BYTES (length (record_text commands drain)) ≡ false = not-large (length (record_text commands drain)) (omega (arith, short, few)) in
    rw small (ap (first_fault names false 1) (lines-are commands drain can fits) ∙ no-fault names 1 commands drain sound (omega (arith, few)))
  where
    not-large : (n : ℕ) → n ≤ MAX_SCRIPT_BYTES → nat_lt MAX_SCRIPT_BYTES n ≡ false
    not-large n few = grind (arith, nat_tests)

-- the commands of events that fit
all-said : (setup : Setup) (events : List Event) → AllByRecursion (FitsNames setup) events → AllByRecursion (λ moment. moment ≤ MAX_MOMENT) (filter_map moment_in events)
    → AllByRecursion CanSay (map command_of events)
all-said setup [] names moments = tt
all-said setup (offered p outcome ∷ more) names moments = ((names.0.1, p.has_length, p.is_within), all-said setup more names.1 moments)
all-said setup (pulled device moment visits ∷ more) names moments = ((names.0, moments.0), all-said setup more names.1 moments.1)

all-sound : (setup : Setup) (events closed : List Event) → AllByRecursion (FitsNames setup) events → AllByRecursion (IsOfDevice (length setup.trees)) (events ++ closed) → AllByRecursion (IsSound (names_of setup)) (map command_of events)
all-sound setup [] closed names there = tt
all-sound setup (offered p outcome ∷ more) closed names there = ((names.0.0, p.has_length), all-sound setup more closed names.1 there.1)
all-sound setup (pulled device moment visits ∷ more) closed names there = (there.0, all-sound setup more closed names.1 there.1)

-- the record of events that fit means them and their closing
pub records-mean : (setup : Setup) → RecordsMeanTheirCourse setup
records-mean setup events closed drain can closes fits = record {
  sound =
      record-sound (names_of setup) commands drain said (all-sound setup events closed fits.names can.devices) fits.limits.last
      (let few = fits.limits.few in omega (arith, few, length-map events command_of));
  written = record {
    events = events;
    theirs = sym (commands-are commands drain said fits.limits.last);
    closed = closed;
    closes = subst (λ d. IsClosed setup d events closed) (sym drain_is) closes;
    can_happen = can;
    lines = ap (λ d. course_text setup d events closed) (sym drain_is);
    logged = refl;
  };
}
  where
    commands : List Command
    commands = map command_of events

    said : AllByRecursion CanSay commands
    said = all-said setup events fits.names fits.limits.moments

    drain_is : closing_moment (record_text commands drain) ≡ drain
    drain_is = ap (λ l. slice_get (filter_map drain_in l) 0) (lines-are commands drain said fits.limits.last) ∙ drain-again commands drain
