-- The text of a record that is written line by line.
use Rattle.std.proofs.Common.{◌≡◌, ℕ, zero, suc, ◌≤◌, List, [], ◌∷◌, ◌++◌, length, decimal, Some, None, sym, ap, append-nil, length-append, arith, rules}
use Rattle.std.specs.List.{flat_map}
use Rattle.std.proofs.lemmas.List.Concat.{flat_map-append}
use Rattle.std.proofs.lemmas.Fmt.{length-decimal-le}
use Rattle.clk_packet.specs.declared.limits.TheConstants.{MAX_SENDER, MAX_LENGTH}
use Rattle.clk_script.specs.declared.limits.TheConstants.{MAX_MOMENT, MAX_DEVICE}
use Rattle.clk_script.specs.declared.script.Command.{Command}
use Rattle.clk_script.specs.declared.script.Command.TheVariants.{Send, Pull}
use Rattle.clk_script.specs.Record.{named_device, command_text, drain_text, record_text}

-- one command more adds its line
pub command-more : (commands : List Command) (command : Command) → record_text (commands ++ command ∷ []) None ≡ record_text commands None ++ command_text command
command-more commands command = search (rules, append-nil, flat_map-append)

-- so does the drain
pub drain-more : (commands : List Command) (moment : ℕ) → record_text commands (Some moment) ≡ record_text commands None ++ drain_text (Some moment)
drain-more commands moment = ap (λ t. t ++ drain_text (Some moment)) (sym (append-nil (flat_map command_text commands)))

-- more commands make no shorter text
pub front-shorter : (commands others : List Command) → length (record_text commands None) ≤ length (record_text (commands ++ others) None)
front-shorter commands others = search (rules, append-nil, flat_map-append, length-append)

-- a line has at most 25 bytes
sender-short : (n : ℕ) → n ≤ MAX_SENDER → length (decimal n) ≤ 5
sender-short n few = length-decimal-le 5 n (omega arith) (omega (arith, few)) (omega (arith, few))

length-short : (n : ℕ) → n ≤ MAX_LENGTH → length (decimal n) ≤ 5
length-short n few = length-decimal-le 5 n (omega arith) (omega (arith, few)) (omega (arith, few))

moment-short : (n : ℕ) → n ≤ MAX_MOMENT → length (decimal n) ≤ 13
moment-short n few = length-decimal-le 13 n (omega arith) (omega (arith, few)) (omega (arith, few))

device-short : (d : ℕ) → d ≤ MAX_DEVICE → length (named_device d) ≤ 6
device-short zero few = omega arith
device-short (suc d) few = let short = length-decimal-le 5 (suc d) (omega arith) (omega (arith, few)) (omega (arith, few)) in omega (arith, short)

pub send-short : (sender size : ℕ) → sender ≤ MAX_SENDER → size ≤ MAX_LENGTH → length (command_text (Send sender size)) ≤ 25
send-short sender size few short = search (rules, sender-short, length-short, length-append)

pub pull-short : (device moment : ℕ) → device ≤ MAX_DEVICE → moment ≤ MAX_MOMENT → length (command_text (Pull device moment)) ≤ 25
pull-short device moment few early = search (rules, length-append, moment-short, device-short)

pub drain-short : (moment : ℕ) → moment ≤ MAX_MOMENT → length (drain_text (Some moment)) ≤ 25
drain-short moment early = search (rules, moment-short, length-append)
