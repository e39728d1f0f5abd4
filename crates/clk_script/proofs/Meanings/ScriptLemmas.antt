-- What a script with no fault is, and what faults a script may have.
use Rattle.std.proofs.Common.{◌≡◌, ℕ, ◌+◌, ◌≤◌, ◌&&◌, ◌||◌, Bool, cond, nat_le, List, [], ◌∷◌, length, map, Option, Some, None, ap, subst, IfSome, arith, rules}
use Rattle.std.specs.List.{filter_map, AllByRecursion}
use Rattle.std.specs.Str.{all_ascii_digits}
use Rattle.std.specs.Str.Parse.{digits_value}
use Rattle.std.specs.Str.Lines.{lines}
use Rattle.clk_packet.specs.declared.limits.TheConstants.{MAX_LENGTH}
use Rattle.clk_script.specs.declared.script.ScriptLine.{ScriptLine}
use Rattle.clk_packet.specs.Numbers.{has_bytes, number_in}
use Rattle.clk_script.specs.Script.{Names, sender_and_length, moment_and_device, only_moment, line_of_fields, line_of, fields, line_fault, fault_at, first_fault, lines_of, script_fault, command_in, commands_of}
use Rattle.clk_script.specs.inside.Numbered.{is_drain, send_of, pull_of, drain_of}
use Rattle.clk_script.specs.declared.limits.TheConstants.{MAX_MOMENT}
use Rattle.clk_script.specs.inside.ScriptRouter.{IsReadableLine, IsSound}

-- a test that answers with its number
tested : (v n : ℕ) (a b : Bool) → cond (a && nat_le 1 v && b) (Some v) None ≡ Some n → 1 ≤ n
tested v n a b e = search rules

tested_most : (c : Bool) (v n most : ℕ) → cond (c && nat_le v most) (Some v) None ≡ Some n → n ≤ most
tested_most c v n most e = search rules

number_in-most : (least most : ℕ) (digits : List ℕ) (n : ℕ) → number_in least most digits ≡ Some n → n ≤ most
number_in-most least most digits n e = tested_most (all_ascii_digits digits && has_bytes digits && nat_le least (digits_value 10 digits)) (digits_value 10 digits) n most e

number_in-least : (digits : List ℕ) (o : Option ℕ) → number_in 1 MAX_LENGTH digits ≡ o → IfSome o (λ n. 1 ≤ n)
number_in-least digits o e = search (rules, tested)

sends_of : (sender length : Option ℕ) → IfSome length (λ n. 1 ≤ n) → IsReadableLine (send_of sender length)
sends_of sender length h = search rules

sends_arguments : (arguments : List (List ℕ)) → IsReadableLine (sender_and_length arguments)
sends_arguments arguments = search (rules, sends_of, number_in-least)

-- a moment that was read is one of a script
moment-most : (digits : List ℕ) (o : Option ℕ) → number_in 0 MAX_MOMENT digits ≡ o → IfSome o (λ m. m ≤ MAX_MOMENT)
moment-most digits o e = search (rules, number_in-most)

alone-most : (arguments : List (List ℕ)) → IfSome (only_moment arguments) (λ m. m ≤ MAX_MOMENT)
alone-most arguments = search (rules, moment-most)

pulls_of : (moment device : Option ℕ) → IfSome moment (λ m. m ≤ MAX_MOMENT) → IsReadableLine (pull_of moment device)
pulls_of moment device h = search rules

pulls_arguments : (arguments : List (List ℕ)) → IsReadableLine (moment_and_device arguments)
pulls_arguments arguments = search (rules, pulls_of, moment-most)

drains_arguments : (o : Option ℕ) → IfSome o (λ m. m ≤ MAX_MOMENT) → IsReadableLine (drain_of o)
drains_arguments o h = search rules

reads_fields : (all : List (List ℕ)) → IsReadableLine (line_of_fields all)
reads_fields [] = tt
reads_fields (word ∷ arguments) = search (rules, sends_arguments, pulls_arguments, drains_arguments, alone-most)

-- a first line is readable
pub readable-first : (script : List ℕ) (l : ScriptLine) (more : List ScriptLine) → lines_of script ≡ l ∷ more → IsReadableLine l
readable-first script l more e = by_texts (lines script) e
  where
    by_texts : (texts : List (List ℕ)) → map line_of texts ≡ l ∷ more → IsReadableLine l
    by_texts [] f = absurd (omega (arith, ap length f))
    by_texts (text ∷ texts) f =
        let first : line_of text ≡ l = cc in
        subst IsReadableLine first (reads_fields (fields text))

-- a line with no fault can be carried out
line_sound : (names : Names) (drained : Bool) (number : ℕ) (l : ScriptLine) → IsReadableLine l → line_fault names drained number l ≡ None → IfSome (command_in l) (IsSound names)
line_sound names drained number l s e = search rules

at_sound : (names : Names) (drained : Bool) (n : ℕ) (l : ScriptLine) → IsReadableLine l → fault_at names drained n l ≡ None → IfSome (command_in l) (IsSound names)
at_sound names drained n l s e = search (rules, line_sound)

texts_sound : (names : Names) (drained : Bool) (n : ℕ) (texts : List (List ℕ)) → first_fault names drained n (map line_of texts) ≡ None → AllByRecursion (IsSound names) (filter_map command_in (map line_of texts))
texts_sound names drained n [] e = tt
texts_sound names drained n (text ∷ texts) e = search (rules, at_sound, reads_fields, (texts_sound names (drained || is_drain (line_of text)) (n + 1) texts))

-- so can a script
pub each-command-sound : (names : Names) (script : List ℕ) → script_fault names script ≡ None → AllByRecursion (IsSound names) (commands_of script)
each-command-sound names script e = search (rules, texts_sound)
