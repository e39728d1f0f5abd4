-- How the reading of a script goes on.
use Rattle.std.proofs.lemmas.Grind.{common_steps, elements}
use Rattle.std.proofs.Common.{◌≡◌, ◌≢◌, ℕ, ◌+◌, ◌<◌, ◌≤◌, ◌==◌, List, [], ◌∷◌, ◌++◌, length, map, take, drop, get_or, slice_get, Option, Some, None, IfSome, MatchOption, is_some, inr, Bool, true, false, refl, sym, ap, subst, ◌∙◌, append_assoc, append-nil, length-append, arith, rules}
use Rattle.std.specs.List.{cons_option, list_any, slice_split, onto_first, AllByRecursion}
use Rattle.std.specs.Option.{option_or}
use Rattle.std.specs.Str.Lines.{lines, lines_of_parts, strip_carriage_return}
use Rattle.std.proofs.Math.Seq.{take-suc}
use Rattle.std.proofs.lemmas.Bool.Decides.{nat_tests}
use Rattle.std.proofs.lemmas.List.{length-map, map-append, take-append-drop}
use Rattle.std.proofs.lemmas.List.Elements.{filter_map-append}
use Rattle.std.proofs.lemmas.List.Splits.{length-slice_split}
use Rattle.clk_packet.specs.declared.fault.Fault.{Fault}
use Rattle.clk_packet.proofs.Callers.Lists.{all-append}
use Rattle.clk_script.specs.declared.script.ScriptLine.{ScriptLine}
use Rattle.clk_script.specs.declared.script.ScriptLine.TheVariants as line
use Rattle.clk_script.specs.declared.script.Command.{Command}
use Rattle.clk_script.specs.declared.rows.ScriptRow.{ScriptRow}
use Rattle.clk_script.specs.declared.reading.Reading.{Reading}
use Rattle.clk_script.specs.Script.{Names, lines_of, drain_in, fault_at, first_fault}
use Rattle.clk_script.specs.declared.limits.TheConstants.{MAX_LINES, MAX_MOMENT}
use Rattle.clk_script.specs.inside.ScriptRouter.{IsReadableLine}
use Rattle.clk_script.specs.inside.Rows.{asked_by, asked_in, rows_of, IsToDo}
use Rattle.clk_script.specs.inside.Reading.{AreRead, IsWrong, IsWrongText, IsReading, ReadsOn, EndsLine, AreHeld, HasCome, IsReadToEnd}

-- A text that is cut at a line feed in its middle has the lines before it and those after it.
abbrev parts_of : List ℕ → List (List ℕ)
parts_of text = slice_split (λ byte. byte == 10) text

onto-both : (byte : ℕ) (parts more : List (List ℕ)) → 0 < length parts → onto_first byte (parts ++ more) ≡ onto_first byte parts ++ more
onto-both byte parts more some = search rules

parts-some : (text : List ℕ) → 0 < length (parts_of text)
parts-some text = let count = length-slice_split (λ byte. byte == 10) text in omega (arith, count)

parts-both : (before after : List ℕ) → parts_of (before ++ 10 ∷ after) ≡ parts_of before ++ parts_of after
parts-both [] after = refl
parts-both (byte ∷ before) after = search (rules, onto-both, parts-some, (parts-both before after))

lines-of-both : (parts more : List (List ℕ)) → 0 < length more → lines_of_parts (parts ++ more) ≡ map strip_carriage_return parts ++ lines_of_parts more
lines-of-both [] more some = refl
lines-of-both (part ∷ []) more some = search rules
lines-of-both (part ∷ next ∷ parts) more some = ap (λ l. strip_carriage_return part ∷ l) (lines-of-both (next ∷ parts) more some)

lines-both : (before after : List ℕ) → lines (before ++ 10 ∷ after) ≡ lines (before ++ 10 ∷ []) ++ lines after
lines-both before after = search (rules, parts-both, lines-of-both, append-nil, parts-some)

pub lines_of-both : (front rest : List ℕ) → EndsLine front → lines_of (front ++ rest) ≡ lines_of front ++ lines_of rest
lines_of-both front rest h = search (rules, append_assoc, lines-both, map-append)

-- One more line is read with nothing wrong, and a reading goes on to what it holds.
closing-more : (o d : Option ℕ) (drains : List ℕ) → o ≡ slice_get drains 0 → option_or o d ≡ slice_get (drains ++ cons_option d []) 0
closing-more o d drains e = grind (arith, common_steps, elements, nat_tests)

moment-more : (o : Option ℕ) (l : ScriptLine) → IfSome o (λ m. m ≤ MAX_MOMENT) → IsReadableLine l → IfSome (option_or o (drain_in l)) (λ m. m ≤ MAX_MOMENT)
moment-more o l h readable = search rules

asked-most : (o : Option Command) → length (cons_option o []) ≤ 1
asked-most o = search rules

AreRead-more : (names : Names) (read : List ScriptLine) (r new : Reading) (l : ScriptLine) → AreRead names read r → IsReadableLine l → fault_at names (is_some r.script.closing) (r.lines + 1) l ≡ None → new.lines ≡ r.lines + 1 → new.lines ≤ MAX_LINES
    → new.script.closing ≡ option_or r.script.closing (drain_in l) → asked_by new.script.rows.items ≡ asked_by r.script.rows.items ++ asked_in l → AllByRecursion (IsToDo names) new.script.rows.items → AreRead names (read ++ l ∷ []) new
AreRead-more names read r new l h readable sound count within closes asked to_do = search (rules, length-map, length-append, asked-most, append_assoc, filter_map-append, closing-more, moment-more)

option_or-none : (o : Option ℕ) → o ≡ option_or o None
option_or-none o = search rules

-- A line that isn't a drain leaves the closing as it is, and a drain sets it, since none came before.
pub undrained-command : (o : Option ℕ) (l : ScriptLine) (row : ScriptRow) → asked_by (rows_of (Some row)) ≡ asked_in l → o ≡ option_or o (drain_in l)
undrained-command o l row e = search (rules, option_or-none)

pub undrained-other : (o : Option ℕ) (l : ScriptLine) → ((moment : ℕ) → l ≢ line.Drain moment) → o ≡ option_or o (drain_in l)
undrained-other o l other = search (rules, option_or-none)

pub drained-first : (names : Names) (o : Option ℕ) (number moment : ℕ) → fault_at names (is_some o) number (line.Drain moment) ≡ None → Some moment ≡ option_or o (Some moment)
drained-first names o number moment e = search rules

-- The line's row, if it has one, is added.
pub reading-row : (names : Names) (read : List ScriptLine) (r new : Reading) (l : ScriptLine) (row : Option ScriptRow) (drained : Bool) → AreRead names read r → r.fault ≡ None → IsReadableLine l → drained ≡ is_some r.script.closing
    → (fault_at names drained (r.lines + 1) l ≡ None) × (asked_by (rows_of row) ≡ asked_in l) × AllByRecursion (IsToDo names) (rows_of row) × (r.lines + 1 ≤ MAX_LINES)
    → new.fault ≡ r.fault → new.lines ≡ r.lines + 1 → new.script.rows.items ≡ r.script.rows.items ++ rows_of row → new.script.closing ≡ option_or r.script.closing (drain_in l) → IsReading names (read ++ l ∷ []) new
reading-row names read r new l row drained h sound readable before fits same count rows closes = search (rules, AreRead-more, map-append, all-append)

-- Once something is wrong it stays so, and else all lines are read.
pub reading-wrong : (names : Names) (read others : List ScriptLine) (r : Reading) → is_some r.fault ≡ true → IsReading names read r → IsReading names (read ++ others) r
reading-wrong names read others r some h = search (rules, append_assoc)

pub none-wrong : (o : Option Fault) → is_some o ≡ false → o ≡ None
none-wrong o e = search rules

pub reading-sound : (names : Names) (read : List ScriptLine) (r : Reading) → r.fault ≡ None → IsReading names read r → AreRead names read r
reading-sound names read r none h = subst (λ o. MatchOption o (AreRead names read r) (IsWrong names read)) none h

-- lines before, those of a front, the next, and what is left
pub lines-whole : (lines read : List ScriptLine) (l : ScriptLine) (text rest after : List ℕ) → lines_of rest ≡ l ∷ lines_of after → read ++ lines_of rest ≡ lines_of text → ((lines ++ read) ++ l ∷ []) ++ lines_of after ≡ lines ++ lines_of text
lines-whole before read l text rest after e h = search (rules, append_assoc)

pub lines-left : (read : List ScriptLine) (l : ScriptLine) (text rest after : List ℕ) → lines_of rest ≡ l ∷ lines_of after → read ++ lines_of rest ≡ lines_of text → (read ++ l ∷ []) ++ lines_of after ≡ lines_of text
lines-left read l text rest after e h = append_assoc read (l ∷ []) (lines_of after) ∙ ap (λ ls. read ++ ls) (sym e) ∙ h

-- Where nothing is wrong, the whole lines of what came are read.
pub come-sound : (names : Names) (text held : List ℕ) (r : Reading) → r.fault ≡ None → HasCome names text r held → AreHeld names text r held
come-sound names text held r none h = subst (λ o. MatchOption o (AreHeld names text r held) (IsWrongText names text)) none h

-- Whole lines are read: what was held, with what follows it up to a line feed. What is left is held.
come-whole : (names : Names) (text held read rest whole : List ℕ) (r new : Reading) (line : List ℕ) → read ≡ line ++ 10 ∷ [] → whole ≡ held ++ read → AreHeld names text r held → ReadsOn names r new (lines_of whole) → HasCome names (text ++ (read ++ rest)) new rest
come-whole names text held read rest whole r new line ends is h reads = by_fault new.fault (reads (lines_of h.front) h.read)
  where
    front : List ℕ
    front = h.front ++ whole

    front_ends : EndsLine front
    front_ends = inr (h.front ++ (held ++ line), ap (λ l. h.front ++ l) (is ∙ ap (λ l. held ++ l) ends ∙ sym (append_assoc held line (10 ∷ []))) ∙ sym (append_assoc h.front (held ++ line) (10 ∷ [])))

    lines_are : lines_of front ≡ lines_of h.front ++ lines_of whole
    lines_are = lines_of-both h.front whole h.ends

    all : text ++ (read ++ rest) ≡ front ++ rest
    all = search (rules, append_assoc, lines_of-both, front)

    by_fault : (o : Option Fault) → MatchOption o (AreRead names (lines_of h.front ++ lines_of whole) new) (IsWrong names (lines_of h.front ++ lines_of whole))
        → MatchOption o (AreHeld names (text ++ (read ++ rest)) new rest) (IsWrongText names (text ++ (read ++ rest)))
    by_fault None k = record { front = front; whole = all; ends = front_ends; read = subst (λ ls. AreRead names ls new) (sym lines_are) k }
    by_fault (Some fault) k = λ later.
        ap (λ l. first_fault names false 1 (lines_of l)) (ap (λ l. l ++ later) all ∙ append_assoc front rest later)
        ∙ ap (first_fault names false 1) (lines_of-both front (rest ++ later) front_ends ∙ ap (λ ls. ls ++ lines_of (rest ++ later)) lines_are)
        ∙ k (lines_of (rest ++ later))

-- a text up to a line feed, and with that
up-to-feed : (text : List ℕ) (place : ℕ) → place < length text → (get_or text place 0 == 10) ≡ true → take (place + 1) text ≡ take place text ++ 10 ∷ []
up-to-feed text place low is = search (rules, take-suc)

-- The same where this is the place of a line feed in a piece: what follows it is held, or isn't there yet.
pub come-lines : (names : Names) (text held piece whole : List ℕ) (place : ℕ) (r new : Reading) → is_some r.fault ≡ false → place < length piece → (get_or piece place 0 == 10) ≡ true → whole ≡ held ++ take (place + 1) piece
    → HasCome names text r held → ReadsOn names r new (lines_of whole) → HasCome names (text ++ piece) new (drop (place + 1) piece)
come-lines names text held piece whole place r new none low feed is come reads =
    let h = come-sound names text held r (none-wrong r.fault none) come in
    subst (λ all. HasCome names (text ++ all) new (drop (place + 1) piece)) (take-append-drop (place + 1) piece)
    (come-whole names text held (take (place + 1) piece) (drop (place + 1) piece) whole r new (take place piece) (up-to-feed piece place low feed) is h reads)

pub come-line : (names : Names) (text held piece whole : List ℕ) (place : ℕ) (r new : Reading) → is_some r.fault ≡ false → place < length piece → (get_or piece place 0 == 10) ≡ true → whole ≡ held ++ take (place + 1) piece
    → HasCome names text r held → ReadsOn names r new (lines_of whole) → HasCome names (text ++ take (place + 1) piece) new []
come-line names text held piece whole place r new none low feed is come reads =
    let h = come-sound names text held r (none-wrong r.fault none) come in
    subst (λ read. HasCome names (text ++ read) new []) (append-nil (take (place + 1) piece))
    (come-whole names text held (take (place + 1) piece) [] whole r new (take place piece) (up-to-feed piece place low feed) is h reads)

-- At its end a text has the lines that are read, and those of what is held.
pub reading-end : (names : Names) (text last : List ℕ) (r new : Reading) → r.fault ≡ None → HasCome names text r last → ReadsOn names r new (lines_of last) → IsReading names (lines_of text) new
reading-end names text last r new none come reads = search (rules, come-sound, lines_of-both)

pub ends-read : (names : Names) (text : List ℕ) (r : Reading) → AreRead names (lines_of text) r → IsReadToEnd names text r.script
ends-read names text r h = record { sound = ap (first_fault names false 1) (sym (append-nil (lines_of text))) ∙ sym (h.fault []); holds = h.holds; runs = h.runs }

pub ends-wrong : (names : Names) (text : List ℕ) (fault : Fault) → IsWrong names (lines_of text) fault → first_fault names false 1 (lines_of text) ≡ Some fault
ends-wrong names text fault h = ap (first_fault names false 1) (sym (append-nil (lines_of text))) ∙ h []

pub ends-wrong-text : (names : Names) (text : List ℕ) (fault : Fault) → IsWrongText names text fault → first_fault names false 1 (lines_of text) ≡ Some fault
ends-wrong-text names text fault h = ap (λ all. first_fault names false 1 (lines_of all)) (sym (append-nil text)) ∙ h []

-- a number that stands at a place is one of them
pub known-at : (numbers : List ℕ) (n place : ℕ) → slice_get numbers place ≡ Some n → list_any (λ s. s == n) numbers ≡ true
known-at numbers n place is = grind (arith, common_steps, elements, nat_tests)
