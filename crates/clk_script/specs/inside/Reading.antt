-- Reading a script, as its bytes come.
use Rattle.std.specs.Prelude.{◌≡◌, ◌⊎◌, ℕ, ◌+◌, ◌≤◌, List, [], ◌∷◌, ◌++◌, length, take, false, Option, Some, None, IfSome, MatchOption, Result, MatchResult}
use Rattle.std.specs.Option.{is_some}
use Rattle.clk_packet.specs.declared.fault.Fault.{Fault}
use Rattle.clk_packet.specs.declared.fault.Fault.TheVariants.{Memory, Read}
use Rattle.clk_script.specs.declared.script.ScriptLine.{ScriptLine}
use Rattle.clk_script.specs.declared.reading.Script.{Script}
use Rattle.clk_script.specs.declared.reading.Reading.{Reading}
use Rattle.clk_script.specs.Script.{Names, lines_of, first_fault, script_fault}
use Rattle.clk_script.specs.declared.limits.TheConstants.{MAX_SCRIPT_BYTES, MAX_LINES}
use Rattle.clk_script.specs.inside.Rows.{IsReadFrom, CanBeRun}

-- These lines were read and have no fault. The script so far holds what they say, and can be run.
pub record AreRead (names : Names) (lines : List ScriptLine) (r : Reading) : Type 0 where
  pub fault : (more : List ScriptLine) → first_fault names (is_some r.script.closing) (r.lines + 1) more ≡ first_fault names false 1 (lines ++ more)
  pub holds : IsReadFrom lines r.script
  pub runs : CanBeRun names r.script
  pub few : length r.script.rows.items ≤ r.lines
  pub within : r.lines ≤ MAX_LINES

-- These lines have this fault, whatever follows them.
abbrev pub IsWrong : Names → List ScriptLine → Fault → Type 0
IsWrong names lines fault = (more : List ScriptLine) → first_fault names false 1 (lines ++ more) ≡ Some fault

-- A text has this fault, whatever follows it.
abbrev pub IsWrongText : Names → List ℕ → Fault → Type 0
IsWrongText names text fault = (later : List ℕ) → first_fault names false 1 (lines_of (text ++ later)) ≡ Some fault

-- A script was read as far as these lines, or they have this fault.
abbrev pub IsReading : Names → List ScriptLine → Reading → Type 0
IsReading names lines r = MatchOption r.fault (AreRead names lines r) (IsWrong names lines)

-- These lines were read too, whatever lines were read before.
abbrev pub ReadsOn : Names → Reading → Reading → List ScriptLine → Type 0
ReadsOn names old new more = (lines : List ScriptLine) → AreRead names lines old → IsReading names (lines ++ more) new

-- A text is empty, or ends with a line feed.
abbrev pub EndsLine : List ℕ → Type 0
EndsLine text = (text ≡ []) ⊎ ((line : List ℕ) × (text ≡ line ++ 10 ∷ []))

-- A text came. Its whole lines were read, and what is held follows them.
pub record AreHeld (names : Names) (text : List ℕ) (r : Reading) (held : List ℕ) : Type 0 where
  pub front : List ℕ
  pub whole : text ≡ front ++ held
  pub ends : EndsLine front
  pub read : AreRead names (lines_of front) r

-- A text came: it has this fault, whatever follows, or its whole lines were read.
abbrev pub HasCome : Names → List ℕ → Reading → List ℕ → Type 0
HasCome names text r held = MatchOption r.fault (AreHeld names text r held) (IsWrongText names text)

-- A text was read to its end: its lines have no fault, and the script holds what they say and can be run.
pub record IsReadToEnd (names : Names) (text : List ℕ) (script : Script) : Type 0 where
  pub sound : first_fault names false 1 (lines_of text) ≡ None
  pub holds : IsReadFrom (lines_of text) script
  pub runs : CanBeRun names script

-- What reading a text to its end returns: a script, fault 1 after a failed allocation, or the fault of the text.
abbrev pub EndsAs : Names → List ℕ → Result Script Fault → Type 0
EndsAs names text result = MatchResult result (IsReadToEnd names text) (λ fault. (fault ≡ Memory) ⊎ (first_fault names false 1 (lines_of text) ≡ Some fault))

-- The text is what a source had, but at most one byte more than a script may have.
abbrev pub IsTextOf : Option (List ℕ) → List ℕ → Type 0
IsTextOf known text = IfSome known (λ all. text ≡ take (MAX_SCRIPT_BYTES + 1) all)

-- The script is what a source had, which was no longer than a script may be.
pub record IsScriptOf (names : Names) (known : Option (List ℕ)) (script : Script) : Type 0 where
  pub text : List ℕ
  pub is_text : IsTextOf known text
  pub short : length text ≤ MAX_SCRIPT_BYTES
  pub to_end : IsReadToEnd names text script

-- Why a script isn't read: an allocation or the source failed, or what the source had has this fault.
abbrev pub IsNotRead : Names → Option (List ℕ) → Fault → Type 0
IsNotRead names known fault = (fault ≡ Memory) ⊎ (fault ≡ Read) ⊎ ((text : List ℕ) × IsTextOf known text × (script_fault names text ≡ Some fault))
