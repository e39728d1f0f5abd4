-- What the fields of a line say, by their places.
use Rattle.std.proofs.Common.{◌≡◌, ℕ, true, suc, List, [], ◌∷◌, length, drop, codes, Some, refl, rules}
use Rattle.std.specs.List.{AllByRecursion, filter, slice_split}
use Rattle.std.proofs.lemmas.Bool.{false≢true}
use Rattle.clk_script.specs.declared.script.ScriptLine.TheVariants as line
use Rattle.clk_packet.specs.declared.limits.TheConstants.{MAX_SENDER, MAX_LENGTH}
use Rattle.clk_script.specs.declared.script.Command.TheVariants.{Send, Pull}
use Rattle.clk_packet.specs.Numbers.{has_bytes, number_in}
use Rattle.clk_script.specs.Script.{is_blank, fields, only_moment, line_of_fields}
use Rattle.clk_script.specs.declared.limits.TheConstants.{MAX_MOMENT, MAX_DEVICE}
use Rattle.clk_script.specs.inside.Fields.{field_at}

pub record HaveBytes (all : List (List ℕ)) : Type 0 where
  pub each : AllByRecursion (λ f. has_bytes f ≡ true) all

kept : (parts : List (List ℕ)) → AllByRecursion (λ f. has_bytes f ≡ true) (filter has_bytes parts)
kept [] = tt
kept ([] ∷ parts) = kept parts
kept ((byte ∷ bytes) ∷ parts) = (refl, kept parts)

pub HaveBytes-fields : (text : List ℕ) → HaveBytes (fields text)
HaveBytes-fields text = record { each = kept (slice_split is_blank text) }

field_at-drop : (all : List (List ℕ)) (i : ℕ) → field_at (drop 1 all) i ≡ field_at all (suc i)
field_at-drop all i = search rules

-- a place in the fields after the first
pub field_at-rest : (all rest : List (List ℕ)) (i : ℕ) → rest ≡ drop 1 all → field_at rest i ≡ field_at all (suc i)
field_at-rest all rest i e = rw e (field_at-drop all i)

-- no field
pub line-none : (all : List (List ℕ)) → HaveBytes all → length (field_at all 0) ≡ 0 → line_of_fields all ≡ line.Blank
line-none all h e = search (rules, false≢true)

-- one number alone, none, and more than one field
pub moment-alone : (all : List (List ℕ)) (moment : ℕ) → HaveBytes all → number_in 0 MAX_MOMENT (field_at all 0) ≡ Some moment → length (field_at all 1) ≡ 0 → only_moment all ≡ Some moment
moment-alone all m h e none = search (rules, false≢true)

-- `send` and two numbers
pub line-send : (all : List (List ℕ)) (sender size : ℕ) → HaveBytes all → number_in 0 MAX_SENDER (field_at all 0) ≡ Some sender → number_in 1 MAX_LENGTH (field_at all 1) ≡ Some size
    → length (field_at all 2) ≡ 0 → line_of_fields (codes "send" ∷ all) ≡ line.Command (Send sender size)
line-send all s l h e f none = search (rules, false≢true)

-- `pull` and a number, and `pull` and two
pub line-pull : (all : List (List ℕ)) (moment : ℕ) → HaveBytes all → number_in 0 MAX_MOMENT (field_at all 0) ≡ Some moment → length (field_at all 1) ≡ 0
    → line_of_fields (codes "pull" ∷ all) ≡ line.Command (Pull 0 moment)
line-pull all m h e none = search (rules, false≢true)

pub line-pull-of : (all : List (List ℕ)) (moment device : ℕ) → HaveBytes all → number_in 0 MAX_MOMENT (field_at all 0) ≡ Some moment → number_in 0 MAX_DEVICE (field_at all 1) ≡ Some device
    → length (field_at all 2) ≡ 0 → line_of_fields (codes "pull" ∷ all) ≡ line.Command (Pull device moment)
line-pull-of all m d h e f none = search (rules, false≢true)
