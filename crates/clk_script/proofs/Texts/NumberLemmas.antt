-- A number that is read digit by digit.
use Rattle.std.proofs.lemmas.Grind.{common_steps, elements}
use Rattle.std.proofs.Common.{◌≡◌, ℕ, ◌+◌, ◌*◌, ◌-◌, ◌<◌, ◌≤◌, Bool, true, cond, List, [], ◌∷◌, length, take, drop, slice_index_or, Some, None, refl, sym, ap, ◌∙◌, add-one, arith, rules}
use Rattle.std.specs.List.{position_or_len, prefix_len}
use Rattle.std.specs.Char.{is_ascii_digit}
use Rattle.std.specs.Str.{all_ascii_digits}
use Rattle.std.specs.Str.Parse.{digits_value, digits_value_after}
use Rattle.std.proofs.lemmas.Bool.Decides.{nat_tests}
use Rattle.std.proofs.lemmas.List.{nil_from_length}
use Rattle.std.proofs.lemmas.Str.{digit_value_digit}
use Rattle.clk_packet.specs.Numbers.{has_bytes, number_in}
use Rattle.clk_packet.proofs.Callers.Numbers.{more_digits}
use Rattle.clk_script.specs.Script.{is_blank, fields}
use Rattle.clk_script.specs.inside.Fields.{field_at}
use Rattle.clk_script.proofs.Texts.FieldLemmas.{fields-skip, fields-first, skipped}

-- the bytes of a text up to its first blank, and what follows them
abbrev pub field_of : List ℕ → List ℕ
field_of [] = []
field_of (byte ∷ text) = cond (is_blank byte) [] (byte ∷ field_of text)

abbrev after_field : List ℕ → List ℕ
after_field [] = []
after_field (byte ∷ text) = cond (is_blank byte) (byte ∷ text) (after_field text)

field_of-take : (text : List ℕ) → take (position_or_len is_blank text) text ≡ field_of text
field_of-take [] = refl
field_of-take (byte ∷ text) = by_test (is_blank byte) refl (field_of-take text)
  where
    by_test : (b : Bool) → is_blank byte ≡ b → take (position_or_len is_blank text) text ≡ field_of text → take (position_or_len is_blank (byte ∷ text)) (byte ∷ text) ≡ field_of (byte ∷ text)
    by_test b e h = search (rules, add-one)

after_field-drop : (text : List ℕ) → drop (position_or_len is_blank text) text ≡ after_field text
after_field-drop [] = refl
after_field-drop (byte ∷ text) = grind (arith, common_steps, elements, nat_tests, add-one, (after_field-drop text))

has-field : (text : List ℕ) → prefix_len is_blank text ≡ 0 → 0 < length text → has_bytes (field_of text) ≡ true
has-field [] none some = absurd (omega arith)
has-field (byte ∷ text) none some = search rules

-- the digits so far have this value, and what is left of the text's first field and of its fields follows
pub record Reads (text : List ℕ) (number : ℕ) (rest : List ℕ) : Type 0 where
  pub value : digits_value_after 10 number (field_of rest) ≡ digits_value 10 (field_at (fields text) 0)
  pub digits : all_ascii_digits (field_of rest) ≡ all_ascii_digits (field_at (fields text) 0)
  pub later : fields (after_field rest) ≡ drop 1 (fields text)
  pub some : has_bytes (field_at (fields text) 0) ≡ true

reads_from : (text rest : List ℕ) → prefix_len is_blank rest ≡ 0 → 0 < length rest → fields text ≡ fields rest → Reads text 0 rest
reads_from text rest none some same =
    let first = fields-first rest none in
    let field : field_of rest ≡ field_at (fields text) 0 = sym (field_of-take rest) ∙ first.field ∙ ap (λ fs. field_at fs 0) (sym same) in
    record {
      value = ap (digits_value_after 10 0) field;
      digits = ap all_ascii_digits field;
      later = ap fields (sym (after_field-drop rest)) ∙ first.rest ∙ ap (λ (fs : List (List ℕ)). drop 1 fs) (sym same);
      some = ap has_bytes (sym field) ∙ has-field rest none some;
    }

-- before the first digit
pub Reads-none : (text rest : List ℕ) → rest ≡ drop (prefix_len is_blank text) text → 0 < length rest → Reads text 0 rest
Reads-none text rest e some = reads_from text rest (ap (prefix_len is_blank) e ∙ skipped text) some (fields-skip text ∙ ap fields (sym e))

-- one digit more
pub Reads-digit : (text : List ℕ) (number byte : ℕ) (after : List ℕ) → is_ascii_digit byte ≡ true → Reads text number (byte ∷ after) → Reads text (number * 10 + (byte - 48)) after
Reads-digit text number byte after e h = search (rules, digit_value_digit)

-- a text with no field
pub number-missing : (least most : ℕ) (text rest : List ℕ) → rest ≡ drop (prefix_len is_blank text) text → length rest ≡ 0 → number_in least most (field_at (fields text) 0) ≡ None
number-missing least most text rest e none = ap (λ fs. number_in least most (field_at fs 0)) (fields-skip text ∙ ap fields (sym e ∙ nil_from_length rest none))

-- a number that is past the range before its last digit, or there
pub number-too_large : (least most : ℕ) (text : List ℕ) (number : ℕ) (rest : List ℕ) → 1 ≤ length rest → is_ascii_digit (slice_index_or rest 0 0) ≡ true
    → most < number * 10 + (slice_index_or rest 0 0 - 48) → Reads text number rest → number_in least most (field_at (fields text) 0) ≡ None
number-too_large least most text number rest some digit more h = search (rules, common_steps, Reads-digit, more_digits)

-- what is left holds no more of the field: it is at its end, or at a blank
pub field_of-blank : (byte : ℕ) (rest : List ℕ) → is_blank byte ≡ true → field_of (byte ∷ rest) ≡ []
field_of-blank byte rest blank = rw blank refl

after_field-end : (rest : List ℕ) → field_of rest ≡ [] → after_field rest ≡ rest
after_field-end [] e = refl
after_field-end (byte ∷ rest) e = search rules

-- a number that was read to its end
pub number-read : (least most : ℕ) (text : List ℕ) (number : ℕ) (rest : List ℕ) → Reads text number rest → field_of rest ≡ [] → least ≤ number → number ≤ most
    → (number_in least most (field_at (fields text) 0) ≡ Some number) × (fields rest ≡ drop 1 (fields text))
number-read least most text number rest h none low high = search (rules, after_field-end)
