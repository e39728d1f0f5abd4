-- Plain lines of a trace are records as csv reads them.
use Rattle.std.proofs.Common.{◌≡◌, ℕ, ◌+◌, ◌≤◌, ◌==◌, true, false, nat_lt, List, [], ◌∷◌, ◌++◌, length, Some, None, refl, sym, ap, subst, ◌∙◌, arith}
use Rattle.std.specs.Char.{is_ascii_digit}
use Rattle.std.specs.Str.{all_ascii_digits}
use Rattle.std.proofs.lemmas.Bool.Decides.{nat_tests}
use Rattle.csv.specs.Machine.{Runs, next_record, step}
use Rattle.csv.specs.Reading.{default_config, strip_bom}
use Rattle.csv.specs.declared.parser.State.{State}
use Rattle.csv.specs.declared.parser.State.TheVariants as st
use Rattle.csv.specs.declared.parser.Action.TheVariants as act
use Rattle.csv.proofs.ReadFacts.{run-copies}
use Rattle.clk_packet.specs.declared.limits.TheConstants.{MAX_SENDER, MAX_LENGTH, MAX_RECORDS}
use Rattle.clk_packet.specs.inside.Plain.{IsPlainLine}
use Rattle.clk_packet.specs.inside.Lengths.{IsAdded}
use Rattle.clk_packet.specs.Trace.{pair_in, record_fault}
use Rattle.clk_packet.specs.declared.packet.Packet.{Packet}
use Rattle.clk_packet.proofs.DigitLemmas.{AreDigits, first-digit, number-digits}
use Rattle.clk_packet.proofs.TraceLemmas.{Goes, IsRead, Stands, Stands-end, Stands-more, Stands-none}

-- at a digit, a field begins or goes on
record Joins (d : ℕ) : Type 0 where
  goes_on : step default_config st.InField d ≡ (st.InField, act.Copy)
  field : step default_config st.StartField d ≡ (st.InField, act.Copy)
  first : step default_config st.StartRecord d ≡ (st.InField, act.Copy)

-- a digit is no byte that ends a field or begins a quoted one
Joins-digit : (d : ℕ) → is_ascii_digit d ≡ true → Joins d
Joins-digit d e =
    let comma : (d == 44) ≡ false = grind (arith, nat_tests) in
    let feed : (d == 10) ≡ false = grind (arith, nat_tests) in
    let return : (d == 13) ≡ false = grind (arith, nat_tests) in
    let quote : (d == 34) ≡ false = grind (arith, nat_tests) in
    record { goes_on = rw (comma, return, feed) refl; field = rw (quote, comma, return, feed) refl; first = rw (return, feed, quote, comma) refl }

-- digits run through a field
Runs-digits : (digits : List ℕ) → all_ascii_digits digits ≡ true → Runs default_config st.InField digits
unfolding Runs
Runs-digits [] all = tt
Runs-digits (d ∷ digits) all = let split = first-digit d digits all in ((Joins-digit d split.0).goes_on, Runs-digits digits split.1)

-- digits at the start of a field are read into it
next-digits : (s : State) (fields : List (List ℕ)) (digits tail : List ℕ) → AreDigits digits → ((d : ℕ) → Joins d → step default_config s d ≡ (st.InField, act.Copy))
    → next_record default_config s fields [] (digits ++ tail) ≡ next_record default_config st.InField fields digits tail
unfolding next_record
next-digits s fields [] tail are begins = let no = are.some in absurd (cc)
next-digits s fields (d ∷ digits) tail are begins =
    let split = first-digit d digits are.all in
    let here = begins d (Joins-digit d split.0) in
    rw here (run-copies default_config st.InField fields (d ∷ []) digits tail (Runs-digits digits split.1))

-- a plain line is read as a record of its two fields
next-fields : (sender size rest : List ℕ) → AreDigits sender → AreDigits size
    → next_record default_config st.StartRecord [] [] (sender ++ 44 ∷ (size ++ 10 ∷ rest)) ≡ Some (sender ∷ size ∷ [], st.StartRecord, rest)
unfolding next_record
next-fields sender size rest are also =
    next-digits st.StartRecord [] sender (44 ∷ (size ++ 10 ∷ rest)) are (λ d joins. joins.first)
    ∙ next-digits st.StartField (sender ∷ []) size (10 ∷ rest) also (λ d joins. joins.field)

-- the record that is read of a text that begins with a plain line
fields-plain : (text : List ℕ) (sender size : ℕ) (rest : List ℕ) (h : IsPlainLine text sender size rest)
    → next_record default_config st.StartRecord [] [] text ≡ Some (h.sender_is.digits ∷ h.size_is.digits ∷ [], st.StartRecord, rest)
fields-plain text sender size rest h =
    let first = number-digits 0 MAX_SENDER h.sender_is.digits sender h.sender_is.number_is in
    let second = number-digits 1 MAX_LENGTH h.size_is.digits size h.size_is.number_is in
    let text_is : text ≡ h.sender_is.digits ++ 44 ∷ (h.size_is.digits ++ 10 ∷ rest) = h.sender_is.text_is ∙ ap (λ middle. h.sender_is.digits ++ 44 ∷ middle) h.size_is.text_is in
    ap (next_record default_config st.StartRecord [] []) text_is ∙ next-fields h.sender_is.digits h.size_is.digits rest first second

-- a text that begins with a digit has no byte order mark
marked-not : (digits tail : List ℕ) → AreDigits digits → strip_bom (digits ++ tail) ≡ digits ++ tail
unfolding strip_bom
marked-not [] tail are = let no = are.some in absurd (cc)
marked-not (d ∷ digits) tail are = by_rest (digits ++ tail)
  where
    other : (d == 239) ≡ false
    other = let digit = (first-digit d digits are.all).0 in grind (arith, nat_tests)

    by_rest : (rest : List ℕ) → strip_bom (d ∷ rest) ≡ d ∷ rest
    by_rest [] = refl
    by_rest (b ∷ []) = refl
    by_rest (b ∷ c ∷ rest) = rw other refl

-- what was read of a text by plain lines, where no byte order mark stands at its front
abbrev pub StandsPlain : List ℕ → ℕ → List ℕ → List (List Packet) → Type 0
StandsPlain text row rest traces = strip_bom rest ≡ rest → Stands text row st.StartRecord (Some rest) traces

-- no line was read
pub StandsPlain-none : (text : List ℕ) → StandsPlain text 1 text []
StandsPlain-none text unmarked = Stands-none text st.StartRecord (Some text) refl (ap Some (sym unmarked))

-- one plain line more
pub StandsPlain-more : (text : List ℕ) (row : ℕ) (rest : List ℕ) (traces : List (List Packet)) (sender size : ℕ) (after : List ℕ) (new : List (List Packet))
    → row ≤ MAX_RECORDS → StandsPlain text row rest traces → IsPlainLine rest sender size after → IsAdded traces sender size new → StandsPlain text (row + 1) after new
StandsPlain-more text row rest traces sender size after new few stands line added unmarked =
    Stands-more text row st.StartRecord st.StartRecord (Some rest) (Some after) both (sender, size) traces new here goes sound says added
  where
    both : List (List ℕ)
    both = line.sender_is.digits ∷ line.size_is.digits ∷ []

    first : AreDigits line.sender_is.digits
    first = number-digits 0 MAX_SENDER line.sender_is.digits sender line.sender_is.number_is

    here : Stands text row st.StartRecord (Some rest) traces
    here = stands (ap strip_bom line.sender_is.text_is ∙ marked-not line.sender_is.digits (44 ∷ line.middle) first ∙ sym line.sender_is.text_is)

    same : here.rest ≡ rest
    same = let is = here.left_is in cc

    goes : Goes st.StartRecord here.rest st.StartRecord (Some after) both
    goes = subst (λ r. Goes st.StartRecord r st.StartRecord (Some after) both) (sym same)
        (record { read = (both, st.StartRecord, after); is = fields-plain rest sender size after line; fields_are = refl; state_is = refl; after_is = refl })

    says : pair_in both ≡ Some (sender, size)
    says = rw (line.sender_is.number_is, line.size_is.number_is) refl

    sound : record_fault row both ≡ None
    sound = let within : nat_lt MAX_RECORDS row ≡ false = grind (arith, nat_tests) in rw (within, says) refl

-- no line is left
pub StandsPlain-end : (text : List ℕ) (row : ℕ) (rest : List ℕ) (traces : List (List Packet)) → length rest ≡ 0 → StandsPlain text row rest traces → IsRead text traces
unfolding strip_bom next_record
StandsPlain-end text row [] traces none stands =
    let here = stands refl in
    let same : here.rest ≡ [] = let is = here.left_is in cc in
    Stands-end text row st.StartRecord (Some []) traces here (ap (next_record default_config st.StartRecord [] []) same)
StandsPlain-end text row (byte ∷ rest) traces none stands = absurd (omega arith)
