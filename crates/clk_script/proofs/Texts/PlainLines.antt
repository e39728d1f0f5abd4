-- Lines that are as they are written without need: a word, and numbers each after one space, up to a line feed.
use Rattle.std.proofs.lemmas.Grind.{common_steps}
use Rattle.std.proofs.Common.{◌≡◌, ℕ, ◌==◌, Bool, true, false, nat_lt, List, [], ◌∷◌, ◌++◌, length, filter, map, codes, refl, sym, ap, ◌∙◌, append_assoc, length-append, arith, rules}
use Rattle.std.specs.List.{slice_split, list_all, All, AllByRecursion, position_or_len, after_first}
use Rattle.std.specs.Char.{is_ascii_digit}
use Rattle.std.specs.Str.{all_ascii_digits}
use Rattle.std.specs.Str.Lines.{lines, lines_of_parts, strip_carriage_return}
use Rattle.std.proofs.lemmas.Bool.{and_parts}
use Rattle.std.proofs.lemmas.Bool.Decides.{nat_tests}
use Rattle.std.proofs.lemmas.List.Elements.{All-cons, All-append}
use Rattle.std.proofs.Math.Seq.{drop-append-add, get_or-append_seam}
use Rattle.std.proofs.lemmas.List.{get_or_append_left}
use Rattle.std.proofs.lemmas.List.Sums.{position_or_len_is}
use Rattle.std.proofs.lemmas.List.Splits.{slice_split_at, slice_split_none, length-slice_split}
use Rattle.clk_packet.specs.declared.limits.TheConstants.{MAX_SENDER, MAX_LENGTH}
use Rattle.clk_script.specs.declared.script.Command.TheVariants.{Send, Pull}
use Rattle.clk_script.specs.declared.script.ScriptLine.TheVariants as line
use Rattle.clk_packet.specs.Numbers.{BeginsWithNumber, has_bytes}
use Rattle.clk_packet.proofs.Callers.Numbers.{AreDigits, number-digits}
use Rattle.clk_script.specs.Script.{is_blank, fields, line_of_fields, line_of, lines_of}
use Rattle.clk_script.specs.declared.limits.TheConstants.{MAX_MOMENT}

-- a byte above the space, as those of words and numbers: it is no blank, and ends no line
abbrev is_visible : ℕ → Bool
is_visible byte = nat_lt 32 byte

-- the bytes of a field
pub record IsField (bytes : List ℕ) : Type 0 where
  pub some : has_bytes bytes ≡ true
  pub all : list_all is_visible bytes ≡ true

no-blank : (byte : ℕ) → is_visible byte ≡ true → is_blank byte ≡ false
no-blank byte e = grind (arith, nat_tests)

no-feed : (byte : ℕ) → is_visible byte ≡ true → (byte == 10) ≡ false
no-feed byte e = grind (arith, nat_tests)

no-return : (byte : ℕ) → is_visible byte ≡ true → (byte == 13) ≡ false
no-return byte e = grind (arith, nat_tests)

digit-visible : (d : ℕ) → is_ascii_digit d ≡ true → is_visible d ≡ true
digit-visible d e = grind (arith, nat_tests)

digits-visible : (digits : List ℕ) → all_ascii_digits digits ≡ true → list_all is_visible digits ≡ true
digits-visible [] all = refl
digits-visible (d ∷ digits) all =
    let parts = and_parts (is_ascii_digit d) (all_ascii_digits digits) all in
    rw (digit-visible d parts.0) (digits-visible digits parts.1)

-- the digits of a number are a field
pub digits-field : (digits : List ℕ) → AreDigits digits → IsField digits
digits-field digits are = record { some = are.some; all = digits-visible digits are.all }

-- each byte of a field fails a test that no visible byte passes
each-fails : (p : ℕ → Bool) → ((byte : ℕ) → is_visible byte ≡ true → p byte ≡ false) → (bytes : List ℕ) → list_all is_visible bytes ≡ true → All (λ d. p d ≡ false) bytes
each-fails p fails bytes all = search (rules, common_steps, and_parts)

-- fields, each after one space but the first
abbrev pub spaced : List ℕ → List (List ℕ) → List ℕ
spaced field [] = field
spaced field (next ∷ more) = field ++ 32 ∷ spaced next more

spaced-fails : (p : ℕ → Bool) → ((byte : ℕ) → is_visible byte ≡ true → p byte ≡ false) → p 32 ≡ false → (field : List ℕ) (more : List (List ℕ)) → IsField field → AllByRecursion IsField more
    → All (λ d. p d ≡ false) (spaced field more)
spaced-fails p fails space field [] is are = each-fails p fails field is.all
spaced-fails p fails space field (next ∷ more) is are =
    All-append (λ d. p d ≡ false) field (32 ∷ spaced next more) (each-fails p fails field is.all)
    (All-cons (λ d. p d ≡ false) 32 (spaced next more) space (spaced-fails p fails space next more are.0 are.1))

fields-spaced : (field : List ℕ) (more : List (List ℕ)) → IsField field → AllByRecursion IsField more → fields (spaced field more) ≡ field ∷ more
fields-spaced field [] is are = ap (filter has_bytes) (slice_split_none is_blank field (each-fails is_blank no-blank field is.all)) ∙ rw is.some refl
fields-spaced field (next ∷ more) is are =
    ap (filter has_bytes) (slice_split_at is_blank field 32 (spaced next more) (each-fails is_blank no-blank field is.all) refl)
    ∙ rw is.some (ap (λ l. field ∷ l) (fields-spaced next more are.0 are.1))

-- a line before a line feed, in which there is no other and no carriage return
split-more : (line rest : List ℕ) (parts : List (List ℕ)) → slice_split (λ byte. byte == 10) rest ≡ parts → lines_of_parts (line ∷ slice_split (λ byte. byte == 10) rest) ≡ strip_carriage_return line ∷ lines rest
split-more line rest [] e = absurd (omega (arith, length-slice_split (λ byte. byte == 10) rest, ap length e))
split-more line rest (part ∷ more) e = rw e refl

keeps-end : (xs : List ℕ) → All (λ d. (d == 13) ≡ false) xs → strip_carriage_return xs ≡ xs
keeps-end xs none = search (rules, common_steps)

lines-plain : (xs rest : List ℕ) → All (λ d. (d == 10) ≡ false) xs → All (λ d. (d == 13) ≡ false) xs → lines (xs ++ 10 ∷ rest) ≡ xs ∷ lines rest
lines-plain xs rest feeds returns = search (rules, slice_split_at, split-more, keeps-end)

-- fields with a space between two, and a line feed, are the line that they say
pub line-spaced : (field : List ℕ) (more : List (List ℕ)) (rest : List ℕ) → IsField field → AllByRecursion IsField more → lines_of (spaced field more ++ 10 ∷ rest) ≡ line_of_fields (field ∷ more) ∷ lines_of rest
line-spaced field more rest is are =
    ap (map line_of) (lines-plain (spaced field more) rest (spaced-fails (λ b. b == 10) no-feed refl field more is are) (spaced-fails (λ b. b == 13) no-return refl field more is are))
    ∙ ap (λ l. line_of_fields l ∷ lines_of rest) (fields-spaced field more is are)

-- what follows a line before a line feed, in which there is no other
after-plain : (xs rest : List ℕ) → All (λ d. (d == 10) ≡ false) xs → after_first (λ byte. byte == 10) (xs ++ 10 ∷ rest) ≡ rest
after-plain xs rest none = rw first-feed (drop-append-add xs (10 ∷ rest) 1)
  where
    first-feed : position_or_len (λ byte. byte == 10) (xs ++ 10 ∷ rest) ≡ length xs
    first-feed =
        position_or_len_is (λ byte. byte == 10) (xs ++ 10 ∷ rest) (length xs) 0 (let all = length-append xs (10 ∷ rest) in omega (arith, all))
        (λ k lt. rw (get_or_append_left xs (10 ∷ rest) 0 k lt) (none k 0 lt))
        (λ lt. rw (get_or-append_seam xs 10 rest 0) refl)

-- what follows fields with a space between two, and a line feed
after-spaced : (field : List ℕ) (more : List (List ℕ)) (rest : List ℕ) → IsField field → AllByRecursion IsField more → after_first (λ byte. byte == 10) (spaced field more ++ 10 ∷ rest) ≡ rest
after-spaced field more rest is are = after-plain (spaced field more) rest (spaced-fails (λ b. b == 10) no-feed refl field more is are)

-- `pull M` and a line feed
pub plain-pull : (text : List ℕ) (moment : ℕ) (rest : List ℕ) → BeginsWithNumber text 10 0 MAX_MOMENT moment rest → lines_of (codes "pull " ++ text) ≡ line.Command (Pull 0 moment) ∷ lines_of rest
plain-pull text moment rest h =
    ap (λ t. lines_of (codes "pull " ++ t)) h.text_is ∙ line-spaced (codes "pull") (h.digits ∷ []) rest (record { some = refl; all = refl }) (digits, tt) ∙ ap (λ l. l ∷ lines_of rest) is
  where
    digits : IsField h.digits
    digits = digits-field h.digits (number-digits 0 MAX_MOMENT h.digits moment h.number_is)

    is : line_of_fields (codes "pull" ∷ h.digits ∷ []) ≡ line.Command (Pull 0 moment)
    is = rw h.number_is refl

-- `send S L` and a line feed
pub plain-send : (text middle rest : List ℕ) (sender size : ℕ) → BeginsWithNumber text 32 0 MAX_SENDER sender middle → BeginsWithNumber middle 10 1 MAX_LENGTH size rest
    → lines_of (codes "send " ++ text) ≡ line.Command (Send sender size) ∷ lines_of rest
plain-send text middle rest sender size h k =
    ap (λ t. lines_of (codes "send " ++ t)) (h.text_is ∙ ap (λ t. h.digits ++ 32 ∷ t) k.text_is ∙ sym (append_assoc h.digits (32 ∷ k.digits) (10 ∷ rest)))
    ∙ line-spaced (codes "send") (h.digits ∷ k.digits ∷ []) rest (record { some = refl; all = refl }) (first, (second, tt)) ∙ ap (λ l. l ∷ lines_of rest) is
  where
    first : IsField h.digits
    first = digits-field h.digits (number-digits 0 MAX_SENDER h.digits sender h.number_is)

    second : IsField k.digits
    second = digits-field k.digits (number-digits 1 MAX_LENGTH k.digits size k.number_is)

    is : line_of_fields (codes "send" ∷ h.digits ∷ k.digits ∷ []) ≡ line.Command (Send sender size)
    is = rw (h.number_is, k.number_is) refl

-- what follows `pull M` and a line feed
pub after-pull : (text : List ℕ) (moment : ℕ) (rest : List ℕ) → BeginsWithNumber text 10 0 MAX_MOMENT moment rest → rest ≡ after_first (λ byte. byte == 10) (codes "pull " ++ text)
after-pull text moment rest h =
    sym (ap (λ t. after_first (λ byte. byte == 10) (codes "pull " ++ t)) h.text_is
    ∙ after-spaced (codes "pull") (h.digits ∷ []) rest (record { some = refl; all = refl }) (digits-field h.digits (number-digits 0 MAX_MOMENT h.digits moment h.number_is), tt))

-- what follows `send S L` and a line feed
pub after-send : (text middle rest : List ℕ) (sender size : ℕ) → BeginsWithNumber text 32 0 MAX_SENDER sender middle → BeginsWithNumber middle 10 1 MAX_LENGTH size rest
    → rest ≡ after_first (λ byte. byte == 10) (codes "send " ++ text)
after-send text middle rest sender size h k =
    sym (ap (λ t. after_first (λ byte. byte == 10) (codes "send " ++ t)) (h.text_is ∙ ap (λ t. h.digits ++ 32 ∷ t) k.text_is ∙ sym (append_assoc h.digits (32 ∷ k.digits) (10 ∷ rest)))
    ∙ after-spaced (codes "send") (h.digits ∷ k.digits ∷ []) rest (record { some = refl; all = refl })
    (digits-field h.digits (number-digits 0 MAX_SENDER h.digits sender h.number_is), (digits-field k.digits (number-digits 1 MAX_LENGTH k.digits size k.number_is), tt)))
