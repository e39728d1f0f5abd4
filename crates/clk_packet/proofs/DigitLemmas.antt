-- The digits with which a text begins, and the numbers that they are.
use Rattle.std.proofs.Common.{◌≡◌, ℕ, ◌-◌, ◌<◌, ◌≤◌, ◌&&◌, Bool, true, false, nat_le, if◌then◌else◌, take, drop, slice_index_or, List, [], ◌∷◌, ◌++◌, length, length-append, append_assoc, Some, None, refl, sym, ap, ap₂, ◌∙◌, arith}
use Rattle.std.specs.Char.{is_ascii_digit}
use Rattle.std.specs.Str.{all_ascii_digits}
use Rattle.std.specs.Str.Parse.{digits_value}
use Rattle.std.proofs.lemmas.Bool.Decides.{nat_tests}
use Rattle.std.proofs.lemmas.List.{append-nil, drop_at, length-take-le, take-append-drop}
use Rattle.clk_packet.specs.Numbers.{BeginsWithNumber, has_bytes, leading_digits, number_in}
use Rattle.clk_packet.proofs.NumberLemmas.{front-large}

-- the first of some digits, and the others
pub first-digit : (d : ℕ) (digits : List ℕ) → all_ascii_digits (d ∷ digits) ≡ true → (is_ascii_digit d ≡ true) × (all_ascii_digits digits ≡ true)
first-digit d digits all = by_digit (is_ascii_digit d) refl
  where
    by_digit : (b : Bool) → is_ascii_digit d ≡ b → (is_ascii_digit d ≡ true) × (all_ascii_digits digits ≡ true)
    by_digit true e = (e, rw e at all)
    by_digit false e = let no = rw e at all in absurd (cc)

-- a text is the digits with which it begins, and what follows them
pub leading-front : (text : List ℕ) → text ≡ leading_digits text ++ drop (length (leading_digits text)) text
leading-front [] = refl
leading-front (byte ∷ text) = by_test (is_ascii_digit byte) (leading-front text)
  where
    by_test : (b : Bool) → text ≡ leading_digits text ++ drop (length (leading_digits text)) text
        → byte ∷ text ≡ (if b then byte ∷ leading_digits text else []) ++ drop (length (if b then byte ∷ leading_digits text else [])) (byte ∷ text)
    by_test true later = ap (λ l. byte ∷ l) later
    by_test false later = refl

pub leading-all : (text : List ℕ) → all_ascii_digits (leading_digits text) ≡ true
leading-all [] = refl
leading-all (byte ∷ text) = by_test (is_ascii_digit byte) refl (leading-all text)
  where
    by_test : (b : Bool) → is_ascii_digit byte ≡ b → all_ascii_digits (leading_digits text) ≡ true → all_ascii_digits (if b then byte ∷ leading_digits text else []) ≡ true
    by_test true e later = rw e later
    by_test false e later = refl

-- all of a text where it is no longer than they are
pub record AllLead (text : List ℕ) : Type 0 where
  pub are : leading_digits text ≡ text
  pub all : all_ascii_digits text ≡ true

pub all-lead : (text : List ℕ) → length text ≤ length (leading_digits text) → AllLead text
all-lead [] le = record { are = refl; all = refl }
all-lead (byte ∷ text) le = by_test (is_ascii_digit byte) refl (all-lead text)
  where
    by_test : (b : Bool) → is_ascii_digit byte ≡ b → (length text ≤ length (leading_digits text) → AllLead text) → AllLead (byte ∷ text)
    by_test true e later =
        let leads : leading_digits (byte ∷ text) ≡ byte ∷ leading_digits text = rw e refl in
        let many = ap length leads in
        let rest = later (omega (arith, le, many)) in
        record { are = leads ∙ ap (λ l. byte ∷ l) rest.are; all = rw e rest.all }
    by_test false e later = let none : leading_digits (byte ∷ text) ≡ [] = rw e refl in let many = ap length none in absurd (omega (arith, le, many))

-- so it is where all of it are digits
pub digits-lead : (digits rest : List ℕ) → all_ascii_digits digits ≡ true → leading_digits rest ≡ [] → leading_digits (digits ++ rest) ≡ digits
digits-lead [] rest all ends = ends
digits-lead (d ∷ digits) rest all ends = let split = first-digit d digits all in rw split.0 (ap (λ l. d ∷ l) (digits-lead digits rest split.1 ends))

-- a text is no number that is longer than its digits
pub number_in-longer : (least most : ℕ) (text : List ℕ) → length (leading_digits text) < length text → number_in least most text ≡ None
number_in-longer least most text longer = by_test (all_ascii_digits text) refl
  where
    by_test : (b : Bool) → all_ascii_digits text ≡ b → number_in least most text ≡ None
    by_test true e = let are = ap length (ap leading_digits (sym (append-nil text)) ∙ digits-lead text [] e refl) in absurd (omega (arith, longer, are))
    by_test false e = rw e refl

-- and none where it is empty, or below the range
pub number_in-empty : (least most : ℕ) (digits : List ℕ) → length digits ≡ 0 → number_in least most digits ≡ None
number_in-empty least most [] none = refl
number_in-empty least most (byte ∷ digits) none = absurd (omega arith)

pub number_in-low : (least most : ℕ) (digits : List ℕ) → digits_value 10 digits < least → number_in least most digits ≡ None
number_in-low least most digits low =
    let below : nat_le least (digits_value 10 digits) ≡ false = grind (arith, nat_tests) in
    rw below (by_test (all_ascii_digits digits && has_bytes digits) (digits_value 10 digits) (nat_le (digits_value 10 digits) most))
  where
    by_test : (b : Bool) (n : ℕ) (c : Bool) → (if b && false && c then Some n else None) ≡ None
    by_test true n c = refl
    by_test false n c = refl

-- a number that is past the range
pub number_in-large : (least most : ℕ) (text : List ℕ) → most < digits_value 10 (leading_digits text) → number_in least most text ≡ None
number_in-large least most text large = ap (number_in least most) (leading-front text) ∙ front-large least most (leading_digits text) (drop (length (leading_digits text)) text) large

-- bytes of some length are some
has-some : (digits : List ℕ) → 0 < length digits → has_bytes digits ≡ true
has-some [] some = absurd (omega arith)
has-some (d ∷ digits) some = refl

-- bytes that are some have a length
bytes-some : (digits : List ℕ) → has_bytes digits ≡ true → 0 < length digits
bytes-some [] some = absurd (cc)
bytes-some (d ∷ digits) some = omega arith

-- digits are the number that is their value, in its range
pub number_in-digits : (least most : ℕ) (digits : List ℕ) (number : ℕ) → all_ascii_digits digits ≡ true → digits_value 10 digits ≡ number → 0 < length digits → least ≤ number → number ≤ most → number_in least most digits ≡ Some number
number_in-digits least most digits number all value some low high =
    let bytes = has-some digits some in
    let above : nat_le least number ≡ true = grind (arith, nat_tests) in
    let below : nat_le number most ≡ true = grind (arith, nat_tests) in
    rw (value, all, bytes, above, below) refl

-- what a number's digits are
pub record AreDigits (digits : List ℕ) : Type 0 where
  pub all : all_ascii_digits digits ≡ true
  pub some : has_bytes digits ≡ true

-- a number is of digits, and some
pub number-digits : (least most : ℕ) (digits : List ℕ) (number : ℕ) → number_in least most digits ≡ Some number → AreDigits digits
number-digits least most digits number e = by_tests (all_ascii_digits digits) (has_bytes digits) refl refl
  where
    by_tests : (a b : Bool) → all_ascii_digits digits ≡ a → has_bytes digits ≡ b → AreDigits digits
    by_tests true true f g = record { all = f; some = g }
    by_tests true false f g = let no = rw (f, g) at e in absurd (cc)
    by_tests false b f g = let no = rw f at e in absurd (cc)

-- digits are a number that is in the range
pub record IsWithin (digits : List ℕ) (least most number : ℕ) : Type 0 where
  pub value : digits_value 10 digits ≡ number
  pub low : least ≤ number
  pub high : number ≤ most

-- a number is in its range
pub number-within : (least most : ℕ) (digits : List ℕ) (number : ℕ) → number_in least most digits ≡ Some number → IsWithin digits least most number
number-within least most digits number e = by_tests (nat_le least (digits_value 10 digits)) (nat_le (digits_value 10 digits) most) refl refl
  where
    are : AreDigits digits
    are = number-digits least most digits number e

    by_tests : (a b : Bool) → nat_le least (digits_value 10 digits) ≡ a → nat_le (digits_value 10 digits) most ≡ b → IsWithin digits least most number
    by_tests true true f g =
        let value : digits_value 10 digits ≡ number = let is = rw (are.all, are.some, f, g) at e in cc in
        record { value = value; low = grind (arith, nat_tests); high = grind (arith, nat_tests) }
    by_tests true false f g = let no = rw (are.all, are.some, f, g) at e in absurd (cc)
    by_tests false b f g = let no = rw (are.all, are.some, f) at e in absurd (cc)

-- the number in a range with which a text begins is of the digits with which it begins, and the byte comes right after them
pub record IsThere (text : List ℕ) (end least most number : ℕ) : Type 0 where
  pub value : digits_value 10 (leading_digits text) ≡ number
  pub low : least ≤ number
  pub high : number ≤ most
  pub some : 0 < length (leading_digits text)
  pub inside : length (leading_digits text) < length text
  pub byte_is : slice_index_or text (length (leading_digits text)) 0 ≡ end

byte-after : (digits : List ℕ) (end : ℕ) (rest : List ℕ) → slice_index_or (digits ++ end ∷ rest) (length digits) 0 ≡ end
byte-after [] end rest = refl
byte-after (d ∷ digits) end rest = byte-after digits end rest

pub number-there : (text : List ℕ) (end least most number : ℕ) (rest : List ℕ) → is_ascii_digit end ≡ false → BeginsWithNumber text end least most number rest → IsThere text end least most number
number-there text end least most number rest e k =
    let are = number-digits least most k.digits number k.number_is in
    let within = number-within least most k.digits number k.number_is in
    let leads : leading_digits text ≡ k.digits = ap leading_digits k.text_is ∙ digits-lead k.digits (end ∷ rest) are.all (rw e refl) in
    let many = ap length leads in
    let long = ap length k.text_is in
    let joined = length-append k.digits (end ∷ rest) in
    let some = bytes-some k.digits are.some in
    record {
      value = ap (digits_value 10) leads ∙ within.value;
      low = within.low;
      high = within.high;
      some = omega (arith, many, some);
      inside = omega (arith, many, long, joined);
      byte_is = ap₂ (λ t n. slice_index_or t n 0) k.text_is many ∙ byte-after k.digits end rest;
    }

-- the number that the first bytes of a text begin with is the one that the text begins with
pub number-front : (text : List ℕ) (n end least most number : ℕ) (left : List ℕ) → n ≤ length text → BeginsWithNumber (take n text) end least most number left
    → BeginsWithNumber text end least most number (drop (n - length left) text)
number-front text n end least most number left within h =
    let back = drop n text in
    let text_is : text ≡ h.digits ++ end ∷ (left ++ back) = sym (take-append-drop n text) ∙ ap (λ l. l ++ back) h.text_is ∙ append_assoc h.digits (end ∷ left) back in
    let full = length-take-le n text within in
    let long = ap length h.text_is in
    let joined = length-append h.digits (end ∷ left) in
    let begun = length-append h.digits (end ∷ []) in
    let place : length (h.digits ++ end ∷ []) ≡ n - length left = omega (arith, full, long, joined, begun) in
    let split : text ≡ (h.digits ++ end ∷ []) ++ (left ++ back) = text_is ∙ sym (append_assoc h.digits (end ∷ []) (left ++ back)) in
    let rest_is : drop (n - length left) text ≡ left ++ back = ap (drop (n - length left)) split ∙ drop_at (h.digits ++ end ∷ []) (left ++ back) (n - length left) place in
    record { digits = h.digits; text_is = text_is ∙ ap (λ r. h.digits ++ end ∷ r) (sym rest_is); number_is = h.number_is }

-- what follows a number is shorter
pub number-shorter : (text : List ℕ) (end least most number : ℕ) (rest : List ℕ) → BeginsWithNumber text end least most number rest → length rest < length text
number-shorter text end least most number rest h = let e = ap length h.text_is in let l = length-append h.digits (end ∷ rest) in omega (arith, e, l)
