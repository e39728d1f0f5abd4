-- The fields and lines of a text, one after another.
use Rattle.std.proofs.Common.{◌≡◌, ℕ, ◌<◌, ◌==◌, Bool, true, false, List, [], ◌∷◌, length, take, drop, get_or, Option, Some, None, unwrap_or, refl, sym, add_comm, add-one, arith, rules}
use Rattle.std.specs.List.{position_or_len, prefix_len, slice_split, filter, before_first, after_first}
use Rattle.std.proofs.lemmas.List.Splits.{slice_split_first, slice_split_none, length-slice_split}
use Rattle.std.proofs.lemmas.List.Sums.{fails_before_first, position_or_len_is}
use Rattle.std.specs.Str.Lines.{lines, strip_carriage_return}
use Rattle.memchr.specs.Find.{IsFirstByte, is_byte}
use Rattle.clk_packet.specs.Numbers.{has_bytes}
use Rattle.clk_script.specs.Script.{is_blank, fields}
use Rattle.clk_script.specs.inside.Fields.{field_at}

-- blanks at the front change no field
pub fields-skip : (text : List ℕ) → fields text ≡ fields (drop (prefix_len is_blank text) text)
fields-skip [] = refl
fields-skip (byte ∷ text) = by_test (is_blank byte) refl (fields-skip text)
  where
    by_test : (b : Bool) → is_blank byte ≡ b → fields text ≡ fields (drop (prefix_len is_blank text) text) → fields (byte ∷ text) ≡ fields (drop (prefix_len is_blank (byte ∷ text)) (byte ∷ text))
    by_test b e h = search (rules, add-one)

-- the parts of a text: the bytes before the first at which it is cut, and then parts whose fields are those of what follows
pub record Parts (text : List ℕ) : Type 0 where
  pub more : List (List ℕ)
  pub split : slice_split is_blank text ≡ take (position_or_len is_blank text) text ∷ more
  pub later : filter has_bytes more ≡ fields (drop (position_or_len is_blank text) text)

pub parts : (text : List ℕ) → Parts text
parts [] = record { more = []; split = refl; later = refl }
parts (byte ∷ text) = by_test (is_blank byte) refl (parts text)
  where
    by_test : (b : Bool) → is_blank byte ≡ b → Parts text → Parts (byte ∷ text)
    by_test true e p = record { more = slice_split is_blank text; split = rw e refl; later = rw (e, e) refl }
    by_test false e p = record { more = p.more; split = rw (e, add_comm 1 (position_or_len is_blank text), add-one) (rw p.split refl); later = rw (e, add_comm 1 (position_or_len is_blank text), add-one) p.later }

-- The bytes up to the first blank are the first field, unless there are none, where this is the end.
pub record FirstField (text : List ℕ) : Type 0 where
  pub field : take (position_or_len is_blank text) text ≡ field_at (fields text) 0
  pub rest : fields (drop (position_or_len is_blank text) text) ≡ drop 1 (fields text)

-- a text that begins with no blank
pub fields-first : (text : List ℕ) → prefix_len is_blank text ≡ 0 → FirstField text
fields-first [] none = record { field = refl; rest = refl }
fields-first (byte ∷ text) none = by_test (is_blank byte) refl (parts text) none
  where
    by_test : (b : Bool) → is_blank byte ≡ b → Parts text → prefix_len is_blank (byte ∷ text) ≡ 0 → FirstField (byte ∷ text)
    by_test true e p none = absurd (omega (arith, rw e at none))
    by_test false e p none =
        record {
          field = rw (e, add_comm 1 (position_or_len is_blank text), add-one) (rw p.split refl);
          rest = rw (e, add_comm 1 (position_or_len is_blank text), add-one) (rw p.split (sym p.later));
        }

-- after the blanks at its front, a text begins with no blank
pub skipped : (text : List ℕ) → prefix_len is_blank (drop (prefix_len is_blank text) text) ≡ 0
skipped [] = refl
skipped (byte ∷ text) = by_test (is_blank byte) refl (skipped text)
  where
    by_test : (b : Bool) → is_blank byte ≡ b → prefix_len is_blank (drop (prefix_len is_blank text) text) ≡ 0 → prefix_len is_blank (drop (prefix_len is_blank (byte ∷ text)) (byte ∷ text)) ≡ 0
    by_test b e h = search (rules, add-one)

-- where a search finds the first line feed, or the end
pub first-feed : (text : List ℕ) (found : Option ℕ) → IsFirstByte (is_byte 10) text found → unwrap_or found (length text) ≡ position_or_len (λ byte. byte == 10) text
first-feed text found h = by_case found h
  where
    fails : (b : Bool) → ¬ (b ≡ true) → b ≡ false
    fails b fail = search (rules, position_or_len_is)

    by_case : (found : Option ℕ) → IsFirstByte (is_byte 10) text found → unwrap_or found (length text) ≡ position_or_len (λ byte. byte == 10) text
    by_case None h = sym (position_or_len_is (λ byte. byte == 10) text (length text) 0 (omega arith) (λ k lt. fails (get_or text k 0 == 10) (h k (omega arith) lt)) (λ lt. absurd (omega arith)))
    by_case (Some k) h =
        let inside = h.0.high in
        sym (position_or_len_is (λ byte. byte == 10) text k 0 (omega arith) (λ j lt. fails (get_or text j 0 == 10) (h.0.before j (omega arith) lt)) (λ lt. h.1))

-- the first line of a text that goes on after it
pub lines-first : (text : List ℕ) → position_or_len (λ byte. byte == 10) text < length text → lines text ≡ strip_carriage_return (before_first (λ byte. byte == 10) text) ∷ lines (after_first (λ byte. byte == 10) text)
lines-first text h = grind (arith, slice_split_first, length-slice_split)

-- a text with no line feed is one line
pub lines-last : (text : List ℕ) → 0 < length text → position_or_len (λ byte. byte == 10) text ≡ length text → lines text ≡ text ∷ lines []
lines-last text h e = search (rules, slice_split_none, fails_before_first)
