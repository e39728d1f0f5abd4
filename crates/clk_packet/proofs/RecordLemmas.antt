-- Records that are read one after another: each takes a byte at least.
use Rattle.std.proofs.Common.{◌≡◌, ℕ, zero, suc, ◌<◌, ◌≤◌, ◌==◌, Bool, true, false, cond, List, [], ◌∷◌, ◌++◌, length, Some, None, refl, sym, subst, ◌∙◌, arith}
use Rattle.csv.specs.Machine.{Read, carriage_return, ends_with, after_end, in_field, start_field, start_record, step, ends_at_end, is_end, fields_after, field_after, next_record}
use Rattle.csv.specs.Reading.{default_config, records_from}
use Rattle.csv.specs.declared.parser.State.{State}
use Rattle.csv.specs.declared.parser.State.TheVariants as st
use Rattle.csv.specs.declared.parser.Action.{Action}
use Rattle.csv.specs.declared.parser.Action.TheVariants as act

-- a step that ends a record stands between records
record IsBetween (q : State × Action) : Type 0 where
  pub ended : is_end q.1 ≡ true → ends_at_end q.0 ≡ false

either : (b : Bool) (x y : State × Action) → IsBetween x → IsBetween y → IsBetween (cond b x y)
either true x y h k = h
either false x y h k = k

goes_on : (s : State) (a : Action) → is_end a ≡ false → IsBetween (s, a)
goes_on s a goes = record { ended = λ e. absurd (cc) }

after_end-between : (b : Bool) → IsBetween (cond b st.AfterCr st.StartRecord, act.EndRecord)
after_end-between true = record { ended = λ e. refl }
after_end-between false = record { ended = λ e. refl }

in_field-between : (c : ℕ) → IsBetween (in_field default_config c)
in_field-between c =
    either (c == 44) (st.StartField, act.EndField) _ (goes_on st.StartField act.EndField refl)
    (either (ends_with default_config.terminator c) (after_end default_config.terminator c, act.EndRecord) (st.InField, act.Copy) (after_end-between (c == carriage_return)) (goes_on st.InField act.Copy refl))

start_field-between : (c : ℕ) → IsBetween (start_field default_config c)
start_field-between c = either (c == 34) (st.InQuoted, act.Skip) (in_field default_config c) (goes_on st.InQuoted act.Skip refl) (in_field-between c)

start_record-between : (c : ℕ) → IsBetween (start_record default_config c)
start_record-between c =
    either (ends_with default_config.terminator c) (st.StartRecord, act.Skip) (start_field default_config c) (goes_on st.StartRecord act.Skip refl) (start_field-between c)

step-between : (s : State) (c : ℕ) → IsBetween (step default_config s c)
step-between st.StartRecord c = start_record-between c
step-between st.StartField c = start_field-between c
step-between st.InField c = in_field-between c
step-between st.InQuoted c = either (c == 34) (st.AfterQuote, act.Skip) (st.InQuoted, act.Copy) (goes_on st.AfterQuote act.Skip refl) (goes_on st.InQuoted act.Copy refl)
step-between st.InEscape c = goes_on st.InQuoted act.Copy refl
step-between st.AfterQuote c = either (c == 34) (st.InQuoted, act.Copy) (in_field default_config c) (goes_on st.InQuoted act.Copy refl) (in_field-between c)
step-between st.InComment c = either (c == 10) (st.StartRecord, act.Skip) (st.InComment, act.Skip) (goes_on st.StartRecord act.Skip refl) (goes_on st.InComment act.Skip refl)
step-between st.AfterCr c = either (c == 10) (st.StartRecord, act.Skip) (start_record default_config c) (goes_on st.StartRecord act.Skip refl) (start_record-between c)

-- what is left after a record: less than before it, where that was between records
pub record Shortens (s : State) (text : List ℕ) (p : Read) : Type 0 where
  pub between : ends_at_end p.1 ≡ false
  pub most : length p.2 ≤ length text
  pub less : ends_at_end s ≡ false → length p.2 < length text

pub next-shortens : (s : State) (fields : List (List ℕ)) (field text : List ℕ) (p : Read) → next_record default_config s fields field text ≡ Some p → Shortens s text p
unfolding next_record
next-shortens s fields field [] p e = by_test (ends_at_end s) refl
  where
    by_test : (b : Bool) → ends_at_end s ≡ b → Shortens s [] p
    by_test true f =
        let same : (fields ++ (field ∷ []), st.StartRecord, []) ≡ p = cc (rw f at e) in
        subst (λ (q : Read). Shortens s [] q) same (record { between = refl; most = omega arith; less = λ between. absurd (cc (sym f ∙ between)) })
    by_test false f = absurd (cc (rw f at e))
next-shortens s fields field (c ∷ text) p e =
    by_test (is_end (step default_config s c).1) refl (next-shortens (step default_config s c).0 (fields_after (step default_config s c).1 fields field) (field_after (step default_config s c).1 c field) text p)
  where
    by_test : (b : Bool) → is_end (step default_config s c).1 ≡ b
        → (next_record default_config (step default_config s c).0 (fields_after (step default_config s c).1 fields field) (field_after (step default_config s c).1 c field) text ≡ Some p → Shortens (step default_config s c).0 text p)
        → Shortens s (c ∷ text) p
    by_test true f later =
        let same : (fields_after (step default_config s c).1 fields field, (step default_config s c).0, text) ≡ p = cc (rw f at e) in
        subst (λ (q : Read). Shortens s (c ∷ text) q) same (record { between = (step-between s c).ended f; most = omega arith; less = λ _. omega arith })
    by_test false f later =
        let rest = later (rw f at e) in
        let most = rest.most in
        record { between = rest.between; most = omega (arith, most); less = λ _. omega (arith, most) }

-- the records from a record on, and from an end on
pub records-more : (fuel : ℕ) (s : State) (text : List ℕ) (p : Read) → next_record default_config s [] [] text ≡ Some p → records_from default_config (suc fuel) s text ≡ p.0 ∷ records_from default_config fuel p.1 p.2
unfolding records_from
records-more fuel s text p e = rw e refl

pub records-end : (fuel : ℕ) (s : State) (text : List ℕ) → next_record default_config s [] [] text ≡ None → records_from default_config fuel s text ≡ []
unfolding records_from
records-end zero s text e = refl
records-end (suc fuel) s text e = rw e refl
