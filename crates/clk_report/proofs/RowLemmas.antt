-- The row of a visit, put together from its pieces: no field of it calls for quotes.
use Rattle.std.proofs.Common.{◌≡◌, ℕ, ◌+◌, ◌%◌, ◌<◌, ◌^◌, List, [], ◌∷◌, ◌++◌, false, append_assoc, codes, decimal, Option, Some, None, refl, arith}
use Rattle.std.proofs.lemmas.Bool.{ne_eqb}
use Rattle.std.proofs.lemmas.Fmt.{decimal_by_steps}
use Rattle.std.proofs.lemmas.List.Folds.{list_any-append}
use Rattle.std.specs.List.{flat_map}
use Rattle.csv.specs.Writing.{default_writer, field_text, fields_text, is_blank, needs_byte, needs_quotes, row_text}
use Rattle.clk_sched.specs.declared.visit.Visit.{Visit}
use Rattle.clk_report.specs.VisitCsv.{columns, device_column, flag_text, got_text}

-- a digit calls for no quotes
digit-plain : (d : ℕ) → d < 10 → needs_byte default_writer (48 + d) ≡ false
digit-plain d small =
    rw (ne_eqb (48 + d) 44 (λ e. omega (arith, e)), ne_eqb (48 + d) 34 (λ e. omega (arith, e)), ne_eqb (48 + d) 13 (λ e. omega (arith, e)), ne_eqb (48 + d) 10 (λ e. omega (arith, e))) refl

-- nor do digits
digits-plain : (n : ℕ) → n < 2 ^ 64 → needs_quotes default_writer (decimal n) ≡ false
digits-plain =
    decimal_by_steps (λ n ds. needs_quotes default_writer ds ≡ false) (λ n small. rw (digit-plain n small) refl)
    (λ n ds _ plain. rw (list_any-append (needs_byte default_writer) ds ((48 + n % 10) ∷ []), plain, digit-plain (n % 10) (omega arith)) refl)

-- a number stands for itself
pub number-plain : (n : ℕ) → n < 2 ^ 64 → field_text default_writer (decimal n) ≡ decimal n
number-plain n fits = rw (digits-plain n fits) refl

-- the fields of a row, each with what stands between it and the next
joined : (a b c d e f g h i after : List ℕ)
    → ((a ++ (44 ∷ (b ++ (44 ∷ (c ++ (44 ∷ (d ++ (44 ∷ (e ++ (44 ∷ (f ++ (44 ∷ (g ++ (44 ∷ (h ++ (44 ∷ (i ++ []))))))))))))))))) ++ (10 ∷ [])) ++ after
    ≡ a ++ (44 ∷ (b ++ (44 ∷ (c ++ (44 ∷ (d ++ (44 ∷ (e ++ (44 ∷ (f ++ (44 ∷ (g ++ (44 ∷ (h ++ (44 ∷ (i ++ (10 ∷ after)))))))))))))))))
joined a b c d e f g h i after = simp append_assoc refl

joined-device : (z a b c d e f g h i after : List ℕ)
    → ((z ++ (44 ∷ (a ++ (44 ∷ (b ++ (44 ∷ (c ++ (44 ∷ (d ++ (44 ∷ (e ++ (44 ∷ (f ++ (44 ∷ (g ++ (44 ∷ (h ++ (44 ∷ (i ++ []))))))))))))))))))) ++ (10 ∷ [])) ++ after
    ≡ ((z ++ (44 ∷ [])) ++ []) ++ (a ++ (44 ∷ (b ++ (44 ∷ (c ++ (44 ∷ (d ++ (44 ∷ (e ++ (44 ∷ (f ++ (44 ∷ (g ++ (44 ∷ (h ++ (44 ∷ (i ++ (10 ∷ after))))))))))))))))))
joined-device z a b c d e f g h i after = simp append_assoc refl

-- The row of a visit before what follows it, in the pieces that it is put together from.
pub row-pieces : (device : Option ℕ) (v : Visit) (after : List ℕ)
    → row_text default_writer (device_column device ++ columns v) ++ after
    ≡ flat_map (λ column. field_text default_writer column ++ codes ",") (device_column device)
    ++ (field_text default_writer (decimal v.pull) ++ (codes "," ++ (field_text default_writer (decimal v.node) ++ (codes "," ++ (field_text default_writer (decimal v.input)
    ++ (codes "," ++ (field_text default_writer (flag_text v.fresh) ++ (codes "," ++ (field_text default_writer (got_text (λ p. p.sender) v.got) ++ (codes "," ++ (field_text default_writer (got_text (λ p. p.number) v.got)
    ++ (codes "," ++ (field_text default_writer (got_text (λ p. p.length) v.got) ++ (codes "," ++ (field_text default_writer (flag_text v.passed) ++ (codes "," ++ (field_text default_writer (decimal v.moment)
    ++ (codes "\n" ++ after))))))))))))))))))
unfolding fields_text is_blank
row-pieces None v after =
    joined (field_text default_writer (decimal v.pull)) (field_text default_writer (decimal v.node)) (field_text default_writer (decimal v.input)) (field_text default_writer (flag_text v.fresh))
    (field_text default_writer (got_text (λ p. p.sender) v.got)) (field_text default_writer (got_text (λ p. p.number) v.got)) (field_text default_writer (got_text (λ p. p.length) v.got))
    (field_text default_writer (flag_text v.passed)) (field_text default_writer (decimal v.moment)) after
row-pieces (Some d) v after =
    joined-device (field_text default_writer (decimal d)) (field_text default_writer (decimal v.pull)) (field_text default_writer (decimal v.node)) (field_text default_writer (decimal v.input))
    (field_text default_writer (flag_text v.fresh)) (field_text default_writer (got_text (λ p. p.sender) v.got)) (field_text default_writer (got_text (λ p. p.number) v.got))
    (field_text default_writer (got_text (λ p. p.length) v.got)) (field_text default_writer (flag_text v.passed)) (field_text default_writer (decimal v.moment)) after
