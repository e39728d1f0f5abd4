use Rattle.std.proofs.Common.{arith, ◌≡◌, ◌<◌, ◌*◌, ◌+◌, ◌-◌, ◌∷◌, [], ◌∙◌, ap, sym, subst, refl, drop, length, slice_index_or, rules}
use Rattle.std.proofs.lemmas.Bool.Decides.{nat_tests}
use Rattle.std.proofs.lemmas.List.{drop_more, drop_all}
use Rattle.clk_script.proofs.Texts.NumberLemmas.{Reads, Reads-none, Reads-digit, field_of, field_of-blank, number-missing, number-read, number-too_large}
use Rattle.clk_script.proofs.fields.first_number.Goals.{else-loop-byte-test, then-loop-byte-test+then-not-is_ascii_digit+else-not-is_blank}
use Rattle.clk_script.proofs.fields.first_number.Goals as goal

pub returns-then-is_empty : goal.returns-then-is_empty
returns-then-is_empty c = search (rules, number-missing)

pub loop-byte-init : goal.loop-byte-init
loop-byte-init c =
    let some : 0 < length c.split_at.result.1.now = grind (arith, nat_tests) in
    let start = c.split_at.ensures.back ∙ ap (λ n. drop n c.args.text.now) c.blanks_len.ensures.blanks in
    record { reads = Reads-none c.args.text.now c.split_at.result.1.now start some; small = omega arith; len = refl }

pub returns-then-number-most : goal.returns-then-number-most
returns-then-number-most c =
    let field = c.split_at.result.1.now in
    let i = c.loop-byte.byte-index in
    let byte = slice_index_or field i 0 in
    let next : drop i field ≡ byte ∷ drop (i + 1) field = drop_more field i 0 c.loop-byte-test.true in
    let more : c.args.most < c.loop-byte.number * 10 + (byte - 48) = rw c.from.ensures at c.if-number-most.true in
    number-too_large c.args.least c.args.most c.args.text.now c.loop-byte.number (byte ∷ drop (i + 1) field) (omega arith) (sym c.is_ascii_digit.ensures.value ∙ c.if-not-is_ascii_digit.false) more
    (subst (Reads c.args.text.now c.loop-byte.number) next c.loop-byte.invariant.reads)

pub loop-byte-preserved : goal.loop-byte-preserved
loop-byte-preserved c =
    let field = c.split_at.result.1.now in
    let i = c.loop-byte.byte-index in
    let byte = slice_index_or field i 0 in
    let next : drop i field ≡ byte ∷ drop (i + 1) field = drop_more field i 0 c.loop-byte-test.true in
    let len = c.loop-byte.invariant.len in
    record {
      reads = rw c.from.ensures
          (Reads-digit c.args.text.now c.loop-byte.number byte (drop (i + 1) field) (sym c.is_ascii_digit.ensures.value ∙ c.if-not-is_ascii_digit.false)
          (subst (Reads c.args.text.now c.loop-byte.number) next c.loop-byte.invariant.reads));
      small = let small = c.if-number-most.false in omega (arith, small);
      len = omega (arith, len);
    }

pub returns : goal.returns
returns c =
    let field = c.split_at.result.1.now in
    let i = c.loop-byte.byte-index in
    let rest : c.split_at-2.result.1.now ≡ drop i field = c.split_at-2.ensures.back ∙ ap (λ n. drop n field) c.loop-byte.invariant.len in
    let ended : field_of (drop i field) ≡ [] = elim c.loop-byte-test.branch [
      | else-loop-byte-test w ↦ ap field_of (drop_all i field w.loop-byte-test.false)
      | then-loop-byte-test+then-not-is_ascii_digit+else-not-is_blank w ↦ ap field_of (drop_more field i 0 w.loop-byte-test.true) ∙ field_of-blank (slice_index_or field i 0) (drop (i + 1) field) (sym w.is_blank.ensures ∙ w.if-not-is_blank.false)
    ] in
    rw rest (number-read c.args.least c.args.most c.args.text.now c.loop-byte.number (drop i field) c.loop-byte.invariant.reads ended (let low = c.if-number-least.false in omega (arith, low)) c.loop-byte.invariant.small)
