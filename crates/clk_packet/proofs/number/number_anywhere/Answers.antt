use Rattle.std.proofs.Common.{arith, ◌≡◌, ◌<◌, ◌+◌, ◌∷◌, ◌++◌, ◌∙◌, length, drop, slice_index_or, sym, ap}
use Rattle.std.proofs.lemmas.Bool.Decides.{nat_tests}
use Rattle.std.proofs.lemmas.List.{drop_more}
use Rattle.clk_packet.specs.Numbers.{leading_digits}
use Rattle.clk_packet.proofs.DigitLemmas.{leading-front, leading-all, number_in-digits, number-there}
use Rattle.clk_packet.proofs.number.number_anywhere.Goals.{then-len-eq0-via-then-len-eq0, then-len-eq0-via-else-len-eq0+then-len-text, then-len-eq0-via-else-len-eq0+else-len-text+then-number-least}
use Rattle.clk_packet.proofs.number.number_anywhere.Goals as goal

pub returns-in_err-number-clause-none : goal.returns-in_err-number-clause-none
returns-in_err-number-clause-none c = rw c.from_residual.ensures (λ number rest begins.
    let there = number-there c.args.text.now c.args.end c.args.least c.args.most number rest c.requires.end begins in
    let large = c.in_err-number.ensures.large in
    let value = there.value in
    let high = there.high in
    absurd (omega (arith, large, value, high)))

pub returns-then-len-eq0-clause-none : goal.returns-then-len-eq0-clause-none
returns-then-len-eq0-clause-none c number rest begins =
    let there = number-there c.args.text.now c.args.end c.args.least c.args.most number rest c.requires.end begins in
    let value = c.in_ok-number.ensures.number ∙ there.value in
    let count = c.in_ok-number.ensures.digits in
    let low = there.low in
    let some = there.some in
    let inside = there.inside in
    elim c.then-len-eq0.branch [
      | then-len-eq0-via-then-len-eq0 w ↦ absurd (grind (arith, nat_tests))
      | then-len-eq0-via-else-len-eq0+then-len-text w ↦ absurd (grind (arith, nat_tests))
      | then-len-eq0-via-else-len-eq0+else-len-text+then-number-least w ↦ absurd (grind (arith, nat_tests))
    ]

pub returns-then-text-len-clause-none : goal.returns-then-text-len-clause-none
returns-then-text-len-clause-none c number rest begins =
    let there = number-there c.args.text.now c.args.end c.args.least c.args.most number rest c.requires.end begins in
    let byte : slice_index_or c.args.text.now c.in_ok-number.len 0 ≡ c.args.end = ap (λ n. slice_index_or c.args.text.now n 0) c.in_ok-number.ensures.digits ∙ there.byte_is in
    absurd (grind (arith, nat_tests))

pub returns-clause-found : goal.returns-clause-found
returns-clause-found c =
    let text = c.args.text.now in
    let len = c.in_ok-number.len in
    let count = c.in_ok-number.ensures.digits in
    let inside = c.in_ok-number.ensures.inside in
    let some : 0 < len = grind (arith, nat_tests) in
    let there : len < length text = grind (arith, nat_tests) in
    let is_end : slice_index_or text len 0 ≡ c.args.end = grind (arith, nat_tests) in
    let next : drop len text ≡ c.args.end ∷ drop (len + 1) text = drop_more text len 0 there ∙ ap (λ b. b ∷ drop (len + 1) text) is_end in
    let low = c.if-number-least.false in
    record {
      digits = leading_digits text;
      text_is = leading-front text ∙ ap (λ l. leading_digits text ++ l) (ap (λ n. drop n text) (sym count) ∙ next ∙ ap (λ l. c.args.end ∷ l) (sym c.split_at.ensures.back));
      number_is = number_in-digits c.args.least c.args.most (leading_digits text) c.in_ok-number.number (leading-all text) (sym c.in_ok-number.ensures.number) (omega (arith, count, some)) (omega (arith, low)) c.in_ok-number.ensures.within;
    }
