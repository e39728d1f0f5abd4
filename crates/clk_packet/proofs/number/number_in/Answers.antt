use Rattle.std.proofs.Common.{arith, ◌≡◌, ◌<◌, length, sym, ap, ◌∙◌}
use Rattle.std.specs.Str.Parse.{digits_value}
use Rattle.std.proofs.lemmas.Bool.Decides.{nat_tests}
use Rattle.clk_packet.proofs.DigitLemmas.{all-lead, number_in-longer, number_in-large, number_in-empty, number_in-low, number_in-digits}
use Rattle.clk_packet.proofs.number.number_in.Goals.{then-len-digits-via-then-len-digits, then-len-digits-via-else-len-digits+then-len-eq0, then-len-digits-via-else-len-digits+else-len-eq0+then-number-least}
use Rattle.clk_packet.proofs.number.number_in.Goals as goal

pub returns-in_err-number : goal.returns-in_err-number
returns-in_err-number c = let large = number_in-large c.args.least c.args.most c.args.digits.now c.in_err-number.ensures.large in cc

pub returns-then-len-digits : goal.returns-then-len-digits
returns-then-len-digits c =
    let digits = c.args.digits.now in
    let count = c.in_ok-number.ensures.digits in
    let value = c.in_ok-number.ensures.number in
    elim c.then-len-digits.branch [
      | then-len-digits-via-then-len-digits w ↦ (let longer = w.if-len-digits.true in sym (number_in-longer c.args.least c.args.most digits (omega (arith, count, longer))))
      | then-len-digits-via-else-len-digits+then-len-eq0 w ↦ (let none : length digits ≡ 0 = grind (arith, nat_tests) in sym (number_in-empty c.args.least c.args.most digits none))
      | then-len-digits-via-else-len-digits+else-len-eq0+then-number-least w ↦ (
          let whole = w.if-len-digits.false in
          let low = w.if-number-least.true in
          let same = ap (digits_value 10) (all-lead digits (omega (arith, count, whole))).are in
          sym (number_in-low c.args.least c.args.most digits (omega (arith, value, low, same))))
    ]

pub returns : goal.returns
returns c =
    let digits = c.args.digits.now in
    let count = c.in_ok-number.ensures.digits in
    let whole = c.if-len-digits.false in
    let low = c.if-number-least.false in
    let some : 0 < c.in_ok-number.len = grind (arith, nat_tests) in
    let lead = all-lead digits (omega (arith, count, whole)) in
    let most = c.in_ok-number.ensures.within in
    let many = ap length lead.are in
    sym (number_in-digits c.args.least c.args.most digits c.in_ok-number.number lead.all (sym (c.in_ok-number.ensures.number ∙ ap (digits_value 10) lead.are)) (omega (arith, count, many, some)) (omega (arith, low)) most)
