use Rattle.std.proofs.Common.{arith, ◌≤◌, List, ℕ, length, subst, sym}
use Rattle.clk_packet.specs.Numbers.{BeginsWithNumber}
use Rattle.clk_packet.proofs.DigitLemmas.{number-front}
use Rattle.clk_packet.proofs.number.number_in_front.Goals as goal

pub returns : goal.returns
returns c =
    let text = c.args.text.now in
    let chunk = c.in_ok-front.ensures.cases in
    let long = chunk.2 in
    let within : 8 ≤ length text = omega (arith, long) in
    let found = subst (λ (t : List ℕ). BeginsWithNumber t c.args.end c.args.least c.args.most c.in_ok-number.number c.in_ok-number.left.now) chunk.0 c.in_ok-number.ensures.found in
    subst (λ (r : List ℕ). BeginsWithNumber text c.args.end c.args.least c.args.most c.in_ok-number.number r) (sym c.split_at.ensures.back)
    (number-front text 8 c.args.end c.args.least c.args.most c.in_ok-number.number c.in_ok-number.left.now within found)
