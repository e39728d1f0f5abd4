use Rattle.std.proofs.Common.{arith, ◌≡◌, ◌∙◌, ap, length, sym}
use Rattle.std.proofs.lemmas.Bool.Decides.{nat_tests}
use Rattle.clk_packet.specs.declared.limits.TheConstants.{MAX_LENGTH}
use Rattle.clk_packet.specs.Numbers.{number_in}
use Rattle.clk_script.specs.Script.{fields}
use Rattle.clk_script.proofs.Texts.LineLemmas.{HaveBytes-fields, field_at-rest, line-send}
use Rattle.clk_script.proofs.script.ScriptLine.send.Goals as goal

pub returns : goal.returns
returns c =
    let all = fields c.args.text.now in
    let rest = fields c.in-Some.rest.now in
    let size = ap (number_in 1 MAX_LENGTH) (sym (field_at-rest all rest 0 c.in-Some.ensures.1)) ∙ c.in-Some-first_number.ensures.0 in
    let third = c.first_field.ensures.field ∙ field_at-rest rest (fields c.in-Some-first_number.rest.now) 0 c.in-Some-first_number.ensures.1 ∙ field_at-rest all rest 1 c.in-Some.ensures.1 in
    let none : length c.first_field.result.0.now ≡ 0 = grind (arith, nat_tests) in
    sym (line-send all c.in-Some.sender c.in-Some-first_number.length (HaveBytes-fields c.args.text.now) c.in-Some.ensures.0 size (ap length (sym third) ∙ none))
