use Rattle.std.proofs.Common.{arith, ◌≡◌, ◌∙◌, ap, length, sym}
use Rattle.std.proofs.lemmas.Bool.Decides.{nat_tests}
use Rattle.clk_packet.specs.Numbers.{number_in}
use Rattle.clk_script.specs.Script.{fields}
use Rattle.clk_script.specs.declared.limits.TheConstants.{MAX_DEVICE}
use Rattle.clk_script.proofs.Texts.LineLemmas.{HaveBytes-fields, field_at-rest, line-pull, line-pull-of}
use Rattle.clk_script.proofs.script.ScriptLine.pull.Goals as goal

pub returns-then-is_empty : goal.returns-then-is_empty
returns-then-is_empty c =
    let all = fields c.args.text.now in
    let second = c.first_field.ensures.field ∙ field_at-rest all (fields c.in-Some.rest.now) 0 c.in-Some.ensures.1 in
    let none : length c.first_field.result.0.now ≡ 0 = grind (arith, nat_tests) in
    sym (line-pull all c.in-Some.moment (HaveBytes-fields c.args.text.now) c.in-Some.ensures.0 (ap length (sym second) ∙ none))

pub returns : goal.returns
returns c =
    let all = fields c.args.text.now in
    let rest = fields c.in-Some.rest.now in
    let device = ap (number_in 0 MAX_DEVICE) (sym (field_at-rest all rest 0 c.in-Some.ensures.1)) ∙ c.in-Some-first_number.ensures.0 in
    let third = c.first_field-2.ensures.field ∙ field_at-rest rest (fields c.in-Some-first_number.rest.now) 0 c.in-Some-first_number.ensures.1 ∙ field_at-rest all rest 1 c.in-Some.ensures.1 in
    let none : length c.first_field-2.result.0.now ≡ 0 = grind (arith, nat_tests) in
    sym (line-pull-of all c.in-Some.moment c.in-Some-first_number.device (HaveBytes-fields c.args.text.now) c.in-Some.ensures.0 device (ap length (sym third) ∙ none))
