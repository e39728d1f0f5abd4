use Rattle.std.proofs.Common.{arith, ◌≡◌, ◌∙◌, ap, length, sym}
use Rattle.std.proofs.lemmas.Bool.Decides.{nat_tests}
use Rattle.clk_script.specs.Script.{fields}
use Rattle.clk_script.proofs.Texts.LineLemmas.{HaveBytes-fields, field_at-rest, moment-alone}
use Rattle.clk_script.proofs.script.ScriptLine.only_moment.Goals as goal

pub returns-then-is_empty : goal.returns-then-is_empty
returns-then-is_empty c =
    let all = fields c.args.text.now in
    let second = c.first_field.ensures.field ∙ field_at-rest all (fields c.in_ok-moment.rest.now) 0 c.in_ok-moment.ensures.1 in
    let none : length c.first_field.result.0.now ≡ 0 = grind (arith, nat_tests) in
    sym (moment-alone all c.in_ok-moment.moment (HaveBytes-fields c.args.text.now) c.in_ok-moment.ensures.0 (ap length (sym second) ∙ none))
