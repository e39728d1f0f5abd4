use Rattle.std.proofs.Common.{arith, ◌≡◌, length, sym}
use Rattle.std.proofs.lemmas.Bool.Decides.{nat_tests}
use Rattle.clk_script.specs.Script.{fields}
use Rattle.clk_script.proofs.Texts.LineLemmas.{HaveBytes-fields, line-none}
use Rattle.clk_script.proofs.script.ScriptLine.read.Goals as goal

pub returns-then-is_empty : goal.returns-then-is_empty
returns-then-is_empty c =
    let none : length c.first_field.result.0.now ≡ 0 = grind (arith, nat_tests) in
    sym (line-none (fields c.args.text.now) (HaveBytes-fields c.args.text.now) (rw (← c.first_field.ensures.field) none))
