use Rattle.std.proofs.Common.{rules}
use Rattle.clk_script.proofs.Texts.FieldLemmas.{fields-skip, fields-first, skipped}
use Rattle.clk_script.proofs.fields.first_field.Goals as goal

pub returns : goal.returns
returns c = search (rules, fields-skip, fields-first, skipped)
