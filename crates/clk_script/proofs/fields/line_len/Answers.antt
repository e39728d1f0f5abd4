use Rattle.std.proofs.Common.{Some, None}
use Rattle.clk_script.proofs.Texts.FieldLemmas.{first-feed}
use Rattle.clk_script.proofs.fields.line_len.Goals as goal

pub returns-in-Some-clause-place : goal.returns-in-Some-clause-place
returns-in-Some-clause-place c = first-feed c.args.text.now (Some c.in-Some.place) c.in-Some.ensures

pub returns-in-None-clause-place : goal.returns-in-None-clause-place
returns-in-None-clause-place c = first-feed c.args.text.now None c.in-None.ensures
