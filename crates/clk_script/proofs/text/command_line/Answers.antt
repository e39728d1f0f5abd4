use Rattle.std.proofs.Common.{rules}
use Rattle.clk_script.proofs.Texts.PassLemmas.{line-alone}
use Rattle.clk_script.proofs.text.command_line.Goals as goal

pub returns : goal.returns
returns c = search (rules, line-alone)
