use Rattle.std.proofs.Common.{rules}
use Rattle.clk_script.proofs.Texts.ReadingLemmas.{known-at}
use Rattle.clk_script.proofs.reading.row_asked.Goals as goal

pub returns-in-Some : goal.returns-in-Some
returns-in-Some c = search (rules, known-at)
