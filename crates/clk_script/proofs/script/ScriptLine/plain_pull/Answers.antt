use Rattle.std.proofs.Common.{rules}
use Rattle.clk_packet.proofs.Callers.Numbers.{number-shorter}
use Rattle.clk_script.proofs.Texts.PlainLines.{plain-pull, after-pull}
use Rattle.clk_script.proofs.script.ScriptLine.plain_pull.Goals as goal

pub returns : goal.returns
returns c = search (rules, plain-pull, number-shorter, after-pull)
