use Rattle.std.proofs.Common.{rules}
use Rattle.clk_packet.proofs.Callers.Numbers.{number-shorter}
use Rattle.clk_script.proofs.Texts.PlainLines.{plain-send, after-send}
use Rattle.clk_script.proofs.script.ScriptLine.plain_send.Goals as goal

pub returns : goal.returns
returns c = search (rules, number-shorter, plain-send, after-send)
