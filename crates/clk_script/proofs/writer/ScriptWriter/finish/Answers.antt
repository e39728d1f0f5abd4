use Rattle.clk_script.proofs.Record.Writing.{plain-front}
use Rattle.clk_script.proofs.writer.ScriptWriter.finish.Goals as goal

pub returns-clause-front : goal.returns-clause-front
returns-clause-front g c is start commands its = plain-front start _ _ _ _ c.write.result commands c.args.self c.write.ensures.wrote its is
