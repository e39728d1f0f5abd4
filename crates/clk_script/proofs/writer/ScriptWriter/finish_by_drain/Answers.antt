use Rattle.clk_script.proofs.Record.Writing.{drain-front}
use Rattle.clk_script.proofs.writer.ScriptWriter.finish_by_drain.Goals as goal

pub returns-clause-front : goal.returns-clause-front
returns-clause-front g c is start commands its =
    drain-front start _ _ _ _ c.write_with.result commands c.args.moment c.args.self (rw c.drain_line.ensures.line at c.write_with.ensures) its is
