use Rattle.std.proofs.Common.{refl}
use Rattle.clk_script.proofs.Record.Writing.{records-more, records-cut}
use Rattle.clk_script.proofs.writer.ScriptWriter.record.Goals as goal

pub returns-in-Err-clause-front : goal.returns-in-Err-clause-front
returns-in-Err-clause-front g c is start commands its =
    records-cut start _ _ _ _ _ commands c.args.command c.args.self.now _ its c.in-Err.ensures

pub returns-clause-records : goal.returns-clause-records
returns-clause-records g c start commands its =
    records-more start _ _ _ _ commands c.args.command c.args.self.now _ its c.in_default.ensures refl its.going
