use Rattle.clk_report.proofs.RowLemmas.{number-plain}
use Rattle.clk_report.proofs.row.put_field.Goals as goal

pub returns-clause-piece : goal.returns-clause-piece
returns-clause-piece c = rw (number-plain c.args.number c.ranges.number.fits) c.put_number.ensures.piece
