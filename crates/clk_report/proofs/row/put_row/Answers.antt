use Rattle.std.proofs.Common.{drop}
use Rattle.clk_report.proofs.RowLemmas.{row-pieces}
use Rattle.clk_report.proofs.row.put_row.Goals as goal

pub returns-clause-piece : goal.returns-clause-piece
returns-clause-piece c =
    rw (
      row-pieces c.args.device c.args.visit.now (drop c.args.end c.args.rows.now),
      ← c.put-end.ensures.piece,
      ← c.put_field-end.ensures.piece,
      ← c.put_flag-end.ensures.piece,
      ← c.put_got-end.ensures.piece,
      ← c.put_flag-end-2.ensures.piece,
      ← c.put_short_field-end.ensures.piece,
      ← c.put-end-2.ensures.piece,
      ← c.put_short_field-end-2.ensures.piece,
      ← c.put-end-3.ensures.piece,
      ← c.put_field-end-2.ensures.piece,
    ) c.put_device.ensures.piece
