use Rattle.std.proofs.Common.{◌≡◌, ◌*◌, ◌≤◌, ◌++◌, drop, length, map}
use Rattle.clk_report.specs.declared.row.TheConstants.{ROW}
use Rattle.clk_report.specs.VisitCsv.{rows_text}
use Rattle.clk_report.proofs.visits.put_rows.Given as goal

-- the rows of what is left, before those that are put, are the rows of all
abbrev pub invariant-loop-left : goal.invariant-loop-left
invariant-loop-left g l = record {
  room : ROW * length l.left ≤ l.start;
  before : l.start ≤ l.fn.end;
  piece : rows_text l.device (map g.V.Shown.shown l.left) ++ drop l.start l.rows ≡ rows_text l.device (map g.V.Shown.shown l.log) ++ drop l.fn.end l.fn.rows;
}

abbrev pub decreases-loop-left : goal.decreases-loop-left
decreases-loop-left g l = length l.left
