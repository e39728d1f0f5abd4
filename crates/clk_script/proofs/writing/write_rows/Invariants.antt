use Rattle.std.proofs.Common.{◌≡◌, drop, length}
use Rattle.clk_script.specs.inside.Rows.{rows_text}
use Rattle.clk_script.proofs.Texts.PassLemmas.{HasPassed}
use Rattle.clk_script.proofs.writing.write_rows.Given as goal

-- the lines of the rows before this place are passed on, and these packets are left to name
abbrev pub invariant-loop-row : goal.invariant-loop-row
invariant-loop-row g l = record {
  passed : HasPassed (g.W.Sink.taken l.fn.writer) (g.W.Sink.taken l.writer) (g.W.Sink.failures l.fn.writer) (g.W.Sink.failures l.writer)
      l.fn.lines (rows_text l.fn.several l.rows l.fn.emitted l.fn.put_out) (rows_text l.fn.several (drop l.row-index l.rows) l.given l.fronts) l.lines;
  room : length l.line ≡ 128;
}
