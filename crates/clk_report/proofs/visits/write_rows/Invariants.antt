use Rattle.std.proofs.Common.{◌≡◌, length, map}
use Rattle.clk_packet.proofs.Callers.Bytes.{HasWritten}
use Rattle.clk_report.specs.VisitCsv.{rows_text}
use Rattle.clk_report.proofs.visits.write_rows.Given as goal

abbrev pub invariant-loop-rest : goal.invariant-loop-rest
invariant-loop-rest g l = record {
  front : HasWritten (g.W.Sink.taken l.fn.writer) (g.W.Sink.taken l.writer) (rows_text l.device (map g.V.Shown.shown l.log)) (rows_text l.device (map g.V.Shown.shown l.rest));
  failures : g.W.Sink.failures l.writer ≡ g.W.Sink.failures l.fn.writer;
}

abbrev pub decreases-loop-rest : goal.decreases-loop-rest
decreases-loop-rest g l = length l.rest
