use Rattle.std.proofs.Common.{◌≡◌, drop, map}
use Rattle.clk_packet.proofs.Callers.Bytes.{HasWritten}
use Rattle.clk_report.specs.VisitCsv.{devices_text}
use Rattle.clk_report.proofs.visits.write_devices.Given as goal

abbrev pub invariant-loop-device : goal.invariant-loop-device
invariant-loop-device g l = record {
  front : HasWritten (g.W.Sink.taken l.fn.writer) (g.W.Sink.taken l.writer) (devices_text 0 (map g.L.VisitLog.visits l.logs)) (devices_text l.device (map g.L.VisitLog.visits (drop l.device l.logs)));
  failures : g.W.Sink.failures l.writer ≡ g.W.Sink.failures l.fn.writer;
}
