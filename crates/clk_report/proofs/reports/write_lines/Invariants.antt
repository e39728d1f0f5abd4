use Rattle.std.proofs.Common.{◌≡◌, List, All, length}
use Rattle.std.specs.List.{flat_map}
use Rattle.clk_packet.proofs.Callers.Bytes.{HasWritten}
use Rattle.clk_packet.specs.Counts.{counts_of}
use Rattle.clk_packet.specs.declared.packet.Packet.{Packet}
use Rattle.clk_report.specs.Counts.{counts_text}
use Rattle.clk_report.specs.Devices.{all_emitted}
use Rattle.clk_report.specs.inside.Totals.{AccountsBeyond, TellsBelow}
use Rattle.clk_report.proofs.reports.write_lines.Given as goal

abbrev pub invariant-loop-rest : goal.invariant-loop-rest
invariant-loop-rest g l = record {
  front : (out : List Packet) → TellsBelow g.row.N (all_emitted l.emitted) out → All (AccountsBeyond g.row.N out) l.tallies
      → HasWritten (g.W.Sink.taken l.fn.writer) (g.W.Sink.taken l.writer) (flat_map (λ t. counts_text (counts_of out t)) l.tallies) (flat_map (λ t. counts_text (counts_of out t)) l.rest);
  failures : g.W.Sink.failures l.writer ≡ g.W.Sink.failures l.fn.writer;
  accounts : (out : List Packet) → All (AccountsBeyond g.row.N out) l.tallies → All (AccountsBeyond g.row.N out) l.rest;
}

abbrev pub decreases-loop-rest : goal.decreases-loop-rest
decreases-loop-rest g l = length l.rest
