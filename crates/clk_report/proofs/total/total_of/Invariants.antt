use Rattle.std.proofs.Common.{◌≡◌, ◌+◌, drop, length}
use Rattle.clk_packet.specs.Counts.{bytes_of}
use Rattle.clk_report.proofs.total.total_of.Given as goal

-- what is counted and what is left are all
abbrev pub invariant-loop-packet : goal.invariant-loop-packet
invariant-loop-packet l = record {
  packets : l.total.packets + length (drop l.packet-index l.packets) ≡ length l.packets;
  bytes : l.total.bytes + bytes_of (drop l.packet-index l.packets) ≡ bytes_of l.packets;
}
