use Rattle.std.proofs.Common.{ℕ, arith}
use Rattle.clk_report.proofs.TotalLemmas.{IsCountedTo-none, IsCountedTo-more, IsCountedTo-skip, all-counted, room-next}
use Rattle.clk_packet.specs.declared.counts.Total.{Total}
use Rattle.clk_report.proofs.total.count.Goals as goal
use Rattle.clk_report.proofs.total.count.Goals.{then-sender-totals, else-sender-totals}

-- what would stand beyond the table
abbrev none : Total ℕ
none = record { packets = 0; bytes = 0 }

pub loop-packet-init : goal.loop-packet-init
loop-packet-init c = IsCountedTo-none c.args.totals.now c.args.packets.now c.requires.room

pub add-requires-clause-packets : goal.add-requires-clause-packets
add-requires-clause-packets c =
    let room = room-next c.args.totals.now c.loop-packet.totals c.args.packets.now c.loop-packet.packet-index c.from-sender.result none c.loop-packet-test.true c.if-sender-totals.true c.loop-packet.invariant in
    let packets = room.packets in
    omega (arith, packets)

pub add-requires-clause-bytes : goal.add-requires-clause-bytes
add-requires-clause-bytes c =
    let room = room-next c.args.totals.now c.loop-packet.totals c.args.packets.now c.loop-packet.packet-index c.from-sender.result none c.loop-packet-test.true c.if-sender-totals.true c.loop-packet.invariant in
    let bytes = room.bytes in
    let within = c.packet-item.result.is_within in
    omega (arith, bytes, within)

pub loop-packet-preserved : goal.loop-packet-preserved
loop-packet-preserved c =
    elim c.if-sender-totals.branch [
      | then-sender-totals w ↦
          rw (w.totals-is)
          (IsCountedTo-more c.args.totals.now c.loop-packet.totals c.args.packets.now c.loop-packet.packet-index c.packet-item.result c.from-sender.result none w.add.new.total c.loop-packet-test.true c.packet-item.is c.from-sender.ensures
          w.if-sender-totals.true c.loop-packet.invariant w.add.ensures)
      | else-sender-totals w ↦
          rw (w.totals-is)
          (IsCountedTo-skip c.args.totals.now c.loop-packet.totals c.args.packets.now c.loop-packet.packet-index c.packet-item.result c.from-sender.result c.loop-packet-test.true c.packet-item.is c.from-sender.ensures
          w.if-sender-totals.false c.loop-packet.invariant)
    ]

pub returns : goal.returns
returns c = record { counted = all-counted c.args.totals.now c.loop-packet.totals c.args.packets.now c.loop-packet.packet-index (omega arith) c.loop-packet.invariant }
