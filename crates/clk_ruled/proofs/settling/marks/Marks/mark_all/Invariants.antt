use Rattle.std.proofs.Common.{◌≡◌, ◌||◌, take}
use Rattle.clk_packet.specs.declared.packet.Packet.{Packet}
use Rattle.clk_ruled.specs.PacketLists.{has_packet}
use Rattle.clk_ruled.specs.inside.Marks.{is_marked}
use Rattle.clk_ruled.proofs.settling.marks.Marks.mark_all.Given as goal

abbrev pub invariant-loop-packet : goal.invariant-loop-packet
invariant-loop-packet l = (p : Packet) → is_marked l.self p ≡ (has_packet (take l.packet-index l.packets) p || is_marked l.initial.self p)
