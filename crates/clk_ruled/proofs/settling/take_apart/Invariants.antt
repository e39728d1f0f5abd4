use Rattle.std.proofs.Common.{◌≡◌, ◌||◌, map}
use Rattle.std.specs.List.{AllByRecursion}
use Rattle.clk_packet.specs.declared.packet.Packet.{Packet}
use Rattle.clk_ruled.specs.PacketLists.{has_packet}
use Rattle.clk_ruled.specs.Queue.{IsSharedOut}
use Rattle.clk_ruled.specs.Settle.{all_evicted, lists_of}
use Rattle.clk_ruled.specs.inside.Marks.{is_marked, untold}
use Rattle.clk_ruled.proofs.settling.take_apart.Given as goal

abbrev pub invariant-loop-seat : goal.invariant-loop-seat
invariant-loop-seat l = record {
  tallies : l.tallies.items ≡ map untold (lists_of l.yielded);
  marked : (p : Packet) → is_marked l.marks p ≡ (has_packet (all_evicted (lists_of l.yielded)) p || is_marked l.initial.marks p);
  shared : AllByRecursion IsSharedOut (lists_of l.yielded);
}
