use Rattle.std.proofs.Common.{◌≡◌, ◌||◌, Bool, List, [], ◌∷◌, ◌++◌, arith, rules}
use Rattle.std.proofs.lemmas.Grind.{common_steps}
use Rattle.clk_packet.specs.declared.packet.Packet.{Packet}
use Rattle.clk_ruled.specs.PacketLists.{has_packet}
use Rattle.clk_ruled.specs.Queue.{ClosedLists}
use Rattle.clk_ruled.specs.Settle.{all_evicted, lists_of}
use Rattle.clk_ruled.proofs.settling.take_apart.Goals as goal

marked-more : (before : List ClosedLists) (c : ClosedLists) (p : Packet) (old now new : Bool) → now ≡ (has_packet (all_evicted (lists_of before)) p || old) → new ≡ (has_packet c.lists.evicted p || now)
    → new ≡ (has_packet (all_evicted (lists_of (before ++ c ∷ []))) p || old)
marked-more before c p old now new first then = grind (arith, common_steps)

pub loop-seat-preserved : goal.loop-seat-preserved
loop-seat-preserved c = record {
  tallies = grind (arith, common_steps);
  marked = search (rules, marked-more);
  shared = grind (arith, common_steps);
}
