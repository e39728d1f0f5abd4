use Rattle.std.proofs.Common.{◌≡◌}
use Rattle.clk_packet.specs.declared.packet.Packet.{Packet}
use Rattle.clk_ruled.specs.inside.Marks.{is_marked}
use Rattle.clk_ruled.proofs.settling.marks.Marks.reach.Given as goal

abbrev pub invariant-loop : goal.invariant-loop
invariant-loop l = record {
  long : l.self.pages.len ≡ l.counter;
  same : (p : Packet) → is_marked l.self p ≡ is_marked l.initial.self p;
}
