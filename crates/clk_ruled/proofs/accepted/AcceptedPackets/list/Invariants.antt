use Rattle.std.proofs.Common.{◌≤◌, ◌-◌}
use Rattle.clk_ruled.proofs.Listing.{IsListed}
use Rattle.clk_ruled.proofs.accepted.AcceptedPackets.list.Given as goal

abbrev pub invariant-loop-number : goal.invariant-loop-number
invariant-loop-number l = record {
  within : l.number ≤ l.next;
  listed : IsListed l.sender l.next l.number l.self.all.items l.packets.items l.rest;
}

abbrev pub decreases-loop-number : goal.decreases-loop-number
decreases-loop-number l = l.next - l.number
