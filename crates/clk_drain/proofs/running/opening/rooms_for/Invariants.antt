use Rattle.clk_drain.proofs.Plans.Rooms.{AreRooms}
use Rattle.clk_drain.proofs.running.opening.rooms_for.Given as goal

abbrev pub invariant-loop-sender : goal.invariant-loop-sender
invariant-loop-sender l = AreRooms l.traces l.senders l.rooms.items l.sender-index
