use Rattle.std.specs.Prelude.{◌≡◌, ◌+◌, length}
use Rattle.clk_ruled.specs.Rooms.{rooms_in_all}
use Rattle.clk_ruled.proofs.open.room_in_all.Given as goal

abbrev pub invariant-loop-rest : goal.invariant-loop-rest
invariant-loop-rest l = l.total + rooms_in_all l.rest ≡ rooms_in_all l.senders

abbrev pub decreases-loop-rest : goal.decreases-loop-rest
decreases-loop-rest l = length l.rest
