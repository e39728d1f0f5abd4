use Rattle.std.specs.Prelude.{◌≤◌, ◌-◌, take}
use Rattle.clk_packet.specs.Trace.{sent_by}
use Rattle.clk_ruled.specs.Queue.{IsSeatOf}
use Rattle.clk_ruled.specs.Closing.{IsSameSeat}
use Rattle.clk_drain.specs.Closing.{AreOffered}
use Rattle.clk_drain.proofs.running.producer.offer_all.Given as goal

abbrev pub invariant-loop-number : goal.invariant-loop-number
invariant-loop-number g l = record {
  together : IsSeatOf l.queue l.seat;
  same : IsSameSeat l.fn.seat l.seat;
  within : l.number ≤ l.count;
  offered : AreOffered (take l.number (sent_by l.traces l.fn.seat.sender)) l.seat;
}

abbrev pub decreases-loop-number : goal.decreases-loop-number
decreases-loop-number g l = l.count - l.number
