use Rattle.clk_ruled.proofs.Gathering.{IsGathering}
use Rattle.clk_ruled.proofs.settling.gather_all.Given as goal

abbrev pub invariant-loop-seat : goal.invariant-loop-seat
invariant-loop-seat l = IsGathering l.fn.tap l.fn.closed.items l.tap l.seat-items l.seat-index
