use Rattle.std.proofs.Common.{rules, arith}
use Rattle.clk_ruled.proofs.Gathering.{gathering-more, gathering-all, of-tap-here}
use Rattle.clk_ruled.proofs.settling.gather_all.Goals as goal

pub gather-requires-clause-seat : goal.gather-requires-clause-seat
gather-requires-clause-seat c =
    of-tap-here c.args.tap.now c.args.closed.now.items c.loop-seat.tap c.loop-seat.seat-items c.loop-seat.seat-index c.loop-seat.seat-index c.seat-item.result (omega arith) c.loop-seat.invariant

pub loop-seat-preserved : goal.loop-seat-preserved
loop-seat-preserved c = search (rules, gathering-more)

pub returns-clause-gathered : goal.returns-clause-gathered
returns-clause-gathered c = gathering-all c.args.tap.now c.args.closed.now.items c.loop-seat.tap c.loop-seat.seat-items c.loop-seat.seat-index (omega arith) c.loop-seat.invariant
