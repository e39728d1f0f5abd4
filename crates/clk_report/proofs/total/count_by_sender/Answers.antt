use Rattle.std.proofs.Common.{length, arith}
use Rattle.clk_report.proofs.TotalLemmas.{AreCountedTo-room}
use Rattle.clk_report.proofs.total.count_by_sender.Goals as goal

pub count-requires : goal.count-requires
count-requires c = record { room = AreCountedTo-room c.args.emitted.now c.loop-packets.totals c.loop-packets.packets-index (length c.deref.result.now) (omega arith) (omega arith) c.loop-packets.invariant }
