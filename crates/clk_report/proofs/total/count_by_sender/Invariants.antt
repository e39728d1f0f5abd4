use Rattle.clk_report.proofs.TotalLemmas.{AreCountedTo}
use Rattle.clk_report.proofs.total.count_by_sender.Given as goal

abbrev pub invariant-loop-packets : goal.invariant-loop-packets
invariant-loop-packets l = AreCountedTo l.emitted l.totals l.packets-index
