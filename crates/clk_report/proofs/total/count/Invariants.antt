use Rattle.clk_report.proofs.TotalLemmas.{IsCountedTo}
use Rattle.clk_report.proofs.total.count.Given as goal

abbrev pub invariant-loop-packet : goal.invariant-loop-packet
invariant-loop-packet l = IsCountedTo l.fn.totals l.totals l.packets l.packet-index
