use Rattle.std.proofs.Common.{arith}
use Rattle.clk_report.proofs.counts.widened.Goals as goal

pub returns-clause-fits : goal.returns-clause-fits
returns-clause-fits c = record {
  packets = omega (arith, c.wide.ensures.packets, c.wide-2.ensures.packets);
  bytes = omega (arith, c.wide.ensures.bytes, c.wide-2.ensures.bytes);
}
