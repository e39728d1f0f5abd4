use Rattle.std.proofs.Common.{◌<◌, ◌≤◌, All, take}
use Rattle.clk_report.proofs.reports.table_len.Given as goal

abbrev pub invariant-loop-tally : goal.invariant-loop-tally
invariant-loop-tally l = record {
  within : All (λ t. t.sender < l.len) (take l.tally-index l.tallies);
  limit : l.len ≤ 65536;
}
