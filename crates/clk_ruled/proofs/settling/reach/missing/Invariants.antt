use Rattle.std.proofs.Common.{◌≡◌, ◌-◌, drop}
use Rattle.std.specs.List.{AllByRecursion}
use Rattle.clk_ruled.specs.Queue.{IsSharedOut}
use Rattle.clk_ruled.specs.Settle.{accepted_count, lists_of}
use Rattle.clk_ruled.proofs.settling.reach.missing.Given as goal

abbrev pub invariant-loop-seat : goal.invariant-loop-seat
invariant-loop-seat l = record {
  missing : l.missing - accepted_count (lists_of (drop l.seat-index l.closed)) ≡ l.capacity - accepted_count (lists_of l.closed);
  -- where the seats that are left are shared out, all are
  shared : AllByRecursion IsSharedOut (lists_of (drop l.seat-index l.closed)) → AllByRecursion IsSharedOut (lists_of l.closed);
}
