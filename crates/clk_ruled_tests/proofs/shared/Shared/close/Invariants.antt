use Rattle.std.proofs.Common.{◌≡◌, map}
use Rattle.clk_ruled.specs.Settle.{closing}
use Rattle.clk_ruled_tests.proofs.shared.Shared.close.Given as goal

abbrev pub invariant-loop-seat : goal.invariant-loop-seat
invariant-loop-seat l = l.closed.items ≡ map closing l.yielded
