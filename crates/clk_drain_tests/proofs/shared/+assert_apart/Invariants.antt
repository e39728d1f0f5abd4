use Rattle.std.proofs.Common.{length}
use Rattle.clk_drain_tests.proofs.shared.+assert_apart.Given as goal

abbrev pub decreases-assert_apart : goal.decreases-assert_apart
decreases-assert_apart g l = length l.senders.now
