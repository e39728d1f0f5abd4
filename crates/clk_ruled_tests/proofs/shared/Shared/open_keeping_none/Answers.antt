use Rattle.clk_ruled.specs.Queue.{setup_of}
use Rattle.clk_ruled_tests.proofs.shared.Shared.open_keeping_none.Goals as goal

pub invariant_of-result : goal.invariant_of-result
invariant_of-result c = c.calls_keep_together.ensures.opened (setup_of c.args.kind c.args.capacity c.args.senders.now) _ _ _ c.in_ok-queue.ensures.opened
