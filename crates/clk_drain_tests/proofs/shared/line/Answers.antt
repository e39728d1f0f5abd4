use Rattle.clk_ruled.specs.Queue.{setup_of}
use Rattle.clk_drain_tests.proofs.shared.line.Goals as goal

pub loop-place-init : goal.loop-place-init
loop-place-init g c = c.calls_keep_together.ensures.opened (setup_of c.args.kind c.args.capacity c.args.senders.now) _ _ _ c.in_ok-queue.ensures.opened
