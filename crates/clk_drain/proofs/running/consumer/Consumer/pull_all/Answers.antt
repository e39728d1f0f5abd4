use Rattle.std.proofs.Common.{rules}
use Rattle.clk_drain.proofs.Leaves.Pulling.{pulled-none, pulled-more}
use Rattle.clk_drain.proofs.running.consumer.Consumer.pull_all.Goals as goal

pub loop-made-init : goal.loop-made-init
loop-made-init g c = search (rules, pulled-none)

pub loop-made-preserved : goal.loop-made-preserved
loop-made-preserved g c = search (rules, pulled-more)
