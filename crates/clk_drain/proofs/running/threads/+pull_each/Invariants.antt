use Rattle.std.specs.Prelude.{vec_len}
use Rattle.clk_drain.proofs.running.threads.+pull_each.Given as goal

abbrev pub decreases-pull_each : goal.decreases-pull_each
decreases-pull_each g l = vec_len l.ends
