use Rattle.std.specs.Prelude.{vec_len}
use Rattle.clk_ruled_tests.proofs.threads.+send_and_pull.Given as goal

abbrev pub decreases-send_and_pull : goal.decreases-send_and_pull
decreases-send_and_pull g l = vec_len l.seats
