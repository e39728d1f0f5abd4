use Rattle.clk_drain.proofs.Threads.Ended.{steps_left}
use Rattle.clk_drain.proofs.running.threads.+send_and_pull.Given as goal

abbrev pub decreases-send_and_pull : goal.decreases-send_and_pull
decreases-send_and_pull g l = steps_left l.left.devices l.left.queues l.left.seats
