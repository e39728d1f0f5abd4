use Rattle.std.proofs.Common.{length}
use Rattle.clk_command.proofs.apart.+is_among.Given as goal

abbrev pub decreases-is_among : goal.decreases-is_among
decreases-is_among g l = length l.others.now
