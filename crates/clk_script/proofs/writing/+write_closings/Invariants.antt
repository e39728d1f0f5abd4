use Rattle.std.proofs.Common.{length}
use Rattle.clk_script.proofs.writing.+write_closings.Given as goal

abbrev pub decreases-write_closings : goal.decreases-write_closings
decreases-write_closings g l = length l.closings.now
