use Rattle.std.proofs.Common.{◌-◌, length}
use Rattle.clk_explain.proofs.mentions.input_at.Given as goal

abbrev pub decreases-loop-walk : goal.decreases-loop-walk
decreases-loop-walk l = length l.text - l.walk.token.end
