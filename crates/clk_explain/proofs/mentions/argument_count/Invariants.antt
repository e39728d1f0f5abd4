use Rattle.std.proofs.Common.{◌-◌, length}
use Rattle.clk_explain.proofs.mentions.argument_count.Given as goal

abbrev pub decreases-loop-token : goal.decreases-loop-token
decreases-loop-token l = length l.text - l.token.end
