use Rattle.std.proofs.Common.{◌-◌, length}
use Rattle.clk_explain.proofs.mentions.find.Given as goal

abbrev pub decreases-loop-mention : goal.decreases-loop-mention
decreases-loop-mention l = length l.text - l.walk.token.end
