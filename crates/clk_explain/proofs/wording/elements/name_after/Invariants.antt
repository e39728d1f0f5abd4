use Rattle.std.proofs.Common.{◌-◌, length}
use Rattle.clk_explain.proofs.wording.elements.name_after.Given as goal

abbrev pub decreases-loop-token : goal.decreases-loop-token
decreases-loop-token l = length l.text - l.token.end
