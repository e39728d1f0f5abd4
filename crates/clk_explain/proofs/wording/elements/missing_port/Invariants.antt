use Rattle.std.proofs.Common.{◌-◌}
use Rattle.clk_explain.proofs.wording.elements.missing_port.Given as goal

abbrev pub decreases-loop-input : goal.decreases-loop-input
decreases-loop-input l = 64 - l.input
