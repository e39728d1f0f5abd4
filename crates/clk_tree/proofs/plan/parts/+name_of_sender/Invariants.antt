use Rattle.std.proofs.Common.{length}
use Rattle.clk_tree.proofs.plan.parts.+name_of_sender.Given as goal

abbrev pub decreases-name_of_sender : goal.decreases-name_of_sender
decreases-name_of_sender l = length l.elements.now
