use Rattle.std.proofs.Common.{◌-◌, length}
use Rattle.clk_script.proofs.Carrying.AnswerLemmas.{IsCarriedTo}
use Rattle.clk_script.proofs.answer.carry_out.Given as goal

abbrev pub invariant-loop-i : goal.invariant-loop-i
invariant-loop-i l = IsCarriedTo l.fn.script_router l.script_router l.fn.rows l.rows l.i

abbrev pub decreases-loop-i : goal.decreases-loop-i
decreases-loop-i l = length l.rows - l.i
