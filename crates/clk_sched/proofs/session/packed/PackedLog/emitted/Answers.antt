use Rattle.std.proofs.lemmas.Grind.{common_steps}
use Rattle.std.proofs.Common.{append_assoc, arith}
use Rattle.std.proofs.lemmas.List.{map_more, take_more}
use Rattle.clk_sched.proofs.Callers.Emitted.{emitted-append}
use Rattle.clk_sched.proofs.session.packed.PackedLog.emitted.Goals as goal

pub loop-visit-preserved : goal.loop-visit-preserved
loop-visit-preserved c = grind (arith, common_steps, map_more, emitted-append)

pub loop-visit-2-preserved : goal.loop-visit-2-preserved
loop-visit-2-preserved c = grind (arith, common_steps, take_more, emitted-append, append_assoc)
