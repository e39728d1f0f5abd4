use Rattle.std.proofs.Common.{arith}
use Rattle.std.proofs.lemmas.Grind.{common_steps}
use Rattle.std.proofs.lemmas.List.FromFn.{map-range_with_len_more}
use Rattle.clk_sched.specs.inside.Ranks.{first_rank}
use Rattle.clk_sched.proofs.session.stride.first_row.Goals as goal

pub loop-input-preserved : goal.loop-input-preserved
loop-input-preserved c = let more = map-range_with_len_more first_rank 0 c.loop-input.input c.loop-input.input (omega arith) in grind (arith, common_steps, more)
