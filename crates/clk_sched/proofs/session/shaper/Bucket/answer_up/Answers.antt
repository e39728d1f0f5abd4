use Rattle.std.proofs.Common.{rules}
use Rattle.clk_sched.proofs.Turns.ShaperRow.{answers-keep, up-next}
use Rattle.clk_sched.proofs.session.shaper.Bucket.answer_up.Goals as goal

pub loop-above-preserved : goal.loop-above-preserved
loop-above-preserved c = search (rules, answers-keep, up-next)
