use Rattle.std.proofs.Common.{not, ap, ◌∙◌}
use Rattle.clk_sched.proofs.Turns.ShaperRow.{answers-none, answers-some}
use Rattle.clk_sched.proofs.session.shaper.Bucket.answer_at.Goals as goal

pub returns-then-is_none : goal.returns-then-is_none
returns-then-is_none c = answers-none c.args.nodes.now c.record.new.self c.give_back_at.new.nodes c.args.node c.args.got (c.is_none.ensures ∙ ap not c.if-is_none.true) c.record.ensures c.give_back_at.ensures

pub returns-else-is_none : goal.returns-else-is_none
returns-else-is_none c = answers-some c.args.nodes.now c.record.new.self c.args.node c.args.got (c.is_none.ensures ∙ ap not c.if-is_none.false) c.record.ensures
