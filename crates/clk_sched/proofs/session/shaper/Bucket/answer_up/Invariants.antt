use Rattle.std.proofs.Common.{◌-◌, ◌≤◌}
use Rattle.clk_sched.specs.inside.Places.{AllFit}
use Rattle.clk_sched.specs.inside.Tokens.{AnswersUp}
use Rattle.clk_sched.proofs.session.shaper.Bucket.answer_up.Given as goal

abbrev pub invariant-loop-above : goal.invariant-loop-above
invariant-loop-above l =
    (l.fn.first ≤ l.above) × AnswersUp l.fn.nodes l.nodes l.fn.last (l.fn.last - l.above) l.fn.got × AllFit l.fn.nodes.inputs.items l.nodes.states.items × (l.above - l.fn.first ≤ l.nodes.log.spare)
