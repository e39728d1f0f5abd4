use Rattle.clk_sched.proofs.Classes.RankLemmas.{in_order-rises}
use Rattle.clk_sched.proofs.session.stride.win_at.Goals as goal

pub win_first-requires-clause-rising : goal.win_first-requires-clause-rising
win_first-requires-clause-rising c = in_order-rises c.args.row.now c.requires.order
