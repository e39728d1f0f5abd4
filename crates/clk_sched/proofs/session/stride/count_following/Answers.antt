use Rattle.clk_sched.proofs.Classes.RankLemmas.{in_order-front}
use Rattle.clk_sched.proofs.session.stride.count_following.Goals as goal

pub follow_one_another-requires : goal.follow_one_another-requires
follow_one_another-requires c = in_order-front _ c.args.ranks.now c.requires
