use Rattle.std.proofs.Common.{◌-◌, ◌≤◌, take, length}
use Rattle.clk_sched.specs.inside.Ranks.{FollowOneAnother}
use Rattle.clk_sched.proofs.session.stride.count_following.Given as goal

abbrev pub invariant-loop-count : goal.invariant-loop-count
invariant-loop-count l = (l.count ≤ length l.ranks) × (l.too_many ≤ length l.ranks) × FollowOneAnother (take l.count l.ranks)

abbrev pub decreases-loop-count : goal.decreases-loop-count
decreases-loop-count l = l.too_many - l.count
