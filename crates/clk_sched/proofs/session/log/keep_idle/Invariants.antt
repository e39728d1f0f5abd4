use Rattle.std.proofs.Common.{◌≡◌, ◌+◌, ◌++◌, map, None}
use Rattle.std.specs.List.{range_with_len}
use Rattle.std.specs.Vec.{vec_len, vec_capacity}
use Rattle.clk_sched.specs.Log.{asking}
use Rattle.clk_sched.proofs.session.log.keep_idle.Given as goal

abbrev pub invariant-loop-place : goal.invariant-loop-place
invariant-loop-place l =
    (l.kept.items ≡ l.fn.kept.items ++ map (λ i. asking l.idle.pull l.idle.moment l.idle.node i None) (range_with_len l.idle.first l.place))
    × (vec_len l.kept ≡ vec_len l.fn.kept + l.place) × (vec_capacity l.kept ≡ vec_capacity l.fn.kept)
