use Rattle.std.proofs.Common.{◌≡◌, ◌-◌, ◌++◌, take, drop, slice_get, Some}
use Rattle.clk_sched.specs.inside.Ranks.{after_win}
use Rattle.clk_sched.proofs.session.stride.place_visited.Given as goal

abbrev pub invariant-loop-idle : goal.invariant-loop-idle
invariant-loop-idle l = (l.row ≡ take l.idle l.fn.row ++ after_win 0 l.stride (l.place - l.idle) (drop l.idle l.fn.row)) × (slice_get l.row l.idle ≡ Some l.next)
