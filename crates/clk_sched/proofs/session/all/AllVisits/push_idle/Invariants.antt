use Rattle.std.proofs.Common.{◌≡◌, ◌-◌, ◌++◌, map, None}
use Rattle.std.specs.List.{range_with_len}
use Rattle.clk_sched.specs.Log.{asking}
use Rattle.clk_sched.proofs.session.all.AllVisits.push_idle.Given as goal

abbrev pub invariant-loop-place : goal.invariant-loop-place
invariant-loop-place l =
    l.self ≡ record { items = l.fn.self.items ++ map (λ i. asking l.idle.pull l.idle.moment l.idle.node i None) (range_with_len l.idle.first l.place); spare = l.fn.self.spare - l.place; gone = l.fn.self.gone; start = l.fn.self.start }
