use Rattle.std.proofs.Common.{◌≡◌, ℕ, ◌-◌, ◌++◌, map, None}
use Rattle.std.specs.List.{range_with_len}
use Rattle.clk_sched.specs.Log.{asking}
use Rattle.clk_sched.specs.Packed.{logged, HasRoomFor}
use Rattle.clk_sched.proofs.session.packed.PackedLog.push_idle.Given as goal

abbrev pub invariant-loop-place : goal.invariant-loop-place
invariant-loop-place l = record {
  visits : logged l.self ≡ logged l.fn.self ++ map (λ i. asking l.idle.pull l.idle.moment l.idle.node i None) (range_with_len l.idle.first l.place);
  room : (n : ℕ) → HasRoomFor n l.fn.self → HasRoomFor (n - l.place) l.self;
}
