use Rattle.std.proofs.Common.{◌≡◌, map}
use Rattle.std.specs.List.{range_with_len}
use Rattle.clk_sched.specs.inside.Ranks.{first_rank}
use Rattle.clk_sched.proofs.session.stride.first_row.Given as goal

abbrev pub invariant-loop-input : goal.invariant-loop-input
invariant-loop-input l = l.row.items ≡ map first_rank (range_with_len 0 l.input)
