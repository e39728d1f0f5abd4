use Rattle.std.proofs.Common.{◌≡◌, take}
use Rattle.std.specs.List.{count_by}
use Rattle.clk_ruled.proofs.settling.marks.count_marked.Given as goal

abbrev pub invariant-loop-marked : goal.invariant-loop-marked
invariant-loop-marked l = l.count ≡ count_by (λ marked. marked) (take l.marked-index l.marks)
