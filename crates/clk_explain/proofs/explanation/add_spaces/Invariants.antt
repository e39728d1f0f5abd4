use Rattle.std.proofs.Common.{◌≡◌, ◌+◌, ◌++◌, replicate}
use Rattle.arrayvec.specs.ArrayVec.{array_vec_len}
use Rattle.clk_explain.proofs.explanation.add_spaces.Given as goal

abbrev pub invariant-loop : goal.invariant-loop
invariant-loop l =
    (l.page.items ≡ l.initial.page.items ++ replicate l.counter 32) × (array_vec_len l.page ≡ array_vec_len l.initial.page + l.counter)
