use Rattle.std.proofs.Common.{◌≡◌, ◌+◌, ◌++◌, map, take}
use Rattle.arrayvec.specs.ArrayVec.{array_vec_len}
use Rattle.clk_explain.specs.Explanation.{shown}
use Rattle.clk_explain.proofs.explanation.add_shown.Given as goal

abbrev pub invariant-loop-byte : goal.invariant-loop-byte
invariant-loop-byte l =
    (l.page.items ≡ l.initial.page.items ++ map shown (take l.byte-index l.bytes)) × (array_vec_len l.page ≡ array_vec_len l.initial.page + l.byte-index)
