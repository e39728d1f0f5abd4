use Rattle.std.proofs.Common.{◌≡◌, ◌+◌, ◌++◌, take}
use Rattle.std.specs.Vec.{vec_len, vec_capacity}
use Rattle.clk_script.proofs.replay.hold.Given as goal

abbrev pub invariant-loop-visit : goal.invariant-loop-visit
invariant-loop-visit g l = record {
  items : l.held.items ≡ l.fn.held.items ++ take l.visit-index l.visits;
  len : vec_len l.held ≡ vec_len l.fn.held + l.visit-index;
  capacity : vec_capacity l.held ≡ vec_capacity l.fn.held;
}
