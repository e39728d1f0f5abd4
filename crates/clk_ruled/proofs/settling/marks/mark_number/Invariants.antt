use Rattle.std.proofs.Common.{◌≡◌, ℕ, false, get_or}
use Rattle.clk_ruled.proofs.settling.marks.mark_number.Given as goal

abbrev pub invariant-loop : goal.invariant-loop
invariant-loop l = record {
  long : l.marks.len ≡ l.counter;
  same : (n : ℕ) → get_or l.marks.items n false ≡ get_or l.initial.marks.items n false;
}
