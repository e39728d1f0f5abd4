use Rattle.std.proofs.Common.{◌≡◌, ℕ}
use Rattle.clk_ruled.specs.inside.Marks.{numbers_on}
use Rattle.clk_ruled.proofs.settling.marks.Page.reach.Given as goal

abbrev pub invariant-loop : goal.invariant-loop
invariant-loop l = record {
  long : l.self.senders.len ≡ l.counter;
  same : (p : ℕ) → numbers_on l.self p ≡ numbers_on l.initial.self p;
}
