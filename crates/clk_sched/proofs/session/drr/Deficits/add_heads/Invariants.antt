use Rattle.std.proofs.Common.{◌≡◌, ◌++◌, take}
use Rattle.clk_sched.specs.inside.Held.{heads_in}
use Rattle.clk_sched.proofs.session.drr.Deficits.add_heads.Given as goal

abbrev pub invariant-loop-served : goal.invariant-loop-served
invariant-loop-served l = l.heads.items ≡ l.fn.heads.items ++ heads_in (take l.served-index l.self.row.items)
