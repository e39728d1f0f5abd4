use Rattle.std.proofs.Common.{◌≤◌, subst, arith}
use Rattle.clk_packet.specs.declared.limits.TheConstants.{MAX_LEVELS}
use Rattle.clk_sched.specs.Built.{levels}
use Rattle.clk_sched.proofs.Trees.Drrs.{drrs-within}
use Rattle.clk_sched.proofs.tree.Tree.count_drrs.Goals as goal

pub returns-clause-limit : goal.returns-clause-limit
returns-clause-limit c q = drrs-within q c.args.self.now (subst (λ t. levels t ≤ MAX_LEVELS) c.self.view_is (omega (arith, c.self.invariant)))
