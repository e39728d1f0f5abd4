use Rattle.std.proofs.Common.{◌+◌, ◌≤◌, sym, ◌∙◌, subst}
use Rattle.clk_packet.specs.declared.limits.TheConstants.{MAX_LENGTH}
use Rattle.clk_sched.specs.Tree.{root, IsWellFormed}
use Rattle.clk_sched.proofs.Trees.TreeBound.{rounds-in, rounds-few}
use Rattle.clk_sched.proofs.tree.Tree.rounds.Goals as goal

pub returns-clause-value : goal.returns-clause-value
returns-clause-value c = c.most_rounds.ensures ∙ sym (rounds-in c.args.self.now)

pub returns-clause-limit : goal.returns-clause-limit
returns-clause-limit c =
    subst (λ n. n ≤ MAX_LENGTH + 1) (sym (c.most_rounds.ensures ∙ sym (rounds-in c.args.self.now)))
    (rounds-few c.args.self.now (subst (λ t. IsWellFormed (root t)) c.self.view_is c.self.invariant.1))
