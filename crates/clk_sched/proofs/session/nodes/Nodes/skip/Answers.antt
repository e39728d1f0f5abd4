use Rattle.std.proofs.Common.{◌≤◌, ◌+◌, suc, None, length, sym, subst, arith}
use Rattle.clk_sched.specs.inside.Turning.{HasAsked}
use Rattle.clk_sched.proofs.Nodes.Resting.{reached-asked}
use Rattle.clk_sched.proofs.Turns.Resting.{rests-to}
use Rattle.clk_sched.proofs.session.nodes.Nodes.skip.Goals as goal

pub returns-clause-asked : goal.returns-clause-asked
returns-clause-asked g c is =
    let a = c.args.self.now in
    let deep = length a.inputs.items in
    let low : deep ≤ suc c.args.node + deep = omega arith in
    subst (λ b. HasAsked g.Q.Ask.gives a b c.args.q.now c.args.q.now c.args.node c.args.input None) (sym c.pass_visits.ensures)
    (reached-asked g.Q.Ask.gives a c.args.q.now deep c.args.node c.args.input (rests-to g.Q.Ask.gives c.args.q.now deep) low c.requires.can_pull c.requires.within (c.rests_at.ensures c.if-not-rests_at.false deep low))
