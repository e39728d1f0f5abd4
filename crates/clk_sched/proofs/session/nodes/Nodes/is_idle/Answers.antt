use Rattle.std.proofs.Common.{◌≡◌, ◌+◌, ◌-◌, sym, ap, arith}
use Rattle.clk_sched.specs.declared.session.inputs.Below.{Below}
use Rattle.clk_sched.proofs.Nodes.Asked.{entry}
use Rattle.clk_sched.proofs.Nodes.Resting.{idle-node}
use Rattle.clk_sched.proofs.session.nodes.Nodes.is_idle.Goals as goal

pub are_at_rest-requires : goal.are_at_rest-requires
are_at_rest-requires g c =
    let n = c.args.self.now in
    let place = entry n.inputs.items c.args.node c.index.result.now c.requires.there c.index.ensures in
    let last = (c.requires.wired c.args.node c.index.result.now place).last in
    let same = c.requires.fit.lengths in
    let is = ap (λ (b : Below). b.nodes) c.below-below.ensures in
    omega (arith, last, same, is)

pub returns : goal.returns
returns g c is =
    let n = c.args.self.now in
    let b = c.below-below.result in
    let place = entry n.inputs.items c.args.node c.index.result.now c.requires.there c.index.ensures in
    let some = c.if-below.false in
    let size : c.in-Some.leaves ≡ b.last - b.first + 1 = c.in-Some.ensures.1 in
    let all = c.if-idle_from-leaves.false in
    idle-node g.Q.Ask.gives n c.args.q.now c.args.node b c.requires.wired c.in-Some.leaves (omega (arith, some, size)) (λ k l. c.idle_from.ensures.idle k (omega (arith, l, all))) (c.are_at_rest.ensures is) c.index.result.now place (sym c.below-below.ensures)
