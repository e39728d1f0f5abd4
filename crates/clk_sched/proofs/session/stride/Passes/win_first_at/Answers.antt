use Rattle.std.proofs.Common.{Some, refl, sym, ap, ◌∙◌, subst}
use Rattle.clk_sched.specs.declared.session.state.State.TheVariants.{Stride}
use Rattle.clk_sched.specs.inside.Ranks.{AreInOrder}
use Rattle.clk_sched.specs.inside.Winning.{IsWonAt}
use Rattle.clk_sched.proofs.Nodes.Asked.{entry}
use Rattle.clk_sched.proofs.Nodes.Placed.{passes-same, some-same}
use Rattle.clk_sched.proofs.session.stride.Passes.win_first_at.Goals as goal

pub won-requires-clause-order : goal.won-requires-clause-order
won-requires-clause-order c =
    let a = c.args.nodes.now in
    let here = entry a.states.items c.args.node c.index_mut.result.now c.requires.there c.index_mut.ensures.value ∙ ap Some c.in-Stride.is in
    subst (λ p. AreInOrder p.row.items) (sym c.deref_mut.ensures.value) (c.requires.order c.in-Stride.passes here).1

pub returns-in-Stride : goal.returns-in-Stride
returns-in-Stride c held e =
    let a = c.args.nodes.now in
    let here = entry a.states.items c.args.node c.index_mut.result.now c.requires.there c.index_mut.ensures.value ∙ ap Some c.in-Stride.is in
    let same = passes-same c.in-Stride.passes held (some-same (Stride c.in-Stride.passes) (Stride held) (sym here ∙ e)) in
    record {
      holds = _;
      is = refl;
      won = subst (λ b. IsWonAt b.value c.won.new.self 0) same (subst (λ p. IsWonAt p c.won.new.self 0) c.deref_mut.ensures.value c.won.ensures.holds);
    }

pub returns-in_default : goal.returns-in_default
returns-in_default c held e =
    let here = entry c.args.nodes.now.states.items c.args.node c.index_mut.result.now c.requires.there c.index_mut.ensures.value in
    absurd (c.in_default.not-Stride held (some-same c.index_mut.result.now (Stride held) (sym here ∙ e)))
