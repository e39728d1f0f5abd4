use Rattle.std.proofs.Common.{refl, sym, ◌∙◌, subst}
use Rattle.clk_sched.specs.inside.Looking.{IsHead}
use Rattle.clk_sched.proofs.Turns.LooksDrr.{looks-at-none}
use Rattle.clk_sched.proofs.Turns.RestDrr.{no-head}
use Rattle.clk_sched.proofs.session.drr.Deficits.skip.Goals as goal

pub returns-clause-skips : goal.returns-clause-skips
returns-clause-skips g c is =
    let vain = c.settle.ensures.in_vain refl in
    looks-at-none g.Q.Ask.gives c.args.nodes.now c.skip.new.self c.args.q.now c.args.q.now c.args.node c.args.self.now c.settle.new.self (subst (IsHead c.args.self.now) (no-head c.head.result (sym c.is_some.ensures ∙ c.if-is_some.false)) c.head.ensures.held)
    (c.skip.ensures.asked c.if-not-skip.false)
    (record {
      length_is = c.settle.ensures.length;
      moves = λ same. c.settle.ensures.moves vain;
      in_vain = λ none. refl;
      covered = λ quanta inputs before h. sym vain ∙ c.settle.ensures.covered quanta inputs before h;
      holds = λ quanta inputs before v h at got passed. c.settle.ensures.holds quanta inputs before v h at got (passed ∙ sym vain);
    })
