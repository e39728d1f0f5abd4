use Rattle.std.proofs.Common.{ap, subst, ◌∙◌}
use Rattle.clk_router.specs.Course.{IsPulled}
use Rattle.clk_script.specs.inside.Replay.{HeldOn}
use Rattle.clk_script.proofs.Carrying.CarriedLemmas.{latest-pulled}
use Rattle.clk_script.proofs.replay.replay_pull.Goals as goal

pub returns : goal.returns
returns g c =
    let pulled : IsPulled c.args.again.now c.pull.new.self c.args.device c.args.moment c.unwrap.result = rw c.unwrap.ensures at c.pull.ensures.pulled in
    let keeps = ap (λ k. k.keeps) pulled.goes_on ∙ c.requires.keeps in
    let latest = c.latest.ensures.visits (ap (λ k. k.latest) keeps) ∙ latest-pulled c.args.again.now c.pull.new.self c.args.device c.args.moment pulled.visits pulled.goes_on in
    record {
      pulled = (
        pulled.visits,
        pulled.goes_on,
        c.has_happened.ensures,
        subst
            (HeldOn c.args.column (record { taken = g.W.Sink.taken c.args.writer.now; failures = g.W.Sink.failures c.args.writer.now; held = c.args.held.now.items })
            (record { taken = g.W.Sink.taken c.hold.new.writer; failures = g.W.Sink.failures c.hold.new.writer; held = c.hold.new.held.items }) c.hold.result)
            latest c.hold.ensures,
      );
    }
