use Rattle.std.proofs.Common.{refl, ap, subst, ◌∙◌}
use Rattle.clk_sched.specs.Keeps.{grows}
use Rattle.clk_router.specs.declared.devices.RouterDevice.{RouterDevice}
use Rattle.clk_router.specs.inside.Parts.{CanPullAt}
use Rattle.clk_router.proofs.ClosingLemmas.{can-pull}
use Rattle.clk_router.proofs.PartsLemmas.{both-ok, set-device, IsAt-pulled}
use Rattle.clk_router.proofs.parts.Parts.pull.Goals as goal

pub returns-clause-leads : goal.returns-clause-leads
returns-clause-leads c =
    let old = c.args.self.now in
    let before = c.index_mut.result.now in
    let after : RouterDevice = record { session = c.pull.new.self; kept = before.kept } in
    let set = set-device old.devices.items c.args.device c.from.result before after c.from.ensures (can-pull old.keeps old.devices.items c.args.device c.requires.can) c.index_mut.ensures.value in
    both-ok c.pull.result
    (λ got once answers setup events at. IsAt-pulled c.calls_are_history.ensures setup events old _ c.args.device c.args.moment before after got at set.was set.is set.only refl (c.pull.ensures.keeps, c.pull.ensures.gone) once answers refl refl refl refl)
    c.pull.ensures.pulled c.pull.ensures.answers

pub returns-clause-steady : goal.returns-clause-steady
returns-clause-steady c =
    let old = c.args.self.now in
    let before = c.index_mut.result.now in
    let set = set-device old.devices.items c.args.device c.from.result before before c.from.ensures (can-pull old.keeps old.devices.items c.args.device c.requires.can) c.index_mut.ensures.value in
    let can = subst (CanPullAt old.keeps) set.was c.requires.can in
    λ steady. c.pull.ensures.steady (ap grows can.0.0 ∙ steady) can.1
