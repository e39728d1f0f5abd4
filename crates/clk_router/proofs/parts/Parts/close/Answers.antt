use Rattle.std.proofs.Common.{◌≡◌, refl, subst, arith}
use Rattle.std.specs.Vec.{with_item}
use Rattle.clk_router.specs.declared.devices.RouterDevice.{RouterDevice}
use Rattle.clk_router.specs.declared.parts.Parts.{Parts}
use Rattle.clk_router.specs.inside.Parts.{ClosesBy, StopsBy}
use Rattle.clk_sched.proofs.Callers.Drained.{either-drained, drained-ok, unless-after}
use Rattle.clk_router.proofs.ClosingLemmas.{can-close, closes-by, stops-short, failed-short, LeadsOnByPulls-closed}
use Rattle.clk_router.proofs.NeverShort.{queues-lose-nothing, kept-is}
use Rattle.clk_router.proofs.PartsLemmas.{set-device}
use Rattle.clk_router.proofs.parts.Parts.close.Goals as goal

pub returns-clause-leads : goal.returns-clause-leads
returns-clause-leads c =
    let old = c.args.self.now in
    let before = c.index_mut.result.now in
    let after : RouterDevice = record { session = c.close.new.self; kept = before.kept } in
    let set = set-device old.devices.items c.args.device c.from.result before after c.from.ensures (can-close c.args.moment old.devices.items c.args.device c.requires.can) c.index_mut.ensures.value in
    let drain = c.close.ensures.drained.1 in
    let some = either-drained c.close.ensures.drained.0 c.close.result drain in
    λ setup events at.
    LeadsOnByPulls-closed c.calls_are_history.ensures setup events old _ c.args.device c.args.moment some.made some.given before after at set refl (drain.keeps, drain.gone) some.drained drain.answers refl refl refl refl

pub returns-clause-closed : goal.returns-clause-closed
returns-clause-closed c =
    let old = c.args.self.now in
    let before = c.index_mut.result.now in
    let after : RouterDevice = record { session = c.close.new.self; kept = before.kept } in
    let set = set-device old.devices.items c.args.device c.from.result before after c.from.ensures (can-close c.args.moment old.devices.items c.args.device c.requires.can) c.index_mut.ensures.value in
    let left = c.left-left.ensures before set.was in
    let new : Parts = record old { devices = with_item old.devices c.from.result after; queues = c.close.new.q } in
    let drain = c.close.ensures.drained.1 in
    drained-ok c.close.ensures.drained.0 c.close.result
    (λ departures all told setup events at its here.
    let same : after ≡ its = cc (set.is, here) in
    subst (λ (d : RouterDevice). ClosesBy setup events c.args.device c.args.moment d.session departures.items) same
    (closes-by c.calls_are_history.ensures setup events old new c.args.device c.args.moment c.close.ensures.drained.0 _ before after departures.items at set refl (drain.keeps, drain.gone) left all told))
    drain c.close.ensures.departures

pub returns-clause-short : goal.returns-clause-short
returns-clause-short c =
    let old = c.args.self.now in
    let before = c.index_mut.result.now in
    let after : RouterDevice = record { session = c.close.new.self; kept = before.kept } in
    let set = set-device old.devices.items c.args.device c.from.result before after c.from.ensures (can-close c.args.moment old.devices.items c.args.device c.requires.can) c.index_mut.ensures.value in
    let left = c.left-left.ensures before set.was in
    let new : Parts = record old { devices = with_item old.devices c.from.result after; queues = c.close.new.q } in
    let drain = c.close.ensures.drained.1 in
    failed-short c.close.ensures.drained.0 c.close.result drain
    (λ made short setup events at its here.
    let same : after ≡ its = cc (set.is, here) in
    subst (λ (d : RouterDevice). StopsBy setup events c.args.device c.args.moment d.session) same
    (stops-short c.calls_are_history.ensures setup events old new c.args.device c.args.moment made short.given before after at set refl (drain.keeps, drain.gone) short.drained _ left short.within short.fewer))

pub returns-clause-fault : goal.returns-clause-fault
returns-clause-fault c =
    let old = c.args.self.now in
    let before = c.index_mut.result.now in
    let set = set-device old.devices.items c.args.device c.from.result before before c.from.ensures (can-close c.args.moment old.devices.items c.args.device c.requires.can) c.index_mut.ensures.value in
    let stands = c.requires.stands in
    let kept = kept-is stands.0 stands.1 old c.args.device before stands.2.closable stands.2.at (λ tree. (c.runs_go_on.ensures tree).start) c.runs_conserve_packets.ensures.counts set.was in
    let left = c.left-left.ensures before set.was in
    unless-after c.close.ensures.drained.0 c.close.result _ (c.close.ensures.drained.1.ends queues-lose-nothing (omega (arith, kept, left)))
