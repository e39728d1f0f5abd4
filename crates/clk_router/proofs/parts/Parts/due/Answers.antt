use Rattle.std.proofs.Common.{◌≡◌, refl, subst, arith}
use Rattle.clk_router.specs.declared.devices.RouterDevice.{RouterDevice}
use Rattle.clk_router.specs.inside.Parts.{IsSessionDue}
use Rattle.clk_router.proofs.AskLemmas.{found-at}
use Rattle.clk_router.proofs.parts.Parts.due.Goals as goal

pub returns : goal.returns
returns c its here =
    let parts = c.args.self.now in
    let read = found-at parts.devices.items parts.devices.items c.from.result c.index.result.now refl (let i = c.from.ensures in let low = c.requires in omega (arith, i, low)) c.index.ensures in
    let same : c.index.result.now ≡ its = (let i = c.from.ensures in cc (read, here, i)) in
    subst (λ (d : RouterDevice). IsSessionDue d.session parts.queues.rings.items c.due.result) same c.due.ensures.due
