use Rattle.std.proofs.Common.{ℕ, subst}
use Rattle.clk_router.specs.Course.{Course}
use Rattle.clk_router.specs.Drains.{DrainsEnd}
use Rattle.clk_router.proofs.Drains.{drains-end}
use Rattle.clk_router.proofs.router.Router.drains_end.Goals as goal

pub returns : goal.returns
returns c =
    let past = c.self.inside.past in
    let stand = c.self.invariant in
    let now : Course = record { setup = past.setup; events = past.events; keeps = c.self.inside.parts.keeps } in
    subst (λ (k : Course). (device moment : ℕ) → DrainsEnd k device moment) c.self.view_is
    (drains-end (λ tree. (c.runs_go_on.ensures tree).start) c.runs_conserve_packets.ensures.counts c.closing_bound_is_enough.ensures now stand.closable stand.at.can_happen)
