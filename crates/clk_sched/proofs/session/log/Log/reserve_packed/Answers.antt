use Rattle.std.proofs.Common.{◌∙◌}
use Rattle.clk_sched.proofs.session.log.Log.reserve_packed.Goals as goal

pub invariant_of-self : goal.invariant_of-self
invariant_of-self c = (
  c.self.invariant.0,
  c.self.invariant.1,
  λ packs. let before = c.self.invariant.2 packs in (c.reserve_packed.ensures.visits ∙ before.0, c.reserve_packed.ensures.no_less _ before.1),
  c.self.invariant.3,
  c.self.invariant.4,
  c.self.invariant.5,
  c.self.invariant.6,
  c.self.invariant.7,
)
