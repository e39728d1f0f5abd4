use Rattle.std.proofs.Common.{◌∙◌, arith}
use Rattle.clk_sched.proofs.session.log.Log.begin_kept.Goals as goal

pub invariant_of-self-in_err-reserve_packed : goal.invariant_of-self-in_err-reserve_packed
invariant_of-self-in_err-reserve_packed c = (
  c.self.invariant.0,
  (λ keeps. let before = c.self.invariant.1 keeps in let room = before.1 in let len = c.reserve_kept.ensures.len in let capacity = c.reserve_kept.ensures.capacity in
      (c.reserve_kept.ensures.items ∙ before.0, omega (arith, room, len, capacity))),
  (λ packs. let before = c.self.invariant.2 packs in (c.reserve_packed.ensures.visits ∙ before.0, c.reserve_packed.ensures.no_less _ before.1)),
  c.self.invariant.3,
  c.self.invariant.4,
  c.self.invariant.5,
  (λ keeps. c.reserve_kept.ensures.items ∙ c.self.invariant.6 keeps),
  c.self.invariant.7,
)
