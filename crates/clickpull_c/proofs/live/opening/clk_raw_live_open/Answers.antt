use Rattle.std.proofs.Common.{inl, refl}
use Rattle.clickpull_c.proofs.live.opening.clk_raw_live_open.Goals as goal

pub returns-in-Ok : goal.returns-in-Ok
returns-in-Ok c = record { answer = inl (refl, record { router = c.in-Ok.handle.router; has = c.of.ensures; opens = c.in-Ok.ensures.opened }, refl) }
