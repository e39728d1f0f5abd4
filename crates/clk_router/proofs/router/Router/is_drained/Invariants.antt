use Rattle.std.proofs.Common.{◌≡◌, ◌+◌, ◌<◌, ℕ}
use Rattle.clk_router.specs.Course.{accepted_at, evicted_at, emitted_at}
use Rattle.clk_router.proofs.router.Router.is_drained.Given as goal

abbrev pub invariant-loop-device : goal.invariant-loop-device
invariant-loop-device l = (d : ℕ) → d < l.device → accepted_at l.self d ≡ evicted_at l.self d + emitted_at l.self d
