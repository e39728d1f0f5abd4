-- Full queues, while packets are taken.
use Rattle.std.specs.Prelude.{ℕ}
use Rattle.clk_router.specs.Course.{Course}
use Rattle.clk_live.specs.Taking.{IsQueueFull}

-- each queue that was full is still full
abbrev pub StayFull : Course → Course → Type 0
StayFull old new = (place : ℕ) → IsQueueFull old place → IsQueueFull new place
