-- Setups whose parts are apart, as those of plans are.
use Rattle.std.specs.Prelude.{◌≡◌, ℕ, IsSome, IfSome, MatchOption, ⊤, slice_get}
use Rattle.std.specs.List.{AllByRecursion}
use Rattle.clk_sched.specs.Tree.{queue_at}
use Rattle.clk_tree.specs.declared.plan.parts.SenderSpec.{SenderSpec}
use Rattle.clk_packet.specs.Lists.{AreRising}
use Rattle.clk_router.specs.Events.{Setup, sender_numbers}

-- Each sender of a setup sends to a queue that exists, and each queue of its trees exists.
pub record IsWired (setup : Setup) : Type 0 where
  pub senders : AllByRecursion (λ (s : SenderSpec). IsSome (slice_get setup.queues s.queue)) setup.senders
  pub leaves : (d x input : ℕ) → MatchOption (slice_get setup.trees d) ⊤ (λ tree. IfSome (queue_at tree x input) (λ q. IsSome (slice_get setup.queues q)))

-- Each sender of a setup appears once, and each queue stands only in the tree of its own device.
pub record IsApart (setup : Setup) : Type 0 where
  pub senders : AreRising (sender_numbers setup)
  pub leaves : (d x input : ℕ) → MatchOption (slice_get setup.trees d) ⊤ (λ tree. IfSome (queue_at tree x input) (λ q. IfSome (slice_get setup.queues q) (λ room. room.device ≡ d)))
