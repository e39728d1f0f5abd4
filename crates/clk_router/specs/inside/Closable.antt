-- A setup over which each drain comes to its end.
use Rattle.std.specs.Prelude.{◌≡◌, ℕ, ◌<◌, ◌≤◌, ◌^◌, ◌==◌, Bool, true, false, slice_get, Option, Some}
use Rattle.std.specs.Option.{option_map_or}
use Rattle.clk_packet.specs.Lists.{stands_in, are_distinct, AreRising}
use Rattle.clk_sched.specs.Bound.{closing_bound}
use Rattle.clk_sched.specs.declared.limits.TheConstants.{MAX_LEFT}
use Rattle.clk_sched.specs.Tree.{Tree, root, leaves, IsSound}
use Rattle.clk_router.specs.Events.{Room, Setup, sender_numbers}
use Rattle.clk_router.specs.Setups.{IsApart}

-- whether a queue exists, and its packets go to this device
abbrev pub is_at : ℕ → Option Room → Bool
is_at d o = option_map_or (λ (room : Room). room.device == d) o false

-- The queues of a device over a setup are the leaves of its tree, and none of them is there twice.
pub record AreQueuesOf (setup : Setup) (d : ℕ) (tree : Tree) : Type 0 where
  pub its : slice_get setup.trees d ≡ Some tree
  pub senders : AreRising (sender_numbers setup)
  pub distinct : are_distinct (leaves (root tree)) ≡ true
  pub leaves_are : (q : ℕ) → stands_in q (leaves (root tree)) ≡ is_at d (slice_get setup.queues q)

-- A drain of a tree needs fewer than 2^42 pulls, if at most `MAX_LEFT` packets are left.
abbrev pub HasLowBound : Tree → Type 0
HasLowBound tree = (left : ℕ) → left ≤ MAX_LEFT → closing_bound tree left < 2 ^ 42

-- A setup over which each drain of a device comes to its end. The setup of a plan is one.
pub record IsClosable (setup : Setup) : Type 0 where
  pub apart : IsApart setup
  pub queues : (d : ℕ) (tree : Tree) → slice_get setup.trees d ≡ Some tree → AreQueuesOf setup d tree
  pub sound : (d : ℕ) (tree : Tree) → slice_get setup.trees d ≡ Some tree → IsSound (root tree)
  pub bound : (d : ℕ) (tree : Tree) → slice_get setup.trees d ≡ Some tree → HasLowBound tree
