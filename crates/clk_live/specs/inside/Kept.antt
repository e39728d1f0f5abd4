-- What holds of the parts of a live router at any time.
use Rattle.std.specs.Prelude.{◌≡◌, ℕ, ◌+◌, ◌≤◌, ◌^◌, List, length, Option, Some, None, slice_get}
use Rattle.std.specs.List.{AllByRecursion, AllZip}
use Rattle.circular_buffer.specs.Buffer.{Buffer}
use Rattle.clk_inlet.specs.declared.limits.TheConstants.{MAX_PACKETS}
use Rattle.clk_inlet.specs.declared.item.Item.{Item}
use Rattle.clk_sched.specs.FewHeads.{drrs_above}
use Rattle.clk_sched.specs.Tree.{Tree, root}
use Rattle.clk_tree.specs.PlanParts.{SendsWithin}
use Rattle.clk_router.specs.Course.{Course, sender_at}
use Rattle.clk_router.specs.Events.{Room, Setup, Event}
use Rattle.clk_router.specs.InsideQueues.{inside_of}
use Rattle.clk_live.specs.Outcome.{AreOffersOf}
use Rattle.clk_live.specs.State.{IsTokenOf}

-- What was taken from a sender's inlet is what the sender offered, and no more than an inlet accepts in all.
pub record AreOffered (events : List Event) (s : ℕ) (its : List Item) : Type 0 where
  pub lengths : AreOffersOf events s its
  pub few : length its ≤ MAX_PACKETS

-- how many DRRScheds stand above a queue in the tree of its device
abbrev pub drrs_in : Option Tree → ℕ → ℕ
drrs_in None q = 0
drrs_in (Some tree) q = drrs_above q (root tree)

-- how many packets of a queue can be inside
abbrev pub most_inside : Setup → ℕ → Room → ℕ
most_inside setup q room = room.capacity + drrs_in (slice_get setup.trees room.device) q

-- The tokens of a queue are those of the packets inside it, and the buffer has room for as many as can be inside.
pub record AreTokens (setup : Setup) (events : List Event) (items : List (List Item)) (q : ℕ) (room : Room) (b : Buffer ℕ) : Type 0 where
  pub tokens : AllZip (IsTokenOf setup items) (inside_of setup room.device q events) b.items
  pub capacity : b.capacity ≡ most_inside setup q room

-- The tokens of a live router are those of the packets inside it. The packets that were taken from each sender's inlet, by place, are those
-- that it offered.
pub record IsKept (c : Course) (items : List (List Item)) (buffers : List (Buffer ℕ)) : Type 0 where
  pub places : length items ≡ length c.setup.senders
  pub few_places : length items ≤ 2 ^ 16
  pub wired : AllByRecursion (SendsWithin (length c.setup.queues)) c.setup.senders
  pub offers : (place : ℕ) (its : List Item) (s : ℕ) → slice_get items place ≡ Some its → sender_at c.setup place ≡ Some s → AreOffered c.events s its
  pub queues : length buffers ≡ length c.setup.queues
  pub tokens : (q : ℕ) (room : Room) (b : Buffer ℕ) → slice_get c.setup.queues q ≡ Some room → slice_get buffers q ≡ Some b → AreTokens c.setup c.events items q room b
