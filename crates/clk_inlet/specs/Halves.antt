-- What contracts see of the two halves of an inlet's ring.
use Rattle.std.specs.Prelude.{◌≡◌, ℕ, ◌==◌, ◌||◌, ◌⊎◌, Bool, false, List, length, slice_get, IfSome}
use Rattle.rtrb.specs.Ring.{sent, received, known_items, IsPair}
use Rattle.clk_inlet.specs.declared.limits.TheConstants.{MAX_PACKETS}
use Rattle.clk_inlet.specs.Items.{packets, is_packet, has_end}
use Rattle.clk_inlet.specs.declared.item.Item.{Item}
use Rattle.clk_inlet.specs.declared.inlet.Inlet.{Inlet}
use Rattle.clk_inlet.specs.declared.outlet.Outlet.{Outlet}

-- the items that were pushed into the ring, oldest first: the packets, and the end once it was pushed
abbrev pub pushed : Inlet → List Item
pushed i = sent i.producer

-- the packets that were pushed into the ring, oldest first
abbrev pub offered : Inlet → List Item
offered i = packets (pushed i)

-- the number of the next packet: how many were pushed into the ring before it
abbrev pub next_number : Inlet → ℕ
next_number i = length (offered i)

-- how many packets are sure to fit now
abbrev pub fits : Inlet → ℕ
fits i = i.free

-- no more packets go in: the end was pushed, or as many packets as an inlet takes in all
abbrev pub at_end : Inlet → Bool
at_end i = has_end (pushed i) || (next_number i == MAX_PACKETS)

-- A batch stops after its first `count` items: no item is left, the next one is no packet, or no packet is sure to fit any more.
abbrev pub StopsAt : (count : ℕ) → List Item → Inlet → Type 0
StopsAt count items now = (count ≡ length items) ⊎ (IfSome (slice_get items count) (λ x. is_packet x ≡ false) ⊎ (fits now ≡ 0))

-- the items that were popped from the ring, oldest first: the packets, and the end once it was popped
abbrev pub popped : Outlet → List Item
popped o = received o.consumer

-- the packets that were popped from the ring, oldest first
abbrev pub taken : Outlet → List Item
taken o = packets (popped o)

-- the items that were seen in the ring and have not been popped
abbrev pub seen : Outlet → List Item
seen o = known_items o.consumer

-- The two halves of one ring, from `open` on; every call of either half keeps this. On a thread that has both, `beside` says that what was
-- popped and what is seen are all that was pushed.
pub record AreHalves (i : Inlet) (o : Outlet) : Type 0 where
  pub one_ring : IsPair i.producer o.consumer
