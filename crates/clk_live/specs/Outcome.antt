-- The outcome of a live router, once no packet is left.
use Rattle.std.specs.Prelude.{◌≡◌, ℕ, true, List, map}
use Rattle.std.specs.List.{AllByRecursion, AllZip}
use Rattle.clk_packet.specs.declared.packet.Packet.{Packet}
use Rattle.clk_inlet.specs.Halves.{popped}
use Rattle.clk_inlet.specs.Items.{has_end, IsWhole}
use Rattle.clk_inlet.specs.declared.item.Item.{Item}
use Rattle.clk_inlet.specs.declared.outlet.Outlet.{Outlet}
use Rattle.clk_router.specs.Course.{Course}
use Rattle.clk_router.specs.Events.{Event, sender_numbers, CanHappen}
use Rattle.clk_router.specs.Settled.{offered_of, IsCourseSettled, AreAllOut}

-- the length of an item, in bytes
abbrev pub item_length : Item → ℕ
item_length x = x.length

-- the length of a packet, in bytes
abbrev pub packet_length : Packet → ℕ
packet_length p = p.length

-- the packets that a sender offered have the lengths of these items, in order
abbrev pub AreOffersOf : List Event → ℕ → List Item → Type 0
AreOffersOf events s items = map item_length items ≡ map packet_length (offered_of events s)

-- each sender, by place, offered packets of the lengths of its items, in order
abbrev pub AreAllOffered : Course → List (List Item) → Type 0
AreAllOffered c items = AllZip (AreOffersOf c.events) (sender_numbers c.setup) items

-- the end of each inlet was popped
abbrev pub AreAllEnded : List Outlet → Type 0
AreAllEnded outlets = AllByRecursion (λ (o : Outlet). has_end (popped o) ≡ true) outlets

-- what was popped from each inlet is all that can come through it
abbrev pub AreAllWhole : List Outlet → Type 0
AreAllWhole outlets = AllByRecursion (λ (o : Outlet). IsWhole (popped o)) outlets

-- The outcome of a live router whose senders sent these items, by place: the events can happen, each sender offered its items in order, and
-- all packets are settled. Each packet was refused, evicted or emitted, once.
pub record IsLiveOutcome (c : Course) (items : List (List Item)) : Type 0 where
  pub happened : CanHappen c.setup c.events
  pub offered : AreAllOffered c items
  pub settled : IsCourseSettled c.setup c.events
  pub all_out : AreAllOut c.setup c.events
