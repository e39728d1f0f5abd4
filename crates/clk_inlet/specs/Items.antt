-- The items of an inlet: packets, and at last an end (this project's own choice).
use Rattle.std.specs.Prelude.{◌≡◌, ◌<◌, ◌≤◌, ◌==◌, ◌&&◌, nat_lt, nat_le, ℕ, Bool, false, not, List, [], ◌++◌, filter, length}
use Rattle.std.specs.List.{list_any, AllByRecursion}
use Rattle.rtrb.specs.Fifo.{Allowed}
use Rattle.clk_inlet.specs.declared.limits.TheConstants.{MAX_PACKETS, MAX_LENGTH}
use Rattle.clk_inlet.specs.declared.item.Item.{Item}

-- a packet of this many bytes, with the caller's token
abbrev pub packet_item : (bytes token : ℕ) → Item
packet_item bytes token = record { token = token; length = bytes }

-- whether an item is the end: its length is 0
abbrev pub is_end : Item → Bool
is_end x = x.length == 0

-- whether the end is among these items
abbrev pub has_end : List Item → Bool
has_end items = list_any is_end items

-- the packets among these items
abbrev pub packets : List Item → List Item
packets items = filter (λ x. not (is_end x)) items

-- whether an item is a packet: it has a length that a packet may have
abbrev pub is_packet : Item → Bool
is_packet x = nat_lt 0 x.length && nat_le x.length MAX_LENGTH

-- an item is no longer than a packet may be
abbrev pub IsShort : Item → Type 0
IsShort x = x.length ≤ MAX_LENGTH

-- no item is longer than a packet may be
abbrev pub AreShort : List Item → Type 0
AreShort items = AllByRecursion IsShort items

-- Item `x` may follow the items `before`: the end is not among them, `x` is no longer than a packet may be and, if it is a packet, fewer
-- packets are among them than an inlet takes in all.
pub record MayFollow (before : List Item) (x : Item) : Type 0 where
  pub not_ended : has_end before ≡ false
  pub short : IsShort x
  pub numbered : is_end x ≡ false → length (packets before) < MAX_PACKETS

-- These are all items that a sender can send: no longer list that begins with them may go through the ring.
abbrev pub IsWhole : List Item → Type 0
IsWhole items = (more : List Item) → Allowed MayFollow [] (items ++ more) → more ≡ []
