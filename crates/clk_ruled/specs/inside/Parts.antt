-- What a seat and the tap keep: the lists of a seat are those of its view, and there is room for all that may come.
use Rattle.std.specs.Prelude.{◌≡◌, ℕ, ◌≤◌, true, false, List, [], ◌∷◌, ◌++◌, length, map, ⊤}
use Rattle.clk_packet.specs.declared.packet.Packet.{Packet}
use Rattle.clk_packet.specs.declared.packet.Kind.TheVariants.{TailDrop, FrontDrop}
use Rattle.clk_ruled.specs.declared.view.View.{View}
use Rattle.clk_packet.specs.Lists.{stands_in, AreRising}
use Rattle.clk_ruled.specs.Rooms.{named_in, room_of}
use Rattle.clk_ruled.specs.Queue.{SeatLists, IsShared, empty_seat}
use Rattle.clk_ruled.specs.inside.Rule.{KnowsAfter, tap_view}
use Rattle.atomic_table.specs.Seated.{TableId}
use Rattle.clk_ruled.specs.declared.view.QueueSetup.{QueueSetup}

-- The packets have these lengths, in order.
abbrev pub HaveLengths : List Packet → List ℕ → Type 0
HaveLengths packets lengths = map (λ (p : Packet). p.length) packets ≡ lengths

-- A packet of this number is the first, and these come after it.
pub record IsFirst (number : ℕ) (packets rest : List Packet) : Type 0 where
  pub first : Packet
  pub are : packets ≡ first ∷ rest
  pub number_is : first.number ≡ number

-- The first packet, if there is one, has another number.
abbrev pub IsNotFirst : ℕ → List Packet → Type 0
IsNotFirst number packets = (first : Packet) (rest : List Packet) → packets ≡ first ∷ rest → first.number ≡ number → ⊥

pub record SeatFits (v : View) (sender room next : ℕ) (accepted refused evicted : List Packet) : Type 0 where
  pub sits : v.sits ≡ true
  pub own : v.sender ≡ sender
  pub accepted_is : v.accepted ≡ accepted
  pub evicted_is : v.evicted ≡ evicted
  pub room_is : room_of v.setup.rooms sender ≡ room
  pub some : 1 ≤ v.setup.capacity
  pub within : next ≤ room
  pub shares : IsShared sender next accepted refused
  pub fewer : length evicted ≤ length accepted
  pub tail_drop : v.setup.kind ≡ TailDrop → evicted ≡ []
  pub front_drop : v.setup.kind ≡ FrontDrop → refused ≡ []

-- What a tap keeps: its view is the tap's, and fits books that are in order.
pub record TapKeeps (v : View) : Type 0 where
  pub taps : v.taps ≡ true
  pub some : 1 ≤ v.setup.capacity
  pub knows : KnowsAfter v

-- none of these senders has had a seat
abbrev pub AreFree : List ℕ → List (ℕ × ℕ) → Type 0
AreFree given [] = ⊤
AreFree given (r ∷ rest) = (stands_in r.0 given ≡ false) × AreFree given rest

-- each of these senders may offer as many packets as stands beside it
abbrev pub AreRoomed : List (ℕ × ℕ) → List (ℕ × ℕ) → Type 0
AreRoomed rooms [] = ⊤
AreRoomed rooms (r ∷ rest) = (room_of rooms r.0 ≡ r.1) × AreRoomed rooms rest

-- A queue is being opened: all senders but the rest have their seats.
pub record IsSeated (setup : QueueSetup) (id : TableId) (v : View) (seats : List SeatLists) (rest : List (ℕ × ℕ)) : Type 0 where
  pub view_is : v ≡ tap_view setup [] v.given []
  pub some : 1 ≤ setup.capacity
  pub free : AreFree v.given rest
  pub roomed : AreRoomed setup.rooms rest
  pub rises : AreRising (named_in rest)
  pub seats_are : seats ++ map (empty_seat id setup) rest ≡ map (empty_seat id setup) setup.rooms
