-- The rule of a shared queue: what holds between any two steps of those who use it.
use Rattle.std.specs.Prelude.{◌≡◌, ℕ, ◌≤◌, ◌==◌, true, false, List, [], ◌∷◌, ◌++◌, length, map, ⊤, if◌then◌else◌}
use mathlib.Core.Option.{Option, some, none}
use lib.ListN.{get_elem?}
use Rattle.clk_packet.specs.declared.packet.Packet.{Packet}
use Rattle.clk_packet.specs.declared.packet.Kind.TheVariants.{TailDrop}
use Rattle.clk_ruled.specs.declared.view.QueueSetup.{QueueSetup}
use Rattle.clk_ruled.specs.declared.view.Gathered.{Gathered}
use Rattle.clk_ruled.specs.declared.view.View.{View}
use Rattle.clk_packet.specs.Lists.{of_sender, stands_in, AreRising}
use Rattle.clk_ruled.specs.PacketLists.{packet_numbers}
use Rattle.clk_ruled.specs.Rooms.{named_in, room_of}

-- A packet left the queue at the front: the tap pulled it, or it was evicted for a packet of this sender.
pub data Out : Type 0 where
  to_puller : Packet → Out
  put_out : ℕ → Packet → Out

-- the packets that left the queue
abbrev pub went_out : List Out → List Packet
went_out [] = []
went_out (to_puller p ∷ gone) = p ∷ went_out gone
went_out (put_out e p ∷ gone) = p ∷ went_out gone

-- the packets that the tap pulled
abbrev pub taken_in : List Out → List Packet
taken_in [] = []
taken_in (to_puller p ∷ gone) = p ∷ taken_in gone
taken_in (put_out e p ∷ gone) = taken_in gone

-- the packets that were evicted for packets of one sender
abbrev pub evicted_by : ℕ → List Out → List Packet
evicted_by s [] = []
evicted_by s (to_puller p ∷ gone) = evicted_by s gone
evicted_by s (put_out e p ∷ gone) = if e == s then p ∷ evicted_by s gone else evicted_by s gone

-- What happened to a queue: what it was opened with, and the packets that it accepted and those that left it, in order. Also which pass
-- sits for each sender, and which pass is the tap's.
pub record Books : Type 0 where
  pub setup : QueueSetup
  pub all : List Packet
  pub gone : List Out
  pub seat : ℕ → Option ℕ
  pub tap : ℕ

-- the senders of a queue
abbrev pub senders_of : QueueSetup → List ℕ
senders_of setup = named_in setup.rooms

-- The books are in order while these packets are held: what left and then what is held are what the queue accepted, within its capacity. Of
-- each sender no more packets were accepted than it may offer, with rising numbers. None was evicted for a stranger, and a Queue evicts
-- none.
pub record IsSound (b : Books) (held : List Packet) : Type 0 where
  pub senders_rise : AreRising (senders_of b.setup)
  pub order : b.all ≡ went_out b.gone ++ held
  pub fits : length held ≤ b.setup.capacity
  pub room : (s : ℕ) → length (of_sender s b.all) ≤ room_of b.setup.rooms s
  pub rises : (s : ℕ) → AreRising (packet_numbers (of_sender s b.all))
  pub known : (s : ℕ) → stands_in s (senders_of b.setup) ≡ false → evicted_by s b.gone ≡ []
  pub tail_drop : b.setup.kind ≡ TailDrop → (s : ℕ) → evicted_by s b.gone ≡ []

-- the sender has had no seat: none sits for it, and no packet was accepted from it or evicted for it
pub record IsNew (b : Books) (s : ℕ) : Type 0 where
  pub seat : b.seat s ≡ none
  pub accepted : of_sender s b.all ≡ []
  pub evicted : evicted_by s b.gone ≡ []

-- the seat was gathered with these lists
pub record IsGathered (b : Books) (given : List ℕ) (g : Gathered) : Type 0 where
  pub had : stands_in g.sender given ≡ true
  pub seat : b.seat g.sender ≡ none
  pub accepted : g.accepted ≡ of_sender g.sender b.all
  pub evicted : g.evicted ≡ evicted_by g.sender b.gone

-- the senders whose seats were gathered
abbrev pub gathered_senders : List Gathered → List ℕ
gathered_senders gathered = map (λ (g : Gathered). g.sender) gathered

-- each seat of the list was gathered with these lists, and once
abbrev pub AreGathered : Books → List ℕ → List Gathered → Type 0
AreGathered b given [] = ⊤
AreGathered b given (g ∷ gathered) = IsGathered b given g × (stands_in g.sender (gathered_senders gathered) ≡ false) × AreGathered b given gathered

-- A seat's view is what the books say of its sender.
pub record FitsSeat (b : Books) (pass : ℕ) (v : View) : Type 0 where
  pub seat : b.seat v.sender ≡ some pass
  pub setup : v.setup ≡ b.setup
  pub accepted : v.accepted ≡ of_sender v.sender b.all
  pub evicted : v.evicted ≡ evicted_by v.sender b.gone

-- The tap's view is what the books say of the packets pulled, of the senders that have had no seat, and of the seats that it gathered.
pub record FitsTap (b : Books) (pass : ℕ) (v : View) : Type 0 where
  pub tap : pass ≡ b.tap
  pub setup : v.setup ≡ b.setup
  pub taken : v.taken ≡ taken_in b.gone
  pub fresh : (s : ℕ) → stands_in s v.given ≡ false → IsNew b s
  pub gathered : AreGathered b v.given v.gathered

-- A user's view fits the books: as a seat's if it sits, and as the tap's if it taps.
abbrev pub Fits : Books → ℕ → View → Type 0
Fits b pass v = (v.sits ≡ true → FitsSeat b pass v) × (v.taps ≡ true → FitsTap b pass v)

-- The rule of a shared queue, which holds between any two steps: there are books in order, and each user's view is what they say. Seven
-- kinds of step keep it: opening, seating a sender, accepting, evicting, pulling, retiring a closed seat, and gathering it.
abbrev pub Keeps : List Packet → List View → Type 0
Keeps held views = (b : Books) × IsSound b held × ((pass : ℕ) (v : View) → get_elem? views pass ≡ some v → Fits b pass v)

-- what a tap keeps of a seat that it gathered
abbrev pub gathered_seat : ℕ → List Packet → List Packet → Gathered
gathered_seat s accepted evicted = record { sender = s; accepted = accepted; evicted = evicted }
