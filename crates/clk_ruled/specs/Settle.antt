-- What settling a shared queue tells, once its seats are closed.
use Rattle.std.specs.Prelude.{◌≡◌, ℕ, ◌+◌, ◌<◌, ◌≤◌, ◌==◌, ◌⊎◌, Bool, true, false, List, [], ◌∷◌, ◌++◌, length, map, filter, ⊤, if◌then◌else◌}
use Rattle.std.specs.List.{flat_map, AllByRecursion}
use Rattle.clk_packet.specs.declared.packet.Packet.{Packet}
use Rattle.clk_packet.specs.declared.packet.Kind.{Kind}
use Rattle.clk_packet.specs.declared.tally.Tally.{Tally}
use Rattle.clk_packet.specs.declared.fault.Fault.{Fault}
use Rattle.clk_packet.specs.declared.fault.Fault.TheVariants.{Memory, Unsettled}
use Rattle.clk_ruled.specs.declared.view.Gathered.{Gathered}
use Rattle.clk_packet.specs.Lists.{In, of_sender}
use Rattle.clk_ruled.specs.PacketLists.{has_packet, without}
use Rattle.clk_ruled.specs.Queue.{OpenedQueue, SeatLists, TapLists, ClosedLists, IsTapOf, IsSharedOut, accepted_in_all, evicted_in_all}
use Rattle.clk_ruled.specs.Rule.{Books, IsSound, AreGathered, gathered_seat, senders_of, taken_in}
use Rattle.clk_ruled.specs.Account.{IsAccount}

-- the lists of closed seats
abbrev pub lists_of : List ClosedLists → List SeatLists
lists_of closed = map (λ (c : ClosedLists). c.lists) closed

-- a seat as the tap keeps it once it is gathered
abbrev pub as_gathered : SeatLists → Gathered
as_gathered l = gathered_seat l.sender l.accepted l.evicted

-- one of the lists of a sender's seat; empty if the sender has no seat here
abbrev pub of_seat : (SeatLists → List Packet) → List SeatLists → ℕ → List Packet
of_seat list [] s = []
of_seat list (l ∷ seats) s = if l.sender == s then list l else of_seat list seats s

-- the packets that the queue accepted from a sender
abbrev pub accepted_of : List SeatLists → ℕ → List Packet
accepted_of seats s = of_seat (λ l. l.accepted) seats s

-- the packets that the queue evicted for packets of a sender
abbrev pub evicted_of : List SeatLists → ℕ → List Packet
evicted_of seats s = of_seat (λ l. l.evicted) seats s

-- the packets that were evicted for any of the seats
abbrev pub all_evicted : List SeatLists → List Packet
all_evicted seats = flat_map (λ (l : SeatLists). l.evicted) seats

-- how many packets the queue accepted
abbrev pub accepted_count : List SeatLists → ℕ
accepted_count seats = accepted_in_all (map as_gathered seats)

-- how many packets the queue evicted
abbrev pub evicted_count : List SeatLists → ℕ
evicted_count seats = evicted_in_all (map as_gathered seats)

-- how many packets were refused or evicted
abbrev pub lost_count : List SeatLists → ℕ
lost_count [] = 0
lost_count (l ∷ seats) = length l.refused + length l.evicted + lost_count seats

-- The seat was opened with the tap, and if it was gathered, the tap has its lists.
pub record IsOfTap (tap : TapLists) (c : ClosedLists) : Type 0 where
  pub id : c.lists.id ≡ tap.id
  pub setup : c.lists.setup ≡ tap.setup
  pub had : c.is_gathered ≡ true → In (as_gathered c.lists) tap.gathered

-- Each of these seats was opened with the tap, and if it was gathered, the tap has its lists.
abbrev pub AreOfTap : TapLists → List ClosedLists → Type 0
AreOfTap tap [] = ⊤
AreOfTap tap (c ∷ closed) = IsOfTap tap c × AreOfTap tap closed

-- The closed seats are all that the tap's queue was opened with, in order.
pub record AreTogether (tap : TapLists) (closed : List ClosedLists) : Type 0 where
  pub senders : map (λ (l : SeatLists). (l.sender, l.room)) (lists_of closed) ≡ tap.setup.rooms
  pub each : AreOfTap tap closed

-- The closed seats are all that the tap's queue was opened with, and the tap gathered each.
pub record HasAllSeats (tap : TapLists) (closed : List ClosedLists) : Type 0 where
  pub together : AreTogether tap closed
  pub gathered : AllByRecursion (λ (c : ClosedLists). c.is_gathered ≡ true) closed

-- at most as many packets were pulled as were accepted and not evicted
abbrev pub IsTakenWithin : TapLists → List ClosedLists → Type 0
IsTakenWithin tap closed = evicted_count (lists_of closed) + length tap.taken ≤ accepted_count (lists_of closed)

-- exactly as many packets were pulled as were accepted and not evicted
abbrev pub IsAllTaken : TapLists → List ClosedLists → Type 0
IsAllTaken tap closed = accepted_count (lists_of closed) ≡ evicted_count (lists_of closed) + length tap.taken

-- a seat as it would be, closed now
abbrev pub closing : SeatLists → ClosedLists
closing l = record { lists = l; is_gathered = false }

-- A queue, its tap and all its seats, in order, were opened together, and the tap has the lists of each gathered seat; a seat that isn't
-- closed yet stands as if it were closed now. `open` ensures this, every call keeps it, and `settle` requires it.
abbrev pub AreOpenedTogether : OpenedQueue → TapLists → List ClosedLists → Type 0
AreOpenedTogether queue tap closed = IsTapOf queue tap × AreTogether tap closed

-- The tally of a seat's sender, if the packets that pass the test were evicted. An evicted packet counts for its own sender, whichever seat
-- it was evicted for.
abbrev pub tally_by : (Packet → Bool) → SeatLists → Tally
tally_by was_put_out l = record { sender = l.sender; accepted = l.accepted; refused = l.refused; evicted = filter was_put_out l.accepted }

-- the tally of a seat's sender, if these packets were evicted
abbrev pub tally_of : List Packet → SeatLists → Tally
tally_of out l = tally_by (has_packet out) l

-- What settling a queue tells: the packets pulled, if the tap keeps them, and the tallies of its senders.
pub record IsSettled (tap : TapLists) (closed : List ClosedLists) (pulled : List Packet) (told : List Tally) : Type 0 where
  pub taken : tap.keeps ≡ true → pulled ≡ tap.taken
  pub tallies : told ≡ map (tally_of (all_evicted (lists_of closed))) (lists_of closed)
  -- these packets were held, and with them the account is whole
  pub held : List Packet
  pub account : IsAccount tap.setup.kind tap.setup.capacity (senders_of tap.setup) (accepted_of (lists_of closed)) (evicted_of (lists_of closed)) tap.taken held
  -- of a sender's packets that weren't evicted, those that weren't pulled are the last that the queue accepted
  pub left : (s : ℕ) → (before : List Packet) × (accepted_of (lists_of closed) s ≡ before ++ without (without (accepted_of (lists_of closed) s) (all_evicted (lists_of closed))) tap.taken)
  -- if all that weren't evicted were pulled, they were pulled in their sender's order
  pub all_taken : accepted_count (lists_of closed) ≡ evicted_count (lists_of closed) + length tap.taken → (s : ℕ) → without (accepted_of (lists_of closed) s) (all_evicted (lists_of closed)) ≡ of_sender s tap.taken
  -- no more packets were pulled than were accepted and not evicted
  pub within : evicted_count (lists_of closed) + length tap.taken ≤ accepted_count (lists_of closed)
  -- each seat's packets are split into accepted and refused
  pub shared : AllByRecursion IsSharedOut (lists_of closed)
  -- packets were refused or evicted only if the queue accepted as many as it may hold
  pub reached : 0 < lost_count (lists_of closed) → tap.setup.capacity ≤ accepted_count (lists_of closed)

-- A queue of this kind and capacity, shared by these senders, lost packets although it accepted fewer than it may hold. The lists of its
-- seats, the packets pulled and some packets held are an account of it.
pub record HasLostBelow (kind : Kind) (capacity : ℕ) (senders : List ℕ) (seats : List SeatLists) (taken : List Packet) : Type 0 where
  pub held : List Packet
  pub account : IsAccount kind capacity senders (accepted_of seats) (evicted_of seats) taken held
  pub kinds : AllByRecursion (λ (l : SeatLists). l.setup.kind ≡ kind) seats
  pub shared : AllByRecursion IsSharedOut seats
  pub lost : 0 < lost_count seats
  pub below : accepted_count seats < capacity

-- Why a queue isn't settled: an allocation failed, or the queue lost packets below its capacity. Fault 21 has the queue's number, how many
-- packets it accepted, and how many it may hold.
abbrev pub IsFaultOfSettle : TapLists → List ClosedLists → ℕ → Fault → Type 0
IsFaultOfSettle tap closed index fault =
    (fault ≡ Memory)
    ⊎ ((fault ≡ Unsettled index (accepted_count (lists_of closed)) tap.setup.capacity)
    × HasLostBelow tap.setup.kind tap.setup.capacity (senders_of tap.setup) (lists_of closed) tap.taken)

-- What the tap knows of its queue at one moment.
pub record IsAccounted (tap : TapLists) : Type 0 where
  pub held : List Packet
  pub books : Books
  pub given : List ℕ
  pub sound : IsSound books held
  pub setup : tap.setup ≡ books.setup
  pub taken : tap.taken ≡ taken_in books.gone
  pub gathered : AreGathered books given tap.gathered

-- the tap has the lists of each of these seats
abbrev pub HasEach : TapLists → List SeatLists → Type 0
HasEach tap [] = ⊤
HasEach tap (l ∷ seats) = In (as_gathered l) tap.gathered × HasEach tap seats
