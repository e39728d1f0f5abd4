-- What is proved of every shared queue.
use Rattle.std.specs.Prelude.{◌≡◌, ℕ, ◌<◌, true, false, List, length, map, Option}
use Rattle.std.specs.List.{AllByRecursion}
use mathlib.Core.Option.{some}
use lib.ListN.{get_elem?, get_or, set}
use Rattle.clk_packet.specs.declared.packet.Packet.{Packet}
use Rattle.clk_packet.specs.declared.packet.Offered.{Offered}
use Rattle.clk_ruled.specs.declared.view.QueueSetup.{QueueSetup}
use Rattle.clk_ruled.specs.declared.view.Gathered.{Gathered}
use Rattle.clk_ruled.specs.declared.view.View.{View}
use Rattle.clk_ruled.specs.Rule.{senders_of, Keeps}
use Rattle.clk_ruled.specs.Account.{IsAccount}
use Rattle.clk_ruled.specs.Queue.{OpenedQueue, SeatLists, TapLists, ClosedLists, closed_with, gathering, IsOpened, IsSeatOf, IsOffered, IsPulled}
use Rattle.clk_ruled.specs.Settle.{AreOpenedTogether, closing}

-- The lists of a seat's view are those of its sender.
pub record IsSeatIn (setup : QueueSetup) (accepted evicted : ℕ → List Packet) (v : View) : Type 0 where
  pub setup_is : v.setup ≡ setup
  pub accepted_is : v.accepted ≡ accepted v.sender
  pub evicted_is : v.evicted ≡ evicted v.sender

-- The tap's view has the packets pulled, and the lists of the sender of each seat that it gathered.
pub record IsTapIn (setup : QueueSetup) (accepted evicted : ℕ → List Packet) (taken : List Packet) (v : View) : Type 0 where
  pub setup_is : v.setup ≡ setup
  pub taken_is : v.taken ≡ taken
  pub gathered_are : AllByRecursion (λ (g : Gathered). (g.accepted ≡ accepted g.sender) × (g.evicted ≡ evicted g.sender)) v.gathered

-- The packets held and the lists of all who use the queue have an account.
pub record HasAccount (held : List Packet) (views : List View) : Type 0 where
  pub setup : QueueSetup
  pub accepted : ℕ → List Packet
  pub evicted : ℕ → List Packet
  pub taken : List Packet
  pub account : IsAccount setup.kind setup.capacity (senders_of setup) accepted evicted taken held
  pub seats : (pass : ℕ) (v : View) → get_elem? views pass ≡ some v → v.sits ≡ true → IsSeatIn setup accepted evicted v
  pub taps : (pass : ℕ) (v : View) → get_elem? views pass ≡ some v → v.taps ≡ true → IsTapIn setup accepted evicted taken v

-- What the rule keeps between any two steps is an account.
abbrev pub KeepsAccount : Type 0
KeepsAccount = (held : List Packet) (views : List View) → Keeps held views → HasAccount held views

-- What `open` returns was opened together, and each call keeps it so: an offer of a seat, a pull, the closing of a seat, and the gathering
-- of a closed seat. So each call finds what it requires of the queue, the seat and the tap.
pub record KeepsTogether : Type 0 where
  pub opened : (setup : QueueSetup) (queue : OpenedQueue) (seats : List SeatLists) (tap : TapLists) → IsOpened setup queue seats tap → AreOpenedTogether queue tap (map closing seats)
  pub seats : (queue : OpenedQueue) (tap : TapLists) (seats : List SeatLists) (i : ℕ) (l : SeatLists) → i < length seats → l ≡ get_or seats i l
      → AreOpenedTogether queue tap (map closing seats) → IsSeatOf queue l
  pub offered : (queue : OpenedQueue) (tap : TapLists) (seats : List SeatLists) (i : ℕ) (old new : SeatLists) (p : Packet) (answer : Offered) → i < length seats → old ≡ get_or seats i old
      → IsOffered old p answer new → AreOpenedTogether queue tap (map closing seats) → AreOpenedTogether queue tap (map closing (set seats i new))
  pub pulled : (queue : OpenedQueue) (old new : TapLists) (got : Option Packet) (closed : List ClosedLists) → IsPulled old got new
      → AreOpenedTogether queue old closed → AreOpenedTogether queue new closed
  pub closed : (queue : OpenedQueue) (tap : TapLists) (closed : List ClosedLists) (i : ℕ) (c : ClosedLists) → i < length closed → c ≡ get_or closed i c
      → AreOpenedTogether queue tap closed → (c.lists.id ≡ tap.id) × (c.lists.setup ≡ tap.setup)
  pub gathered : (queue : OpenedQueue) (old new : TapLists) (closed : List ClosedLists) (i : ℕ) (before after : ClosedLists) → i < length closed → before ≡ get_or closed i before
      → after ≡ closed_with before.lists → (before.is_gathered ≡ false → new ≡ gathering old before.lists) → (before.is_gathered ≡ true → new ≡ old)
      → AreOpenedTogether queue old closed → AreOpenedTogether queue new (set closed i after)
