-- What a seat relies on as it offers a packet.
use Rattle.std.proofs.Common.{◌≡◌, ℕ, ◌<◌, ◌≤◌, List, length, ap, arith, rules}
use Rattle.std.proofs.lemmas.List.{length-map}
use Rattle.clk_packet.specs.declared.packet.Packet.{Packet}
use Rattle.clk_ruled.specs.declared.view.View.{View}
use Rattle.clk_ruled.specs.Queue.{OpenedQueue, SeatLists, queue_of, places_of}
use Rattle.clk_ruled.specs.inside.Parts.{HaveLengths, SeatFits}
use Rattle.clk_ruled.proofs.SeatSteps.{few-accepted}

-- The queue is the seat's, the packet is its sender's next one, and the sender may offer it.
pub record IsOffering (queue : OpenedQueue) (s : SeatLists) (p : Packet) : Type 0 where
  pub kind : s.setup.kind ≡ queue.kind
  pub places : queue.places ≡ places_of s.setup
  pub own : p.sender ≡ s.sender
  pub number : p.number ≡ s.next
  pub room : s.next < s.room

-- what the caller says of the values is so of what stands behind them
pub offering : (queue given : OpenedQueue) (s old : SeatLists) (p : Packet) → queue ≡ given → s ≡ old → given ≡ queue_of old.id old.setup → p.sender ≡ old.sender → p.number ≡ old.next → old.next < old.room → IsOffering queue s p
offering queue given s old p same is together own number room = search rules

-- Each list has room for one packet more, where it has room for all that may be offered.
room-accepted : (v : View) (s room next : ℕ) (accepted refused evicted : List Packet) (n : ℕ) → SeatFits v s room next accepted refused evicted → next < room → room ≤ n → length accepted < n
room-accepted v s room next accepted refused evicted n f lt reserved = search (rules, few-accepted)

pub room-lengths : (v : View) (s room next : ℕ) (accepted refused evicted : List Packet) (lengths : List ℕ) (n : ℕ) → SeatFits v s room next accepted refused evicted → HaveLengths accepted lengths → next < room → room ≤ n → length lengths < n
room-lengths v s room next accepted refused evicted lengths n f have lt reserved =
    let room = room-accepted v s room next accepted refused evicted n f lt reserved in
    let many = ap length have in
    let same = length-map accepted (λ (p : Packet). p.length) in omega (arith, room, many, same)

pub room-refused : (v : View) (s room next : ℕ) (accepted refused evicted : List Packet) (n : ℕ) → SeatFits v s room next accepted refused evicted → next < room → room ≤ n → length refused < n
room-refused v s room next accepted refused evicted n f lt reserved = search (rules, few-accepted)

pub room-evicted : (v : View) (s room next : ℕ) (accepted refused evicted : List Packet) (n : ℕ) → SeatFits v s room next accepted refused evicted → next < room → room ≤ n → length evicted < n
room-evicted v s room next accepted refused evicted n f lt reserved = search (rules, (room-accepted v s room next accepted refused evicted n f lt reserved))
