-- The account of a shared queue: where each packet is that the queue accepted.
use Rattle.std.specs.Prelude.{◌≡◌, ℕ, ◌≤◌, true, List, [], ◌++◌, length}
use Rattle.std.specs.List.{flat_map}
use Rattle.clk_packet.specs.declared.packet.Packet.{Packet}
use Rattle.clk_packet.specs.declared.packet.Kind.{Kind}
use Rattle.clk_packet.specs.declared.packet.Kind.TheVariants.{TailDrop}
use Rattle.clk_packet.specs.Lists.{of_sender, In, stands_in, AreRising}
use Rattle.clk_ruled.specs.PacketLists.{packet_numbers, without, IsOnceEach}

-- The account of a shared queue: what it accepted from each sender, evicted for packets of each, gave to the tap (`taken`), and holds, from
-- the front.
pub record IsAccount (kind : Kind) (capacity : ℕ) (senders : List ℕ) (accepted evicted : ℕ → List Packet) (taken held : List Packet) : Type 0 where
  -- the packets accepted from a sender and not evicted are those that the tap pulled, and then those held, in order
  pub balances : (s : ℕ) → without (accepted s) (flat_map evicted senders) ≡ of_sender s taken ++ of_sender s held
  -- what is held of a sender is what was accepted from it last
  pub is_last : (s : ℕ) → (before : List Packet) × (accepted s ≡ before ++ of_sender s held)
  -- the packets accepted from a sender have rising numbers
  pub rises : (s : ℕ) → AreRising (packet_numbers (accepted s))
  -- each packet evicted was accepted from its sender
  pub was_taken : (p : Packet) → In p (flat_map evicted senders) → In p (accepted p.sender)
  -- no packet was evicted twice
  pub once : IsOnceEach (flat_map evicted senders)
  -- each packet pulled is of one of these senders
  pub gives_known : (p : Packet) → In p taken → stands_in p.sender senders ≡ true
  -- each packet held is of one of these senders
  pub holds_known : (p : Packet) → In p held → stands_in p.sender senders ≡ true
  -- no more packets are held than the capacity
  pub fits : length held ≤ capacity
  -- a Queue evicts none
  pub tail_drop : kind ≡ TailDrop → (s : ℕ) → evicted s ≡ []
