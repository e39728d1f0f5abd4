-- Lists of packets: their numbers, how they are dealt to two lists, and the tally of a sender.
use Rattle.std.specs.Prelude.{◌≡◌, ◌⊎◌, ⊤, ℕ, suc, List, [], ◌∷◌, map}
use Rattle.std.specs.List.{AllByRecursion}
use Rattle.clk_packet.specs.Lists.{of_sender}
use Rattle.clk_packet.specs.declared.packet.Packet.{Packet}
use Rattle.clk_packet.specs.declared.packet.Kind.{Kind}
use Rattle.clk_packet.specs.declared.packet.Kind.TheVariants.{TailDrop, FrontDrop}
use Rattle.clk_packet.specs.declared.tally.Tally.{Tally}

-- the numbers of these packets, in order
abbrev pub packet_numbers : List Packet → List ℕ
packet_numbers packets = map (λ (p : Packet). p.number) packets

-- the packets are this sender's, and have these numbers, one after another, from this one on
abbrev pub AreNumbered : ℕ → ℕ → List Packet → Type 0
AreNumbered s n [] = ⊤
AreNumbered s n (p ∷ packets) = (p.sender ≡ s) × (p.number ≡ n) × AreNumbered s (suc n) packets

-- A list is split into two: each of its packets is in one of them, and both keep the order.
abbrev pub IsDealt : List Packet → List Packet → List Packet → Type 0
IsDealt [] accepted refused = (accepted ≡ []) × (refused ≡ [])
IsDealt (p ∷ offered) accepted refused =
    ((rest : List Packet) × (accepted ≡ p ∷ rest) × IsDealt offered rest refused) ⊎ ((rest : List Packet) × (refused ≡ p ∷ rest) × IsDealt offered accepted rest)

-- These tallies account for the packets that were emitted at all devices: each packet that one has as accepted was evicted or emitted, both
-- in order.
abbrev pub AccountFor : List Packet → List Tally → Type 0
AccountFor emitted tallies = AllByRecursion (λ (t : Tally). IsDealt t.accepted t.evicted (of_sender t.sender emitted)) tallies

-- What happened to each packet that a sender offered to a queue of this kind: the tally has those accepted, refused and evicted, and the
-- device emitted `emitted`.
pub record IsTallyOf (offered emitted : List Packet) (kind : Kind) (t : Tally) : Type 0 where
  -- each packet offered was accepted or refused, both in order
  pub offered_are : IsDealt offered t.accepted t.refused
  -- each packet accepted was evicted or emitted, both in order
  pub accepted_are : IsDealt t.accepted t.evicted emitted
  -- a Queue evicts none
  pub tail_drop : kind ≡ TailDrop → t.evicted ≡ []
  -- a FrontDropQueue refuses none
  pub front_drop : kind ≡ FrontDrop → t.refused ≡ []
