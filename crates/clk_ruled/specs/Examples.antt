-- The account of a worked queue, and lists that differ from it in one place.
use Rattle.std.specs.Prelude.{ℕ, ◌==◌, List, [], ◌∷◌, if◌then◌else◌}
use Rattle.std.proofs.Common.{lit≤}
use Rattle.clk_packet.specs.Packets.{packet}
use Rattle.clk_packet.specs.declared.packet.Packet.{Packet}
use Rattle.clk_packet.specs.Lists.{of_sender}

-- packet 0 of sender 0, of 100 bytes. The packets below are named alike, by sender and number.
abbrev pub p0_0 : Packet
p0_0 = packet 0 0 100 (lit≤ tt) (lit≤ tt)

abbrev pub p0_1 : Packet
p0_1 = packet 0 1 60 (lit≤ tt) (lit≤ tt)

abbrev pub p1_0 : Packet
p1_0 = packet 1 0 50 (lit≤ tt) (lit≤ tt)

abbrev pub p1_1 : Packet
p1_1 = packet 1 1 70 (lit≤ tt) (lit≤ tt)

abbrev pub p2_0 : Packet
p2_0 = packet 2 0 80 (lit≤ tt) (lit≤ tt)

-- the packets that a queue accepted from a sender, by all that it accepted
abbrev pub by_sender : List Packet → ℕ → List Packet
by_sender packets s = of_sender s packets

-- the packets that a queue evicted for each seat: `first` for sender 0, and `second` for sender 1
abbrev pub for_seats : (first second : List Packet) → ℕ → List Packet
for_seats first second s = if 0 == s then first else if 1 == s then second else []

-- The senders of a worked FrontDropQueue of two packets. It accepted two packets of each: the first was evicted for the seat of sender 1,
-- the second was pulled, and the others are held.
abbrev pub both : List ℕ
both = 0 ∷ 1 ∷ []

-- the packets that the worked queue accepted
abbrev pub arrived : List Packet
arrived = p0_0 ∷ p0_1 ∷ p1_0 ∷ p1_1 ∷ []

-- the packets that it evicted, for the seat of sender 1
abbrev pub put_out : List Packet
put_out = p0_0 ∷ []

-- the packets that the tap pulled
abbrev pub pulled : List Packet
pulled = p0_1 ∷ []

-- the packets that it holds
abbrev pub held : List Packet
held = p1_0 ∷ p1_1 ∷ []

-- the packets held, but the first packet of sender 1 is nowhere
abbrev pub one_lost : List Packet
one_lost = p1_1 ∷ []

-- the newest packet evicted, instead of the oldest
abbrev pub newest_out : List Packet
newest_out = p1_1 ∷ []

-- both packets of sender 0 pulled, as if the newest packet had been evicted
abbrev pub pulled_both : List Packet
pulled_both = p0_0 ∷ p0_1 ∷ []

-- the older packet of sender 1 held, as if the newest packet had been evicted
abbrev pub older_held : List Packet
older_held = p1_0 ∷ []

-- the packets accepted, but those of sender 0 the second before the first
abbrev pub turned : List Packet
turned = p0_1 ∷ p0_0 ∷ p1_0 ∷ p1_1 ∷ []

-- the packets accepted, without the one that was evicted
abbrev pub first_missing : List Packet
first_missing = p0_1 ∷ p1_0 ∷ p1_1 ∷ []

-- the senders without the one whose packet was pulled
abbrev pub second_alone : List ℕ
second_alone = 1 ∷ []

-- the packets accepted, but with one of sender 2 in the place of the last one of sender 1
abbrev pub with_stranger : List Packet
with_stranger = p0_0 ∷ p0_1 ∷ p1_0 ∷ p2_0 ∷ []

-- the packets held, but with one of sender 2 in the place of the last one of sender 1
abbrev pub stranger_held : List Packet
stranger_held = p1_0 ∷ p2_0 ∷ []
