-- Histories of worked examples, and some that are none.
use Rattle.std.specs.Prelude.{List, [], ◌∷◌}
use Rattle.std.proofs.Common.{lit≤}
use Rattle.clk_packet.specs.declared.packet.Packet.{Packet}
use Rattle.clk_packet.specs.Packets.{packet}
use Rattle.clk_ring.specs.QueueHistory.{QueueEvent, accept, refuse, evict, give, empty}

abbrev first : Packet
first = packet 0 0 100 (lit≤ tt) (lit≤ tt)

abbrev second : Packet
second = packet 1 0 50 (lit≤ tt) (lit≤ tt)

abbrev third : Packet
third = packet 0 1 60 (lit≤ tt) (lit≤ tt)

-- A Queue of one packet: the second offer is refused.
abbrev pub tail_dropped : List QueueEvent
tail_dropped = accept first ∷ refuse second ∷ give first ∷ empty ∷ []

-- A FrontDropQueue of one packet: the second offer evicts the first packet.
abbrev pub front_dropped : List QueueEvent
front_dropped = accept first ∷ evict first ∷ accept second ∷ give second ∷ empty ∷ []

-- two packets are held at once
abbrev pub two_held : List QueueEvent
two_held = accept first ∷ accept second ∷ give first ∷ give second ∷ []

-- the newer packet is given first
abbrev pub order_turned : List QueueEvent
order_turned = accept first ∷ accept second ∷ give second ∷ give first ∷ []

-- a packet that was never accepted is given
abbrev pub other_given : List QueueEvent
other_given = accept first ∷ give second ∷ []

-- nothing is given though a packet is held
abbrev pub nothing_given : List QueueEvent
nothing_given = accept first ∷ empty ∷ []

-- a packet is evicted at the end, and no packet is accepted for it
abbrev pub put_out_at_end : List QueueEvent
put_out_at_end = accept first ∷ evict first ∷ []

-- another packet is given between an eviction and the acceptance that forced it
abbrev pub given_in_between : List QueueEvent
given_in_between = accept first ∷ accept second ∷ evict first ∷ give second ∷ accept third ∷ []

-- another event comes between an eviction and the acceptance that forced it
abbrev pub put_out_before : QueueEvent → List QueueEvent
put_out_before event = accept first ∷ evict first ∷ event ∷ accept second ∷ []

-- the newest packet is evicted instead of the front
abbrev pub newest_put_out : List QueueEvent
newest_put_out = accept first ∷ accept second ∷ evict second ∷ accept third ∷ []

-- an event that may not come between an eviction and an acceptance: a refusal
abbrev pub refuses_second : QueueEvent
refuses_second = refuse second

-- an event that may not come between an eviction and an acceptance: another eviction
abbrev pub puts_out_second : QueueEvent
puts_out_second = evict second
