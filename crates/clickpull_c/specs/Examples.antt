-- Courses after pulls and drains, and courses after one pull too many. And items for an inlet, and a line of a record.
use Rattle.std.specs.Prelude.{ℕ, List, [], ◌∷◌, ◌++◌, replicate, codes, Some, None, true, false}
use Rattle.std.proofs.Common.{lit≤}
use Rattle.clk_packet.specs.Packets.{packet}
use Rattle.clk_packet.specs.declared.packet.Packet.{Packet}
use Rattle.clk_packet.specs.declared.packet.Kind.TheVariants.{TailDrop}
use Rattle.clk_packet.specs.declared.packet.Offered.TheVariants.{Accepted}
use Rattle.clk_sched.specs.Examples.{look}
use Rattle.clk_sched.specs.Keeps.{keeps_nothing}
use Rattle.clk_sched.specs.Log.{asking}
use Rattle.clk_packet.specs.Scheduler.{drr}
use Rattle.clk_sched.specs.Tree.{queue, scheduler, leaf, end}
use Rattle.clk_router.specs.Events.{Setup, offered, pulled}
use Rattle.clk_router.specs.Course.{Course, after}
use Rattle.clickpull_c.specs.declared.values.CPacket.{CPacket}
use Rattle.clickpull_c.specs.declared.values.CDeparture.{CDeparture}
use Rattle.clk_inlet.specs.declared.item.Item.{Item}
use Rattle.clickpull_c.specs.Values.{no_packet, packet_in_c}

-- the first packet of sender 0
abbrev pub p0_0 : Packet
p0_0 = packet 0 0 100 (lit≤ tt) (lit≤ tt)

-- the second packet of sender 0, which is longer
abbrev p0_1 : Packet
p0_1 = packet 0 1 200 (lit≤ tt) (lit≤ tt)

-- one device with a queue of two packets, which has one sender
abbrev pub alone : Setup
alone = record {
  trees = queue 0 ∷ [];
  queues = record { kind = TailDrop; capacity = 2; device = 0 } ∷ [];
  senders = record { number = 0; queue = 0 } ∷ [];
  names = codes "s" ∷ [];
}

-- the device with a DRRSched of quantum 100 over its queue
abbrev pub scheduled : Setup
scheduled = record { trees = scheduler (drr (100 ∷ [])) (leaf 0 end) ∷ []; queues = alone.queues; senders = alone.senders; names = alone.names }

-- a router before anything has happened
abbrev pub fresh : Course
fresh = record { setup = alone; events = []; keeps = keeps_nothing }

-- the router after a pull that emitted none
abbrev pub fresh_pulled : Course
fresh_pulled = after fresh (pulled 0 1 (asking 0 1 0 0 None ∷ []) ∷ [])

-- one packet waits in the queue
abbrev pub one_waits : Course
one_waits = record { setup = alone; events = offered p0_0 Accepted ∷ []; keeps = keeps_nothing }

-- the packet was emitted
abbrev pub one_out : Course
one_out = after one_waits (pulled 0 1 (asking 0 1 0 0 (Some p0_0) ∷ []) ∷ [])

-- the packet was emitted, and a further pull emitted none
abbrev pub one_out_pulled : Course
one_out_pulled = after one_out (pulled 0 1 (asking 1 1 0 0 None ∷ []) ∷ [])

-- two packets wait below the DRRSched
abbrev pub two_wait : Course
two_wait = record { setup = scheduled; events = offered p0_0 Accepted ∷ offered p0_1 Accepted ∷ []; keeps = keeps_nothing }

-- the first packet was emitted
abbrev pub first_out : Course
first_out = after two_wait (pulled 0 1 (look 0 1 1 0 true (Some p0_0) true ∷ asking 0 1 0 0 (Some p0_0) ∷ []) ∷ [])

-- the first packet was emitted, and a further pull emitted none, since the second is longer than its deficit
abbrev pub first_out_pulled : Course
first_out_pulled = after first_out (pulled 0 2 (look 1 2 1 0 true (Some p0_1) false ∷ asking 1 2 0 0 None ∷ []) ∷ [])

-- one place for a packet, which is free
abbrev pub packet_before : List CPacket
packet_before = no_packet ∷ []

-- the place with the first packet
abbrev pub packet_filled : List CPacket
packet_filled = packet_in_c p0_0 ∷ []

-- one place for a departure, which is free
abbrev pub departure_before : List CDeparture
departure_before = record { moment = 0; packet = no_packet } ∷ []

-- the place with the first packet's departure
abbrev pub departure_filled : List CDeparture
departure_filled = record { moment = 1; packet = packet_in_c p0_0 } ∷ []

-- one item for an inlet, with a length in range
abbrev pub one_item : List Item
one_item = record { token = 7; length = 100 } ∷ []

-- one item for an inlet, which is too long
abbrev pub too_long : List Item
too_long = record { token = 7; length = 65536 } ∷ []

-- the line of a packet, room for it, and the room once the line stands in it
abbrev pub a_line : List ℕ
a_line = codes "send 0 7\n"

abbrev pub line_room : List ℕ
line_room = replicate 12 0

abbrev pub line_added : List ℕ
line_added = a_line ++ replicate 3 0

-- the packet of this line, and one without a length
abbrev pub a_packet : List CPacket
a_packet = record { number = 0; sender = 0; length = 7 } ∷ []

abbrev pub no_length : List CPacket
no_length = record { number = 0; sender = 0; length = 0 } ∷ []
