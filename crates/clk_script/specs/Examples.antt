-- Events that cannot happen, and pulls that are no drain; each is wrong in one thing.
use Rattle.std.specs.Prelude.{ℕ, false, List, [], ◌∷◌, codes, Option, Some, None, Result, Err}
use Rattle.std.proofs.Common.{lit≤}
use Rattle.clk_packet.specs.declared.fault.Fault.{Fault}
use Rattle.clk_packet.specs.declared.packet.Packet.{Packet}
use Rattle.clk_packet.specs.declared.packet.Kind.TheVariants.{TailDrop}
use Rattle.clk_packet.specs.declared.packet.Offered.TheVariants.{Accepted, Refused}
use Rattle.clk_packet.specs.Packets.{packet}
use Rattle.clk_sched.specs.declared.visit.Visit.{Visit}
use Rattle.clk_packet.specs.Scheduler.{prio, shaper}
use Rattle.clk_sched.specs.Tree.{queue, scheduler, leaf, end}
use Rattle.clk_sched.specs.Log.{asking}
use Rattle.clk_router.specs.Events.{Setup, Event, offered, pulled}
use Rattle.clk_script.specs.declared.script.Command.{Command}
use Rattle.clk_script.specs.declared.script.Command.TheVariants.{Pull}
use Rattle.clk_script.specs.declared.writer.ScriptWriter.{ScriptWriter}

-- the first packet of sender 0
abbrev pub p0_0 : Packet
p0_0 = packet 0 0 100 (lit≤ tt) (lit≤ tt)

-- the second packet of sender 0
abbrev p0_1 : Packet
p0_1 = packet 0 1 100 (lit≤ tt) (lit≤ tt)

-- the first packet of sender 1
abbrev pub p1_0 : Packet
p1_0 = packet 1 0 50 (lit≤ tt) (lit≤ tt)

-- two queues of two packets below a PrioSched, each with a sender of its own
abbrev pub two_queues : Setup
two_queues = record {
  trees = scheduler prio (leaf 0 (leaf 1 end)) ∷ [];
  queues = record { kind = TailDrop; capacity = 2; device = 0 } ∷ record { kind = TailDrop; capacity = 2; device = 0 } ∷ [];
  senders = record { number = 0; queue = 0 } ∷ record { number = 1; queue = 1 } ∷ [];
  names = codes "s" ∷ codes "t" ∷ [];
}

-- a Queue of one packet below a Shaper of rate 1 and burst 1
abbrev pub shaped : Setup
shaped = record {
  trees = scheduler (shaper 1 1) (leaf 0 end) ∷ [];
  queues = record { kind = TailDrop; capacity = 1; device = 0 } ∷ [];
  senders = record { number = 0; queue = 0 } ∷ [];
  names = codes "s" ∷ [];
}

-- two devices, each with a queue of two packets and a sender of its own
abbrev pub two_devices : Setup
two_devices = record {
  trees = queue 0 ∷ queue 1 ∷ [];
  queues = record { kind = TailDrop; capacity = 2; device = 0 } ∷ record { kind = TailDrop; capacity = 2; device = 1 } ∷ [];
  senders = record { number = 0; queue = 0 } ∷ record { number = 1; queue = 1 } ∷ [];
  names = codes "s" ∷ codes "t" ∷ [];
}

-- Over `shaped`: a pull at moment 3 follows one at moment 5 and is counted at 3, not at 5.
abbrev pub moment_not_counted : List Event
moment_not_counted =
    pulled 0 5 (asking 0 5 1 0 None ∷ asking 0 5 0 0 None ∷ []) ∷ pulled 0 3 (asking 1 3 1 0 None ∷ asking 1 3 0 0 None ∷ []) ∷ []

-- Over `shaped`: the first pull, at moment 3, is counted at 4.
abbrev pub moment_ahead : List Event
moment_ahead = pulled 0 3 (asking 0 4 1 0 None ∷ asking 0 4 0 0 None ∷ []) ∷ []

-- Over `two_queues`: the second queue is asked first.
abbrev pub second_first : List Event
second_first = offered p1_0 Accepted ∷ pulled 0 0 (asking 0 0 1 1 (Some p1_0) ∷ asking 0 0 0 0 (Some p1_0) ∷ []) ∷ []

-- a sender's first packet has number 1
abbrev pub number_left_out : List Event
number_left_out = offered p0_1 Accepted ∷ []

-- a sender's first packet is refused, though its queue is empty
abbrev pub refused_early : List Event
refused_early = offered p1_0 (Refused p1_0) ∷ []

-- the second queue gives a packet that was never offered to it
abbrev pub never_sent : List Event
never_sent = pulled 0 0 (asking 0 0 1 0 None ∷ asking 0 0 1 1 (Some p1_0) ∷ asking 0 0 0 0 (Some p1_0) ∷ []) ∷ []

-- the third packet at a queue of two is refused, and the refusal names another packet
abbrev pub other_refused : List Event
other_refused = offered p0_0 Accepted ∷ offered p0_1 Accepted ∷ offered (packet 0 2 100 (lit≤ tt) (lit≤ tt)) (Refused p0_1) ∷ []

-- Over `two_devices`: each device gives the packet of the other.
abbrev pub swapped : List Event
swapped =
    offered p0_0 Accepted ∷ offered p1_0 Accepted ∷ pulled 0 0 (asking 0 0 0 0 (Some p1_0) ∷ []) ∷ pulled 1 0 (asking 0 0 0 0 (Some p0_0) ∷ []) ∷ []

-- Over `two_devices`: a pull of one device at moment 3 follows a pull of the other at moment 5, and is counted at 5.
abbrev pub moment_shared : List Event
moment_shared = pulled 0 5 (asking 0 5 0 0 None ∷ []) ∷ pulled 1 3 (asking 0 5 0 0 None ∷ []) ∷ []

-- Over `two_devices`: a third device is pulled.
abbrev pub no_device : List Event
no_device = pulled 2 0 (asking 0 0 0 0 None ∷ []) ∷ []

-- one packet is left
abbrev pub one_left : List Event
one_left = offered p1_0 Accepted ∷ []

-- the visits of pull `k` at moment `t`, in which the second queue gives this
abbrev finds : Option Packet → ℕ → ℕ → List Visit
finds got k t = asking k t 1 0 None ∷ asking k t 1 1 got ∷ asking k t 0 0 got ∷ []

-- a drain from moment 4 on of the one packet that is left: one pull, at moment 5
abbrev pub closed_at_once : List Event
closed_at_once = pulled 0 5 (finds (Some p1_0) 0 5) ∷ []

-- no pull, though a packet is left
abbrev pub closed_without_a_pull : List Event
closed_without_a_pull = []

-- a pull at moment 4, a tick early
abbrev pub closed_a_tick_early : List Event
closed_a_tick_early = pulled 0 4 (finds (Some p1_0) 0 4) ∷ []

-- a further pull after the last packet
abbrev pub closed_a_pull_late : List Event
closed_a_pull_late = pulled 0 5 (finds (Some p1_0) 0 5) ∷ pulled 0 6 (finds None 1 6) ∷ []

-- Over `two_devices`: one packet is left at each.
abbrev pub one_at_each : List Event
one_at_each = offered p0_0 Accepted ∷ offered p1_0 Accepted ∷ []

-- a drain of both devices from moment 4 on: one pull of each, at moment 5
abbrev pub closed_in_turn : List Event
closed_in_turn = pulled 0 5 (asking 0 5 0 0 (Some p0_0) ∷ []) ∷ pulled 1 5 (asking 0 5 0 0 (Some p1_0) ∷ []) ∷ []

-- both devices are drained, but the last one first
abbrev pub closed_last_first : List Event
closed_last_first = pulled 1 5 (asking 0 5 0 0 (Some p1_0) ∷ []) ∷ pulled 0 5 (asking 0 5 0 0 (Some p0_0) ∷ []) ∷ []

-- both devices are drained, but the second from where the first left off
abbrev pub closed_on : List Event
closed_on = pulled 0 5 (asking 0 5 0 0 (Some p0_0) ∷ []) ∷ pulled 1 6 (asking 0 6 0 0 (Some p1_0) ∷ []) ∷ []

-- Over `two_devices`: sender 1 offers a packet, the first device gives none, and the second gives that packet, at this moment.
abbrev pub pulled_at : ℕ → List Event
pulled_at moment = offered p1_0 Accepted ∷ pulled 0 3 (asking 0 3 0 0 None ∷ []) ∷ pulled 1 moment (asking 0 moment 0 0 (Some p1_0) ∷ []) ∷ []

-- a setup with one sender, whose number no line can hold
abbrev pub great_sender : Setup
great_sender = record {
  trees = queue 0 ∷ [];
  queues = record { kind = TailDrop; capacity = 2; device = 0 } ∷ [];
  senders = record { number = 65536; queue = 0 } ∷ [];
  names = codes "s" ∷ [];
}

-- that sender offers a packet
abbrev pub from_great : List Event
from_great = offered (packet 65536 0 100 (lit≤ tt) (lit≤ tt)) Accepted ∷ []

-- the result of a call that fails with this fault
abbrev pub failed : Fault → Result (Unit {0}) Fault
failed fault = Err fault

-- a pull of device 0 at moment 3
abbrev pub one_pull : List Command
one_pull = Pull 0 3 ∷ []

-- a writer of a record that holds these bytes, after so many lines
abbrev pub holding : List ℕ → ℕ → ScriptWriter
holding bytes lines = record { held = bytes; lines = lines; ended = false }
