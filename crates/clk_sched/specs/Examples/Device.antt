-- A log of the device over a queue, and some that are no runs.
use Rattle.std.specs.Prelude.{List, [], ◌∷◌, Some, None, true, false}
use Rattle.std.proofs.Common.{lit≤}
use Rattle.clk_sched.specs.declared.visit.Visit.{Visit}
use Rattle.clk_sched.specs.Tree.{Tree, queue}
use Rattle.clk_sched.specs.Log.{asking}
use Rattle.clk_packet.specs.Packets.{packet}
use Rattle.clk_sched.specs.Examples.{look}
use Rattle.clk_packet.specs.declared.packet.Packet.{Packet}

-- packet 0 of sender 0, of 10 bytes
abbrev pub p0_0 : Packet
p0_0 = packet 0 0 10 (lit≤ tt) (lit≤ tt)

-- A queue gives a packet, and then none.
abbrev pub one_queue : List Visit
one_queue = asking 0 0 0 0 (Some p0_0) ∷ asking 1 5 0 0 None ∷ []

abbrev pub one_queue_tree : Tree
one_queue_tree = queue 0

-- the device keeps the packet back
abbrev pub device_keeps : List Visit
device_keeps = look 0 0 0 0 true (Some p0_0) false ∷ asking 1 5 0 0 None ∷ []

-- the device asks an input that it doesn't have
abbrev pub device_asks_beside : List Visit
device_asks_beside = asking 0 0 0 0 (Some p0_0) ∷ asking 1 5 0 1 None ∷ []

-- the moment falls from the first pull to the second
abbrev pub moment_falls : List Visit
moment_falls = asking 0 5 0 0 (Some p0_0) ∷ asking 1 0 0 0 None ∷ []

-- the moment falls from the second pull to the third, though not below the first's
abbrev pub moment_falls_later : List Visit
moment_falls_later = asking 0 0 0 0 (Some p0_0) ∷ asking 1 5 0 0 None ∷ asking 2 3 0 0 None ∷ []

-- the second pull has the third's number, so that no visit is left for the second
abbrev pub pull_left_out : List Visit
pull_left_out = asking 0 0 0 0 (Some p0_0) ∷ asking 2 5 0 0 None ∷ []

-- the device asks twice in the first pull, and not in the second
abbrev pub device_asks_twice : List Visit
device_asks_twice = asking 0 0 0 0 None ∷ asking 0 0 0 0 (Some p0_0) ∷ []

-- a visit by a scheduler that isn't there
abbrev pub unknown_node : List Visit
unknown_node = asking 0 0 0 0 (Some p0_0) ∷ asking 0 0 7 0 None ∷ []
