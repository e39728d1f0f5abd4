-- Whether a pull could emit a packet after worked logs, and due moments that are none.
use Rattle.std.specs.Prelude.{ℕ, nat_le, Bool, true, false, List, [], ◌∷◌, Some, ◌==◌}
use Rattle.std.proofs.Common.{lit≤}
use Rattle.clk_packet.specs.Packets.{packet}
use Rattle.clk_packet.specs.declared.packet.Packet.{Packet}
use Rattle.clk_sched.specs.declared.visit.Visit.{Visit}
use Rattle.clk_sched.specs.Log.{asking}
use Rattle.clk_packet.specs.Scheduler.{prio, shaper}
use Rattle.clk_sched.specs.Tree.{Tree, end, leaf, node, scheduler}

-- no queue is backlogged
abbrev pub none : ℕ → Bool
none q = false

-- queue 0 alone is backlogged
abbrev pub first : ℕ → Bool
first q = q == 0

-- queue 1 alone is backlogged
abbrev pub second : ℕ → Bool
second q = q == 1

-- every queue is backlogged
abbrev pub each : ℕ → Bool
each q = true

-- packet 0 of sender 0, of 10 bytes
abbrev pub p0_0 : Packet
p0_0 = packet 0 0 10 (lit≤ tt) (lit≤ tt)

-- A PrioSched over a Shaper of rate 1 and burst 1, and over a queue. The Shaper has just let a packet through.
abbrev pub just_let_through : List Visit
just_let_through = asking 0 4 2 0 (Some p0_0) ∷ asking 0 4 1 0 (Some p0_0) ∷ asking 0 4 0 0 (Some p0_0) ∷ []

abbrev pub beside_a_queue : Tree
beside_a_queue = scheduler prio (node (shaper 1 1) (leaf 0 end) (leaf 1 end))

-- what is possible from moment 3 on
abbrev pub from_three : ℕ → Bool
from_three moment = nat_le 3 moment

-- what is never possible
abbrev pub never : ℕ → Bool
never moment = false
