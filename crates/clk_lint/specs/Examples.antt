-- A small plan and a trace, for worked examples.
use Rattle.std.specs.Prelude.{ℕ, true, false, List, [], ◌∷◌, codes}
use Rattle.std.proofs.Common.{lit≤}
use Rattle.clk_packet.specs.declared.packet.Packet.{Packet}
use Rattle.clk_packet.specs.declared.packet.Kind.TheVariants.{TailDrop}
use Rattle.clk_packet.specs.Packets.{packet}
use Rattle.clk_packet.specs.Scheduler.{prio, drr}
use Rattle.clk_syntax.specs.Classes.{Class, sender, queue, scheduler, device}
use Rattle.clk_tree.specs.Plan.{Planned}
use Rattle.clk_lint.specs.Warnings.{Spot}

-- element 3, which a PrioSched prefers to another input
abbrev pub preferred : Spot
preferred = record { place = 3; preferred = true }

-- element 3, which none prefers
abbrev pub plain : Spot
plain = record { place = 3; preferred = false }

-- an element of this class, to which these are connected
abbrev pub element : Class → List ℕ → Planned
element class sources = record { name = codes "x"; class = class; sources = sources }

-- a queue of two packets below a DRRSched, and a queue that nobody sends to, at these inputs of a PrioSched
abbrev pub plan_over : List ℕ → List Planned
plan_over inputs =
    element (sender 0) [] ∷ element (queue TailDrop 2) (0 ∷ []) ∷ element (scheduler (drr (9 ∷ []))) (1 ∷ []) ∷ element (queue TailDrop 5) []
    ∷ element (scheduler prio) inputs ∷ element (device (codes "y")) (4 ∷ []) ∷ []

-- two queues, of a sender each, below a DRRSched that gives each of them 9 bytes
abbrev pub shared : List Planned
shared =
    element (sender 0) [] ∷ element (sender 1) [] ∷ element (queue TailDrop 2) (0 ∷ []) ∷ element (queue TailDrop 2) (1 ∷ [])
    ∷ element (scheduler (drr (9 ∷ []))) (2 ∷ 3 ∷ []) ∷ element (device (codes "y")) (4 ∷ []) ∷ []

-- a packet of sender 0, of 9 bytes
abbrev pub short : ℕ → Packet
short number = packet 0 number 9 (lit≤ tt) (lit≤ tt)

-- a packet of sender 1, of 10 bytes
abbrev pub long : ℕ → Packet
long number = packet 1 number 10 (lit≤ tt) (lit≤ tt)

-- three packets of sender 0
abbrev pub three : List (List Packet)
three = (short 0 ∷ short 1 ∷ short 2 ∷ []) ∷ []

-- a packet of 9 bytes of sender 0, and one of 10 bytes of sender 1
abbrev pub both : List (List Packet)
both = (short 0 ∷ []) ∷ (long 0 ∷ []) ∷ []
