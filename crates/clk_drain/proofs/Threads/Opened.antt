-- What is known of all devices of a plan once they were opened.
use Rattle.std.proofs.Common.{ℕ, suc, List, [], ◌∷◌, Vec, rules}
use Rattle.std.specs.declared.alloc.Global.{Global}
use Rattle.clk_packet.specs.declared.packet.Packet.{Packet}
use Rattle.clk_ruled.specs.Queue.{SeatLists}
use Rattle.clk_tree.specs.Plan.{Planned}
use Rattle.clk_tree.specs.PlanParts.{queues_of}
use Rattle.clk_drain.specs.declared.running.opening.LeafQueue.{LeafQueue}
use Rattle.clk_drain.specs.inside.Threads.{Terms, EndLists}
use Rattle.clk_drain.specs.inside.Handed.{FitPlaces, AreAllUnused, IsUnpulledOver}
use Rattle.clk_drain.specs.Opening.{queues_at}
use Rattle.clk_drain.specs.inside.Devices.{AreOpenFrom}
use Rattle.clk_drain.proofs.Threads.Handing.{unused-open, unpulled-open}
use Rattle.clk_drain.proofs.Plans.QueuesAt.{rise-at}

-- No seat was used.
pub unused-opened : (plan : List Planned) (terms : Terms) (device end : ℕ) (queues : List (Vec LeafQueue Global)) (seats : List (Vec (Vec SeatLists Global) Global)) (ends : List EndLists) → AreOpenFrom plan terms.traces device end queues seats ends → FitPlaces (AreAllUnused terms) seats queues
unused-opened plan terms device end [] [] [] h = tt
unused-opened plan terms device end (q ∷ queues) (s ∷ seats) (e ∷ ends) h = search (rules, unused-open, (unused-opened plan terms (suc device) end queues seats ends h.1))
unused-opened plan terms device end queues seats ends h = absurd h

-- No session was pulled.
pub unpulled-opened : (plan : List Planned) (traces : List (List Packet)) (device end : ℕ) (queues : List (Vec LeafQueue Global)) (seats : List (Vec (Vec SeatLists Global) Global)) (ends : List EndLists) → AreOpenFrom plan traces device end queues seats ends → FitPlaces IsUnpulledOver ends queues
unpulled-opened plan traces device end [] [] [] h = tt
unpulled-opened plan traces device end (q ∷ queues) (s ∷ seats) (e ∷ ends) h =
    (unpulled-open traces (queues_at device 0 (queues_of plan)) q s.items e h.0.none (rise-at device 0 (queues_of plan)) h.0.leaves_are h.0.opened, unpulled-opened plan traces (suc device) end queues seats ends h.1)
unpulled-opened plan traces device end queues seats ends h = absurd h
