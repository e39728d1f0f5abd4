-- What a run opens before its threads start, and with how much room.
use Rattle.std.specs.Prelude.{◌≡◌, ℕ, ◌++◌, List, [], ◌∷◌, length, map, ⊤, Vec}
use Rattle.std.specs.declared.alloc.Global.{Global}
use Rattle.clk_packet.specs.declared.packet.Packet.{Packet}
use Rattle.clk_packet.specs.Trace.{sent_by}
use Rattle.clk_ruled.specs.declared.view.QueueSetup.{QueueSetup}
use Rattle.clk_ruled.specs.Queue.{SeatLists, TapLists, IsOpened, setup_of}
use Rattle.clk_drain.specs.declared.running.opening.LeafQueue.{LeafQueue}
use Rattle.clk_drain.specs.declared.running.opening.OpenQueues.{OpenQueues}
use Rattle.clk_tree.specs.PlanParts.{SharedQueue}

-- how many packets each of these senders may offer: all that it sends
abbrev pub rooms_for : List (List Packet) → List ℕ → List (ℕ × ℕ)
rooms_for traces senders = map (λ s. (s, length (sent_by traces s))) senders

-- the setup of a queue whose senders may offer all that they send
abbrev pub setup_for : List (List Packet) → SharedQueue → QueueSetup
setup_for traces q = setup_of q.kind q.capacity (rooms_for traces q.senders)

-- The queue at a leaf, its tap and its seats were opened, with room for all that is sent to it.
abbrev pub IsOpenAs : List (List Packet) → SharedQueue → LeafQueue → TapLists → List SeatLists → Type 0
IsOpenAs traces q at tap seats = (at.leaf ≡ q.leaf) × IsOpened (setup_for traces q) at.queue seats tap

-- Each of these queues, its tap and its seats were opened at its leaf, in order, with room for all that is sent to it.
abbrev pub AreOpenAs : List (List Packet) → List SharedQueue → List LeafQueue → List TapLists → List (Vec SeatLists Global) → Type 0
AreOpenAs traces [] [] [] [] = ⊤
AreOpenAs traces (q ∷ shared) (at ∷ queues) (t ∷ taps) (s ∷ seats) = IsOpenAs traces q at t s.items × AreOpenAs traces shared queues taps seats
AreOpenAs traces shared queues taps seats = ⊥

-- One more queue was opened, after those that were opened before.
pub record IsAdded (traces : List (List Packet)) (q : SharedQueue) (old new : OpenQueues) : Type 0 where
  pub at : LeafQueue
  pub tap : TapLists
  pub seats : Vec SeatLists Global
  pub opened : IsOpenAs traces q at tap seats.items
  pub queues_are : new.queues.items ≡ old.queues.items ++ at ∷ []
  pub taps_are : new.taps.items ≡ old.taps.items ++ tap ∷ []
  pub seats_are : new.seats.items ≡ old.seats.items ++ seats ∷ []
