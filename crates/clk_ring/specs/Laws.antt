-- What is proved of histories of queues.
use Rattle.std.specs.Prelude.{◌≡◌, ℕ, List, [], ◌∷◌, ◌++◌, Option}
use Rattle.clk_packet.specs.declared.packet.Packet.{Packet}
use Rattle.clk_packet.specs.declared.packet.Kind.{Kind}
use Rattle.clk_packet.specs.declared.packet.Offered.{Offered}
use Rattle.clk_ring.specs.Queue.{Queue, empty_queue, IsOffered, IsPulled}
use Rattle.clk_ring.specs.QueueHistory.{QueueEvent, IsQueueHistory, held, offer_events, pull_event, NamesOffer}

-- These events lead to this queue: they are a history of its kind and capacity, and it holds what they leave held.
pub record LeadsTo (events : List QueueEvent) (q : Queue) : Type 0 where
  pub whole : IsQueueHistory q.kind q.capacity events
  pub holds : held events ≡ q.packets

-- Calls on a queue, one after another from when it is made, are a history of it.
pub record CallsAreHistory : Type 0 where
  pub made : (kind : Kind) (capacity : ℕ) → LeadsTo [] (empty_queue kind capacity)
  pub offered : (events : List QueueEvent) (old new : Queue) (p : Packet) (outcome : Offered) → LeadsTo events old → IsOffered old p outcome new → LeadsTo (events ++ offer_events p outcome) new
  pub pulled : (events : List QueueEvent) (old new : Queue) (got : Option Packet) → LeadsTo events old → IsPulled old got new → LeadsTo (events ++ pull_event got ∷ []) new

-- A history that goes on by what an offer or a pull adds goes on by such a call: the queue that it led to takes this step to the one that
-- it leads to.
pub record HistoriesAreCalls : Type 0 where
  pub offered : (events : List QueueEvent) (old new : Queue) (p : Packet) (outcome : Offered) → NamesOffer p outcome → new.kind ≡ old.kind → new.capacity ≡ old.capacity
      → LeadsTo events old → LeadsTo (events ++ offer_events p outcome) new → IsOffered old p outcome new
  pub pulled : (events : List QueueEvent) (old new : Queue) (got : Option Packet) → new.kind ≡ old.kind → new.capacity ≡ old.capacity
      → LeadsTo events old → LeadsTo (events ++ pull_event got ∷ []) new → IsPulled old got new

-- A history leaves nothing to choose: the outcome of an offer and the result of a pull follow from what happened before, whatever happens
-- after.
pub record HistoriesLeaveNoChoice : Type 0 where
  pub outcomes : (kind : Kind) (capacity : ℕ) (events : List QueueEvent) (p : Packet) (one other : Offered) (more rest : List QueueEvent) → NamesOffer p one → NamesOffer p other
      → IsQueueHistory kind capacity (events ++ (offer_events p one ++ more)) → IsQueueHistory kind capacity (events ++ (offer_events p other ++ rest)) → one ≡ other
  pub answers : (kind : Kind) (capacity : ℕ) (events : List QueueEvent) (one other : Option Packet) (more rest : List QueueEvent)
      → IsQueueHistory kind capacity (events ++ pull_event one ∷ more) → IsQueueHistory kind capacity (events ++ pull_event other ∷ rest) → one ≡ other
