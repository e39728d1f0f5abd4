-- Which queue fault 21 names: the first that lost packets below its capacity.
use Rattle.std.specs.Prelude.{◌≡◌, ◌<◌, ◌≤◌, List, ◌∷◌, ◌++◌}
use Rattle.std.specs.List.{AllByRecursion}
use Rattle.clk_packet.specs.declared.packet.Packet.{Packet}
use Rattle.clk_packet.specs.declared.fault.Fault.{Fault}
use Rattle.clk_packet.specs.declared.fault.Fault.TheVariants.{Unsettled}
use Rattle.clk_ruled.specs.Queue.{SeatLists}
use Rattle.clk_ruled.specs.Settle.{accepted_count, lost_count, HasLostBelow}
use Rattle.clk_tree.specs.PlanParts.{SharedQueue}

-- a queue, with the lists of its seats
pub record SeatedQueue : Type 0 where
  pub queue : SharedQueue
  pub seats : List SeatLists

-- A queue lost packets only if it accepted at least as many as it may hold.
abbrev pub HasReached : SeatedQueue → Type 0
HasReached s = 0 < lost_count s.seats → s.queue.capacity ≤ accepted_count s.seats

-- Fault 21 names the first of these queues that lost packets although it accepted fewer than it may hold. The fault has the queue's number,
-- how many packets it accepted, and its capacity.
pub record NamesFirstLost (queues : List SeatedQueue) (fault : Fault) : Type 0 where
  pub earlier : List SeatedQueue
  pub first : SeatedQueue
  pub later : List SeatedQueue
  pub all : queues ≡ earlier ++ first ∷ later
  pub reached : AllByRecursion HasReached earlier
  -- the lists of its seats, with these packets taken, show that it lost packets below its capacity
  pub taken : List Packet
  pub below : HasLostBelow first.queue.kind first.queue.capacity first.queue.senders first.seats taken
  pub fault_is : fault ≡ Unsettled first.queue.leaf (accepted_count first.seats) first.queue.capacity
