-- The elements of a plan from a place on, as the code goes through them.
use Rattle.std.specs.Prelude.{ℕ, List}
use Rattle.std.specs.List.{filter_map, enumerate_from}
use Rattle.clk_tree.specs.declared.plan.parts.SenderSpec.{SenderSpec}
use Rattle.clk_tree.specs.Plan.{Planned}
use Rattle.clk_tree.specs.PlanParts.{SharedQueue, Queued, sender_of, shared_queue, queue_of}

-- the senders of a plan among the elements from a place on, in order of declaration
abbrev pub senders_from : List Planned → ℕ → List Planned → List SenderSpec
senders_from plan i more = filter_map (λ (e : ℕ × Planned). sender_of plan e.0 e.1.class) (enumerate_from i more)

-- the queues of a plan among the elements from a place on, in order of declaration
abbrev pub queues_from : List Planned → ℕ → List Planned → List Queued
queues_from plan i more = filter_map (λ (e : ℕ × Planned). queue_of plan e.0 e.1.class) (enumerate_from i more)

-- the same queues without their devices
abbrev pub shared_from : List Planned → ℕ → List Planned → List SharedQueue
shared_from plan i more = filter_map (λ (e : ℕ × Planned). shared_queue plan e.0 e.1.class) (enumerate_from i more)
