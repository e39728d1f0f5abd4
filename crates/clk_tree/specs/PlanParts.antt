-- The senders and the queues of a plan (their numbers as this project chose them).
use Rattle.std.specs.Prelude.{◌≡◌, ℕ, ◌+◌, ◌<◌, ◌≤◌, List, [], ◌∷◌, map, take, filter, nat_lt, ◌==◌, Bool, false, if◌then◌else◌, Option, Some, None}
use Rattle.std.specs.Option.{option_map}
use Rattle.std.specs.List.{filter_map, enumerate_from}
use Rattle.clk_packet.specs.declared.limits.TheConstants.{MAX_SENDER, MAX_CAPACITY}
use Rattle.clk_packet.specs.declared.packet.Kind.{Kind}
use Rattle.clk_packet.specs.Lists.{stands_in}
use Rattle.clk_sched.specs.Sorting.{sorted}
use Rattle.clk_syntax.specs.Classes.{Class, sender, queue}
use Rattle.clk_tree.specs.declared.plan.parts.QueueSpec.{QueueSpec}
use Rattle.clk_tree.specs.declared.plan.parts.SenderSpec.{SenderSpec}
use Rattle.clk_tree.specs.Plan.{Planned, Denotes}
use Rattle.clk_tree.specs.PlanTree.{is_queue, queue_count, device_sources}
use Rattle.clk_tree.specs.PlanPaths.{device_of}

-- The number of the queue to which an element is connected: queues are numbered from 0 in order of declaration.
abbrev pub queue_fed : List Planned → ℕ → ℕ
queue_fed [] i = 0
queue_fed (e ∷ more) i =
    if is_queue e.class then (if stands_in i e.sources then 0 else queue_fed more i + 1) else queue_fed more i

-- the sender that stands at a place, if the element there is one
abbrev pub sender_of : List Planned → ℕ → Class → Option SenderSpec
sender_of plan i (sender n) = Some (record { number = n; queue = queue_fed plan i })
sender_of plan i class = None

-- the senders of a plan, by rising number
abbrev pub senders_of : List Planned → List SenderSpec
senders_of plan =
    sorted (λ (s t : SenderSpec). nat_lt s.number t.number) (filter_map (λ (e : ℕ × Planned). sender_of plan e.0 e.1.class) (enumerate_from 0 plan))

-- the number of a sender
abbrev pub number_of : SenderSpec → ℕ
number_of s = s.number

-- whether a class is that of the sender of this number
abbrev pub is_sender : ℕ → Class → Bool
is_sender n (sender m) = m == n
is_sender n class = false

-- the name of the first element that is the sender of this number; of none, if there is none
abbrev pub name_of_sender : ℕ → List Planned → List ℕ
name_of_sender n [] = []
name_of_sender n (e ∷ more) = if is_sender n e.class then e.name else name_of_sender n more

-- the names of the senders of a plan, by rising number
abbrev pub sender_names : List Planned → List (List ℕ)
sender_names plan = map (λ (s : SenderSpec). name_of_sender s.number plan) (senders_of plan)

-- a queue that senders share: its number, by which it is a leaf of a tree, its kind, how many packets it holds at most, and who sends to it
pub record SharedQueue : Type 0 where
  pub leaf : ℕ
  pub kind : Kind
  pub capacity : ℕ
  pub senders : List ℕ

-- the queue that stands at a place, if the element there is one
abbrev pub shared_queue : List Planned → ℕ → Class → Option SharedQueue
shared_queue plan i (queue kind capacity) = Some (record {
  leaf = queue_count (take i plan);
  kind = kind;
  capacity = capacity;
  senders = map number_of (filter (λ (s : SenderSpec). s.queue == queue_count (take i plan)) (senders_of plan));
})
shared_queue plan i class = None

-- the queues of a plan, by their numbers: in order of declaration
abbrev pub shared_queues : List Planned → List SharedQueue
shared_queues plan = filter_map (λ (e : ℕ × Planned). shared_queue plan e.0 e.1.class) (enumerate_from 0 plan)

-- a queue of a plan with the number of the device at the end of its path: its place among all queues is its number
pub record Queued : Type 0 where
  pub kind : Kind
  pub capacity : ℕ
  pub senders : List ℕ
  pub device : ℕ

abbrev pub queued : QueueSpec → Queued
queued q = record { kind = q.kind; capacity = q.capacity; senders = q.senders.items; device = q.device }

-- the queue that stands at a place, if the element there is one, with its device
abbrev pub queue_of : List Planned → ℕ → Class → Option Queued
queue_of plan i class =
    option_map (λ (q : SharedQueue). record { kind = q.kind; capacity = q.capacity; senders = q.senders; device = device_of plan i }) (shared_queue plan i class)

-- such a queue without its device, and with its number
abbrev pub shared_at : ℕ → Queued → SharedQueue
shared_at leaf q = record { leaf = leaf; kind = q.kind; capacity = q.capacity; senders = q.senders }

-- the queues of a plan, each with its device
abbrev pub queues_of : List Planned → List Queued
queues_of plan = filter_map (λ (e : ℕ × Planned). queue_of plan e.0 e.1.class) (enumerate_from 0 plan)

-- there is a queue, and the path from it ends at this device
abbrev pub leads_to : ℕ → Option Queued → Bool
leads_to d None = false
leads_to d (Some q) = q.device == d

-- a queue whose capacity is within the limits
abbrev pub HasCapacity : Queued → Type 0
HasCapacity q = (1 ≤ q.capacity) × (q.capacity ≤ MAX_CAPACITY)

-- a sender whose number is within the limits
abbrev pub HasNumber : SenderSpec → Type 0
HasNumber s = s.number ≤ MAX_SENDER

-- a sender whose queue is one of so many
abbrev pub SendsWithin : ℕ → SenderSpec → Type 0
SendsWithin count s = s.queue < count

-- What a plan keeps: some text denotes it, one of these elements is connected to each of its devices, and these are its queues and senders.
pub record IsKept (plan : List Planned) (tops : List ℕ) (queues : List Queued) (senders : List SenderSpec) : Type 0 where
  pub denoted : (text : List ℕ) × Denotes text plan
  pub sources : device_sources plan ≡ map (λ top. top ∷ []) tops
  pub queues_are : queues ≡ queues_of plan
  pub senders_are : senders ≡ senders_of plan
