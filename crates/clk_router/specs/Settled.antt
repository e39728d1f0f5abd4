-- Where the packets of each sender are, and that all are settled once none is left (this project's own definitions).
use Rattle.std.specs.Prelude.{◌≡◌, ℕ, ◌+◌, ◌<◌, ◌==◌, ◌&&◌, nat_lt, Bool, true, false, List, [], ◌++◌, length, Option, Some, None, MatchOption, ⊤, slice_get}
use Rattle.std.specs.List.{filter_map, list_any, AllByRecursion}
use Rattle.clk_packet.specs.declared.packet.Packet.{Packet}
use Rattle.clk_packet.specs.declared.packet.Kind.TheVariants.{TailDrop, FrontDrop}
use Rattle.clk_packet.specs.Dealt.{packet_numbers, IsDealt, IsTallyOf}
use Rattle.clk_packet.specs.Lists.{of_sender, stands_in, are_distinct}
use Rattle.clk_ring.specs.QueueHistory.{held}
use Rattle.clk_sched.specs.Tree.{Tree}
use Rattle.clk_sched.specs.Run.{IsRun}
use Rattle.clk_sched.specs.Results.{emitted, heads}
use Rattle.clk_tree.specs.declared.plan.parts.SenderSpec.{SenderSpec}
use Rattle.clk_router.specs.Course.{Course, accepted_at, evicted_at, emitted_at}
use Rattle.clk_router.specs.Events.{Room, Setup, Event, offered, pulled, is_of_device, events_at, log_of, emitted_in, history, tally_after}

-- the packet that an event offered
abbrev pub offered_in : Event → Option Packet
offered_in (offered p outcome) = Some p
offered_in (pulled device moment visits) = None

-- the packets that a sender offered, in order
abbrev pub offered_of : List Event → ℕ → List Packet
offered_of events s = of_sender s (filter_map offered_in events)

-- the packets that a device emitted, in order
abbrev pub emitted_by : Setup → ℕ → List Event → List Packet
emitted_by setup d events = emitted (log_of (events_at setup d events))

-- Each packet of a sender was refused, evicted or emitted by the device of its queue, or is held back in that device's tree, or held by the
-- queue. The sender sends to the queue `room`, whose device has this tree.
pub record IsSenderAccounted (setup : Setup) (events : List Event) (s : SenderSpec) (room : Room) (tree : Tree) : Type 0 where
  -- the packets of the sender that the queue no longer holds, and those of them that it gave to the tree
  pub gone : List Packet
  pub given : List Packet
  -- each packet offered was accepted or refused
  pub offered_are : IsDealt (offered_of events s.number) (tally_after events s.number).accepted (tally_after events s.number).refused
  -- of those accepted, the first are gone from the queue, and the queue holds the others
  pub accepted_are : (tally_after events s.number).accepted ≡ gone ++ of_sender s.number (held (history setup s.queue events))
  -- each packet that is gone was evicted or given
  pub gone_are : IsDealt gone (tally_after events s.number).evicted given
  -- of those given, the first were emitted, and the tree holds the others
  pub given_are : given ≡ of_sender s.number (emitted_by setup room.device events) ++ of_sender s.number (heads tree (log_of (events_at setup room.device events)))
  -- no other device emitted a packet of the sender
  pub elsewhere : (d : ℕ) → (room.device == d) ≡ false → of_sender s.number (emitted_by setup d events) ≡ []
  -- the packets of the sender that all pulls emitted are those that its own device emitted
  pub counted : of_sender s.number (filter_map emitted_in events) ≡ of_sender s.number (emitted_by setup room.device events)
  -- only a FrontDropQueue evicts, and only a Queue refuses
  pub tail_drop : room.kind ≡ TailDrop → (tally_after events s.number).evicted ≡ []
  pub front_drop : room.kind ≡ FrontDrop → (tally_after events s.number).refused ≡ []

-- Each sender of a setup is accounted for (`IsSenderAccounted`): it sends to a queue of the setup, whose device has a tree.
abbrev pub IsCourseAccounted : Setup → List Event → Type 0
IsCourseAccounted setup events =
    AllByRecursion (λ (s : SenderSpec). MatchOption (slice_get setup.queues s.queue) ⊥ (λ (room : Room). MatchOption (slice_get setup.trees room.device) ⊥ (IsSenderAccounted setup events s room))) setup.senders

-- Each packet that a sender offered was refused, evicted, or emitted by the device of its queue. It sends to the queue `room`, and no other
-- device emitted a packet of it.
pub record IsSenderSettled (setup : Setup) (events : List Event) (s : SenderSpec) (room : Room) : Type 0 where
  pub tally : IsTallyOf (offered_of events s.number) (of_sender s.number (emitted_by setup room.device events)) room.kind (tally_after events s.number)
  pub elsewhere : (d : ℕ) → (room.device == d) ≡ false → of_sender s.number (emitted_by setup d events) ≡ []

-- whether the sender of this number sends to a queue of a device
abbrev pub sends_at : Setup → ℕ → ℕ → Bool
sends_at setup d s = list_any (λ (x : SenderSpec). (x.number == s) && is_of_device setup.queues d x) setup.senders

-- A device is settled: its log is a run of its tree, the tree holds no packet, and what it emitted is of the senders of its queues.
pub record IsTreeSettled (setup : Setup) (events : List Event) (d : ℕ) (tree : Tree) : Type 0 where
  pub run : IsRun tree (log_of (events_at setup d events))
  pub no_heads : heads tree (log_of (events_at setup d events)) ≡ []
  pub own : AllByRecursion (λ (p : Packet). sends_at setup d p.sender ≡ true) (emitted_by setup d events)

-- All devices and all senders of a setup are settled.
pub record IsCourseSettled (setup : Setup) (events : List Event) : Type 0 where
  pub devices : (d : ℕ) → MatchOption (slice_get setup.trees d) ⊤ (IsTreeSettled setup events d)
  pub senders : AllByRecursion (λ (s : SenderSpec). MatchOption (slice_get setup.queues s.queue) ⊥ (IsSenderSettled setup events s)) setup.senders

-- No packet is left for any device: each packet that was accepted there was evicted or emitted.
pub record IsDrained (c : Course) : Type 0 where
  pub none_left : (d : ℕ) → d < length c.setup.trees → accepted_at c d ≡ evicted_at c d + emitted_at c d

-- the packets of a sender that are out of the router: those refused, those evicted, and those that its device emitted
abbrev pub out_of : Setup → List Event → SenderSpec → Room → List Packet
out_of setup events s room = (tally_after events s.number).refused ++ ((tally_after events s.number).evicted ++ of_sender s.number (emitted_by setup room.device events))

-- Each packet of a sender is out of the router once at most, and only if it was offered.
pub record IsOutOnce (setup : Setup) (events : List Event) (s : SenderSpec) (room : Room) : Type 0 where
  pub once : are_distinct (packet_numbers (out_of setup events s room)) ≡ true
  pub was_offered : (n : ℕ) → stands_in n (packet_numbers (out_of setup events s room)) ≡ true → n < length (offered_of events s.number)

-- Each packet that a sender offered is out of the router, and none that it didn't offer is.
abbrev pub IsAllOut : Setup → List Event → SenderSpec → Room → Type 0
IsAllOut setup events s room = (n : ℕ) → stands_in n (packet_numbers (out_of setup events s room)) ≡ nat_lt n (length (offered_of events s.number))

-- Each packet of each sender of a setup is out of the router once at most (`IsOutOnce`).
abbrev pub AreOutOnce : Setup → List Event → Type 0
AreOutOnce setup events = AllByRecursion (λ (s : SenderSpec). MatchOption (slice_get setup.queues s.queue) ⊥ (IsOutOnce setup events s)) setup.senders

-- Each packet that a sender of a setup offered is out of the router (`IsAllOut`).
abbrev pub AreAllOut : Setup → List Event → Type 0
AreAllOut setup events = AllByRecursion (λ (s : SenderSpec). MatchOption (slice_get setup.queues s.queue) ⊥ (IsAllOut setup events s)) setup.senders
