-- Where nothing is left for a device, its queues and its tree hold no packet. So a course is settled where nothing is left for any device.
use Rattle.std.proofs.Common.{◌≡◌, ℕ, ◌+◌, ◌<◌, ◌==◌, true, List, [], ◌∷◌, length, Option, Some, None, MatchOption, slice_get, refl, sym, ap, ◌∙◌, subst, arith, rules}
use Rattle.std.specs.Bool.{⊤}
use Rattle.std.specs.List.{filter_map, AllByRecursion}
use Rattle.std.proofs.lemmas.Bool.{false≢true}
use Rattle.std.proofs.lemmas.Bool.Decides.{nat_tests}
use Rattle.std.proofs.lemmas.Option.{slice_get_within}
use Rattle.clk_packet.specs.Lists.{stands_in}
use Rattle.clk_packet.proofs.Callers.Lists.{all-both}
use Rattle.clk_ring.specs.QueueHistory.{QueueEvent, held, IsInOrder, IsQueueHistory}
use Rattle.clk_sched.specs.Tree.{Tree, root, leaves, leaves_distinct}
use Rattle.clk_sched.specs.Run.{IsRun}
use Rattle.clk_sched.specs.Results.{emitted, heads}
use Rattle.clk_sched.specs.Conservation.{ConservesPackets, ConservesCounts, MakesNothing}
use Rattle.clk_sched.specs.Closing.{held_in_all, left_in}
use Rattle.clk_sched.proofs.Callers.Lists.{all-weaker}
use Rattle.clk_tree.specs.declared.plan.parts.SenderSpec.{SenderSpec}
use Rattle.clk_tree.specs.PlanParts.{SendsWithin}
use Rattle.clk_router.specs.Events.{Room, Setup, Event, events_at, log_of, accepted_in, evicted_in, sends_to, history, CanHappen}
use Rattle.clk_router.specs.Settled.{IsSenderAccounted, IsSenderSettled, IsTreeSettled, IsCourseAccounted, IsCourseSettled, IsOutOnce, IsAllOut, AreOutOnce, AreAllOut}
use Rattle.clk_router.specs.inside.Closable.{IsClosable, is_at}
use Rattle.clk_router.specs.inside.Parts.{IsWhole}
use Rattle.clk_router.proofs.Callers.Apart.{alone, history-alone}
use Rattle.clk_router.proofs.PartsLemmas.{all-there}
use Rattle.clk_router.proofs.QueueCounts.{left-is}
use Rattle.clk_router.proofs.Settled.Dealt.{no-members, member-there}
use Rattle.clk_router.proofs.Settled.QueuePackets.{history-in_order}
use Rattle.clk_router.proofs.Settled.OwnPackets.{all-send}
use Rattle.clk_router.proofs.Settled.Numbers.{out-once, all-out}
use Rattle.clk_router.proofs.Settled.Accounted.{own-events, its-run, accounted, all-own}

-- where queues hold no packet in all, each holds none
each-none : (f : ℕ → ℕ) (qs : List ℕ) → held_in_all f qs ≡ 0 → (q : ℕ) → stands_in q qs ≡ true → f q ≡ 0
each-none f [] none q stands = absurd (false≢true stands)
each-none f (x ∷ qs) none q stands = search (rules, (each-none f qs (omega arith) q))

in-order : (o : Option Room) (events : List QueueEvent) → MatchOption o ⊤ (λ (room : Room). IsQueueHistory room.kind room.capacity events) → MatchOption o ⊤ (λ (room : Room). IsInOrder room.capacity events)
in-order None events h = tt
in-order (Some room) events h = history-in_order room.kind room.capacity events h

-- what was accepted at a device was evicted or emitted, or its queues and its tree hold it
pub left-held : ((tree : Tree) → IsRun tree []) → ((tree : Tree) → leaves_distinct tree ≡ true → ConservesCounts tree) → (setup : Setup) → IsClosable setup → (events : List Event) → CanHappen setup events → (d : ℕ) (tree : Tree) → slice_get setup.trees d ≡ Some tree
    → IsRun tree (log_of (events_at setup d events))
    → left_in tree (log_of (events_at setup d events)) (λ q. length (held (history setup q (events_at setup d events)))) + length (filter_map evicted_in (events_at setup d events)) + length (emitted (log_of (events_at setup d events)))
    ≡ length (filter_map accepted_in (events_at setup d events))
left-held start counts setup closable events can d tree at run =
    let its = events_at setup d events in
    let of = closable.queues d tree at in
    let orders : (q : ℕ) → MatchOption (slice_get setup.queues q) ⊤ (λ (room : Room). IsInOrder room.capacity (history setup q its)) = λ q. in-order (slice_get setup.queues q) (history setup q its) ((alone setup closable.apart start d events can).histories q) in
    left-is setup d tree of its (own-events setup d events) orders (counts tree of.distinct (log_of its) run)

-- the queues and the tree of a device hold no packet
pub record HoldsNone (setup : Setup) (events : List Event) (d : ℕ) (tree : Tree) : Type 0 where
  pub queues : (q : ℕ) → stands_in q (leaves (root tree)) ≡ true → held (history setup q (events_at setup d events)) ≡ []
  pub heads_are : heads tree (log_of (events_at setup d events)) ≡ []

pub none-held : ((tree : Tree) → IsRun tree []) → ((tree : Tree) → leaves_distinct tree ≡ true → ConservesCounts tree) → (setup : Setup) → IsClosable setup → (events : List Event) → CanHappen setup events → (d : ℕ) (tree : Tree) → slice_get setup.trees d ≡ Some tree
    → (run : IsRun tree (log_of (events_at setup d events)))
    → length (filter_map accepted_in (events_at setup d events)) ≡ length (filter_map evicted_in (events_at setup d events)) + length (emitted (log_of (events_at setup d events))) → HoldsNone setup events d tree
none-held start counts setup closable events can d tree at run none =
    let its = events_at setup d events in
    let left = left-held start counts setup closable events can d tree at run in
    let empty : left_in tree (log_of its) (λ q. length (held (history setup q its))) ≡ 0 = omega (arith, left, none) in
    let no_queues : held_in_all (λ q. length (held (history setup q its))) (leaves (root tree)) ≡ 0 = omega (arith, empty) in
    let no_heads : length (heads tree (log_of its)) ≡ 0 = omega (arith, empty) in
    record {
      queues = λ q stands. no-members (held (history setup q its)) (each-none (λ q. length (held (history setup q its))) (leaves (root tree)) no_queues q stands);
      heads_are = no-members (heads tree (log_of its)) no_heads;
    }

-- A sender that is accounted for is settled where nothing is held.
settled-sender : (setup : Setup) (events : List Event) (s : SenderSpec) (room : Room) (tree : Tree) → IsSenderAccounted setup events s room tree → held (history setup s.queue events) ≡ [] → heads tree (log_of (events_at setup room.device events)) ≡ []
    → IsSenderSettled setup events s room
settled-sender setup events s room tree a no_held no_heads = search rules

-- In a whole setup, each sender has its queue and its tree.
for-senders : (setup : Setup) → IsWhole setup → (P : SenderSpec → Room → Tree → Type 0)
    → ((s : SenderSpec) (room : Room) (tree : Tree) → sends_to setup.senders s.number s.queue ≡ true → slice_get setup.queues s.queue ≡ Some room → slice_get setup.trees room.device ≡ Some tree → P s room tree)
    → AllByRecursion (λ (s : SenderSpec). MatchOption (slice_get setup.queues s.queue) ⊥ (λ (room : Room). MatchOption (slice_get setup.trees room.device) ⊥ (P s room))) setup.senders
for-senders setup whole P each =
    all-both (SendsWithin (length setup.queues)) (λ (s : SenderSpec). sends_to setup.senders s.number s.queue ≡ true)
    (λ (s : SenderSpec). MatchOption (slice_get setup.queues s.queue) ⊥ (λ (room : Room). MatchOption (slice_get setup.trees room.device) ⊥ (P s room))) setup.senders at_sender whole.wired (all-send setup.senders)
  where
    at_sender : (s : SenderSpec) → s.queue < length setup.queues → sends_to setup.senders s.number s.queue ≡ true → MatchOption (slice_get setup.queues s.queue) ⊥ (λ (room : Room). MatchOption (slice_get setup.trees room.device) ⊥ (P s room))
    at_sender s within sends =
        let there = member-there setup.queues s.queue within in
        let room = there.0 in
        let its = member-there setup.trees room.device (all-there (λ (r : Room). r.device < length setup.trees) setup.queues s.queue room whole.paths there.1) in
        subst (λ (o : Option Room). MatchOption o ⊥ (λ (room : Room). MatchOption (slice_get setup.trees room.device) ⊥ (P s room))) (sym there.1)
        (subst (λ o. MatchOption o ⊥ (P s room)) (sym its.1) (each s room its.0 sends there.1 its.1))

-- the same of what does not speak of the tree
pub for-queues : (setup : Setup) → IsWhole setup → (P : SenderSpec → Room → Type 0)
    → ((s : SenderSpec) (room : Room) (tree : Tree) → sends_to setup.senders s.number s.queue ≡ true → slice_get setup.queues s.queue ≡ Some room → slice_get setup.trees room.device ≡ Some tree → P s room)
    → AllByRecursion (λ (s : SenderSpec). MatchOption (slice_get setup.queues s.queue) ⊥ (P s)) setup.senders
for-queues setup whole P each =
    all-weaker (λ (s : SenderSpec). MatchOption (slice_get setup.queues s.queue) ⊥ (λ (room : Room). MatchOption (slice_get setup.trees room.device) ⊥ (λ tree. P s room))) (λ (s : SenderSpec). MatchOption (slice_get setup.queues s.queue) ⊥ (P s))
    setup.senders (λ s. by_room s (slice_get setup.queues s.queue)) (for-senders setup whole (λ s room tree. P s room) each)
  where
    by_tree : (s : SenderSpec) (room : Room) (o : Option Tree) → MatchOption o ⊥ (λ tree. P s room) → P s room
    by_tree s room None h = absurd h
    by_tree s room (Some tree) h = h

    by_room : (s : SenderSpec) (o : Option Room) → MatchOption o ⊥ (λ (room : Room). MatchOption (slice_get setup.trees room.device) ⊥ (λ tree. P s room)) → MatchOption o ⊥ (P s)
    by_room s None h = absurd h
    by_room s (Some room) h = by_tree s room (slice_get setup.trees room.device) h

-- The laws of a course: where all packets are, and that each is out of the router once at most.
module _ (conserves : (tree : Tree) → leaves_distinct tree ≡ true → ConservesPackets tree) (makes : (tree : Tree) → MakesNothing tree) (setup : Setup) (whole : IsWhole setup) (closable : IsClosable setup) (events : List Event)
    (can : CanHappen setup events) where
  account : (s : SenderSpec) (room : Room) (tree : Tree) → sends_to setup.senders s.number s.queue ≡ true → slice_get setup.queues s.queue ≡ Some room → slice_get setup.trees room.device ≡ Some tree → IsSenderAccounted setup events s room tree
  account s room tree sends is at = accounted conserves makes setup whole closable events can s room tree sends is at

  pub course-accounted : IsCourseAccounted setup events
  course-accounted = for-senders setup whole (IsSenderAccounted setup events) account

  pub are-out_once : AreOutOnce setup events
  are-out_once = for-queues setup whole (IsOutOnce setup events) (λ s room tree sends is at. out-once setup events s room tree can (account s room tree sends is at))

  -- where nothing is left for any device, all is settled, and each packet is out
  module _ (start : (tree : Tree) → IsRun tree []) (counts : (tree : Tree) → leaves_distinct tree ≡ true → ConservesCounts tree)
      (none : (d : ℕ) → d < length setup.trees → length (filter_map accepted_in (events_at setup d events)) ≡ length (filter_map evicted_in (events_at setup d events)) + length (emitted (log_of (events_at setup d events)))) where
    nothing : (d : ℕ) (tree : Tree) → slice_get setup.trees d ≡ Some tree → HoldsNone setup events d tree
    nothing d tree at = none-held start counts setup closable events can d tree at (its-run conserves makes setup whole closable events can d tree at) (none d (slice_get_within setup.trees d tree at))

    no-queue : (s : SenderSpec) (room : Room) (tree : Tree) → slice_get setup.queues s.queue ≡ Some room → slice_get setup.trees room.device ≡ Some tree → held (history setup s.queue events) ≡ []
    no-queue s room tree is at =
        let here : (room.device == room.device) ≡ true = grind (arith, nat_tests) in
        let stands : stands_in s.queue (leaves (root tree)) ≡ true = (closable.queues room.device tree at).leaves_are s.queue ∙ ap (is_at room.device) is ∙ here in
        ap held (sym (history-alone setup closable.apart room.device s.queue room is here events)) ∙ (nothing room.device tree at).queues s.queue stands

    pub course-settled : IsCourseSettled setup events
    course-settled =
        record {
          devices = λ d. at_tree d (slice_get setup.trees d) refl;
          senders = for-queues setup whole (IsSenderSettled setup events)
              (λ s room tree sends is at. settled-sender setup events s room tree (account s room tree sends is at) (no-queue s room tree is at) (nothing room.device tree at).heads_are);
        }
      where
        at_tree : (d : ℕ) (o : Option Tree) → slice_get setup.trees d ≡ o → MatchOption o ⊤ (IsTreeSettled setup events d)
        at_tree d None at = tt
        at_tree d (Some tree) at = record { run = its-run conserves makes setup whole closable events can d tree at; no_heads = (nothing d tree at).heads_are; own = all-own conserves makes setup whole closable events can d tree at }

    pub are-all_out : AreAllOut setup events
    are-all_out = for-queues setup whole (IsAllOut setup events)
        (λ s room tree sends is at. all-out setup events s room tree can (account s room tree sends is at) (no-queue s room tree is at) (nothing room.device tree at).heads_are)
