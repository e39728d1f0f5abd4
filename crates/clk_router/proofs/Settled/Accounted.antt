-- Where the packets of each sender are, in events that can happen.
use Rattle.std.proofs.Common.{◌≡◌, ℕ, ◌<◌, ◌==◌, Bool, true, false, if◌then◌else◌, List, [], ◌∷◌, ◌++◌, length, Option, Some, None, MatchOption, slice_get, refl, sym, ap, ap₂, ◌∙◌, subst, arith, rules}
use Rattle.std.specs.Bool.{⊤}
use Rattle.std.specs.List.{filter_map, cons_option, AllByRecursion}
use Rattle.std.proofs.lemmas.Bool.{false≢true, eqb-true}
use Rattle.std.proofs.lemmas.Bool.Decides.{nat_tests}
use Rattle.std.proofs.lemmas.List.Elements.{filter-append}
use Rattle.clk_packet.specs.declared.packet.Packet.{Packet}
use Rattle.clk_packet.specs.declared.packet.Offered.{Offered}
use Rattle.clk_packet.specs.declared.packet.Offered.TheVariants.{Accepted, Refused, Evicted}
use Rattle.clk_packet.specs.Lists.{of_sender, stands_in, AreRising}
use Rattle.clk_ring.specs.QueueHistory.{QueueEvent, gone, held, IsInOrder, IsQueueHistory, offer_events, pull_event}
use Rattle.clk_sched.specs.declared.visit.Visit.{Visit}
use Rattle.clk_sched.specs.Tree.{Tree, root, leaves, leaves_distinct}
use Rattle.clk_sched.specs.Run.{IsRun}
use Rattle.clk_sched.specs.Results.{leaf_packets, traced_emitted, traced_heads, emitted, heads}
use Rattle.clk_sched.specs.Conservation.{from_queue, ConservesPackets, MakesNothing}
use Rattle.clk_sched.proofs.Callers.Lists.{to-all}
use Rattle.clk_sched.proofs.Callers.Traced.{CameOf, emitted-traced, all-traced}
use Rattle.clk_tree.specs.declared.plan.parts.SenderSpec.{SenderSpec}
use Rattle.clk_tree.specs.PlanParts.{SendsWithin}
use Rattle.clk_packet.specs.Dealt.{IsDealt}
use Rattle.clk_packet.proofs.Callers.Dealt.{dealt-kept}
use Rattle.clk_packet.proofs.Callers.Lists.{all-both}
use Rattle.clk_router.specs.Events.{Room, Setup, Event, offered, pulled, sender_numbers, happens_at, events_at, log_of, accepted_in, refused_in, evicted_in, sends_to, history, IsOfDevice, IsOfSender, RunsTree, CanHappen}
use Rattle.clk_router.specs.Settled.{IsSenderAccounted, emitted_by, sends_at}
use Rattle.clk_router.specs.InsideQueues.{given_by}
use Rattle.clk_router.specs.inside.Closable.{IsClosable, is_at}
use Rattle.clk_router.specs.inside.Parts.{IsWhole}
use Rattle.clk_router.proofs.Callers.Apart.{sent-here, history-alone, one-queue}
use Rattle.clk_router.proofs.QueueCounts.{gives-log}
use Rattle.clk_router.proofs.Settled.Dealt.{offered-dealt, all-for, member-there}
use Rattle.clk_router.proofs.Settled.Emitted.{emitted-all}
use Rattle.clk_router.proofs.Settled.QueuePackets.{accepted_by, refused_by, evicted_by, accepted-is, gone-dealt, all-evicted, all-given, all-gone, history-in_order, none-refused, none-evicted, IsOwn, its-packets, all-sent, EvictsWith, each-evicts}
use Rattle.clk_router.proofs.Settled.OwnPackets.{SendsIn, its-queue, all-came, of-own_queue, none-of-other}

-- the events at a device happen there
pub own-events : (setup : Setup) (d : ℕ) (events : List Event) → AllByRecursion (λ e. happens_at setup d e ≡ true) (events_at setup d events)
own-events setup d [] = tt
own-events setup d (e ∷ events) = search (rules, (own-events setup d events))

own-accepted : (setup : Setup) (q s : ℕ) → sends_to setup.senders s q ≡ true → (e : Event) → IsOwn accepted_in setup q s e
own-accepted setup q s sends e = search rules

own-refused : (setup : Setup) (q s : ℕ) → sends_to setup.senders s q ≡ true → (e : Event) → IsOwn refused_in setup q s e
own-refused setup q s sends e = search rules

-- a queue of the setup
abbrev HasRoom : Setup → Type 0
HasRoom setup = (k : ℕ) × ((room : Room) × (slice_get setup.queues k ≡ Some room))

-- and so is a packet that an offer to another queue evicts
own-evicted : (setup : Setup) (q s : ℕ) → AreRising (sender_numbers setup) → AllByRecursion (SendsWithin (length setup.queues)) setup.senders → sends_to setup.senders s q ≡ true → (e : Event) → IsOfSender setup e
    → ((its : HasRoom setup) → EvictsWith (λ f. sends_to setup.senders f.sender its.0 ≡ true) setup its.0 e) → IsOwn evicted_in setup q s e
own-evicted setup q s rising wired sends (offered p Accepted) known evicts = λ none. refl
own-evicted setup q s rising wired sends (offered p (Refused r)) known evicts = λ none. refl
own-evicted setup q s rising wired sends (offered p (Evicted front)) known evicts = λ none. by_test none (front.sender == s) refl
  where
    by_test : sends_to setup.senders p.sender q ≡ false → (b : Bool) → (front.sender == s) ≡ b → (if b then front ∷ [] else []) ≡ []
    by_test none false e = refl
    by_test none true e =
        let its = its-queue (SendsWithin (length setup.queues)) setup.senders p.sender wired known in
        let there = member-there setup.queues its.0.queue its.2 in
        let front_sends = evicts (its.0.queue, there) its.1 in
        let same = one-queue setup.senders s its.0.queue q rising (subst (λ n. sends_to setup.senders n its.0.queue ≡ true) (eqb-true front.sender s e) front_sends) sends in
        absurd (false≢true (sym none ∙ subst (λ n. sends_to setup.senders p.sender n ≡ true) same its.1))
own-evicted setup q s rising wired sends (pulled c m visits) known evicts = tt

-- what each offer is to its queue
accepted-offer : (p : Packet) (outcome : Offered) → filter_map accepted_by (offer_events p outcome) ≡ cons_option (accepted_in (offered p outcome)) []
accepted-offer p Accepted = refl
accepted-offer p (Refused r) = refl
accepted-offer p (Evicted front) = refl

refused-offer : (p : Packet) (outcome : Offered) → filter_map refused_by (offer_events p outcome) ≡ cons_option (refused_in (offered p outcome)) []
refused-offer p Accepted = refl
refused-offer p (Refused r) = refl
refused-offer p (Evicted front) = refl

evicted-offer : (p : Packet) (outcome : Offered) → filter_map evicted_by (offer_events p outcome) ≡ cons_option (evicted_in (offered p outcome)) []
evicted-offer p Accepted = refl
evicted-offer p (Refused r) = refl
evicted-offer p (Evicted front) = refl

accepted-pull : (o : Option Packet) → accepted_by (pull_event o) ≡ None
accepted-pull None = refl
accepted-pull (Some p) = refl

refused-pull : (o : Option Packet) → refused_by (pull_event o) ≡ None
refused-pull None = refl
refused-pull (Some p) = refl

evicted-pull : (o : Option Packet) → evicted_by (pull_event o) ≡ None
evicted-pull None = refl
evicted-pull (Some p) = refl

-- a device that the setup does not have has no log
absent : {X : Type 0} (xs : List X) (i c : ℕ) → slice_get xs i ≡ None → c < length xs → (c == i) ≡ false
absent {X} xs i c e within = by_test (c == i) refl
  where
    by_test : (b : Bool) → (c == i) ≡ b → b ≡ false
    by_test false f = refl
    by_test true f =
        let same : c ≡ i = grind (arith, nat_tests) in
        let there = member-there xs i (omega (arith, within, same)) in
        let is = there.1 in
        absurd (cc)

no-log : (setup : Setup) (d : ℕ) → ((c : ℕ) → c < length setup.trees → (c == d) ≡ false) → (events : List Event) → AllByRecursion (IsOfDevice (length setup.trees)) events → log_of (events_at setup d events) ≡ []
no-log setup d other [] h = refl
no-log setup d other (offered p outcome ∷ events) h = by_test (happens_at setup d (offered p outcome)) (no-log setup d other events h.1)
  where
    by_test : (b : Bool) → log_of (events_at setup d events) ≡ [] → log_of (if b then offered p outcome ∷ events_at setup d events else events_at setup d events) ≡ []
    by_test true rest = rest
    by_test false rest = rest
no-log setup d other (pulled c m visits ∷ events) h = rw (other c h.0) (no-log setup d other events h.1)

module _ (conserves : (tree : Tree) → leaves_distinct tree ≡ true → ConservesPackets tree) (makes : (tree : Tree) → MakesNothing tree) (setup : Setup) (whole : IsWhole setup) (closable : IsClosable setup) (events : List Event) (can : CanHappen setup events) where
  abbrev its : ℕ → List Event
  its d = events_at setup d events

  -- what happened to a queue is a history
  pub has-history : (q : ℕ) (room : Room) → slice_get setup.queues q ≡ Some room → IsQueueHistory room.kind room.capacity (history setup q events)
  has-history q room is = subst (λ o. MatchOption o ⊤ (λ (room : Room). IsQueueHistory room.kind room.capacity (history setup q events))) is (can.histories q)

  -- the packets that are gone from a queue are of its senders
  all-its : (q : ℕ) (room : Room) → slice_get setup.queues q ≡ Some room → AllByRecursion (λ (p : Packet). sends_to setup.senders p.sender q ≡ true) (gone (history setup q events))
  all-its q room is =
      all-gone (λ (p : Packet). sends_to setup.senders p.sender q ≡ true) room.capacity (history setup q events) (history-in_order room.kind room.capacity (history setup q events) (has-history q room is))
      (subst (AllByRecursion (λ (p : Packet). sends_to setup.senders p.sender q ≡ true)) (sym (accepted-is (history setup q events))) (all-sent setup q events))

  all-evict : AllByRecursion (λ e. (its : HasRoom setup) → EvictsWith (λ f. sends_to setup.senders f.sender its.0 ≡ true) setup its.0 e) events
  all-evict = all-for (λ (its : HasRoom setup) e. EvictsWith (λ f. sends_to setup.senders f.sender its.0 ≡ true) setup its.0 e) events
      (λ its. each-evicts (λ f. sends_to setup.senders f.sender its.0 ≡ true) setup its.0 events (all-evicted (λ f. sends_to setup.senders f.sender its.0 ≡ true) (history setup its.0 events) (all-its its.0 its.1.0 its.1.1)))

  -- the log of a device is a run of its tree
  pub its-run : (d : ℕ) (tree : Tree) → slice_get setup.trees d ≡ Some tree → IsRun tree (log_of (its d))
  its-run d tree is = (subst (λ o. MatchOption o ⊤ (λ tree. RunsTree tree (its d))) is (can.runs d)).run

  -- what a queue gave is what its leaf gave
  pub leaf-gave : (d : ℕ) (tree : Tree) → slice_get setup.trees d ≡ Some tree → (q : ℕ) (room : Room) → slice_get setup.queues q ≡ Some room → (room.device == d) ≡ true → filter_map given_by (history setup q events) ≡ leaf_packets tree q (log_of (its d))
  leaf-gave d tree at q room is here = ap (filter_map given_by) (sym (history-alone setup closable.apart d q room is here events)) ∙ gives-log setup d tree at q (its d) (own-events setup d events)

  -- a leaf of a device's tree is a queue of that device
  pub leaf-room : (d : ℕ) (tree : Tree) → slice_get setup.trees d ≡ Some tree → (k : ℕ) → stands_in k (leaves (root tree)) ≡ true → (room : Room) × (slice_get setup.queues k ≡ Some room) × ((room.device == d) ≡ true)
  leaf-room d tree at k stands = by_room (slice_get setup.queues k) refl (sym ((closable.queues d tree at).leaves_are k) ∙ stands)
    where
      by_room : (o : Option Room) → slice_get setup.queues k ≡ o → is_at d o ≡ true → (room : Room) × (slice_get setup.queues k ≡ Some room) × ((room.device == d) ≡ true)
      by_room None is e = absurd (false≢true e)
      by_room (Some room) is e = (room, is, e)

  -- Each packet that a device emitted or its tree holds came from one of its queues, and is of a sender of that queue.
  pub came : (d : ℕ) (tree : Tree) → slice_get setup.trees d ≡ Some tree → AllByRecursion (CameOf (SendsIn setup.senders (root tree))) (traced_emitted tree (log_of (its d))) × AllByRecursion (CameOf (SendsIn setup.senders (root tree))) (traced_heads tree (log_of (its d)))
  came d tree at =
      let from = makes tree (log_of (its d)) (its-run d tree at) in (
        all-came setup.senders tree (log_of (its d)) (root tree) (traced_emitted tree (log_of (its d))) all from.0,
        all-came setup.senders tree (log_of (its d)) (root tree) (traced_heads tree (log_of (its d))) all from.1,
      )
    where
      all : (k : ℕ) → stands_in k (leaves (root tree)) ≡ true → AllByRecursion (λ (p : Packet). sends_to setup.senders p.sender k ≡ true) (leaf_packets tree k (log_of (its d)))
      all k stands =
          let there = leaf-room d tree at k stands in
          subst (AllByRecursion (λ (p : Packet). sends_to setup.senders p.sender k ≡ true)) (leaf-gave d tree at k there.0 there.1 there.2)
          (all-given (λ (p : Packet). sends_to setup.senders p.sender k ≡ true) (history setup k events) (all-its k there.0 there.1))

  -- What a device emitted is of senders of its queues.
  pub all-own : (d : ℕ) (tree : Tree) → slice_get setup.trees d ≡ Some tree → AllByRecursion (λ (p : Packet). sends_at setup d p.sender ≡ true) (emitted_by setup d events)
  all-own d tree at =
      subst (AllByRecursion (λ (p : Packet). sends_at setup d p.sender ≡ true)) (sym (emitted-traced tree (log_of (its d))))
      (all-traced (SendsIn setup.senders (root tree)) (λ s. sends_at setup d s ≡ true) (λ k s its. sent-here setup.queues setup.senders s k d (sym ((closable.queues d tree at).leaves_are k) ∙ its.0) its.1)
      (traced_emitted tree (log_of (its d))) (came d tree at).0)

  -- a queue is a leaf of its device's tree
  pub stands-there : (q : ℕ) (room : Room) (tree : Tree) → slice_get setup.queues q ≡ Some room → slice_get setup.trees room.device ≡ Some tree → stands_in q (leaves (root tree)) ≡ true
  stands-there q room tree is at =
      let here : (room.device == room.device) ≡ true = grind (arith, nat_tests) in
      (closable.queues room.device tree at).leaves_are q ∙ ap (is_at room.device) is ∙ here

  -- The law: where the packets of a sender are.
  pub accounted : (s : SenderSpec) (room : Room) (tree : Tree) → sends_to setup.senders s.number s.queue ≡ true → slice_get setup.queues s.queue ≡ Some room → slice_get setup.trees room.device ≡ Some tree → IsSenderAccounted setup events s room tree
  accounted s room tree sends is at =
      record {
        gone = of_sender s.number (gone past);
        given = of_sender s.number (filter_map given_by past);
        offered_are = offered-dealt s.number events;
        accepted_are =
            its-packets accepted_in accepted_by accepted-offer accepted-pull (λ d m visits. refl) setup s.queue s.number events (to-all (IsOwn accepted_in setup s.queue s.number) events (λ e _. own-accepted setup s.queue s.number sends e))
            ∙ ap (of_sender s.number) (sym (accepted-is past) ∙ order.order) ∙ filter-append (λ (p : Packet). p.sender == s.number) (gone past) (held past);
        gone_are =
            subst (λ l. IsDealt (of_sender s.number (gone past)) l (of_sender s.number (filter_map given_by past))) (sym evicted_are)
            (dealt-kept (λ (p : Packet). p.sender == s.number) (gone past) (filter_map evicted_by past) (filter_map given_by past) (gone-dealt past));
        given_are = its_given;
        elsewhere = λ d other. none_there d other (slice_get setup.trees d) refl;
        counted = emitted-all setup events can room.device tree at s.number (λ d other. none_there d other (slice_get setup.trees d) refl);
        tail_drop = λ kind. evicted_are ∙ ap (of_sender s.number) (none-evicted room.kind room.capacity [] past kind (has-history s.queue room is));
        front_drop = λ kind. refused_are ∙ ap (of_sender s.number) (none-refused room.kind room.capacity [] past kind (has-history s.queue room is));
      }
    where
      past : List QueueEvent
      past = history setup s.queue events

      order : IsInOrder room.capacity past
      order = history-in_order room.kind room.capacity past (has-history s.queue room is)

      log : List Visit
      log = log_of (its room.device)

      evicted_are : of_sender s.number (filter_map evicted_in events) ≡ of_sender s.number (filter_map evicted_by past)
      evicted_are =
          its-packets evicted_in evicted_by evicted-offer evicted-pull (λ d m visits. refl) setup s.queue s.number events
          (all-both (IsOfSender setup) (λ e. (its : HasRoom setup) → EvictsWith (λ f. sends_to setup.senders f.sender its.0 ≡ true) setup its.0 e) (IsOwn evicted_in setup s.queue s.number) events
          (λ e known evicts. own-evicted setup s.queue s.number closable.apart.senders whole.wired sends e known evicts) can.senders all-evict)

      refused_are : of_sender s.number (filter_map refused_in events) ≡ of_sender s.number (filter_map refused_by past)
      refused_are = its-packets refused_in refused_by refused-offer refused-pull (λ d m visits. refl) setup s.queue s.number events (to-all (IsOwn refused_in setup s.queue s.number) events (λ e _. own-refused setup s.queue s.number sends e))

      its_given : of_sender s.number (filter_map given_by past) ≡ of_sender s.number (emitted log) ++ of_sender s.number (heads tree log)
      its_given =
          let here : (room.device == room.device) ≡ true = grind (arith, nat_tests) in
          let stands = stands-there s.queue room tree is at in
          let out = traced_emitted tree log in
          let held_in = traced_heads tree log in
          let all = came room.device tree at in
          ap (of_sender s.number) (leaf-gave room.device tree at s.queue room is here ∙ conserves tree (closable.queues room.device tree at).distinct log (its-run room.device tree at) s.queue stands)
          ∙ filter-append (λ (p : Packet). p.sender == s.number) (from_queue s.queue out) (from_queue s.queue held_in)
          ∙ ap₂ (λ xs ys. xs ++ ys) (sym (of-own_queue setup.senders (root tree) s.number s.queue closable.apart.senders sends out all.0) ∙ ap (of_sender s.number) (sym (emitted-traced tree log)))
          (sym (of-own_queue setup.senders (root tree) s.number s.queue closable.apart.senders sends held_in all.1))

      none_there : (d : ℕ) → (room.device == d) ≡ false → (o : Option Tree) → slice_get setup.trees d ≡ o → of_sender s.number (emitted_by setup d events) ≡ []
      none_there d other None at_d = ap (λ l. of_sender s.number (emitted l)) (no-log setup d (λ c within. absent setup.trees d c at_d within) events can.devices)
      none_there d other (Some t) at_d =
          let not_there : stands_in s.queue (leaves (root t)) ≡ false = (closable.queues d t at_d).leaves_are s.queue ∙ ap (is_at d) is ∙ other in
          ap (of_sender s.number) (emitted-traced t (log_of (its d))) ∙ none-of-other setup.senders (root t) s.number s.queue closable.apart.senders sends not_there (traced_emitted t (log_of (its d))) (came d t at_d).0
