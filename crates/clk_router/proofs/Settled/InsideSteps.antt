-- The packets inside a queue after an offer, and after a pull.
use Rattle.std.proofs.Common.{◌≡◌, ℕ, ◌==◌, Bool, true, false, if◌then◌else◌, List, [], ◌∷◌, ◌++◌, length, drop, map, filter, append-nil, append_assoc, Some, MatchOption, slice_get, refl, sym, ap, ap₂, ◌∙◌, subst, arith, rules}
use Rattle.std.specs.Bool.{⊤}
use Rattle.std.specs.List.{filter_map, cons_option, AllByRecursion}
use Rattle.std.proofs.lemmas.Bool.{eqb-true}
use Rattle.std.proofs.lemmas.Bool.Decides.{nat_tests}
use Rattle.std.proofs.lemmas.List.{append_cancel_left, drop_at}
use Rattle.std.proofs.lemmas.List.Concat.{flat_map-append}
use Rattle.std.proofs.lemmas.List.Elements.{filter-append, filter_map-append}
use Rattle.clk_packet.specs.declared.packet.Packet.{Packet}
use Rattle.clk_packet.specs.declared.packet.Kind.{Kind}
use Rattle.clk_packet.specs.declared.packet.Offered.{Offered}
use Rattle.clk_packet.specs.declared.packet.Offered.TheVariants.{Accepted, Refused, Evicted}
use Rattle.clk_ring.specs.QueueHistory.{QueueEvent, accept, refuse, evict, accepted, gone, held, IsInOrder, EachStands, offer_events}
use Rattle.clk_sched.specs.declared.visit.Visit.{Visit}
use Rattle.clk_sched.specs.Laws.Device.{IsDeviceTurn}
use Rattle.clk_sched.specs.Log.{visits_of, turn, result_of}
use Rattle.clk_sched.specs.Tree.{Tree, leaves_distinct}
use Rattle.clk_sched.specs.Results.{emitted}
use Rattle.clk_sched.specs.Conservation.{ConservesPackets, MakesNothing}
use Rattle.clk_sched.proofs.Callers.Emitted.{emitted-append, result-passed}
use Rattle.clk_sched.proofs.Callers.Lists.{all-split}
use Rattle.clk_router.specs.Events.{Room, Setup, Event, offered, pulled, happens_at, sends_to, events_at, visits_in, log_of, pull_in, at_queue, history, IsOfDevice, RunsTree, CanHappen}
use Rattle.clk_router.specs.Settled.{emitted_by}
use Rattle.clk_router.specs.InsideQueues.{given_by, is_of_queue, given_of, emitted_of, heads_of, inside_of, emitted_from, IsEvictedInside}
use Rattle.clk_router.specs.inside.Closable.{IsClosable}
use Rattle.clk_router.specs.inside.Parts.{IsWhole}
use Rattle.clk_router.proofs.QueueCounts.{stands-rest}
use Rattle.clk_router.proofs.PartsLemmas.{history-with}
use Rattle.clk_router.proofs.Callers.Events.{events-here, events-elsewhere, log-pulled}
use Rattle.clk_router.proofs.Settled.Dealt.{member-there}
use Rattle.clk_router.proofs.Settled.QueuePackets.{accepted-more, gone-more, history-in_order, held-before}
use Rattle.clk_router.proofs.Settled.Accounted.{has-history}
use Rattle.clk_router.proofs.Settled.Inside.{given-is, none-emitted}

-- what a queue holds after it accepted a packet, refused one, or evicted one for another
held-taken : (capacity : ℕ) (past : List QueueEvent) (p : Packet) → IsInOrder capacity past → held (past ++ accept p ∷ []) ≡ held past ++ p ∷ []
held-taken capacity past p order = search (rules, accepted-more, append_assoc, gone-more, drop_at)

held-refused : (past : List QueueEvent) (p : Packet) → held (past ++ refuse p ∷ []) ≡ held past
held-refused past p = ap₂ (λ a b. drop (length a) b) (gone-more past (refuse p ∷ []) ∙ append-nil (gone past)) (accepted-more past (refuse p ∷ []) ∙ append-nil (accepted past))

record EvictsFront (past : List QueueEvent) (front p : Packet) : Type 0 where
  rest : List Packet
  was : held past ≡ front ∷ rest
  is : held (past ++ evict front ∷ accept p ∷ []) ≡ rest ++ p ∷ []

held-evicted : (kind : Kind) (capacity : ℕ) (past : List QueueEvent) (front p : Packet) → EachStands kind capacity past (evict front ∷ accept p ∷ []) → EvictsFront past front p
held-evicted kind capacity past front p h = search (rules, accepted-more, gone-more, append_cancel_left, append_assoc)

-- what a pull emitted is its result
pub pull-emitted : (tree : Tree) (events : List Event) (d m : ℕ) (visits : List Visit) → RunsTree tree (events ++ pulled d m visits ∷ []) → emitted visits ≡ cons_option (result_of (visits_of 0 visits)) []
pull-emitted tree events d m visits runs =
    let turns : AllByRecursion (λ pull. IsDeviceTurn (turn 0 pull)) (filter_map pull_in events ++ visits ∷ []) =
    subst (AllByRecursion (λ pull. IsDeviceTurn (turn 0 pull))) (filter_map-append pull_in events (pulled d m visits ∷ []))
    (of-map (filter_map pull_in (events ++ pulled d m visits ∷ [])) (subst (λ l. AllByRecursion IsDeviceTurn (map (turn 0) l)) runs.pull_by_pull runs.run.device))
    in
    result-passed (visits_of 0 visits) (all-split (λ pull. IsDeviceTurn (turn 0 pull)) (filter_map pull_in events) (visits ∷ []) turns).1.0.in_order
  where
    of-map : (pulls : List (List Visit)) → AllByRecursion IsDeviceTurn (map (turn 0) pulls) → AllByRecursion (λ pull. IsDeviceTurn (turn 0 pull)) pulls
    of-map [] h = tt
    of-map (pull ∷ pulls) h = (h.0, of-map pulls h.1)

-- what a device emitted after one more event
emitted-offer : (setup : Setup) (d : ℕ) (events : List Event) (p : Packet) (outcome : Offered) → emitted_by setup d (events ++ offered p outcome ∷ []) ≡ emitted_by setup d events
emitted-offer setup d events p outcome = by_test (happens_at setup d (offered p outcome)) refl
  where
    by_test : (b : Bool) → happens_at setup d (offered p outcome) ≡ b → emitted_by setup d (events ++ offered p outcome ∷ []) ≡ emitted_by setup d events
    by_test true e = ap (λ l. emitted (log_of l)) (events-here setup d events (offered p outcome) e) ∙ ap emitted (flat_map-append visits_in (events_at setup d events) (offered p outcome ∷ []) ∙ append-nil (log_of (events_at setup d events)))
    by_test false e = ap (λ l. emitted (log_of l)) (events-elsewhere setup d events (offered p outcome) e)

pub emitted-pull : (setup : Setup) (d : ℕ) (events : List Event) (m : ℕ) (visits : List Visit) → emitted_by setup d (events ++ pulled d m visits ∷ []) ≡ emitted_by setup d events ++ emitted visits
emitted-pull setup d events m visits =
    let here : (d == d) ≡ true = grind (arith, nat_tests) in
    ap (λ l. emitted (log_of l)) (events-here setup d events (pulled d m visits) here) ∙ ap emitted (log-pulled (events_at setup d events) d m visits) ∙ emitted-append (log_of (events_at setup d events)) visits

emitted-other : (setup : Setup) (d c : ℕ) (events : List Event) (m : ℕ) (visits : List Visit) → (c == d) ≡ false → emitted_by setup d (events ++ pulled c m visits ∷ []) ≡ emitted_by setup d events
emitted-other setup d c events m visits other = ap (λ l. emitted (log_of l)) (events-elsewhere setup d events (pulled c m visits) other)

-- An offer changes no heads.
given-offer : (setup : Setup) (q : ℕ) (events : List Event) (p : Packet) (outcome : Offered) → given_of setup q (events ++ offered p outcome ∷ []) ≡ given_of setup q events
given-offer setup q events p outcome =
    ap (filter_map given_by) (history-with setup q events (offered p outcome)) ∙ filter_map-append given_by (history setup q events) (at_queue setup q (offered p outcome))
    ∙ ap (λ l. given_of setup q events ++ l) (by_test (sends_to setup.senders p.sender q) outcome) ∙ append-nil (given_of setup q events)
  where
    by_test : (b : Bool) (o : Offered) → filter_map given_by (if b then offer_events p o else []) ≡ []
    by_test b o = search rules

heads-offer : (setup : Setup) (d q : ℕ) (events : List Event) (p : Packet) (outcome : Offered) → heads_of setup d q (events ++ offered p outcome ∷ []) ≡ heads_of setup d q events
heads-offer setup d q events p outcome = ap₂ (λ a b. drop (length a) b) (ap (filter (is_of_queue setup q)) (emitted-offer setup d events p outcome)) (given-offer setup q events p outcome)

-- an offer to another queue changes nothing
pub inside-other : (setup : Setup) (d q : ℕ) (events : List Event) (p : Packet) (outcome : Offered) → sends_to setup.senders p.sender q ≡ false → inside_of setup d q (events ++ offered p outcome ∷ []) ≡ inside_of setup d q events
inside-other setup d q events p outcome none =
    ap₂ (λ a b. a ++ b) (heads-offer setup d q events p outcome)
    (ap held (history-with setup q events (offered p outcome) ∙ ap (λ b. history setup q events ++ (if b then offer_events p outcome else [])) none ∙ append-nil (history setup q events)))

module _ (conserves : (tree : Tree) → leaves_distinct tree ≡ true → ConservesPackets tree) (makes : (tree : Tree) → MakesNothing tree) (setup : Setup) (whole : IsWhole setup) (closable : IsClosable setup) (events : List Event) (can : CanHappen setup events)
    (q : ℕ) (room : Room) (its_room : slice_get setup.queues q ≡ Some room) where
  abbrev d : ℕ
  d = room.device

  past : List QueueEvent
  past = history setup q events

  order : IsInOrder room.capacity (history setup q events)
  order = history-in_order room.kind room.capacity (history setup q events) (has-history conserves makes setup whole closable events can q room its_room)

  -- A packet that is accepted goes to the end, and one that is refused changes nothing.
  pub inside-accepted : (p : Packet) → sends_to setup.senders p.sender q ≡ true → inside_of setup d q (events ++ offered p Accepted ∷ []) ≡ inside_of setup d q events ++ p ∷ []
  inside-accepted p sends =
      ap₂ (λ a b. a ++ b) (heads-offer setup d q events p Accepted)
      (ap held (history-with setup q events (offered p Accepted) ∙ ap (λ b. history setup q events ++ (if b then offer_events p Accepted else [])) sends) ∙ held-taken room.capacity (history setup q events) p order)
      ∙ sym (append_assoc (heads_of setup d q events) (held (history setup q events)) (p ∷ []))

  pub inside-refused : (p r : Packet) → sends_to setup.senders p.sender q ≡ true → inside_of setup d q (events ++ offered p (Refused r) ∷ []) ≡ inside_of setup d q events
  inside-refused p r sends =
      ap₂ (λ a b. a ++ b) (heads-offer setup d q events p (Refused r))
      (ap held (history-with setup q events (offered p (Refused r)) ∙ ap (λ b. history setup q events ++ (if b then offer_events p (Refused r) else [])) sends) ∙ held-refused (history setup q events) p)

  -- Only a full queue refuses or evicts.
  pub inside-full : (p : Packet) (outcome : Offered) → sends_to setup.senders p.sender q ≡ true → CanHappen setup (events ++ offered p outcome ∷ []) → (outcome ≡ Accepted → ⊥) → length (held (history setup q events)) ≡ room.capacity
  inside-full p outcome sends goes_on never =
      by_outcome outcome never
      (stands-rest room.kind room.capacity [] (history setup q events) (offer_events p outcome)
      (subst (EachStands room.kind room.capacity []) its_past (has-history conserves makes setup whole closable (events ++ offered p outcome ∷ []) goes_on q room its_room)))
    where
      its_past : history setup q (events ++ offered p outcome ∷ []) ≡ history setup q events ++ offer_events p outcome
      its_past = history-with setup q events (offered p outcome) ∙ ap (λ b. history setup q events ++ (if b then offer_events p outcome else [])) sends

      by_outcome : (o : Offered) → (o ≡ Accepted → ⊥) → EachStands room.kind room.capacity (history setup q events) (offer_events p o) → length (held (history setup q events)) ≡ room.capacity
      by_outcome Accepted never h = absurd (never refl)
      by_outcome (Refused r) never h = h.1.1
      by_outcome (Evicted front) never h = h.1.1

  -- A packet that evicts goes to the end, and the first that the queue holds is gone.
  pub inside-evicted : (p front : Packet) → sends_to setup.senders p.sender q ≡ true → CanHappen setup (events ++ offered p (Evicted front) ∷ []) → IsEvictedInside setup d q events (events ++ offered p (Evicted front) ∷ []) front p
  inside-evicted p front sends goes_on =
      record {
        rest = out.rest;
        held_are = out.was;
        before = ap (λ l. heads_of setup d q events ++ l) out.was;
        after = ap₂ (λ a b. a ++ b) (heads-offer setup d q events p (Evicted front)) (ap held its_past ∙ out.is);
      }
    where
      its_past : history setup q (events ++ offered p (Evicted front) ∷ []) ≡ history setup q events ++ evict front ∷ accept p ∷ []
      its_past = history-with setup q events (offered p (Evicted front)) ∙ ap (λ b. history setup q events ++ (if b then offer_events p (Evicted front) else [])) sends

      out : EvictsFront (history setup q events) front p
      out =
          held-evicted room.kind room.capacity (history setup q events) front p
          (stands-rest room.kind room.capacity [] (history setup q events) (evict front ∷ accept p ∷ [])
          (subst (EachStands room.kind room.capacity []) its_past (has-history conserves makes setup whole closable (events ++ offered p (Evicted front) ∷ []) goes_on q room its_room)))

  -- A pull emits the first that is inside, or none of the queue.
  pub inside-pulled : (tree : Tree) → slice_get setup.trees d ≡ Some tree → (c m : ℕ) (visits : List Visit) → CanHappen setup (events ++ pulled c m visits ∷ [])
      → inside_of setup d q events ≡ emitted_from setup q (pulled c m visits) ++ inside_of setup d q (events ++ pulled c m visits ∷ [])
  inside-pulled tree at c m visits goes_on = by_device (c == d) refl
    where
      more : List Event
      more = events ++ pulled c m visits ∷ []

      answers : List QueueEvent
      answers = at_queue setup q (pulled c m visits)

      given : List Packet
      given = filter_map given_by answers

      its_past : history setup q more ≡ history setup q events ++ answers
      its_past = history-with setup q events (pulled c m visits)

      -- what the queue held is what it gave, and then what it holds now
      held_was : held (history setup q events) ≡ given ++ held (history setup q more)
      held_was =
          held-before setup q room.capacity events c m visits order
          (history-in_order room.kind room.capacity (history setup q more) (has-history conserves makes setup whole closable more goes_on q room its_room))

      given_more : given_of setup q more ≡ given_of setup q events ++ given
      given_more = ap (filter_map given_by) its_past ∙ filter_map-append given_by (history setup q events) answers

      -- from what the queue's device emitted
      by_out : (o : List Packet) → emitted_of setup d q more ≡ emitted_of setup d q events ++ o → inside_of setup d q events ≡ o ++ inside_of setup d q more
      by_out o out_more =
          let was = given-is conserves makes setup whole closable events can q room tree its_room at in
          let is = given-is conserves makes setup whole closable more goes_on q room tree its_room at in
          let heads : heads_of setup d q events ++ given ≡ o ++ heads_of setup d q more =
          append_cancel_left (emitted_of setup d q events) (heads_of setup d q events ++ given) (o ++ heads_of setup d q more)
          (sym (append_assoc (emitted_of setup d q events) (heads_of setup d q events) given) ∙ ap (λ l. l ++ given) (sym was) ∙ sym given_more ∙ is ∙ ap (λ l. l ++ heads_of setup d q more) out_more
          ∙ append_assoc (emitted_of setup d q events) o (heads_of setup d q more))
          in
          ap (λ l. heads_of setup d q events ++ l) held_was ∙ sym (append_assoc (heads_of setup d q events) given (held (history setup q more))) ∙ ap (λ l. l ++ held (history setup q more)) heads
          ∙ append_assoc o (heads_of setup d q more) (held (history setup q more))

      its_tree : (t : Tree) × (slice_get setup.trees c ≡ Some t)
      its_tree = member-there setup.trees c (all-split (IsOfDevice (length setup.trees)) events (pulled c m visits ∷ []) goes_on.devices).1.0

      result : emitted visits ≡ cons_option (result_of (visits_of 0 visits)) []
      result =
          let here : (c == c) ≡ true = grind (arith, nat_tests) in
          pull-emitted its_tree.0 (events_at setup c events) c m visits
          (subst (RunsTree its_tree.0) (events-here setup c events (pulled c m visits) here) (subst (λ o. MatchOption o ⊤ (λ t. RunsTree t (events_at setup c more))) its_tree.1 (goes_on.runs c)))

      put-is : filter (is_of_queue setup q) (emitted visits) ≡ emitted_from setup q (pulled c m visits)
      put-is = ap (filter (is_of_queue setup q)) result

      no-rest : (xs ys : List Packet) → xs ++ ys ≡ [] → ys ≡ []
      no-rest [] ys e = e
      no-rest (x ∷ xs) ys e = absurd (omega (arith, ap length e))

      by_device : (b : Bool) → (c == d) ≡ b → inside_of setup d q events ≡ emitted_from setup q (pulled c m visits) ++ inside_of setup d q more
      by_device true e =
          let same : c ≡ d = eqb-true c d e in
          by_out (emitted_from setup q (pulled c m visits))
          (subst (λ n. emitted_of setup n q more ≡ emitted_of setup n q events ++ emitted_from setup q (pulled c m visits)) same
          (ap (filter (is_of_queue setup q)) (emitted-pull setup c events m visits) ∙ filter-append (is_of_queue setup q) (emitted_by setup c events) (emitted visits) ∙ ap (λ l. emitted_of setup c q events ++ l) put-is))
      by_device false e =
          let apart_from : (d == c) ≡ false = grind (arith, nat_tests, e) in
          let none_there = none-emitted conserves makes setup whole closable more goes_on c q room its_tree.0 its_room apart_from its_tree.1 in
          let none : emitted_from setup q (pulled c m visits) ≡ [] =
          sym put-is
          ∙ no-rest (emitted_of setup c q events) (filter (is_of_queue setup q) (emitted visits))
          (sym (ap (filter (is_of_queue setup q)) (emitted-pull setup c events m visits) ∙ filter-append (is_of_queue setup q) (emitted_by setup c events) (emitted visits)) ∙ none_there)
          in
          by_out (emitted_from setup q (pulled c m visits))
          (ap (filter (is_of_queue setup q)) (emitted-other setup d c events m visits e) ∙ sym (append-nil (emitted_of setup d q events)) ∙ ap (λ l. emitted_of setup d q events ++ l) (sym none))
