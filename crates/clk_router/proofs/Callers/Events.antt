-- How events go on by one.
use Rattle.std.proofs.Common.{◌≡◌, ℕ, ◌+◌, ◌<◌, ◌≤◌, ◌==◌, zero, suc, Bool, true, false, List, [], ◌∷◌, ◌++◌, length, drop, map, reverse, max, fold, if◌then◌else◌, Option, Some, None, MatchOption, slice_get, subst, refl, sym, ap, ◌∙◌, arith, rules}
use Rattle.std.specs.Bool.{⊤}
use Rattle.std.specs.List.{filter_map, cons_option, flat_map, range_with_len, list_any, AllByRecursion}
use Rattle.std.proofs.lemmas.List.{append_assoc, append-nil, map-append, length-append, map-id, reverse-append}
use Rattle.std.proofs.lemmas.List.Concat.{flat_map-append}
use Rattle.std.proofs.lemmas.List.Elements.{filter-append, filter_map-append}
use Rattle.std.proofs.lemmas.List.FromFn.{map-range_with_len_more}
use Rattle.std.proofs.lemmas.Bool.Decides.{nat_tests}
use Rattle.clk_packet.specs.declared.packet.Packet.{Packet}
use Rattle.clk_packet.specs.declared.packet.Offered.{Offered}
use Rattle.clk_sched.specs.declared.visit.Visit.{Visit}
use Rattle.clk_ring.specs.QueueHistory.{NamesOffer, IsQueueHistory, pull_event}
use Rattle.clk_sched.specs.Log.{pulls, moment_of, counted}
use Rattle.clk_sched.specs.Tree.{Tree}
use Rattle.clk_sched.specs.Run.{IsRun}
use Rattle.clk_sched.specs.Results.{asks_queue}
use Rattle.clk_sched.specs.Choice.{answers_of}
use Rattle.clk_sched.specs.Session.{given_in, latest_moment}
use Rattle.clk_router.specs.Events.{Room, Setup, sender_numbers, Event, offered, pulled, happens_at, events_at, number_from, numbers_of, visits_in, pull_in, moment_in, emitted_in, log_of, answers_in, at_queue, history, IsOfDevice, IsOfSender, NamesItsOffer, RunsTree, CanHappen, pulls_from}

-- the numbers from 0 on, and the next
range-more : (n : ℕ) → range_with_len 0 (n + 1) ≡ range_with_len 0 n ++ n ∷ []
range-more n = sym (map-id (range_with_len 0 (n + 1))) ∙ map-range_with_len_more (λ k. k) 0 n n (omega arith) ∙ ap (λ l. l ++ n ∷ []) (map-id (range_with_len 0 n))

-- a sender's numbers where it offers its next packet
numbers-more : (s : ℕ) (events : List Event) (p : Packet) (outcome : Offered) → p.number ≡ length (numbers_of p.sender events)
    → numbers_of s events ≡ range_with_len 0 (length (numbers_of s events))
    → numbers_of s (events ++ offered p outcome ∷ []) ≡ range_with_len 0 (length (numbers_of s (events ++ offered p outcome ∷ [])))
numbers-more s events p outcome number h = by_test (p.sender == s) refl
  where
    one_more : (ns : List ℕ) → ns ≡ range_with_len 0 (length ns) → ns ++ length ns ∷ [] ≡ range_with_len 0 (length (ns ++ length ns ∷ []))
    one_more ns e = ap (λ l. l ++ length ns ∷ []) e ∙ sym (range-more (length ns)) ∙ ap (range_with_len 0) (sym (length-append ns (length ns ∷ [])))

    by_test : (b : Bool) → (p.sender == s) ≡ b → numbers_of s (events ++ offered p outcome ∷ []) ≡ range_with_len 0 (length (numbers_of s (events ++ offered p outcome ∷ [])))
    by_test true e =
        let same : p.sender ≡ s = grind (arith, nat_tests) in
        let n : p.number ≡ length (numbers_of s events) = number ∙ ap (λ x. length (numbers_of x events)) same in
        rw (filter_map-append (number_from s) events (offered p outcome ∷ []), e, n) (one_more (numbers_of s events) h)
    by_test false e = rw (filter_map-append (number_from s) events (offered p outcome ∷ []), e, append-nil) h

-- what holds of the members of two lists holds of those of both
pub all-join : {X : Type 0} (P : X → Type 0) (xs ys : List X) → AllByRecursion P xs → AllByRecursion P ys → AllByRecursion P (xs ++ ys)
all-join P [] ys h k = k
all-join P (x ∷ xs) ys h k = (h.0, all-join P xs ys h.1 k)

-- the events at a device, with one more that happens there, and with one that happens elsewhere
pub events-here : (setup : Setup) (d : ℕ) (events : List Event) (e : Event) → happens_at setup d e ≡ true → events_at setup d (events ++ e ∷ []) ≡ events_at setup d events ++ e ∷ []
events-here setup d events e is = rw (filter-append (happens_at setup d) events (e ∷ []), is) refl

pub events-elsewhere : (setup : Setup) (d : ℕ) (events : List Event) (e : Event) → happens_at setup d e ≡ false → events_at setup d (events ++ e ∷ []) ≡ events_at setup d events
events-elsewhere setup d events e is = rw (filter-append (happens_at setup d) events (e ∷ []), is) (append-nil (events_at setup d events))

-- Events of a run of a tree, and an offer.
pub RunsTree-offered : (tree : Tree) (events : List Event) (p : Packet) (outcome : Offered) → RunsTree tree events → RunsTree tree (events ++ offered p outcome ∷ [])
RunsTree-offered tree events p outcome runs = search (rules, flat_map-append, filter_map-append)

-- what each device's tree runs, where it is there
abbrev pub RunAt : Setup → ℕ → List Event → Type 0
RunAt setup d events = MatchOption (slice_get setup.trees d) ⊤ (λ tree. RunsTree tree events)

-- It goes on by an offer, and stays by what happens elsewhere.
run-offered : (o : Option Tree) (events : List Event) (p : Packet) (outcome : Offered) → MatchOption o ⊤ (λ tree. RunsTree tree events) → MatchOption o ⊤ (λ tree. RunsTree tree (events ++ offered p outcome ∷ []))
run-offered None events p outcome runs = tt
run-offered (Some tree) events p outcome runs = RunsTree-offered tree events p outcome runs

runs-offered : (setup : Setup) (d : ℕ) (events : List Event) (p : Packet) (outcome : Offered) → RunAt setup d (events_at setup d events) → RunAt setup d (events_at setup d (events ++ offered p outcome ∷ []))
runs-offered setup d events p outcome runs = by_test (happens_at setup d (offered p outcome)) refl
  where
    by_test : (b : Bool) → happens_at setup d (offered p outcome) ≡ b → RunAt setup d (events_at setup d (events ++ offered p outcome ∷ []))
    by_test true e = subst (RunAt setup d) (sym (events-here setup d events (offered p outcome) e)) (run-offered (slice_get setup.trees d) (events_at setup d events) p outcome runs)
    by_test false e = subst (RunAt setup d) (sym (events-elsewhere setup d events (offered p outcome) e)) runs

-- an offer leads on
pub CanHappen-offer : (setup : Setup) (events : List Event) (p : Packet) (outcome : Offered) → CanHappen setup events → list_any (λ n. n == p.sender) (sender_numbers setup) ≡ true → p.number ≡ length (numbers_of p.sender events)
    → NamesOffer p outcome
    → ((q : ℕ) → MatchOption (slice_get setup.queues q) ⊤ (λ (room : Room). IsQueueHistory room.kind room.capacity (history setup q (events ++ offered p outcome ∷ []))))
    → CanHappen setup (events ++ offered p outcome ∷ [])
CanHappen-offer setup events p outcome can known number names histories =
    record {
      senders = all-join (IsOfSender setup) events (offered p outcome ∷ []) can.senders (known, tt);
      numbered = λ s. numbers-more s events p outcome number (can.numbered s);
      devices = all-join (IsOfDevice (length setup.trees)) events (offered p outcome ∷ []) can.devices (tt, tt);
      runs = λ d. runs-offered setup d events p outcome (can.runs d);
      refusals = all-join NamesItsOffer events (offered p outcome ∷ []) can.refusals (names, tt);
      histories = histories;
    }

-- the log, and one pull more
pub log-pulled : (events : List Event) (device moment : ℕ) (visits : List Visit) → log_of (events ++ pulled device moment visits ∷ []) ≡ log_of events ++ visits
log-pulled events device moment visits = flat_map-append visits_in events (pulled device moment visits ∷ []) ∙ ap (λ l. log_of events ++ l) (append-nil visits)

-- counted moments, and one more
counted-more : (before : ℕ) (moments : List ℕ) (moment : ℕ) → counted before (moments ++ moment ∷ []) ≡ counted before moments ++ max (fold max before moments) moment ∷ []
counted-more before [] moment = refl
counted-more before (m ∷ moments) moment = λ i. max before m ∷ counted-more (max before m) moments moment i

-- the last of some moments, and `before` where there is none
abbrev latest_from : ℕ → List (List Visit) → ℕ
latest_from before [] = before
latest_from before (pull ∷ more) = latest_from (moment_of pull) more

latest-onto : (ps earlier : List (List Visit)) → latest_from (latest_moment earlier) ps ≡ latest_moment (reverse ps ++ earlier)
latest-onto [] earlier = refl
latest-onto (p ∷ ps) earlier =
    latest-onto ps (p ∷ earlier) ∙ ap latest_moment (sym (append_assoc (reverse ps) (p ∷ []) earlier) ∙ ap (λ l. l ++ earlier) (sym (reverse-append (p ∷ []) ps)))

latest-counted : (ps : List (List Visit)) (before : ℕ) (ms : List ℕ) → map moment_of ps ≡ counted before ms → latest_from before ps ≡ fold max before ms
latest-counted [] before [] e = refl
latest-counted [] before (m ∷ ms) e = absurd (omega (arith, ap length e))
latest-counted (p ∷ ps) before [] e = absurd (omega (arith, ap length e))
latest-counted (p ∷ ps) before (m ∷ ms) e =
    ap (λ n. latest_from n ps) (ap (first 0) e) ∙ latest-counted ps (max before m) ms (ap (drop 1) e)
  where
    first : ℕ → List ℕ → ℕ
    first d [] = d
    first d (y ∷ ys) = y

-- the latest moment of a run is the greatest that was handed in
pub latest-moment : (tree : Tree) (events : List Event) → RunsTree tree events → latest_moment (reverse (pulls (log_of events))) ≡ fold max 0 (filter_map moment_in events)
latest-moment tree events runs =
    ap (λ ps. latest_moment (reverse ps)) runs.pull_by_pull ∙ ap latest_moment (sym (append-nil (reverse (filter_map pull_in events))))
    ∙ sym (latest-onto (filter_map pull_in events) []) ∙ latest-counted (filter_map pull_in events) 0 (filter_map moment_in events) runs.moments

-- Events of a run of a tree, and a pull.
pub RunsTree-pulled : (tree : Tree) (events : List Event) (device moment : ℕ) (visits : List Visit) → RunsTree tree events → IsRun tree (log_of events ++ visits)
    → pulls (log_of events ++ visits) ≡ pulls (log_of events) ++ visits ∷ [] → moment_of visits ≡ max (latest_moment (reverse (pulls (log_of events)))) moment
    → RunsTree tree (events ++ pulled device moment visits ∷ [])
RunsTree-pulled tree events device moment visits runs run last at_moment = search (rules, log-pulled, filter_map-append, latest-moment, map-append, counted-more)

-- a pull of a session leads on
pub CanHappen-pull : (setup : Setup) (events : List Event) (device moment : ℕ) (visits : List Visit) → CanHappen setup events → device < length setup.trees
    → RunAt setup device (events_at setup device events ++ pulled device moment visits ∷ [])
    → ((q : ℕ) → MatchOption (slice_get setup.queues q) ⊤ (λ (room : Room). IsQueueHistory room.kind room.capacity (history setup q (events ++ pulled device moment visits ∷ []))))
    → CanHappen setup (events ++ pulled device moment visits ∷ [])
CanHappen-pull setup events device moment visits can within run histories =
    record {
      senders = all-join (IsOfSender setup) events (pulled device moment visits ∷ []) can.senders (tt, tt);
      numbered = λ s. rw (filter_map-append (number_from s) events (pulled device moment visits ∷ []), append-nil) (can.numbered s);
      devices = all-join (IsOfDevice (length setup.trees)) events (pulled device moment visits ∷ []) can.devices (within, tt);
      runs = runs;
      refusals = all-join NamesItsOffer events (pulled device moment visits ∷ []) can.refusals (tt, tt);
      histories = histories;
    }
  where
    runs : (d : ℕ) → RunAt setup d (events_at setup d (events ++ pulled device moment visits ∷ []))
    runs d = by_test (device == d) refl
      where
        by_test : (b : Bool) → (device == d) ≡ b → RunAt setup d (events_at setup d (events ++ pulled device moment visits ∷ []))
        by_test true e =
            let same : device ≡ d = grind (arith, nat_tests) in
            subst (RunAt setup d) (sym (events-here setup d events (pulled device moment visits) e))
            (subst (λ n. RunAt setup n (events_at setup n events ++ pulled device moment visits ∷ [])) same run)
        by_test false e = subst (RunAt setup d) (sym (events-elsewhere setup d events (pulled device moment visits) e)) (can.runs d)

-- pulls one tick apart: their moments, their visits, and that they offer nothing
pub pulls-moments : (device t : ℕ) (more : List (List Visit)) → filter_map moment_in (pulls_from device t more) ≡ range_with_len t (length more)
pulls-moments device t [] = refl
pulls-moments device t (visits ∷ more) = ap (λ l. t ∷ l) (pulls-moments device (t + 1) more)

pub pulls-visits : (device t : ℕ) (more : List (List Visit)) → filter_map pull_in (pulls_from device t more) ≡ more
pulls-visits device t [] = refl
pulls-visits device t (visits ∷ more) = ap (λ l. visits ∷ l) (pulls-visits device (t + 1) more)

pub pulls-log : (device t : ℕ) (more : List (List Visit)) → log_of (pulls_from device t more) ≡ flat_map (λ pull. pull) more
pulls-log device t [] = refl
pulls-log device t (visits ∷ more) = ap (λ l. visits ++ l) (pulls-log device (t + 1) more)

-- some events and then such pulls: their log, and their pulls
pub log-pulls : (events : List Event) (device t : ℕ) (more : List (List Visit)) → log_of (events ++ pulls_from device t more) ≡ log_of events ++ flat_map (λ pull. pull) more
log-pulls events device t more = flat_map-append visits_in events (pulls_from device t more) ∙ ap (λ l. log_of events ++ l) (pulls-log device t more)

pub turns-pulls : (events : List Event) (device t : ℕ) (more : List (List Visit)) → filter_map pull_in (events ++ pulls_from device t more) ≡ filter_map pull_in events ++ more
turns-pulls events device t more = filter_map-append pull_in events (pulls_from device t more) ∙ ap (λ l. filter_map pull_in events ++ l) (pulls-visits device t more)

-- they happen at their device alone
pub pulls-here : (setup : Setup) (d t : ℕ) (more : List (List Visit)) → events_at setup d (pulls_from d t more) ≡ pulls_from d t more
pulls-here setup d t [] = refl
pulls-here setup d t (visits ∷ more) = search (rules, (pulls-here setup d (t + 1) more))

pub pulls-elsewhere : (setup : Setup) (device d t : ℕ) (more : List (List Visit)) → (device == d) ≡ false → events_at setup d (pulls_from device t more) ≡ []
pulls-elsewhere setup device d t [] e = refl
pulls-elsewhere setup device d t (visits ∷ more) e = rw e (pulls-elsewhere setup device d (t + 1) more e)

pub events-pulls : (setup : Setup) (d : ℕ) (events : List Event) (t : ℕ) (more : List (List Visit)) → events_at setup d (events ++ pulls_from d t more) ≡ events_at setup d events ++ pulls_from d t more
events-pulls setup d events t more = filter-append (happens_at setup d) events (pulls_from d t more) ∙ ap (λ l. events_at setup d events ++ l) (pulls-here setup d t more)

-- what pulls have nothing of adds nothing to some events
pulls-none : {X : Type 0} (f : Event → Option X) → ((d t : ℕ) (visits : List Visit) → f (pulled d t visits) ≡ None) → (d t : ℕ) (more : List (List Visit)) → filter_map f (pulls_from d t more) ≡ []
pulls-none f none d t [] = refl
pulls-none f none d t (visits ∷ more) = rw none (pulls-none f none d (t + 1) more)

pub pulls-add_none : {X : Type 0} (f : Event → Option X) → ((d t : ℕ) (visits : List Visit) → f (pulled d t visits) ≡ None) → (events : List Event) (d t : ℕ) (more : List (List Visit))
    → filter_map f (events ++ pulls_from d t more) ≡ filter_map f events
pulls-add_none f none events d t more = filter_map-append f events (pulls_from d t more) ∙ ap (λ l. filter_map f events ++ l) (pulls-none f none d t more) ∙ append-nil (filter_map f events)

-- what they are to a queue: what one pull with all their visits is
pub pulls-history : (setup : Setup) (q d moment t : ℕ) (more : List (List Visit)) → history setup q (pulls_from d t more) ≡ at_queue setup q (pulled d moment (flat_map (λ pull. pull) more))
pulls-history setup q d moment t more = by_tree (slice_get setup.trees d) refl t more
  where
    by_tree : (o : Option Tree) → slice_get setup.trees d ≡ o → (n : ℕ) (ps : List (List Visit)) → history setup q (pulls_from d n ps) ≡ at_queue setup q (pulled d moment (flat_map (λ pull. pull) ps))
    by_tree None e n [] = rw e refl
    by_tree None e n (visits ∷ ps) = rw e (rw e at (by_tree None e (n + 1) ps))
    by_tree (Some tree) e n [] = rw e refl
    by_tree (Some tree) e n (visits ∷ ps) =
        let rest = rw e at (by_tree (Some tree) e (n + 1) ps) in
        rw e
        (ap (λ l. answers_in (Some tree) q visits ++ l) rest
        ∙ sym (flat_map-append (λ (v : Visit). if asks_queue tree q v then pull_event v.got ∷ [] else []) visits (flat_map (λ pull. pull) ps)))

-- what a pull is to a queue: its answers
pub pulled-events : (setup : Setup) (d : ℕ) (tree : Tree) (q moment : ℕ) (visits : List Visit) → slice_get setup.trees d ≡ Some tree
    → at_queue setup q (pulled d moment visits) ≡ map pull_event (answers_of tree q visits)
pulled-events setup d tree q moment visits is = ap (λ o. answers_in o q visits) is ∙ its_answers visits
  where
    its_answers : (visits : List Visit) → answers_in (Some tree) q visits ≡ map pull_event (answers_of tree q visits)
    its_answers [] = refl
    its_answers (v ∷ visits) = by_asks (asks_queue tree q v) refl (its_answers visits)
      where
        by_asks : (b : Bool) → asks_queue tree q v ≡ b → answers_in (Some tree) q visits ≡ map pull_event (answers_of tree q visits)
            → answers_in (Some tree) q (v ∷ visits) ≡ map pull_event (answers_of tree q (v ∷ visits))
        by_asks true e rest = rw e (ap (λ l. pull_event v.got ∷ l) rest)
        by_asks false e rest = rw e rest

-- counted moments of two lists, and those of a range that lies above what came before
pub counted-append : (before : ℕ) (ms ks : List ℕ) → counted before (ms ++ ks) ≡ counted before ms ++ counted (fold max before ms) ks
counted-append before [] ks = refl
counted-append before (m ∷ ms) ks = ap (λ l. max before m ∷ l) (counted-append (max before m) ms ks)

pub counted-range : (before t n : ℕ) → before ≤ t → counted before (range_with_len t n) ≡ range_with_len t n
counted-range before t zero above = refl
counted-range before t (suc n) above = search (rules, (counted-range t (t + 1) n (omega arith)))

-- the counted moments of some events and then pulls one tick apart
pub counted-pulls : (events : List Event) (device t : ℕ) (more : List (List Visit)) → fold max 0 (filter_map moment_in events) ≤ t
    → counted 0 (filter_map moment_in (events ++ pulls_from device t more)) ≡ counted 0 (filter_map moment_in events) ++ range_with_len t (length more)
counted-pulls events device t more above = search (rules, filter_map-append, pulls-moments, counted-append, counted-range)

-- Events of a run of a tree, and pulls one tick apart.
pub RunsTree-pulls : (tree : Tree) (events : List Event) (device t : ℕ) (more : List (List Visit)) → RunsTree tree events → fold max 0 (filter_map moment_in events) ≤ t
    → IsRun tree (log_of events ++ flat_map (λ pull. pull) more) → pulls (log_of events ++ flat_map (λ pull. pull) more) ≡ pulls (log_of events) ++ more
    → map moment_of more ≡ range_with_len t (length more) → RunsTree tree (events ++ pulls_from device t more)
RunsTree-pulls tree events device t more runs above run last at_moments = search (rules, log-pulls, turns-pulls, map-append, counted-pulls)

-- pulls one tick apart lead on
pub CanHappen-pulls : (setup : Setup) (events : List Event) (device t : ℕ) (more : List (List Visit)) → CanHappen setup events → device < length setup.trees
    → RunAt setup device (events_at setup device events ++ pulls_from device t more)
    → ((q : ℕ) → MatchOption (slice_get setup.queues q) ⊤ (λ (room : Room). IsQueueHistory room.kind room.capacity (history setup q (events ++ pulls_from device t more))))
    → CanHappen setup (events ++ pulls_from device t more)
CanHappen-pulls setup events device t more can within run histories =
    record {
      senders = all-join (IsOfSender setup) events (pulls_from device t more) can.senders (no-offers t more);
      numbered = λ s. rw (pulls-add_none (number_from s) (λ d n visits. refl) events device t more) (can.numbered s);
      devices = all-join (IsOfDevice (length setup.trees)) events (pulls_from device t more) can.devices (there t more);
      runs = runs;
      refusals = all-join NamesItsOffer events (pulls_from device t more) can.refusals (named t more);
      histories = histories;
    }
  where
    there : (n : ℕ) (ps : List (List Visit)) → AllByRecursion (IsOfDevice (length setup.trees)) (pulls_from device n ps)
    there n [] = tt
    there n (visits ∷ ps) = (within, there (n + 1) ps)

    no-offers : (n : ℕ) (ps : List (List Visit)) → AllByRecursion (IsOfSender setup) (pulls_from device n ps)
    no-offers n [] = tt
    no-offers n (visits ∷ ps) = (tt, no-offers (n + 1) ps)

    named : (n : ℕ) (ps : List (List Visit)) → AllByRecursion NamesItsOffer (pulls_from device n ps)
    named n [] = tt
    named n (visits ∷ ps) = (tt, named (n + 1) ps)

    runs : (d : ℕ) → RunAt setup d (events_at setup d (events ++ pulls_from device t more))
    runs d = by_test (device == d) refl
      where
        by_test : (b : Bool) → (device == d) ≡ b → RunAt setup d (events_at setup d (events ++ pulls_from device t more))
        by_test true e =
            let same : device ≡ d = grind (arith, nat_tests) in
            subst (λ n. RunAt setup n (events_at setup n (events ++ pulls_from device t more))) same (subst (RunAt setup device) (sym (events-pulls setup device events t more)) run)
        by_test false e =
            subst (RunAt setup d)
            (sym (filter-append (happens_at setup d) events (pulls_from device t more) ∙ ap (λ l. events_at setup d events ++ l) (pulls-elsewhere setup device d t more e) ∙ append-nil (events_at setup d events))) (can.runs d)

-- what pulls one tick apart emitted is what they gave
pub pulls-given : (device t : ℕ) (more : List (List Visit)) → filter_map emitted_in (pulls_from device t more) ≡ given_in more
pulls-given device t [] = refl
pulls-given device t (visits ∷ more) = ap (cons_option (emitted_in (pulled device t visits))) (pulls-given device (t + 1) more)
