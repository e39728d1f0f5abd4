-- A script has at most one meaning: what its commands make happen follows, one after another.
use Rattle.std.proofs.lemmas.Grind.{common_steps, elements}
use Rattle.std.proofs.Common.{◌≡◌, ℕ, ◌+◌, ◌≤◌, ◌<◌, ◌==◌, ◌||◌, Bool, true, false, List, [], ◌∷◌, ◌++◌, length, map, max, fold, if◌then◌else◌, Option, Some, None, IsSome, IfSome, MatchOption, slice_get, zero, suc, refl, sym, ap, ap₂, ◌∙◌, subst, zero-add, arith, rules}
use Rattle.std.specs.Bool.{⊤}
use Rattle.std.specs.List.{filter_map, cons_option, range_with_len, AllByRecursion, list_any}
use Rattle.std.proofs.lemmas.Bool.{false≢true}
use Rattle.std.proofs.lemmas.Bool.Decides.{nat_tests}
use Rattle.std.proofs.lemmas.List.{append_assoc, append-nil}
use Rattle.std.proofs.lemmas.List.Concat.{flat_map-append}
use Rattle.std.proofs.lemmas.List.Elements.{filter_map-append}
use Rattle.clk_packet.specs.declared.packet.Packet.{Packet}
use Rattle.clk_packet.specs.declared.packet.Offered.{Offered}
use Rattle.clk_ring.specs.QueueHistory.{IsQueueHistory, offer_events}
use Rattle.clk_ring.specs.Laws.{HistoriesLeaveNoChoice}
use Rattle.clk_sched.specs.declared.visit.Visit.{Visit}
use Rattle.clk_sched.specs.Tree.{Tree, queue_at}
use Rattle.clk_sched.specs.Log.{visits_of, result_of}
use Rattle.clk_sched.specs.Session.{given_in, LastGives}
use Rattle.clk_sched.specs.Choice.{answers_of, GoAlike, PullsLeaveNoChoice}
use Rattle.clk_tree.specs.declared.plan.parts.SenderSpec.{SenderSpec}
use Rattle.clk_tree.specs.PlanParts.{number_of}
use Rattle.clk_router.specs.Events.{Room, Setup, sender_numbers, Event, offered, pulled, events_at, numbers_of, pull_in, moment_in, sends_to, at_queue, history, NamesItsOffer, RunsTree, CanHappen, pulls_from, closing_pulls, Closes, logs_of}
use Rattle.clk_script.specs.Meaning.{names_of, command_of, course_text, CloseFirst, IsClosed, Writes, MeansWith}
use Rattle.clk_script.specs.declared.script.Command.{Command}
use Rattle.clk_script.specs.Script.{commands_of, closing_moment}
use Rattle.clk_script.specs.Examples.{two_queues}
use Rattle.clk_script.specs.inside.ScriptRouter.{IsSound}
use Rattle.clk_router.specs.Setups.{IsWired}
use Rattle.clk_router.proofs.Callers.Events.{pulled-events}
use Rattle.clk_script.specs.OneMeaning.{HasAtMostOneLog, HasAtMostOneMeaning}
use Rattle.clk_packet.proofs.Callers.Packets.{packet-same}
use Rattle.clk_script.proofs.Meanings.Alike.{member-between, pulls-alike, its-moment, events-at-pull, number-at}
use Rattle.clk_script.proofs.Meanings.ScriptLemmas.{each-command-sound}
use Rattle.clk_sched.proofs.Callers.Lists.{is_number}

-- a sender's packet has the number that is next
next-number : (s : ℕ) (done : List Event) (p : Packet) (outcome : Offered) (more : List Event) (n : ℕ) → p.sender ≡ s
    → numbers_of s (done ++ offered p outcome ∷ more) ≡ range_with_len 0 n → p.number ≡ length (numbers_of s done)
next-number s done p outcome more n e h = search (rules, number-at, filter_map-append, zero-add)

-- a known sender sends to a queue that is there
record IsSentTo (setup : Setup) (s : ℕ) : Type 0 where
  queue : ℕ
  room : Room
  sends : sends_to setup.senders s queue ≡ true
  is_there : slice_get setup.queues queue ≡ Some room

some-room : (setup : Setup) (s q : ℕ) (o : Option Room) → slice_get setup.queues q ≡ o → IsSome o → sends_to setup.senders s q ≡ true → IsSentTo setup s
some-room setup s q o e h sends = search (rules, false≢true)

record SendsTo (setup : Setup) (senders : List SenderSpec) (s : ℕ) : Type 0 where
  queue : ℕ
  sends : sends_to senders s queue ≡ true
  is_there : IsSome (slice_get setup.queues queue)

sends-somewhere : (setup : Setup) (senders : List SenderSpec) (s : ℕ) → list_any (λ n. n == s) (map number_of senders) ≡ true
    → AllByRecursion (λ (x : SenderSpec). IsSome (slice_get setup.queues x.queue)) senders → SendsTo setup senders s
sends-somewhere setup [] s known h = absurd (false≢true known)
sends-somewhere setup (x ∷ senders) s known h = by_number (x.number == s) refl known (λ k. sends-somewhere setup senders s k h.1)
  where
    same : (x.queue == x.queue) ≡ true
    same = grind (arith, nat_tests)

    or_true : (b : Bool) → (b || true) ≡ true
    or_true b = search (rules, false≢true)

    by_number : (b : Bool) → (x.number == s) ≡ b → (b || list_any (λ n. n == s) (map number_of senders)) ≡ true
        → (list_any (λ n. n == s) (map number_of senders) ≡ true → SendsTo setup senders s) → SendsTo setup (x ∷ senders) s
    by_number b e k rest = search (rules, false≢true, same, or_true)

sent-to : (setup : Setup) (s : ℕ) → IsWired setup → list_any (λ n. n == s) (sender_numbers setup) ≡ true → IsSentTo setup s
sent-to setup s wired known =
    let there = sends-somewhere setup setup.senders s known wired.senders in
    some-room setup s there.queue (slice_get setup.queues there.queue) refl there.is_there there.sends

-- a device that is there has a tree
nothing-there : (trees : List Tree) (d : ℕ) → slice_get trees d ≡ None → d < length trees → ⊥
nothing-there trees d is within = grind (arith, common_steps, elements, nat_tests)

-- what happened to a queue, where an event stands between others
history-between : (setup : Setup) (q : ℕ) (done : List Event) (e : Event) (more : List Event) → history setup q (done ++ e ∷ more) ≡ history setup q done ++ (at_queue setup q e ++ history setup q more)
history-between setup q done e more = flat_map-append (at_queue setup q) done (e ∷ more)

its-history : (setup : Setup) (q : ℕ) (room : Room) (done : List Event) (e : Event) (more : List Event) → slice_get setup.queues q ≡ Some room → CanHappen setup (done ++ e ∷ more)
    → IsQueueHistory room.kind room.capacity (history setup q done ++ (at_queue setup q e ++ history setup q more))
its-history setup q room done e more is can = search (rules, history-between)

-- an offer of the same packet ends the same way
same-outcome : (setup : Setup) → IsWired setup → HistoriesLeaveNoChoice → (done : List Event) (p : Packet) (one other : Offered) (more rest : List Event)
    → list_any (λ n. n == p.sender) (sender_numbers setup) ≡ true → CanHappen setup (done ++ offered p one ∷ more) → CanHappen setup (done ++ offered p other ∷ rest) → one ≡ other
same-outcome setup wired law done p one other more rest known a b =
    let to = sent-to setup p.sender wired known in
    law.outcomes to.room.kind to.room.capacity (history setup to.queue done) p one other (history setup to.queue more) (history setup to.queue rest)
    (member-between NamesItsOffer done (offered p one) more a.refusals) (member-between NamesItsOffer done (offered p other) rest b.refusals)
    (subst (λ es. IsQueueHistory to.room.kind to.room.capacity (history setup to.queue done ++ (es ++ history setup to.queue more))) (offers to one)
    (its-history setup to.queue to.room done (offered p one) more to.is_there a))
    (subst (λ es. IsQueueHistory to.room.kind to.room.capacity (history setup to.queue done ++ (es ++ history setup to.queue rest))) (offers to other)
    (its-history setup to.queue to.room done (offered p other) rest to.is_there b))
  where
    offers : (to : IsSentTo setup p.sender) (outcome : Offered) → at_queue setup to.queue (offered p outcome) ≡ offer_events p outcome
    offers to outcome = rw to.sends refl

-- a queue that isn't there isn't asked
never-asked : (setup : Setup) (d : ℕ) (tree : Tree) (q : ℕ) → IsWired setup → slice_get setup.trees d ≡ Some tree → slice_get setup.queues q ≡ None → (visits : List Visit)
    → answers_of tree q visits ≡ []
never-asked setup d tree q wired its is [] = refl
never-asked setup d tree q wired its is (v ∷ visits) =
    rw (asks v.fresh (queue_at tree v.node v.input) (subst (λ o. MatchOption o ⊤ (λ t. IfSome (queue_at t v.node v.input) (λ k. IsSome (slice_get setup.queues k)))) its (wired.leaves d v.node v.input)))
    (never-asked setup d tree q wired its is visits)
  where
    asks : (b : Bool) (o : Option ℕ) → IfSome o (λ k. IsSome (slice_get setup.queues k)) → is_number q (if b then o else None) ≡ false
    asks b o h = search (rules, false≢true)

-- a queue answers alike in two pulls of a device after the same events
queue-alike : (setup : Setup) → IsWired setup → HistoriesLeaveNoChoice → (done : List Event) (d : ℕ) (tree : Tree) (m k : ℕ) (v u : List Visit) (more rest : List Event) → slice_get setup.trees d ≡ Some tree
    → CanHappen setup (done ++ pulled d m v ∷ more) → CanHappen setup (done ++ pulled d k u ∷ rest) → (q : ℕ) → GoAlike (answers_of tree q v) (answers_of tree q u)
queue-alike setup wired law done d tree m k v u more rest its a b q = by_room (slice_get setup.queues q) refl
  where
    by_room : (o : Option Room) → slice_get setup.queues q ≡ o → GoAlike (answers_of tree q v) (answers_of tree q u)
    by_room None e = rw (never-asked setup d tree q wired its e v, never-asked setup d tree q wired its e u) (record { left = []; right = []; same = refl })
    by_room (Some room) e =
        pulls-alike law room.kind room.capacity (history setup q done) (answers_of tree q v) (answers_of tree q u) (history setup q more) (history setup q rest)
        (subst (λ es. IsQueueHistory room.kind room.capacity (history setup q done ++ (es ++ history setup q more))) (pulled-events setup d tree q m v its)
        (its-history setup q room done (pulled d m v) more e a))
        (subst (λ es. IsQueueHistory room.kind room.capacity (history setup q done ++ (es ++ history setup q rest))) (pulled-events setup d tree q k u its)
        (its-history setup q room done (pulled d k u) rest e b))

-- the pulls of a device are a run of its tree
its-run : (setup : Setup) (d : ℕ) (tree : Tree) (events : List Event) → slice_get setup.trees d ≡ Some tree → CanHappen setup events → RunsTree tree (events_at setup d events)
its-run setup d tree events its can = subst (λ o. MatchOption o ⊤ (λ t. RunsTree t (events_at setup d events))) its (can.runs d)

-- and so do two pulls
visits-over : (setup : Setup) → IsWired setup → HistoriesLeaveNoChoice → ((tree : Tree) → PullsLeaveNoChoice tree) → (done : List Event) (d : ℕ) (tree : Tree) (m k : ℕ) (v u : List Visit) (more rest : List Event)
    → slice_get setup.trees d ≡ Some tree → m ≡ k → CanHappen setup (done ++ pulled d m v ∷ more) → CanHappen setup (done ++ pulled d k u ∷ rest) → v ≡ u
visits-over setup wired law runs done d tree m k v u more rest its same a b =
    let before = events_at setup d done in
    let one : RunsTree tree (before ++ pulled d m v ∷ events_at setup d more) = subst (RunsTree tree) (events-at-pull setup d m v done more) (its-run setup d tree _ its a) in
    let other : RunsTree tree (before ++ pulled d k u ∷ events_at setup d rest) = subst (RunsTree tree) (events-at-pull setup d k u done rest) (its-run setup d tree _ its b) in
    runs tree _ _ (filter_map pull_in before) v u (filter_map pull_in (events_at setup d more)) (filter_map pull_in (events_at setup d rest)) one.run other.run
    (one.pull_by_pull ∙ filter_map-append pull_in before (pulled d m v ∷ events_at setup d more)) (other.pull_by_pull ∙ filter_map-append pull_in before (pulled d k u ∷ events_at setup d rest))
    (its-moment tree before d m v (events_at setup d more) one ∙ ap (max (fold max 0 (filter_map moment_in before))) same ∙ sym (its-moment tree before d k u (events_at setup d rest) other))
    (queue-alike setup wired law done d tree m k v u more rest its a b)

same-visits : (setup : Setup) → IsWired setup → HistoriesLeaveNoChoice → ((tree : Tree) → PullsLeaveNoChoice tree) → (done : List Event) (d m k : ℕ) (v u : List Visit) (more rest : List Event) → m ≡ k
    → CanHappen setup (done ++ pulled d m v ∷ more) → CanHappen setup (done ++ pulled d k u ∷ rest) → v ≡ u
same-visits setup wired law runs done d m k v u more rest same a b = by_tree (slice_get setup.trees d) refl
  where
    by_tree : (o : Option Tree) → slice_get setup.trees d ≡ o → v ≡ u
    by_tree o its = search (rules, visits-over, nothing-there, member-between)

-- after the same events, the same command makes the same happen
same-event : (setup : Setup) → IsWired setup → HistoriesLeaveNoChoice → ((tree : Tree) → PullsLeaveNoChoice tree) → (done : List Event) (e f : Event) (more rest : List Event)
    → CanHappen setup (done ++ e ∷ more) → CanHappen setup (done ++ f ∷ rest) → command_of e ≡ command_of f → IsSound (names_of setup) (command_of e) → e ≡ f
same-event setup wired law runs done (offered p one) (offered q other) more rest a b same sound =
    let sender : p.sender ≡ q.sender = cc in
    let size : p.length ≡ q.length = cc in
    let number : p.number ≡ q.number =
    next-number p.sender done p one more _ refl (a.numbered p.sender) ∙ sym (next-number p.sender done q other rest _ (sym sender) (b.numbered p.sender))
    in
    let packet : p ≡ q = packet-same p q number sender size in
    ap₂ offered packet (same-outcome setup wired law done p one other more rest sound.0 a (subst (λ x. CanHappen setup (done ++ offered x other ∷ rest)) (sym packet) b))
same-event setup wired law runs done (offered p one) (pulled c k u) more rest a b same sound = absurd (cc)
same-event setup wired law runs done (pulled d m v) (offered q other) more rest a b same sound = absurd (cc)
same-event setup wired law runs done (pulled d m v) (pulled c k u) more rest a b same sound =
    let device : d ≡ c = cc in
    let moment : m ≡ k = cc in
    let visits : v ≡ u = same-visits setup wired law runs done d m k v u more rest moment a (subst (λ x. CanHappen setup (done ++ pulled x k u ∷ rest)) (sym device) b) in
    ap₂ (λ x y. pulled x y v) device moment ∙ ap (pulled c k) visits

-- the same commands make the same events happen, whatever follows
pub same-events : (setup : Setup) → IsWired setup → HistoriesLeaveNoChoice → ((tree : Tree) → PullsLeaveNoChoice tree) → (done es fs more rest : List Event) → CanHappen setup (done ++ (es ++ more)) → CanHappen setup (done ++ (fs ++ rest))
    → map command_of es ≡ map command_of fs → AllByRecursion (IsSound (names_of setup)) (map command_of es) → es ≡ fs
same-events setup wired law runs done [] [] more rest a b same sound = refl
same-events setup wired law runs done [] (f ∷ fs) more rest a b same sound = absurd (omega (arith, ap length same))
same-events setup wired law runs done (e ∷ es) [] more rest a b same sound = absurd (omega (arith, ap length same))
same-events setup wired law runs done (e ∷ es) (f ∷ fs) more rest a b same sound =
    let heads : command_of e ≡ command_of f = cc in
    let tails : map command_of es ≡ map command_of fs = cc in
    let first : e ≡ f = same-event setup wired law runs done e f (es ++ more) (fs ++ rest) a b heads sound.0 in
    ap₂ (λ x xs. x ∷ xs) first
    (same-events setup wired law runs (done ++ e ∷ []) es fs more rest (rw append_assoc a) (rw append_assoc (subst (λ x. CanHappen setup (done ++ x ∷ (fs ++ rest))) (sym first) b)) tails sound.1)

-- a drain that is not over gives a packet more
gives-more : (pull : List Visit) (more : List (List Visit)) → LastGives (pull ∷ more) → 1 ≤ length (given_in (pull ∷ more))
gives-more pull [] gives = search (rules, false≢true)
gives-more pull (next ∷ more) gives = search (rules, false≢true, (gives-more next more gives))

gives-later : (pull : List Visit) (more : List (List Visit)) → LastGives (pull ∷ more) → LastGives more
gives-later pull more gives = search rules

-- what is given after a first pull
given-later : (o : Option Packet) (xs ys : List Packet) → length (cons_option o xs) ≡ length (cons_option o ys) → length xs ≡ length ys
given-later o xs ys e = search rules

-- closings of a device after the same events that give as many packets are the same, whatever follows
same-closing : (setup : Setup) → IsWired setup → HistoriesLeaveNoChoice → ((tree : Tree) → PullsLeaveNoChoice tree) → (done : List Event) (d t : ℕ) (one other : List (List Visit)) (more rest : List Event)
    → CanHappen setup (done ++ (pulls_from d t one ++ more)) → CanHappen setup (done ++ (pulls_from d t other ++ rest)) → length (given_in one) ≡ length (given_in other) → LastGives one → LastGives other
    → one ≡ other
same-closing setup wired law runs done d t [] [] more rest a b given stops ends = refl
same-closing setup wired law runs done d t [] (u ∷ other) more rest a b given stops ends = absurd (omega (arith, given, gives-more u other ends))
same-closing setup wired law runs done d t (v ∷ one) [] more rest a b given stops ends = absurd (omega (arith, given, gives-more v one stops))
same-closing setup wired law runs done d t (v ∷ one) (u ∷ other) more rest a b given stops ends =
    let first : v ≡ u = same-visits setup wired law runs done d t t v u (pulls_from d (t + 1) one ++ more) (pulls_from d (t + 1) other ++ rest) refl a b in
    ap₂ (λ x xs. x ∷ xs) first
    (same-closing setup wired law runs (done ++ pulled d t v ∷ []) d (t + 1) one other more rest (rw append_assoc a)
    (rw append_assoc (subst (λ x. CanHappen setup (done ++ pulled d t x ∷ (pulls_from d (t + 1) other ++ rest))) (sym first) b))
    (given-later (result_of (visits_of 0 v)) (given_in one) (given_in other) (given ∙ ap (λ x. length (given_in (x ∷ other))) (sym first))) (gives-later v one stops) (gives-later u other ends))

-- so are two closings of a device
same-last : (setup : Setup) → IsWired setup → HistoriesLeaveNoChoice → ((tree : Tree) → PullsLeaveNoChoice tree) → (moment d : ℕ) (done one other more rest : List Event)
    → Closes d moment (events_at setup d done) one → Closes d moment (events_at setup d done) other → CanHappen setup (done ++ (one ++ more)) → CanHappen setup (done ++ (other ++ rest)) → one ≡ other
same-last setup wired law runs moment d done one other more rest a b can happens =
    a.are
    ∙ ap (closing_pulls d moment (events_at setup d done))
    (same-closing setup wired law runs done d (max (fold max 0 (filter_map moment_in (events_at setup d done))) moment + 1) a.closing b.closing more rest
    (subst (λ l. CanHappen setup (done ++ (l ++ more))) a.are can) (subst (λ l. CanHappen setup (done ++ (l ++ rest))) b.are happens) (let ours = a.all in let theirs = b.all in omega (arith, ours, theirs)) a.stops b.stops)
    ∙ sym b.are

-- and those of the first so many devices
same-first : (setup : Setup) → IsWired setup → HistoriesLeaveNoChoice → ((tree : Tree) → PullsLeaveNoChoice tree) → (moment n : ℕ) (done one other more rest : List Event)
    → CloseFirst setup moment n done one → CloseFirst setup moment n done other → CanHappen setup (done ++ (one ++ more)) → CanHappen setup (done ++ (other ++ rest)) → one ≡ other
same-first setup wired law runs moment zero done one other more rest a b can happens = a ∙ sym b
same-first setup wired law runs moment (suc d) done one other more rest a b can happens =
    let ours : CanHappen setup (done ++ (a.0 ++ (a.1 ++ more))) = subst (λ l. CanHappen setup (done ++ l)) (append_assoc a.0 a.1 more) (subst (λ l. CanHappen setup (done ++ (l ++ more))) a.4 can) in
    let theirs : CanHappen setup (done ++ (b.0 ++ (b.1 ++ rest))) = subst (λ l. CanHappen setup (done ++ l)) (append_assoc b.0 b.1 rest) (subst (λ l. CanHappen setup (done ++ (l ++ rest))) b.4 happens) in
    let before : a.0 ≡ b.0 = same-first setup wired law runs moment d done a.0 b.0 (a.1 ++ more) (b.1 ++ rest) a.2 b.2 ours theirs in
    let last : a.1 ≡ b.1 =
    same-last setup wired law runs moment d (done ++ a.0) a.1 b.1 more rest a.3 (subst (λ l. Closes d moment (events_at setup d (done ++ l)) b.1) (sym before) b.3) (rw append_assoc ours)
    (rw append_assoc (subst (λ l. CanHappen setup (done ++ (l ++ (b.1 ++ rest)))) (sym before) theirs))
    in
    a.4 ∙ ap₂ (λ x y. x ++ y) before last ∙ sym b.4

-- so are the closings of two writings of the same commands
same-closed : (setup : Setup) → IsWired setup → HistoriesLeaveNoChoice → ((tree : Tree) → PullsLeaveNoChoice tree) → (drain : Option ℕ) (events one other : List Event) → IsClosed setup drain events one
    → IsClosed setup drain events other → CanHappen setup (events ++ one) → CanHappen setup (events ++ other) → one ≡ other
same-closed setup wired law runs None events one other a b can happens = a ∙ sym b
same-closed setup wired law runs (Some moment) events one other a b can happens =
    same-first setup wired law runs moment (length setup.trees) events one other [] [] a b (rw append-nil can) (rw append-nil happens)

-- two writings of the same commands have the same events and the same closing
same-course : (setup : Setup) → IsWired setup → HistoriesLeaveNoChoice → ((tree : Tree) → PullsLeaveNoChoice tree) → (commands : List Command) → AllByRecursion (IsSound (names_of setup)) commands
    → (drain : Option ℕ) (one other : List ℕ) (logs others : List (List Visit)) (a : Writes setup commands drain one logs) (b : Writes setup commands drain other others) → (a.events ≡ b.events) × (a.closed ≡ b.closed)
same-course setup wired law runs commands sound drain one other logs others a b = (events, closed)
  where
    events : a.events ≡ b.events
    events =
        same-events setup wired law runs [] a.events b.events a.closed b.closed a.can_happen b.can_happen (a.theirs ∙ sym b.theirs)
        (subst (AllByRecursion (IsSound (names_of setup))) (sym a.theirs) sound)

    closed : a.closed ≡ b.closed
    closed = search (rules, same-events, same-closed, events)

-- so have two meanings of a script
same-meanings : (setup : Setup) → IsWired setup → HistoriesLeaveNoChoice → ((tree : Tree) → PullsLeaveNoChoice tree) → (script one other : List ℕ) (logs others : List (List Visit)) (a : MeansWith setup script one logs)
    (b : MeansWith setup script other others) → (a.written.events ≡ b.written.events) × (a.written.closed ≡ b.written.closed)
same-meanings setup wired law runs script one other logs others a b =
    same-course setup wired law runs (commands_of script) (each-command-sound (names_of setup) script a.sound) (closing_moment script) one other logs others a.written b.written

pub has-one_meaning : (setup : Setup) → IsWired setup → HistoriesLeaveNoChoice → ((tree : Tree) → PullsLeaveNoChoice tree) → HasAtMostOneMeaning setup
has-one_meaning setup wired law runs script one other a b =
    let same = same-meanings setup wired law runs script one other a.0 b.0 a.1 b.1 in
    a.1.written.lines ∙ ap₂ (course_text setup (closing_moment script)) same.0 same.1 ∙ sym b.1.written.lines

pub has-one_log : (setup : Setup) → IsWired setup → HistoriesLeaveNoChoice → ((tree : Tree) → PullsLeaveNoChoice tree) → HasAtMostOneLog setup
has-one_log setup wired law runs script one other logs others a b =
    let same = same-meanings setup wired law runs script one other logs others a b in
    a.written.logged ∙ ap₂ (λ events closed. logs_of setup (events ++ closed)) same.0 same.1 ∙ sym b.written.logged

-- the queues of the examples are there
pub two_queues-wired : IsWired two_queues
two_queues-wired = search rules
