-- From which moment on a device could emit a packet, by the device's session and the queues.
use Rattle.std.proofs.Common.{◌≡◌, ℕ, ◌+◌, ◌<◌, ◌≤◌, ◌==◌, max, fold, nat_lt, Bool, true, false, not, List, [], ◌∷◌, ◌++◌, length, reverse, Option, Some, None, is_some, MatchOption, slice_get, refl, sym, ap, ◌∙◌, subst, arith, if◌then◌else◌, inl, inr, rules, ap₂}
use Rattle.std.specs.Bool.{⊤}
use Rattle.std.specs.List.{filter_map}
use Rattle.std.proofs.lemmas.Bool.{false≢true}
use Rattle.std.proofs.lemmas.Bool.Decides.{nat_tests}
use Rattle.std.proofs.lemmas.List.{length-append, reverse-append}
use Rattle.std.proofs.lemmas.List.Elements.{filter_map-append}
use Rattle.std.proofs.lemmas.List.Sums.{fold-append}
use Rattle.clk_packet.specs.declared.packet.Packet.{Packet}
use Rattle.clk_packet.specs.Lists.{In, stands_in}
use Rattle.clk_ring.specs.Queue.{Queue}
use Rattle.clk_ring.specs.QueueHistory.{held, pull_event, IsInOrder, IsQueueHistory}
use Rattle.clk_sched.specs.declared.visit.Visit.{Visit}
use Rattle.clk_sched.specs.Due.{IsDue, tree_could_emit, GetsFromBacklogged, EmitsOnceDue, turns_in}
use Rattle.clk_sched.specs.Log.{pulls, moment_of, visits_of, result_of}
use Rattle.clk_sched.specs.Answers.{tree_queue}
use Rattle.clk_sched.specs.Results.{asks_queue}
use Rattle.clk_sched.specs.Session.{latest_moment, counted_moment, progress_of}
use Rattle.clk_sched.specs.Run.{IsRun}
use Rattle.clk_sched.specs.Step.{IsOnePullMore}
use Rattle.clk_sched.specs.Tree.{Tree, root, leaves, queue_at}
use Rattle.clk_sched.proofs.Callers.Due.{could-same}
use Rattle.clk_sched.proofs.Callers.Lists.{to-all}
use Rattle.clk_router.specs.declared.devices.RouterDevice.{RouterDevice}
use Rattle.clk_router.specs.declared.parts.Parts.{Parts}
use Rattle.clk_router.specs.Course.{Course, events_of, moment_at}
use Rattle.clk_router.specs.Due.{is_backlogged, IsDeviceDue, EmitsNoneBefore}
use Rattle.clk_router.specs.Events.{Room, Setup, Event, pulled, events_at, moment_in, log_of, pull_in, answers_in, at_queue, history, RunsTree, CanHappen}
use Rattle.clk_router.specs.InsideQueues.{given_by}
use Rattle.clk_router.specs.inside.Closable.{IsClosable, is_at}
use Rattle.clk_router.specs.inside.Parts.{AreQueuesAt, Stand, IsSessionDue}
use Rattle.clk_router.specs.inside.Queues.{packets_in, packets_at}
use Rattle.clk_router.proofs.AskLemmas.{moment-is}
use Rattle.clk_router.proofs.Callers.Events.{events-here, log-pulled, latest-moment}
use Rattle.clk_router.proofs.Callers.Plans.{queue-stands}
use Rattle.clk_router.proofs.PartsLemmas.{member-at, IsHere, device-here}
use Rattle.clk_router.proofs.RouterLemmas.{course}
use Rattle.clk_router.proofs.Settled.QueuePackets.{history-in_order, held-before}
use Rattle.clk_sched.proofs.Callers.Lists.{is_number}

-- a queue of a device holds what its history says
held-there : (setup : Setup) (d q : ℕ) (events : List Event) (room : Option Room) (ring : Option Queue) → is_at d room ≡ true → AreQueuesAt (history setup q events) room ring
    → nat_lt 0 (length (packets_in ring)) ≡ is_backlogged setup events q
held-there setup d q events room ring at leads = search rules

device-due : (setup : Setup) (events : List Event) (parts : Parts) (d : ℕ) (its : RouterDevice) (due : Option ℕ) → Stand setup events parts → slice_get parts.devices.items d ≡ Some its
    → IsSessionDue its.session parts.queues.rings.items due → IsDeviceDue (course setup events parts) d due
device-due setup events parts d its due stand at found =
    subst (λ o. MatchOption o ⊥ (λ tree. IsDue (tree_could_emit tree (log_of (events_at setup d events)) (is_backlogged setup events)) (moment_at (course setup events parts) d) due)) (sym here.its)
    (record {
      each = λ moment l. sym (same moment) ∙ found.each moment (subst (λ m. m ≤ moment) (sym from) l);
      later = subst (λ m. MatchOption due ⊤ (λ moment. m ≤ moment)) from found.later;
    })
  where
    here : IsHere setup events d its
    here = device-here setup events parts d its stand.at at

    from : counted_moment (progress_of its.session) ≡ moment_at (course setup events parts) d
    from = moment-is setup events parts stand d its at

    own : (q : ℕ) → stands_in q (leaves (root here.tree)) ≡ true → nat_lt 0 (length (packets_at parts.queues.rings.items q)) ≡ is_backlogged setup events q
    own q m = held-there setup d q events (slice_get setup.queues q) (slice_get parts.queues.rings.items q) (sym ((stand.closable.queues d here.tree here.its).leaves_are q) ∙ m) (stand.at.queues q)

    same : (moment : ℕ) → tree_could_emit its.session.tree its.session.log (λ q. nat_lt 0 (length (packets_at parts.queues.rings.items q))) moment
        ≡ tree_could_emit here.tree (log_of (events_at setup d events)) (is_backlogged setup events) moment
    same moment =
        ap₂ (λ tree log. tree_could_emit tree log (λ q. nat_lt 0 (length (packets_at parts.queues.rings.items q))) moment) here.is.tree_is here.is.log
        ∙ could-same (turns_in (log_of (events_at setup d events))) (λ q. nat_lt 0 (length (packets_at parts.queues.rings.items q))) (is_backlogged setup events) moment 1 (root here.tree) own

pub router-due : (setup : Setup) (events : List Event) (parts : Parts) (d : ℕ) (due : Option ℕ) → Stand setup events parts → d < length setup.trees
    → ((its : RouterDevice) → slice_get parts.devices.items d ≡ Some its → IsSessionDue its.session parts.queues.rings.items due) → IsDeviceDue (course setup events parts) d due
router-due setup events parts d due stand within found =
    let its = member-at parts.devices.items d (let count = stand.at.device_count in omega (arith, count, within)) in
    device-due setup events parts d its.member due stand its.here (found its.member its.here)

-- a queue that is looked up holds a packet or not
pub backlog-at : (rings : List Queue) (leaf : ℕ) (ring : Queue) (empty : Bool) → slice_get rings leaf ≡ Some ring → (empty ≡ true → ring.packets ≡ []) × (ring.packets ≡ [] → empty ≡ true)
    → not empty ≡ nat_lt 0 (length (packets_at rings leaf))
backlog-at rings leaf ring empty here is = by_packets ring.packets empty is ∙ ap (λ o. nat_lt 0 (length (packets_in o))) (sym here)
  where
    by_packets : (ps : List Packet) (b : Bool) → (b ≡ true → ps ≡ []) × (ps ≡ [] → b ≡ true) → not b ≡ nat_lt 0 (length ps)
    by_packets [] b is = ap not (is.1 refl) ∙ sym (let none : nat_lt 0 0 ≡ false = grind (arith, nat_tests) in none)
    by_packets (p ∷ ps) true is = absurd (omega (arith, ap length (is.0 refl)))
    by_packets (p ∷ ps) false is = let some : 0 < length (p ∷ ps) = omega arith in sym (grind (arith, nat_tests, some))

-- a pull that got a packet from a queue was given one
given-some : (tree : Tree) (q : ℕ) (visits : List Visit) (v : Visit) → In v visits → asks_queue tree q v ≡ true → is_some v.got ≡ true → 1 ≤ length (filter_map given_by (answers_in (Some tree) q visits))
given-some tree q [] v m asks some = absurd m
given-some tree q (u ∷ visits) v m asks some =
    let whole = ap length (filter_map-append given_by (if asks_queue tree q u then pull_event u.got ∷ [] else []) (answers_in (Some tree) q visits)) ∙ length-append _ (filter_map given_by (answers_in (Some tree) q visits)) in
    by_place m whole (λ k. given-some tree q visits v k asks some)
  where
    first : v ≡ u → 1 ≤ length (filter_map given_by (if asks_queue tree q u then pull_event u.got ∷ [] else []))
    first same = by_got (asks_queue tree q u) u.got (sym (ap (asks_queue tree q) same) ∙ asks) (sym (ap (λ (w : Visit). is_some w.got) same) ∙ some)
      where
        by_got : (b : Bool) (o : Option Packet) → b ≡ true → is_some o ≡ true → 1 ≤ length (filter_map given_by (if b then pull_event o ∷ [] else []))
        by_got false o e f = absurd (false≢true e)
        by_got true None e f = absurd (false≢true f)
        by_got true (Some p) e f = omega arith

    by_place : In v (u ∷ visits) → length (filter_map given_by (answers_in (Some tree) q (u ∷ visits))) ≡ length (filter_map given_by (if asks_queue tree q u then pull_event u.got ∷ [] else [])) + length (filter_map given_by (answers_in (Some tree) q visits))
        → (In v visits → 1 ≤ length (filter_map given_by (answers_in (Some tree) q visits))) → 1 ≤ length (filter_map given_by (answers_in (Some tree) q (u ∷ visits)))
    by_place (inl e) whole later = let one = first (sym e) in omega (arith, whole, one)
    by_place (inr k) whole later = let one = later k in omega (arith, whole, one)

-- A pull of a device that is there.
module _ (setup : Setup) (events : List Event) (d moment : ℕ) (visits : List Visit) (tree : Tree) (closable : IsClosable setup) (its : slice_get setup.trees d ≡ Some tree) (can : CanHappen setup events)
    (goes_on : CanHappen setup (events ++ pulled d moment visits ∷ [])) where
  abbrev more : List Event
  more = events ++ pulled d moment visits ∷ []

  here : events_at setup d more ≡ events_at setup d events ++ pulled d moment visits ∷ []
  here = events-here setup d events (pulled d moment visits) (let itself : (d == d) ≡ true = grind (arith, nat_tests) in itself)

  before : RunsTree tree (events_at setup d events)
  before = subst (λ o. MatchOption o ⊤ (λ t. RunsTree t (events_at setup d events))) its (can.runs d)

  after : RunsTree tree (events_at setup d events ++ pulled d moment visits ∷ [])
  after = subst (RunsTree tree) here (subst (λ o. MatchOption o ⊤ (λ t. RunsTree t (events_at setup d more))) its (goes_on.runs d))

  log : log_of (events_at setup d events ++ pulled d moment visits ∷ []) ≡ log_of (events_at setup d events) ++ visits
  log = log-pulled (events_at setup d events) d moment visits

  last : pulls (log_of (events_at setup d events) ++ visits) ≡ pulls (log_of (events_at setup d events)) ++ visits ∷ []
  last =
      ap pulls (sym log) ∙ after.pull_by_pull ∙ filter_map-append pull_in (events_at setup d events) (pulled d moment visits ∷ [])
      ∙ ap (λ l. l ++ visits ∷ []) (sym before.pull_by_pull)

  one : IsOnePullMore tree (log_of (events_at setup d events)) visits
  one = record { run = subst (IsRun tree) log after.run; last = last }

  at_moment : moment_of visits ≡ max (fold max 0 (filter_map moment_in (events_at setup d events))) moment
  at_moment =
      sym (ap (λ ps. latest_moment (reverse ps)) (ap pulls log ∙ last) ∙ ap latest_moment (reverse-append (pulls (log_of (events_at setup d events))) (visits ∷ [])))
      ∙ latest-moment tree (events_at setup d events ++ pulled d moment visits ∷ []) after
      ∙ ap (fold max 0) (filter_map-append moment_in (events_at setup d events) (pulled d moment visits ∷ [])) ∙ fold-append max 0 (filter_map moment_in (events_at setup d events)) (moment ∷ [])

  -- the queues that gave packets held some
  its_order : (es : List Event) → CanHappen setup es → (q : ℕ) (room : Room) → slice_get setup.queues q ≡ Some room → IsInOrder room.capacity (history setup q es)
  its_order es happen q room is =
      history-in_order room.kind room.capacity (history setup q es) (subst (λ o. MatchOption o ⊤ (λ (r : Room). IsQueueHistory r.kind r.capacity (history setup q es))) is (happen.histories q))

  gave : (v : Visit) → In v visits → (q : ℕ) → tree_queue tree v ≡ Some q → is_some v.got ≡ true → is_backlogged setup events q ≡ true
  gave v m q asked some = by_room (slice_get setup.queues q) refl (sym ((closable.queues d tree its).leaves_are q) ∙ leaf v.fresh asked)
    where
      leaf : (b : Bool) → (if b then queue_at tree v.node v.input else None) ≡ Some q → stands_in q (leaves (root tree)) ≡ true
      leaf false e = absurd (cc)
      leaf true e = queue-stands 0 0 1 (root tree) v.node v.input q e

      asks : asks_queue tree q v ≡ true
      asks = ap (is_number q) asked ∙ (let itself : (q == q) ≡ true = grind (arith, nat_tests) in itself)

      by_room : (o : Option Room) → slice_get setup.queues q ≡ o → is_at d o ≡ true → is_backlogged setup events q ≡ true
      by_room None e at = absurd (false≢true at)
      by_room (Some room) e at =
          let was = held-before setup q room.capacity events d moment visits (its_order events can q room e) (its_order more goes_on q room e) in
          let given : 1 ≤ length (filter_map given_by (at_queue setup q (pulled d moment visits))) =
          subst (λ o. 1 ≤ length (filter_map given_by (answers_in o q visits))) (sym its) (given-some tree q visits v m asks some) in
          let long = ap length was ∙ length-append (filter_map given_by (at_queue setup q (pulled d moment visits))) (held (history setup q more)) in
          let some : 0 < length (held (history setup q events)) = omega (arith, given, long) in
          grind (arith, nat_tests, some)

  gets : GetsFromBacklogged tree (is_backlogged setup events) visits
  gets = to-all _ visits (λ v m. by_queue v m (tree_queue tree v) refl)
    where
      by_queue : (v : Visit) → In v visits → (o : Option ℕ) → tree_queue tree v ≡ o → MatchOption o ⊤ (λ q. is_some v.got ≡ true → is_backlogged setup events q ≡ true)
      by_queue v m None e = tt
      by_queue v m (Some q) e = gave v m q e

  pub pulled-none : EmitsOnceDue tree → tree_could_emit tree (log_of (events_at setup d events)) (is_backlogged setup events) (max (fold max 0 (filter_map moment_in (events_at setup d events))) moment) ≡ false
      → result_of (visits_of 0 visits) ≡ None
  pulled-none law none = law (log_of (events_at setup d events)) visits (is_backlogged setup events) one gets (ap (tree_could_emit tree (log_of (events_at setup d events)) (is_backlogged setup events)) at_moment ∙ none)

-- No pull of a device emits a packet before it is due.
pub none-before : (c : Course) (d : ℕ) (due : Option ℕ) → ((tree : Tree) → EmitsOnceDue tree) → IsClosable c.setup → CanHappen c.setup c.events → IsDeviceDue c d due → EmitsNoneBefore c d due
none-before c d due law closable can is new moment got pull happen early = by_tree (slice_get c.setup.trees d) refl is
  where
    goes_on : CanHappen c.setup (c.events ++ pulled d moment pull.visits ∷ [])
    goes_on = subst (λ (k : Course). CanHappen k.setup k.events) pull.goes_on happen

    by_tree : (o : Option Tree) → slice_get c.setup.trees d ≡ o → MatchOption o ⊥ (λ tree. IsDue (tree_could_emit tree (log_of (events_of c d)) (is_backlogged c.setup c.events)) (moment_at c d) due) → got ≡ None
    by_tree None e k = absurd k
    by_tree (Some tree) e k =
        sym pull.result ∙ pulled-none c.setup c.events d moment pull.visits tree closable e can goes_on (law tree) (k.each (max (moment_at c d) moment) (omega arith) ∙ early)
