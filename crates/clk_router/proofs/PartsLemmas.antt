-- How the parts of a router go on by one event.
use Rattle.std.proofs.Common.{◌≡◌, ℕ, ◌+◌, ◌<◌, ◌^◌, ◌==◌, ◌&&◌, zero, suc, Bool, true, false, List, [], ◌∷◌, ◌++◌, length, map, drop, reverse, max, set, if◌then◌else◌, Option, Some, None, Result, Ok, Err, IfOk, OnOk, MatchOption, slice_get, slice_set, get_or, refl, sym, ap, ap₂, ◌∙◌, subst, arith, rules}
use Rattle.std.specs.Bool.{⊤}
use Rattle.std.specs.List.{AllByRecursion, list_any}
use Rattle.std.proofs.lemmas.List.{append_assoc, append-nil, length-append, length-map}
use Rattle.std.proofs.lemmas.List.Concat.{flat_map-append}
use Rattle.std.proofs.lemmas.List.Elements.{filter_map-append}
use Rattle.std.proofs.lemmas.Option.{slice_get-map, slice_get_read, slice_get_within}
use Rattle.std.proofs.lemmas.Bool.Decides.{nat_tests}
use Rattle.clk_sched.proofs.Callers.Lists.{set-here, set-other}
use Rattle.clk_packet.specs.declared.packet.Packet.{Packet}
use Rattle.clk_packet.specs.declared.packet.Offered.{Offered}
use Rattle.clk_packet.specs.declared.packet.Offered.TheVariants.{Accepted, Refused, Evicted}
use Rattle.clk_ring.specs.Queue.{Queue, IsOffered}
use Rattle.clk_ring.specs.QueueHistory.{QueueEvent, IsQueueHistory, pull_event, NamesOffer, offer_events}
use Rattle.clk_ring.specs.Laws.{CallsAreHistory}
use Rattle.clk_sched.specs.declared.session.keeps.Keeps.{Keeps}
use Rattle.clk_sched.specs.declared.visit.Visit.{Visit}
use Rattle.clk_sched.specs.Tree.{Tree}
use Rattle.clk_sched.specs.Log.{pulls, visits_of, result_of}
use Rattle.clk_sched.specs.Run.{IsRun}
use Rattle.clk_sched.specs.Results.{asks_queue}
use Rattle.clk_sched.specs.Answers.{Answers, at_queue as at_asked, tree_queue}
use Rattle.clk_sched.specs.Session.{IsPulledOnce, newly, latest_moment, progress_of}
use Rattle.clk_tree.specs.declared.plan.parts.QueueSpec.{QueueSpec}
use Rattle.clk_tree.specs.declared.plan.parts.SenderSpec.{SenderSpec}
use Rattle.clk_packet.specs.Lists.{AreRising}
use Rattle.clk_tree.specs.PlanParts.{Queued, queued, HasCapacity, number_of}
use Rattle.clk_router.specs.declared.senders.Sender.{Sender}
use Rattle.clk_router.specs.declared.queues.Queues.{Queues}
use Rattle.clk_router.specs.declared.devices.RouterDevice.{RouterDevice}
use Rattle.clk_router.specs.declared.parts.Parts.{Parts}
use Rattle.clk_router.specs.Events.{Room, Setup, sender_numbers, is_of_device, Event, offered, pulled, happens_at, events_at, numbers_of, log_of, sends_to, answers_in, at_queue, history, RunsTree}
use Rattle.clk_router.specs.inside.Closable.{is_at}
use Rattle.clk_router.specs.Course.{room_device}
use Rattle.clk_router.specs.inside.Parts.{path_made, device_made, sender_made, sent_one_more, AreQueuesAt, IsDeviceAt, AreDevicesAt, HasSentFew, IsAt, CanSendOn, CanOfferAt, CanCount, ChangesDevice, kept_by, CountsHere, CountsAt, KeepsAs, KeepsAsAt, LeadsOnByPull, room_of, setup_of}
use Rattle.clk_router.specs.inside.Queues.{packets_at, queue_made, OffersTo, PullsFrom, OffersAt, GivesAt}
use Rattle.clk_router.proofs.Callers.Events.{events-here, events-elsewhere, RunsTree-pulled, CanHappen-offer, CanHappen-pull, log-pulled}
use Rattle.clk_router.proofs.SenderLemmas.{IsSenderAt, sender-at, senders-pulled, senders-sent, passes-its, sends-its, IsSpecAt, spec-at}
use Rattle.clk_sched.proofs.Callers.Lists.{is_number}

-- a member at a place below the length
pub record IsMember {X : Type 0} (xs : List X) (i : ℕ) : Type 0 where
  pub member : X
  pub here : slice_get xs i ≡ Some member

pub member-at : {X : Type 0} (xs : List X) (i : ℕ) → i < length xs → IsMember xs i
member-at [] i within = absurd (omega arith)
member-at (x ∷ xs) zero within = record { member = x; here = refl }
member-at (x ∷ xs) (suc i) within = let m = member-at xs i (omega arith) in record { member = m.member; here = m.here }

-- what holds of all holds of the member at a place
pub all-there : {X : Type 0} (P : X → Type 0) (xs : List X) (i : ℕ) (x : X) → AllByRecursion P xs → slice_get xs i ≡ Some x → P x
all-there P [] i x all e = absurd (cc)
all-there P (y ∷ xs) zero x all e = let same : y ≡ x = cc in subst P same all.0
all-there P (y ∷ xs) (suc i) x all e = all-there P xs i x all.1 e

-- what happened to a queue, and one event more
pub history-with : (setup : Setup) (q : ℕ) (events : List Event) (e : Event) → history setup q (events ++ e ∷ []) ≡ history setup q events ++ at_queue setup q e
history-with setup q events e = flat_map-append (at_queue setup q) events (e ∷ []) ∙ ap (λ l. history setup q events ++ l) (append-nil (at_queue setup q e))

names-at : (old new : Option Queue) (p : Packet) (outcome : Offered) → OffersTo p outcome old new → NamesOffer p outcome
names-at old new p outcome h = search rules

at-pulled : CallsAreHistory → (events : List QueueEvent) (room : Option Room) (old new : Option Queue) (got : Option Packet) → AreQueuesAt events room old → PullsFrom got old new
    → AreQueuesAt (events ++ pull_event got ∷ []) room new
at-pulled calls events room old new got is h = search rules

-- what a queue has been through, as the setup says it
pub its-history : (events : List QueueEvent) (room : Option Room) (q : Option Queue) → AreQueuesAt events room q → MatchOption room ⊤ (λ (s : Room). IsQueueHistory s.kind s.capacity events)
its-history events room q is = search rules

-- these histories lead to these queues, which are those of a setup
pub record StandAt (setup : Setup) (events : ℕ → List QueueEvent) (queues : List Queue) : Type 0 where
  pub each : (q : ℕ) → AreQueuesAt (events q) (slice_get setup.queues q) (slice_get queues q)
  pub count : length queues ≡ length setup.queues

-- which answers queues may give
abbrev pub gives : Queues → ℕ → Option Packet → Queues → Type 0
gives old leaf got new = GivesAt old.rings.items leaf got new.rings.items

-- what a visit of a tree is to a queue
abbrev at_visit : Tree → ℕ → Visit → List QueueEvent
at_visit tree q v = if asks_queue tree q v then pull_event v.got ∷ [] else []

asks-its : (tree : Tree) (q : ℕ) (v : Visit) → asks_queue tree q v ≡ is_number q (tree_queue tree v)
asks-its tree q v = refl

-- one visit's answer
visit-answered : CallsAreHistory → (setup : Setup) (tree : Tree) (v : Visit) (a : Queues) (events : ℕ → List QueueEvent) (Rest : Queues → Type 0) → StandAt setup events a.rings.items
    → at_asked gives (tree_queue tree v) v.got a Rest → (c : Queues) × StandAt setup (λ q. events q ++ at_visit tree q v) c.rings.items × Rest c
visit-answered calls setup tree v a events Rest at answer = by_asked (tree_queue tree v) refl answer
  where
    by_asked : (o : Option ℕ) → tree_queue tree v ≡ o → at_asked gives o v.got a Rest → (c : Queues) × StandAt setup (λ q. events q ++ at_visit tree q v) c.rings.items × Rest c
    by_asked None e rest = (a, record { each = same; count = at.count }, rest)
      where
        same : (q : ℕ) → AreQueuesAt (events q ++ at_visit tree q v) (slice_get setup.queues q) (slice_get a.rings.items q)
        same q = search rules
    by_asked (Some leaf) e answered = (answered.0, record { each = changed; count = answered.1.only.count ∙ at.count }, answered.2)
      where
        changed : (q : ℕ) → AreQueuesAt (events q ++ at_visit tree q v) (slice_get setup.queues q) (slice_get answered.0.rings.items q)
        changed q = by_test (leaf == q) refl
          where
            asks : asks_queue tree q v ≡ (leaf == q)
            asks = asks-its tree q v ∙ ap (is_number q) e

            by_test : (b : Bool) → (leaf == q) ≡ b → AreQueuesAt (events q ++ at_visit tree q v) (slice_get setup.queues q) (slice_get answered.0.rings.items q)
            by_test true f =
                let same : leaf ≡ q = grind (arith, nat_tests) in
                let yes : asks_queue tree q v ≡ true = asks ∙ f in
                rw yes
                (at-pulled calls (events q) (slice_get setup.queues q) (slice_get a.rings.items q) (slice_get answered.0.rings.items q) v.got (at.each q)
                (subst (λ n. PullsFrom v.got (slice_get a.rings.items n) (slice_get answered.0.rings.items n)) same answered.1.here))
            by_test false f =
                let no : asks_queue tree q v ≡ false = asks ∙ f in
                rw (no, append-nil, answered.1.only.others q f) (at.each q)

-- the answers of a tree's visits
visits-answered : CallsAreHistory → (setup : Setup) (tree : Tree) (visits : List Visit) (a b : Queues) (events : ℕ → List QueueEvent) → StandAt setup events a.rings.items
    → Answers gives (tree_queue tree) a visits b → StandAt setup (λ q. events q ++ answers_in (Some tree) q visits) b.rings.items
visits-answered calls setup tree [] a b events at e = search rules
visits-answered calls setup tree (v ∷ visits) a b events at answers =
    let first = visit-answered calls setup tree v a events (λ c. Answers gives (tree_queue tree) c visits b) at answers in
    let rest = visits-answered calls setup tree visits first.0 b (λ q. events q ++ at_visit tree q v) first.1 first.2 in
    record {
      each = λ q. subst (λ l. AreQueuesAt l (slice_get setup.queues q) (slice_get b.rings.items q)) (append_assoc (events q) (at_visit tree q v) (answers_in (Some tree) q visits)) (rest.each q);
      count = rest.count;
    }

-- the answers of a device's pull
pub queues-answered : CallsAreHistory → (setup : Setup) (tree : Tree) (device moment : ℕ) (visits : List Visit) (a b : Queues) (events : ℕ → List QueueEvent) → slice_get setup.trees device ≡ Some tree
    → StandAt setup events a.rings.items → Answers gives (tree_queue tree) a visits b → StandAt setup (λ q. events q ++ at_queue setup q (pulled device moment visits)) b.rings.items
queues-answered calls setup tree device moment visits a b events its at answers =
    let stand = visits-answered calls setup tree visits a b events at answers in
    record {
      each = λ q. subst (λ o. AreQueuesAt (events q ++ answers_in o q visits) (slice_get setup.queues q) (slice_get b.rings.items q)) (sym its) (stand.each q);
      count = stand.count;
    }

-- a device of a router, with its tree
pub record IsHere (setup : Setup) (events : List Event) (d : ℕ) (device : RouterDevice) : Type 0 where
  pub tree : Tree
  pub its : slice_get setup.trees d ≡ Some tree
  pub is : IsDeviceAt (events_at setup d events) tree device
  pub runs : RunsTree tree (events_at setup d events)

here-at : (setup : Setup) (events : List Event) (d : ℕ) (device : RouterDevice) (tree : Option Tree) (at : Option RouterDevice) → slice_get setup.trees d ≡ tree → AreDevicesAt (events_at setup d events) tree at
    → MatchOption tree ⊤ (λ t. RunsTree t (events_at setup d events)) → at ≡ Some device → IsHere setup events d device
here-at setup events d device tree at e is runs here = search rules

pub device-here : (setup : Setup) (events : List Event) (parts : Parts) (d : ℕ) (device : RouterDevice) → IsAt setup events parts → slice_get parts.devices.items d ≡ Some device → IsHere setup events d device
device-here setup events parts d device at here =
    here-at setup events d device (slice_get setup.trees d) (slice_get parts.devices.items d) refl (at.devices d) (at.can_happen.runs d) here

-- the same device over other events, where its own are the same
pub devices-same : (es fs : List Event) (tree : Option Tree) (old new : Option RouterDevice) → es ≡ fs → new ≡ old → AreDevicesAt es tree old → AreDevicesAt fs tree new
devices-same es fs tree old new e f is = subst (λ (o : Option RouterDevice). AreDevicesAt fs tree o) (sym f) (subst (λ l. AreDevicesAt l tree old) e is)

-- what an offer counts at its device
counts-offered : (events : List Event) (tree : Tree) (old new : RouterDevice) (p : Packet) (outcome : Offered) → IsDeviceAt events tree old → new.session ≡ old.session → new.kept ≡ old.kept + kept_by outcome
    → IsDeviceAt (events ++ offered p outcome ∷ []) tree new
counts-offered events tree old new p outcome is session kept = search (rules, flat_map-append, filter_map-append, length-append)

counts-here : (events : List Event) (tree : Option Tree) (old new : Option RouterDevice) (p : Packet) (outcome : Offered) → AreDevicesAt events tree old → CountsHere outcome old new
    → AreDevicesAt (events ++ offered p outcome ∷ []) tree new
counts-here events tree None new p outcome is counts = absurd counts
counts-here events tree (Some old) None p outcome is counts = absurd counts
counts-here events None (Some old) (Some new) p outcome is counts = absurd is
counts-here events (Some tree) (Some old) (Some new) p outcome is counts = counts-offered events tree old new p outcome is counts.0 counts.1

-- the device of the queue at a place
room-device : (rooms : List Room) (q device : ℕ) → slice_get (map room_device rooms) q ≡ Some device → (d : ℕ) → is_at d (slice_get rooms q) ≡ (device == d)
room-device rooms q device here d = search (rules, slice_get-map)

-- The device of this number was one, and is another now.
pub record IsSetAt (old : List RouterDevice) (d : ℕ) (before after : RouterDevice) (new : List RouterDevice) : Type 0 where
  pub was : slice_get old d ≡ Some before
  pub is : slice_get new d ≡ Some after
  pub only : ChangesDevice old d new

pub set-device : (old : List RouterDevice) (d i : ℕ) (before after : RouterDevice) → i ≡ d → d < length old → before ≡ get_or old i before → IsSetAt old d before after (slice_set old i after)
set-device old d i before after same within value = search (rules, slice_get_read, set-here, set-other)

-- a sender that can send is there
pub can-send : (count : ℕ) (senders : List Sender) (place : ℕ) → CanSendOn count (slice_get senders place) → place < length senders
can-send count [] place can = absurd can
can-send count (s ∷ senders) zero can = omega arith
can-send count (s ∷ senders) (suc place) can = let below = can-send count senders place can in omega (arith, below)

-- a device that can count one more is there
pub can-count : (devices : List RouterDevice) (d : ℕ) → CanCount (slice_get devices d) → d < length devices
can-count [] d can = absurd can
can-count (device ∷ devices) zero can = omega arith
can-count (device ∷ devices) (suc d) can = let below = can-count devices d can in omega (arith, below)

-- A sender that can offer a packet: it stands at its place, with its number, its queue, and the device of its queue, which can count one
-- more.
pub record IsSending (parts : Parts) (place : ℕ) (s : Sender) (device : ℕ) : Type 0 where
  pub here : slice_get parts.senders.items place ≡ Some s
  pub number : slice_get parts.numbers.items place ≡ Some s.number
  pub queue : s.queue < length parts.queues.rings.items
  pub more : s.sent + 1 < 2 ^ 32
  pub path : slice_get parts.paths.items s.queue ≡ Some device
  pub within : device < length parts.devices.items
  pub counts : CanCount (slice_get parts.devices.items device)

-- what an offer reads of its sender and its device
pub sending-at : (parts : Parts) (place : ℕ) (s : Sender) (i device : ℕ) → CanOfferAt parts place → s ≡ get_or parts.senders.items place s → i ≡ s.queue → device ≡ get_or parts.paths.items i device → IsSending parts place s device
sending-at parts place s i device can is same read =
    record { here = its.here; number = its.number; queue = sends.0; more = sends.1; path = path; within = can-count parts.devices.items device counts; counts = counts }
  where
    its : IsSenderAt parts.senders.items parts.numbers.items place s
    its = sender-at parts.senders.items parts.numbers.items place s can.alike (can-send (length parts.queues.rings.items) parts.senders.items place can.can_send) is

    sends : (s.queue < length parts.queues.rings.items) × (s.sent + 1 < 2 ^ 32)
    sends = subst (CanSendOn (length parts.queues.rings.items)) its.here can.can_send

    path : slice_get parts.paths.items s.queue ≡ Some device
    path = slice_get_read parts.paths.items _ s.queue device refl (let count = can.path_count in let low = sends.0 in omega (arith, count, low)) (read ∙ ap (λ k. get_or parts.paths.items k device) same)

    counts : CanCount (slice_get parts.devices.items device)
    counts = can.counts device s its.here path

-- An outcome is counted at one device.
pub counts-at : (old : List RouterDevice) (d : ℕ) (before after : RouterDevice) (outcome : Offered) (new : List RouterDevice) → IsSetAt old d before after new → after.session ≡ before.session → after.kept ≡ before.kept + kept_by outcome → CountsAt old d outcome new
counts-at old d before after outcome new set session kept = search rules

-- What one device keeps may change, where only it does.
pub kinds-changed : (keeps : Keeps) (old : List RouterDevice) (d : ℕ) (new : List RouterDevice) → ChangesDevice old d new → (KeepsAsAt keeps (slice_get old d) → KeepsAsAt keeps (slice_get new d))
    → ((k : ℕ) → KeepsAsAt keeps (slice_get old k)) → (k : ℕ) → KeepsAsAt keeps (slice_get new k)
kinds-changed keeps old d new changes here at k = search rules

kinds-counted : (keeps : Keeps) (outcome : Offered) (old new : Option RouterDevice) → CountsHere outcome old new → KeepsAsAt keeps old → KeepsAsAt keeps new
kinds-counted keeps outcome old new counts h = search rules

pub kinds-set : (keeps : Keeps) (old : List RouterDevice) (d : ℕ) (before after : RouterDevice) (new : List RouterDevice) → slice_get old d ≡ Some before → slice_get new d ≡ Some after → ChangesDevice old d new → (after.session.keeps ≡ before.session.keeps) × (after.session.gone ≡ before.session.gone)
    → ((k : ℕ) → KeepsAsAt keeps (slice_get old k)) → (k : ℕ) → KeepsAsAt keeps (slice_get new k)
kinds-set keeps old d before after new was is changes kind =
    kinds-changed keeps old d new changes (λ h. let first : KeepsAs keeps before = subst (KeepsAsAt keeps) was h in let next : KeepsAs keeps after = (kind.0 ∙ first.0, kind.1 ∙ first.1) in subst (KeepsAsAt keeps) (sym is) next)

-- the number of the sender at a place is among those of all
number-there : (senders : List SenderSpec) (place : ℕ) (s : SenderSpec) → slice_get senders place ≡ Some s → list_any (λ n. n == s.number) (map number_of senders) ≡ true
number-there [] place s at = absurd (cc)
number-there (x ∷ senders) zero s at = search rules
number-there (x ∷ senders) (suc place) s at = search (rules, (number-there senders place s at))

-- a call keeps the kind and the capacity
offered-keeps : (old new : Queue) (p : Packet) (outcome : Offered) → IsOffered old p outcome new → (new.kind ≡ old.kind) × (new.capacity ≡ old.capacity)
offered-keeps old new p Accepted h = (ap (λ (q : Queue). q.kind) h.1, ap (λ (q : Queue). q.capacity) h.1)
offered-keeps old new p (Refused q) h = (ap (λ (q : Queue). q.kind) h.3, ap (λ (q : Queue). q.capacity) h.3)
offered-keeps old new p (Evicted front) h = (ap (λ (q : Queue). q.kind) h.2.2, ap (λ (q : Queue). q.capacity) h.2.2)

-- the queue at a place goes on by an offer, and by a pull
at-offered : CallsAreHistory → (events : List QueueEvent) (room : Option Room) (old new : Option Queue) (p : Packet) (outcome : Offered) → AreQueuesAt events room old → OffersTo p outcome old new
    → AreQueuesAt (events ++ offer_events p outcome) room new
at-offered calls events room None new p outcome is h = absurd h
at-offered calls events room (Some old) None p outcome is h = absurd h
at-offered calls events None (Some old) (Some new) p outcome is h = absurd is
at-offered calls events (Some room) (Some old) (Some new) p outcome is h =
    let keeps = offered-keeps old new p outcome h in
    record { leads = calls.offered events old new p outcome is.leads h; kind = keeps.0 ∙ is.kind; capacity = keeps.1 ∙ is.capacity }

-- all members of a list still pass a test where one of them is replaced
all-set : {X : Type 0} (P : X → Type 0) (xs : List X) (i : ℕ) (x : X) → AllByRecursion P xs → P x → AllByRecursion P (set xs i x)
all-set P [] i x all here = tt
all-set P (y ∷ xs) zero x all here = (here, all.1)
all-set P (y ∷ xs) (suc i) x all here = (all.0, all-set P xs i x all.1 here)

-- An offer of the sender at a place leads on.
pub IsAt-sent : CallsAreHistory → (setup : Setup) (events : List Event) (old new : Parts) (place device : ℕ) (s : Sender) (p : Packet) (outcome : Offered) → CountsAt old.devices.items device outcome new.devices.items → IsAt setup events old
    → AreRising old.numbers.items → slice_get old.paths.items s.queue ≡ Some device → slice_get old.senders.items place ≡ Some s → s.sent + 1 < 2 ^ 32 → p.number ≡ s.sent → p.sender ≡ s.number → OffersAt old.queues.rings.items s.queue p outcome new.queues.rings.items
    → new.senders.items ≡ set old.senders.items place (sent_one_more s) → new.numbers ≡ old.numbers → new.paths ≡ old.paths → new.keeps ≡ old.keeps → IsAt setup (events ++ offered p outcome ∷ []) new
IsAt-sent calls setup events old new place device s p outcome counted at rising path here more_room number sender offer senders numbers paths keeps =
    record {
      can_happen =
          CanHappen-offer setup events p outcome at.can_happen (ap (λ k. list_any (λ n. n == k) (sender_numbers setup)) its_number ∙ number-there setup.senders place theirs.spec theirs.here)
          (number ∙ ap (λ (t : Sender). t.sent) theirs.is ∙ ap (λ n. length (numbers_of n events)) (sym its_number))
          (names-at (slice_get old.queues.rings.items s.queue) (slice_get new.queues.rings.items s.queue) p outcome offer.here)
          (λ q. its-history (history setup q more) (slice_get setup.queues q) (slice_get new.queues.rings.items q) (queues q));
      senders = senders ∙ ap₂ (λ ss (t : Sender). set ss place (sent_one_more t)) at.senders theirs.is ∙ senders-sent events p outcome setup.senders place theirs.spec its_rising theirs.here its_number;
      numbers = ap (λ ns. ns.items) numbers ∙ at.numbers;
      sent = subst (AllByRecursion HasSentFew) (sym senders) (all-set HasSentFew old.senders.items place (sent_one_more s) at.sent more_room);
      queues = queues;
      count = offer.only.count ∙ at.count;
      devices = devices_go;
      device_count = counted.only.count ∙ at.device_count;
      paths = ap (λ ps. ps.items) paths ∙ at.paths;
      kinds =
          subst (λ (keeps : Keeps). (k : ℕ) → KeepsAsAt keeps (slice_get new.devices.items k)) (sym keeps)
          (kinds-changed old.keeps old.devices.items device new.devices.items counted.only (kinds-counted old.keeps outcome (slice_get old.devices.items device) (slice_get new.devices.items device) counted.here) at.kinds);
    }
  where
    more : List Event
    more = events ++ offered p outcome ∷ []

    theirs : IsSpecAt events setup.senders place s
    theirs = spec-at events setup.senders place s (ap (λ ss. slice_get ss place) (sym at.senders) ∙ here)

    its_number : p.sender ≡ theirs.spec.number
    its_number = sender ∙ ap (λ (t : Sender). t.number) theirs.is

    its_rising : AreRising (map number_of setup.senders)
    its_rising = subst AreRising at.numbers rising

    sends : (q : ℕ) → sends_to setup.senders p.sender q ≡ (s.queue == q)
    sends q = search (rules, spec-at, sends-its, theirs, its_number, its_rising)

    queues : (q : ℕ) → AreQueuesAt (history setup q more) (slice_get setup.queues q) (slice_get new.queues.rings.items q)
    queues q = subst (λ l. AreQueuesAt l (slice_get setup.queues q) (slice_get new.queues.rings.items q)) (sym (history-with setup q events (offered p outcome))) (by_test (s.queue == q) refl)
      where
        by_test : (b : Bool) → (s.queue == q) ≡ b → AreQueuesAt (history setup q events ++ at_queue setup q (offered p outcome)) (slice_get setup.queues q) (slice_get new.queues.rings.items q)
        by_test true f =
            let same : s.queue ≡ q = grind (arith, nat_tests) in
            let yes : sends_to setup.senders p.sender q ≡ true = sends q ∙ f in
            rw yes
            (at-offered calls (history setup q events) (slice_get setup.queues q) (slice_get old.queues.rings.items q) (slice_get new.queues.rings.items q) p outcome (at.queues q)
            (subst (λ n. OffersTo p outcome (slice_get old.queues.rings.items n) (slice_get new.queues.rings.items n)) same offer.here))
        by_test false f =
            let no : sends_to setup.senders p.sender q ≡ false = sends q ∙ f in
            rw (no, append-nil, offer.only.others q f) (at.queues q)

    -- the offer happens at the device of the sender's queue alone
    happens : (d : ℕ) → happens_at setup d (offered p outcome) ≡ (device == d)
    happens d =
        ap (λ n. list_any (λ (t : SenderSpec). (t.number == n) && is_of_device setup.queues d t) setup.senders) its_number
        ∙ passes-its (is_of_device setup.queues d) setup.senders place theirs.spec its_rising theirs.here
        ∙ ap (λ (t : Sender). is_at d (slice_get setup.queues t.queue)) (sym theirs.is)
        ∙ room-device setup.queues s.queue device (ap (λ ps. slice_get ps s.queue) (sym at.paths) ∙ path) d

    devices_go : (d : ℕ) → AreDevicesAt (events_at setup d more) (slice_get setup.trees d) (slice_get new.devices.items d)
    devices_go d = by_test (device == d) refl
      where
        by_test : (b : Bool) → (device == d) ≡ b → AreDevicesAt (events_at setup d more) (slice_get setup.trees d) (slice_get new.devices.items d)
        by_test true f =
            let same : device ≡ d = grind (arith, nat_tests) in
            subst (λ l. AreDevicesAt l (slice_get setup.trees d) (slice_get new.devices.items d)) (sym (events-here setup d events (offered p outcome) (happens d ∙ f)))
            (counts-here (events_at setup d events) (slice_get setup.trees d) (slice_get old.devices.items d) (slice_get new.devices.items d) p outcome (at.devices d)
            (subst (λ n. CountsHere outcome (slice_get old.devices.items n) (slice_get new.devices.items n)) same counted.here))
        by_test false f =
            devices-same (events_at setup d events) (events_at setup d more) (slice_get setup.trees d) (slice_get old.devices.items d) (slice_get new.devices.items d)
            (sym (events-elsewhere setup d events (offered p outcome) (happens d ∙ f))) (counted.only.others d f) (at.devices d)

-- A pull of a device, which changes the session of no other, leads on.
pub IsAt-pulled : CallsAreHistory → (setup : Setup) (events : List Event) (old new : Parts) (d moment : ℕ) (before after : RouterDevice) (got : Option Packet) → IsAt setup events old → slice_get old.devices.items d ≡ Some before
    → slice_get new.devices.items d ≡ Some after → ChangesDevice old.devices.items d new.devices.items → after.kept ≡ before.kept → (after.session.keeps ≡ before.session.keeps) × (after.session.gone ≡ before.session.gone) → IsPulledOnce (progress_of before.session) (progress_of after.session) moment got
    → Answers gives (tree_queue before.session.tree) old.queues (newly (progress_of before.session) (progress_of after.session)) new.queues → new.senders ≡ old.senders → new.numbers ≡ old.numbers → new.paths ≡ old.paths
    → new.keeps ≡ old.keeps → LeadsOnByPull setup new d moment got events
IsAt-pulled calls setup events old new d moment before after got at was is changes kept kind once answers senders numbers paths keeps =
    record {
      its = after;
      here = is;
      result = ap (λ l. result_of (visits_of 0 l)) shown ∙ sym once.result;
      leads = subst (λ l. IsAt setup (events ++ pulled d moment l ∷ []) new) (sym shown) (record {
        can_happen =
            CanHappen-pull setup events d moment visits at.can_happen (slice_get_within setup.trees d here.tree here.its)
            (subst (λ o. MatchOption o ⊤ (λ tree. RunsTree tree (events_at setup d events ++ pulled d moment visits ∷ []))) (sym here.its) runs)
            (λ q. its-history (history setup q more) (slice_get setup.queues q) (slice_get new.queues.rings.items q) (queues q));
        senders = ap (λ ss. ss.items) senders ∙ at.senders ∙ senders-pulled events d moment visits setup.senders;
        numbers = ap (λ ns. ns.items) numbers ∙ at.numbers;
        sent = subst (λ ss. AllByRecursion HasSentFew ss.items) (sym senders) at.sent;
        queues = queues;
        count = answered.count;
        devices = devices_go;
        device_count = changes.count ∙ at.device_count;
        paths = ap (λ ps. ps.items) paths ∙ at.paths;
        kinds =
            subst (λ (keeps : Keeps). (k : ℕ) → KeepsAsAt keeps (slice_get new.devices.items k)) (sym keeps)
            (kinds-set old.keeps old.devices.items d before after new.devices.items was is changes kind at.kinds);
      });
    }
  where
    visits : List Visit
    visits = newly (progress_of before.session) (progress_of after.session)

    more : List Event
    more = events ++ pulled d moment visits ∷ []

    here : IsHere setup events d before
    here = device-here setup events old d before at was

    shown : drop (length (log_of (events_at setup d events))) after.session.log ≡ visits
    shown = ap (λ l. drop (length l) after.session.log) (sym here.is.log)

    max_latest : List Visit → ℕ
    max_latest l = max (latest_moment (reverse (pulls l))) moment

    log : after.session.log ≡ log_of (events_at setup d events) ++ visits
    log = once.log ∙ ap (λ l. l ++ visits) here.is.log

    runs : RunsTree here.tree (events_at setup d events ++ pulled d moment visits ∷ [])
    runs =
        RunsTree-pulled here.tree (events_at setup d events) d moment visits here.runs (subst (IsRun here.tree) log (subst (λ t. IsRun t after.session.log) (once.tree ∙ here.is.tree_is) once.run))
        (ap pulls (sym log) ∙ once.last ∙ ap (λ l. pulls l ++ visits ∷ []) here.is.log) (once.at_moment ∙ ap (λ l. max_latest l) here.is.log)

    answered : StandAt setup (λ q. history setup q events ++ at_queue setup q (pulled d moment visits)) new.queues.rings.items
    answered =
        queues-answered calls setup here.tree d moment visits old.queues new.queues (λ q. history setup q events) here.its (record { each = at.queues; count = at.count })
        (subst (λ t. Answers gives (tree_queue t) old.queues visits new.queues) here.is.tree_is answers)

    queues : (q : ℕ) → AreQueuesAt (history setup q more) (slice_get setup.queues q) (slice_get new.queues.rings.items q)
    queues q = subst (λ l. AreQueuesAt l (slice_get setup.queues q) (slice_get new.queues.rings.items q)) (sym (history-with setup q events (pulled d moment visits))) (answered.each q)

    itself : IsDeviceAt (events_at setup d events ++ pulled d moment visits ∷ []) here.tree after
    itself = search (rules, log-pulled, filter_map-append)

    devices_go : (k : ℕ) → AreDevicesAt (events_at setup k more) (slice_get setup.trees k) (slice_get new.devices.items k)
    devices_go k = by_test (d == k) refl
      where
        by_test : (b : Bool) → (d == k) ≡ b → AreDevicesAt (events_at setup k more) (slice_get setup.trees k) (slice_get new.devices.items k)
        by_test true f =
            let same : d ≡ k = grind (arith, nat_tests) in
            subst (λ n. AreDevicesAt (events_at setup n more) (slice_get setup.trees n) (slice_get new.devices.items n)) same
            (subst (λ l. AreDevicesAt l (slice_get setup.trees d) (slice_get new.devices.items d)) (sym (events-here setup d events (pulled d moment visits) (grind (arith, nat_tests))))
            (subst (λ (o : Option RouterDevice). AreDevicesAt (events_at setup d events ++ pulled d moment visits ∷ []) (slice_get setup.trees d) o) (sym is)
            (subst (λ (o : Option Tree). AreDevicesAt (events_at setup d events ++ pulled d moment visits ∷ []) o (Some after)) (sym here.its) itself)))
        by_test false f =
            devices-same (events_at setup k events) (events_at setup k more) (slice_get setup.trees k) (slice_get old.devices.items k) (slice_get new.devices.items k)
            (sym (events-elsewhere setup k events (pulled d moment visits) f)) (changes.others k f) (at.devices k)

paths-made : (queues : List Queued) → map path_made queues ≡ map room_device (map room_of queues)
paths-made [] = refl
paths-made (q ∷ queues) = ap (λ l. q.device ∷ l) (paths-made queues)

made-few : (senders : List SenderSpec) → AllByRecursion HasSentFew (map sender_made senders)
made-few [] = tt
made-few (s ∷ senders) = (omega arith, made-few senders)

-- The parts of a router to which nothing has happened.
pub IsAt-made : CallsAreHistory → (names : List (List ℕ)) (trees : List Tree) (queues : List Queued) (senders : List SenderSpec) (parts : Parts) → ((tree : Tree) → IsRun tree [])
    → parts.devices.items ≡ map (device_made parts.keeps) trees → parts.queues.rings.items ≡ map queue_made queues → parts.paths.items ≡ map path_made queues → parts.senders.items ≡ map sender_made senders
    → parts.numbers.items ≡ map number_of senders → IsAt (setup_of names trees queues senders) [] parts
IsAt-made calls names trees queues senders parts run devices_are queues_are paths_are senders_are numbers_are = search (rules, slice_get-map, length-map, paths-made, made-few)

-- Queues as they are made hold nothing.
pub made-hold-none : (specs : List Queued) (q : ℕ) → packets_at (map queue_made specs) q ≡ []
made-hold-none [] q = refl
made-hold-none (s ∷ specs) zero = refl
made-hold-none (s ∷ specs) (suc q) = made-hold-none specs q

-- the capacity of one of some queues is within the limits
pub capacity-at : (specs : List QueueSpec) (i : ℕ) (spec : QueueSpec) → AllByRecursion HasCapacity (map queued specs) → i < length specs → spec ≡ get_or specs i spec → HasCapacity (queued spec)
capacity-at [] i spec all within is = absurd (omega arith)
capacity-at (s ∷ specs) zero spec all within is = subst (λ (q : QueueSpec). HasCapacity (queued q)) (sym is) all.0
capacity-at (s ∷ specs) (suc i) spec all within is = capacity-at specs i spec all.1 (omega arith) is

-- what follows from two facts of a success, and of a failure
pub both-ok : {T E : Type 0} {P R : T → Type 0} {Q : Type 0} (r : Result T E) → ((x : T) → P x → Q → R x) → IfOk r P → OnOk r Q → IfOk r R
both-ok (Ok x) step p q = step x p q
both-ok (Err e) step p q = tt
