-- What the parts of a router can do where its course says that it can, and what their devices kept.
use Rattle.std.proofs.Common.{◌≡◌, ℕ, ◌+◌, ◌<◌, ◌≤◌, suc, max, true, List, [], ◌∷◌, ◌++◌, length, map, get_or, Option, Some, Result, Ok, Err, IfOk, OnErr, slice_get, refl, sym, ap, ap₂, ◌∙◌, subst, arith, rules}
use Rattle.std.specs.Option.{option_map}
use Rattle.std.proofs.lemmas.List.{length-map}
use Rattle.std.proofs.lemmas.Option.{slice_get-map, get_or_from_slice_get}
use Rattle.clk_packet.specs.declared.packet.Packet.{Packet}
use Rattle.clk_sched.specs.Conservation.{ConservesCounts}
use Rattle.clk_sched.specs.declared.session.departures.Departure.{Departure}
use Rattle.clk_sched.specs.Session.{SessionLists, progress_of, pulls_made}
use Rattle.clk_sched.specs.declared.limits.TheConstants.{END_OF_PULLS, END_OF_DRAINS}
use Rattle.clk_sched.specs.Log.{visits_of, result_of}
use Rattle.clk_sched.specs.Results.{emitted}
use Rattle.clk_sched.specs.Run.{IsRun}
use Rattle.clk_sched.specs.Tree.{Tree, leaves_distinct}
use Rattle.clk_packet.specs.Lists.{AreRising}
use Rattle.clk_tree.specs.PlanParts.{SendsWithin, number_of}
use Rattle.clk_router.specs.declared.senders.Sender.{Sender}
use Rattle.clk_router.specs.declared.devices.RouterDevice.{RouterDevice}
use Rattle.clk_router.specs.declared.parts.Parts.{Parts}
use Rattle.clk_router.specs.declared.past.Past.{Past}
use Rattle.clk_router.specs.Course.{Course, after, IsClosed, pulls_at, accepted_at, evicted_at, emitted_at, room_device, its_device, CanOffer, CanClose}
use Rattle.clk_router.specs.Events.{Room, Setup, sender_numbers, Event}
use Rattle.clk_router.specs.Drains.{HasLeft, StopsShort}
use Rattle.clk_router.specs.inside.Past.{device_tree, trees_in, visits_shown, pull_shown, made_shown, pulls_shown}
use Rattle.clk_router.specs.inside.Parts.{sender_after, KeepsAs, KeepsAsAt, IsAt, CanCount, CanSendOn, CanOfferAt, CanPullAt, CanCloseAt, CountsLeft, LeadsOnByPull, LeadsOnByPulls, ClosesBy, StopsBy, Stand}
use Rattle.clk_router.proofs.ClosingLemmas.{its-latest, its-pulls}
use Rattle.clk_router.proofs.NeverShort.{kept-is}
use Rattle.clk_router.proofs.PartsLemmas.{IsMember, member-at, all-there, IsHere, device-here}
use Rattle.clk_router.proofs.SenderLemmas.{alike-its}

-- a course over these events
abbrev pub course : Setup → List Event → Parts → Course
course setup events parts = record { setup = setup; events = events; keeps = parts.keeps }

-- a device that is there, by the setup
module _ (setup : Setup) (events : List Event) (parts : Parts) (stand : Stand setup events parts) (d : ℕ) (within : d < length setup.trees) where
  its : IsMember parts.devices.items d
  its = member-at parts.devices.items d (let count = stand.at.device_count in omega (arith, count, within))

  there : IsHere setup events d its.member
  there = device-here setup events parts d its.member stand.at its.here

  keeps : KeepsAs parts.keeps its.member
  keeps = subst (KeepsAsAt parts.keeps) its.here (stand.at.kinds d)

  made : pulls_made (progress_of its.member.session) ≡ pulls_at (course setup events parts) d
  made = its-pulls setup events d its.member there

  pub pulls-when : pulls_at (course setup events parts) d < END_OF_PULLS → CanPullAt parts.keeps (slice_get parts.devices.items d)
  pulls-when few = subst (CanPullAt parts.keeps) (sym its.here) (keeps, let m = made in omega (arith, m, few))

  -- what is kept is what came out and what is left
  module _ (start : (tree : Tree) → IsRun tree []) (counts : (tree : Tree) → leaves_distinct tree ≡ true → ConservesCounts tree) where
    out : length (emitted its.member.session.log) ≡ emitted_at (course setup events parts) d
    out = ap (λ l. length (emitted l)) there.is.log

    least : length (emitted its.member.session.log) ≤ its.member.kept
    least = let kept = kept-is setup events parts d its.member stand.closable stand.at start counts its.here in omega (arith, kept)

    pub counts-left : CountsLeft (slice_get parts.devices.items d)
    counts-left = subst CountsLeft (sym its.here) least

    pub left-is : (left : ℕ) → ((here : RouterDevice) → slice_get parts.devices.items d ≡ Some here → length (emitted here.session.log) + left ≡ here.kept)
        → accepted_at (course setup events parts) d ≡ evicted_at (course setup events parts) d + emitted_at (course setup events parts) d + left
    left-is left is =
        let all = is its.member its.here in
        let kept = there.is.kept in
        let o = out in
        omega (arith, all, kept, o)

    pub closes-when : (moment : ℕ) → CanClose (course setup events parts) d moment → CanCloseAt moment (slice_get parts.devices.items d)
    closes-when moment can =
        let kept = there.is.kept in
        let o = out in
        let m = made in
        let latest = its-latest setup events d its.member there in
        let few = can.left in
        let pulls = can.pulls in
        subst (CanCloseAt moment) (sym its.here)
        (least, omega (arith, kept, o, few), subst (λ n. max n moment < END_OF_DRAINS) (sym latest) can.moments, omega (arith, m, pulls))

-- a sender that can offer a packet
module _ (setup : Setup) (events : List Event) (parts : Parts) (stand : Stand setup events parts) (place : ℕ) (can : CanOffer (course setup events parts) place) where
  spec : IsMember setup.senders place
  spec = member-at setup.senders place can.there

  its_number : slice_get (sender_numbers setup) place ≡ Some spec.member.number
  its_number = slice_get-map number_of setup.senders place ∙ ap (option_map number_of) spec.here

  sender_here : slice_get parts.senders.items place ≡ Some (sender_after events spec.member)
  sender_here = ap (λ l. slice_get l place) stand.at.senders ∙ slice_get-map (sender_after events) setup.senders place ∙ ap (option_map (sender_after events)) spec.here

  queue_there : spec.member.queue < length parts.queues.rings.items
  queue_there =
      let within = all-there (SendsWithin (length setup.queues)) setup.senders place spec.member stand.whole.wired spec.here in
      let count = stand.at.count in omega (arith, within, count)

  room : IsMember setup.queues spec.member.queue
  room = member-at setup.queues spec.member.queue (let count = stand.at.count in let within = queue_there in omega (arith, count, within))

  -- the device of its queue, which counts one more
  counted : (device : ℕ) → slice_get parts.paths.items spec.member.queue ≡ Some device → CanCount (slice_get parts.devices.items device)
  counted device path =
      let to : room.member.device ≡ device =
      let e : Some room.member.device ≡ Some device = ap (option_map room_device) (sym room.here) ∙ sym (slice_get-map room_device setup.queues spec.member.queue) ∙ ap (λ l. slice_get l spec.member.queue) (sym stand.at.paths) ∙ path in
      cc e
      in
      let within = all-there (λ (r : Room). r.device < length setup.trees) setup.queues spec.member.queue room.member stand.whole.paths room.here in
      let its = member-at parts.devices.items device (let count = stand.at.device_count in omega (arith, count, within, to)) in
      let here = device-here setup events parts device its.member stand.at its.here in
      let few = can.packets device (ap (λ o. its_device setup.queues o) spec.here ∙ ap (option_map room_device) room.here ∙ ap (λ n. Some n) to) in
      let kept = here.is.kept in
      subst CanCount (sym its.here) (omega (arith, few, kept))

  pub offers-when : CanOfferAt parts place
  offers-when =
      record {
        alike = alike-its setup events parts stand.at;
        rising = subst AreRising (sym stand.at.numbers) stand.whole.rising;
        can_send = subst (CanSendOn (length parts.queues.rings.items)) (sym sender_here) (queue_there, can.numbers spec.member.number its_number);
        path_count = ap length stand.at.paths ∙ length-map setup.queues room_device ∙ sym stand.at.count;
        counts = λ device s here path. let same : sender_after events spec.member ≡ s = cc (sender_here, here) in counted device (subst (λ (t : Sender). slice_get parts.paths.items t.queue ≡ Some device) (sym same) path);
      }

-- the trees of the devices
trees-each : (devices : List RouterDevice) (trees : List Tree) → length devices ≡ length trees
    → ((i : ℕ) (device : RouterDevice) (tree : Tree) → slice_get devices i ≡ Some device → slice_get trees i ≡ Some tree → device.session.tree ≡ tree) → map device_tree devices ≡ trees
trees-each [] [] count h = refl
trees-each [] (tree ∷ trees) count h = absurd (omega (arith, count))
trees-each (device ∷ devices) [] count h = absurd (omega (arith, count))
trees-each (device ∷ devices) (tree ∷ trees) count h = ap₂ (λ (t : Tree) ts. t ∷ ts) (h 0 device tree refl refl) (trees-each devices trees (omega (arith, count)) (λ i. h (suc i)))

pub trees-its : (setup : Setup) (events : List Event) (parts : Parts) → IsAt setup events parts → trees_in parts ≡ setup.trees
trees-its setup events parts at = search (rules, trees-each)

-- what an index reads is what stands there
read-there : (devices : List RouterDevice) (d i : ℕ) (its read : RouterDevice) → slice_get devices d ≡ Some its → i ≡ d → read ≡ get_or devices i read → its ≡ read
read-there devices d i its read here same is = sym (is ∙ ap (λ k. get_or devices k read) same ∙ get_or_from_slice_get devices d its read here)

-- A router stands where its past is told as its parts went on.
pub Stand-made : (setup begun : Setup) (past : Past) (parts : Parts) → begun ≡ setup → past ≡ record { setup = begun; events = [] } → Stand setup [] parts → Stand past.setup past.events parts
Stand-made setup begun past parts same told stand =
    subst (λ (h : Past). Stand h.setup h.events parts) (sym told) (subst (λ (s : Setup). Stand s [] parts) (sym same) stand)

pub Stand-told : (setup : Setup) (events more : List Event) (old new : Parts) (past : Past) → Stand setup events old → past ≡ record { setup = setup; events = events ++ more } → IsAt setup (events ++ more) new → Stand past.setup past.events new
Stand-told setup events more old new past stand told at = subst (λ (h : Past). Stand h.setup h.events new) (sym told) (record { at = at; whole = stand.whole; closable = stand.closable })

-- and so is its course
pub course-told : (setup : Setup) (events more : List Event) (old new : Parts) (past : Past) → past ≡ record { setup = setup; events = events ++ more } → new.keeps ≡ old.keeps
    → record { setup = past.setup; events = past.events; keeps = new.keeps } ≡ after (course setup events old) more
course-told setup events more old new past told keeps = λ i. record { setup = (told i).setup; events = (told i).events; keeps = keeps i }

-- the pull that a session shows, and the closing pulls
module _ (setup : Setup) (events : List Event) (old new : Parts) (d moment : ℕ) where
  pub pull-read : (got : Option Packet) (i : ℕ) (read : RouterDevice) → LeadsOnByPull setup new d moment got events → i ≡ d → read ≡ get_or new.devices.items i read
      → (result_of (visits_of 0 (visits_shown setup events d read.session)) ≡ got) × IsAt setup (events ++ pull_shown setup events d moment read.session) new
  pull-read got i read led same is =
      subst (λ (x : RouterDevice). (result_of (visits_of 0 (visits_shown setup events d x.session)) ≡ got) × IsAt setup (events ++ pull_shown setup events d moment x.session) new)
      (read-there new.devices.items d i led.its read led.here same is) (led.result, led.leads)

  pub pulls-read : (i : ℕ) (read : RouterDevice) → LeadsOnByPulls setup new d moment events → i ≡ d → read ≡ get_or new.devices.items i read → IsAt setup (events ++ pulls_shown setup events d moment read.session) new
  pulls-read i read led same is =
      subst (λ (x : RouterDevice). IsAt setup (events ++ pulls_shown setup events d moment x.session) new) (read-there new.devices.items d i led.its read led.here same is) led.leads

  pub closes-read : (i : ℕ) (read : RouterDevice) (departures : List Departure) → LeadsOnByPulls setup new d moment events
      → ((its : RouterDevice) → slice_get new.devices.items d ≡ Some its → ClosesBy setup events d moment its.session departures) → i ≡ d → read ≡ get_or new.devices.items i read
      → ClosesBy setup events d moment read.session departures
  closes-read i read departures led closes same is =
      subst (λ (x : RouterDevice). ClosesBy setup events d moment x.session departures) (read-there new.devices.items d i led.its read led.here same is) (closes led.its led.here)

  pub stops-read : (i : ℕ) (read : RouterDevice) → LeadsOnByPulls setup new d moment events → ((its : RouterDevice) → slice_get new.devices.items d ≡ Some its → StopsBy setup events d moment its.session) → i ≡ d
      → read ≡ get_or new.devices.items i read → StopsBy setup events d moment read.session
  stops-read i read led stops same is = subst (λ (x : RouterDevice). StopsBy setup events d moment x.session) (read-there new.devices.items d i led.its read led.here same is) (stops led.its led.here)

-- a device was closed, by what its session shows
pub IsClosed-shown : (old new : Course) (d moment : ℕ) (session : SessionLists) (departures : List Departure) → ClosesBy old.setup old.events d moment session departures
    → new ≡ after old (pulls_shown old.setup old.events d moment session) → IsClosed old new d moment departures
IsClosed-shown old new d moment session departures by goes_on =
    record { last = pulls_shown old.setup old.events d moment session; closes = by.closes; emitted = by.emitted; moments = by.moments; goes_on = goes_on }

-- and so if its drain stopped short
pub StopsShort-shown : (old new : Course) (d moment : ℕ) (session : SessionLists) → StopsBy old.setup old.events d moment session → new ≡ after old (pulls_shown old.setup old.events d moment session) → StopsShort old new d moment
StopsShort-shown old new d moment session by goes_on =
    record { made = made_shown old.setup old.events d session; goes_on = goes_on; within = by.within; short = subst (λ (c : Course). HasLeft c d) (sym goes_on) by.short }

-- what follows from what a success says, and from what a failure does
pub ok-weaker : {T E : Type 0} {P Q : T → Type 0} (r : Result T E) → ((x : T) → P x → Q x) → IfOk r P → IfOk r Q
ok-weaker (Ok x) step h = step x h
ok-weaker (Err e) step h = tt

pub err-weaker : {T E : Type 0} {P Q : Type 0} (r : Result T E) → (P → Q) → OnErr r P → OnErr r Q
err-weaker (Ok x) step h = tt
err-weaker (Err e) step h = step h
