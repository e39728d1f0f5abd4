-- How a device of a router closes.
use Rattle.std.proofs.Common.{◌≡◌, ℕ, ◌+◌, ◌<◌, ◌==◌, zero, suc, Bool, true, false, List, [], ◌∷◌, ◌++◌, length, drop, map, reverse, max, fold, append-nil, length-append, ◌≤◌, Result, Ok, Err, OnErr, Option, Some, None, MatchOption, slice_get, refl, sym, ap, ap₂, ◌∙◌, subst, arith}
use Rattle.std.specs.Bool.{⊤}
use Rattle.std.specs.List.{filter_map, flat_map, range_with_len, AllByRecursion}
use Rattle.std.proofs.lemmas.List.Elements.{filter-append, filter_map-append}
use Rattle.std.proofs.Math.Seq.{drop-append_seam}
use Rattle.std.proofs.lemmas.List.Concat.{flat_map-append}
use Rattle.std.proofs.lemmas.Option.{slice_get_within}
use Rattle.std.proofs.lemmas.Bool.Decides.{nat_tests}
use Rattle.clk_sched.specs.declared.session.keeps.Keeps.{Keeps}
use Rattle.clk_sched.specs.declared.visit.Visit.{Visit}
use Rattle.clk_ring.specs.Laws.{CallsAreHistory}
use Rattle.clk_sched.specs.Tree.{Tree}
use Rattle.clk_sched.specs.Log.{pulls, moment_of}
use Rattle.clk_sched.specs.Run.{IsRun}
use Rattle.clk_sched.specs.Answers.{Answers, tree_queue}
use Rattle.clk_sched.specs.Results.{emitted}
use Rattle.clk_sched.specs.Bound.{closing_bound}
use Rattle.clk_sched.specs.Drain as drain
use Rattle.clk_sched.specs.Drain.{GivesAll, HasDrained, after_pulls, drain_start}
use Rattle.clk_sched.specs.Session.{given_in, IsDrained, SessionLists, newly, latest_moment, counted_moment, progress_of, pulls_made}
use Rattle.clk_packet.specs.declared.packet.Packet.{Packet}
use Rattle.clk_packet.specs.declared.fault.Fault.{Fault}
use Rattle.clk_packet.specs.declared.fault.Fault.TheVariants.{Memory, TooManyPulls}
use Rattle.clk_router.specs.inside.Past.{made_shown}
use Rattle.clk_router.proofs.Callers.Emitted.{its-given}
use Rattle.clk_sched.specs.Departures.{departures_in, pulls_since}
use Rattle.clk_sched.specs.declared.session.departures.Departure.{Departure}
use Rattle.clk_router.specs.declared.devices.RouterDevice.{RouterDevice}
use Rattle.clk_router.specs.declared.parts.Parts.{Parts}
use Rattle.clk_router.specs.Events.{Setup, Event, pulled, happens_at, events_at, moment_in, pull_in, accepted_in, evicted_in, emitted_in, visits_in, log_of, at_queue, history, RunsTree, closing_pulls}
use Rattle.clk_router.specs.inside.Parts.{AreQueuesAt, IsDeviceAt, AreDevicesAt, KeepsAsAt, HasSentFew, IsAt, CanPullAt, CanCloseAt, IsAnyLeft, LeadsOnByPulls, ClosesBy, StopsBy}
use Rattle.clk_router.proofs.Callers.Events.{events-pulls, pulls-elsewhere, pulls-log, pulls-add_none, pulls-given, pulls-history, latest-moment, RunsTree-pulls, CanHappen-pulls}
use Rattle.clk_router.proofs.SenderLemmas.{senders-closed}
use Rattle.clk_router.proofs.PartsLemmas.{its-history, StandAt, gives, queues-answered, IsHere, device-here, devices-same, IsSetAt, kinds-set}

-- what is there is one thing
abbrev or_else : Tree → Option Tree → Tree
or_else t None = t
or_else t (Some u) = u

-- the moment after which the closing of a device begins
pub its-latest : (setup : Setup) (events : List Event) (d : ℕ) (device : RouterDevice) → IsHere setup events d device → counted_moment (progress_of device.session) ≡ fold max 0 (filter_map moment_in (events_at setup d events))
its-latest setup events d device here = ap (λ l. latest_moment (reverse (pulls l))) here.is.log ∙ latest-moment here.tree (events_at setup d events) here.runs

-- how often a device was pulled
pub its-pulls : (setup : Setup) (events : List Event) (d : ℕ) (device : RouterDevice) → IsHere setup events d device → pulls_made (progress_of device.session) ≡ length (filter_map pull_in (events_at setup d events))
its-pulls setup events d device here = ap (λ l. length (pulls l)) here.is.log ∙ ap length here.runs.pull_by_pull

-- What is accepted at a device was put out, came out before, or is left, as the device counts it.
its-left : (setup : Setup) (events : List Event) (d : ℕ) (device : RouterDevice) → IsHere setup events d device → (left : ℕ) → length (emitted device.session.log) + left ≡ device.kept
    → length (filter_map accepted_in (events_at setup d events)) ≡ length (filter_map evicted_in (events_at setup d events)) + length (emitted (log_of (events_at setup d events))) + left
its-left setup events d device here left are =
    let kept = here.is.kept in
    let out = ap (λ l. length (emitted l)) here.is.log in
    omega (arith, kept, out, are)

-- A drain of a device, which changes no other, leads on.
module _ (calls : CallsAreHistory) (setup : Setup) (events : List Event) (old new : Parts) (d moment made given : ℕ) (before after : RouterDevice) (at : IsAt setup events old)
    (set : IsSetAt old.devices.items d before after new.devices.items) (kept : after.kept ≡ before.kept) (kind : (after.session.keeps ≡ before.session.keeps) × (after.session.gone ≡ before.session.gone))
    (dr : IsDrained (progress_of before.session) (progress_of after.session) (max (counted_moment (progress_of before.session)) moment) made given) where
  here : IsHere setup events d before
  here = device-here setup events old d before at set.was

  abbrev its : List Event
  its = events_at setup d events

  abbrev pub start : ℕ
  start = max (fold max 0 (filter_map moment_in its)) moment + 1

  abbrev pub joined : List Visit
  joined = flat_map (λ pull. pull) dr.more

  abbrev last : List Event
  last = closing_pulls d moment its dr.more

  log : after.session.log ≡ log_of its ++ joined
  log = dr.log ∙ ap (λ l. l ++ joined) here.is.log

  -- the closing pulls go on one tick apart
  pub moments : map moment_of dr.more ≡ range_with_len start (length dr.more)
  moments = dr.moments ∙ ap₂ range_with_len (ap (λ n. max n moment + 1) (its-latest setup events d before here)) (sym dr.made_are)

  -- the session shows these pulls
  pub shown : drop (length (pulls (log_of its))) (pulls after.session.log) ≡ dr.more
  shown =
      ap (λ l. drop (length (pulls l)) (pulls after.session.log)) (sym here.is.log) ∙ ap (drop (length (pulls before.session.log))) dr.pulls_are
      ∙ drop-append_seam (pulls before.session.log) dr.more

  runs : RunsTree here.tree (its ++ last)
  runs =
      RunsTree-pulls here.tree its d start dr.more here.runs (omega arith) (subst (IsRun here.tree) log (subst (λ t. IsRun t after.session.log) (dr.tree ∙ here.is.tree_is) dr.run))
      (ap pulls (sym log) ∙ dr.pulls_are ∙ ap (λ l. pulls l ++ dr.more) here.is.log) moments

  pub IsAt-closed : Answers gives (tree_queue before.session.tree) old.queues (newly (progress_of before.session) (progress_of after.session)) new.queues → new.senders ≡ old.senders → new.numbers ≡ old.numbers → new.paths ≡ old.paths
      → new.keeps ≡ old.keeps → IsAt setup (events ++ last) new
  IsAt-closed answers senders numbers paths keeps =
      record {
        can_happen =
            CanHappen-pulls setup events d start dr.more at.can_happen (slice_get_within setup.trees d here.tree here.its) (subst (λ o. MatchOption o ⊤ (λ tree. RunsTree tree (its ++ last))) (sym here.its) runs)
            (λ q. its-history (history setup q (events ++ last)) (slice_get setup.queues q) (slice_get new.queues.rings.items q) (queues q));
        senders = ap (λ ss. ss.items) senders ∙ at.senders ∙ senders-closed events d start dr.more setup.senders;
        numbers = ap (λ ns. ns.items) numbers ∙ at.numbers;
        sent = subst (λ ss. AllByRecursion HasSentFew ss.items) (sym senders) at.sent;
        queues = queues;
        count = answered.count;
        devices = devices_go;
        device_count = set.only.count ∙ at.device_count;
        paths = ap (λ ps. ps.items) paths ∙ at.paths;
        kinds =
            subst (λ (keeps : Keeps). (k : ℕ) → KeepsAsAt keeps (slice_get new.devices.items k)) (sym keeps)
            (kinds-set old.keeps old.devices.items d before after new.devices.items set.was set.is set.only kind at.kinds);
      }
    where
      answered : StandAt setup (λ q. history setup q events ++ at_queue setup q (pulled d moment joined)) new.queues.rings.items
      answered =
          queues-answered calls setup here.tree d moment joined old.queues new.queues (λ q. history setup q events) here.its (record { each = at.queues; count = at.count })
          (subst (λ l. Answers gives (tree_queue here.tree) old.queues l new.queues) (ap (drop (length before.session.log)) dr.log ∙ drop-append_seam before.session.log joined)
          (subst (λ t. Answers gives (tree_queue t) old.queues (newly (progress_of before.session) (progress_of after.session)) new.queues) here.is.tree_is answers))

      queues : (q : ℕ) → AreQueuesAt (history setup q (events ++ last)) (slice_get setup.queues q) (slice_get new.queues.rings.items q)
      queues q =
          subst (λ l. AreQueuesAt l (slice_get setup.queues q) (slice_get new.queues.rings.items q))
          (sym (flat_map-append (at_queue setup q) events last ∙ ap (λ l. history setup q events ++ l) (pulls-history setup q d moment start dr.more))) (answered.each q)

      itself : IsDeviceAt (its ++ last) here.tree after
      itself =
          record {
            tree_is = dr.tree ∙ here.is.tree_is;
            log = log ∙ sym (flat_map-append visits_in its last ∙ ap (λ l. log_of its ++ l) (pulls-log d start dr.more));
            kept =
                ap₂ (λ a b. a + b) kept (ap length (pulls-add_none evicted_in (λ k n visits. refl) its d start dr.more)) ∙ here.is.kept
                ∙ ap length (sym (pulls-add_none accepted_in (λ k n visits. refl) its d start dr.more));
          }

      devices_go : (k : ℕ) → AreDevicesAt (events_at setup k (events ++ last)) (slice_get setup.trees k) (slice_get new.devices.items k)
      devices_go k = by_test (d == k) refl
        where
          by_test : (b : Bool) → (d == k) ≡ b → AreDevicesAt (events_at setup k (events ++ last)) (slice_get setup.trees k) (slice_get new.devices.items k)
          by_test true f =
              let same : d ≡ k = grind (arith, nat_tests) in
              subst (λ n. AreDevicesAt (events_at setup n (events ++ last)) (slice_get setup.trees n) (slice_get new.devices.items n)) same
              (subst (λ l. AreDevicesAt l (slice_get setup.trees d) (slice_get new.devices.items d)) (sym (events-pulls setup d events start dr.more))
              (subst (λ (o : Option RouterDevice). AreDevicesAt (its ++ last) (slice_get setup.trees d) o) (sym set.is) (subst (λ (o : Option Tree). AreDevicesAt (its ++ last) o (Some after)) (sym here.its) itself)))
          by_test false f =
              devices-same (events_at setup k events) (events_at setup k (events ++ last)) (slice_get setup.trees k) (slice_get old.devices.items k) (slice_get new.devices.items k)
              (sym (filter-append (happens_at setup k) events last ∙ ap (λ l. events_at setup k events ++ l) (pulls-elsewhere setup d k start dr.more f) ∙ append-nil (events_at setup k events)))
              (set.only.others k f) (at.devices k)

  pub LeadsOnByPulls-closed : Answers gives (tree_queue before.session.tree) old.queues (newly (progress_of before.session) (progress_of after.session)) new.queues → new.senders ≡ old.senders → new.numbers ≡ old.numbers
      → new.paths ≡ old.paths → new.keeps ≡ old.keeps → LeadsOnByPulls setup new d moment events
  LeadsOnByPulls-closed answers senders numbers paths keeps =
      record { its = after; here = set.is; leads = subst (λ more. IsAt setup (events ++ closing_pulls d moment its more) new) (sym shown) (IsAt-closed answers senders numbers paths keeps) }

  -- It stopped short.
  pub stops-short : (left : ℕ) → length (emitted before.session.log) + left ≡ before.kept → made ≤ closing_bound before.session.tree left → given < left → StopsBy setup events d moment after.session
  stops-short left counted few fewer =
      record {
        within = λ tree other there same.
            let all = its-left setup events d before here left counted in
            let one : left ≡ other = omega (arith, all, same) in
            let trees : before.session.tree ≡ tree = here.is.tree_is ∙ ap (or_else here.tree) (sym here.its ∙ there) in
            subst (λ n. length (made_shown setup events d after.session) ≤ n) (λ i. closing_bound (trees i) (one i)) (subst (λ n. n ≤ closing_bound before.session.tree left) (sym (ap length shown ∙ dr.made_are)) few);
        short =
            let all = its-left setup events d before here left counted in
            let out : length (emitted (log_of (its ++ last))) ≡ length (emitted (log_of its)) + length (given_in dr.more) = ap length emitted-more ∙ length-append (emitted (log_of its)) (given_in dr.more) in
            let came = dr.given_are in
            let refused : length (filter_map evicted_in (its ++ last)) ≡ length (filter_map evicted_in its) = ap length (pulls-add_none evicted_in (λ k n visits. refl) its d start dr.more) in
            let taken : length (filter_map accepted_in (its ++ last)) ≡ length (filter_map accepted_in its) = ap length (pulls-add_none accepted_in (λ k n visits. refl) its d start dr.more) in
            subst (λ more. IsAnyLeft (events_at setup d (events ++ closing_pulls d moment its more))) (sym shown) (subst IsAnyLeft (sym (events-pulls setup d events start dr.more)) (omega (arith, all, out, came, refused, taken, fewer)));
      }
    where
      emitted-more : emitted (log_of (its ++ last)) ≡ emitted (log_of its) ++ given_in dr.more
      emitted-more = its-given here.tree (its ++ last) runs ∙ filter_map-append emitted_in its last ∙ ap₂ (λ l m. l ++ m) (sym (its-given here.tree its here.runs)) (pulls-given d start dr.more)

-- a drain that failed stopped short
pub failed-short : {T S R : Type 0} {gives : S → ℕ → Option Packet → S → Type 0} {holds : S → ℕ → ℕ} {before after : S} {old new : SessionLists} {left moment : ℕ} (made : ℕ) (r : Result T Fault)
    → HasDrained gives holds before after old new left moment (after_pulls made r) → ((n : ℕ) → drain.StopsShort (progress_of old) (progress_of new) (drain_start old moment) n left → R) → OnErr r R
failed-short made (Ok x) h step = tt
failed-short made (Err Memory) h step = step h.short.0 h.short.1
failed-short made (Err (TooManyPulls n)) h step = step n h.short.1
failed-short made (Err fault) h step = absurd h.short

-- what came out in a whole closing
pub closes-by : CallsAreHistory → (setup : Setup) (events : List Event) (old new : Parts) (d moment made left : ℕ) (before after : RouterDevice) (departures : List Departure) → IsAt setup events old
    → IsSetAt old.devices.items d before after new.devices.items → after.kept ≡ before.kept → (after.session.keeps ≡ before.session.keeps) × (after.session.gone ≡ before.session.gone) → length (emitted before.session.log) + left ≡ before.kept
    → GivesAll (progress_of before.session) (progress_of after.session) (max (counted_moment (progress_of before.session)) moment) made left
    → departures ≡ departures_in (pulls_since (progress_of before.session) (progress_of after.session)) → ClosesBy setup events d moment after.session departures
closes-by calls setup events old new d moment made left before after departures at set kept kind is all told =
    record {
      closes = record {
        closing = all.drained.more;
        are = ap (closing_pulls d moment (events_at setup d events)) (shown calls setup events old new d moment made left before after at set kept kind all.drained);
        all =
            its-left setup events d before (device-here setup events old d before at set.was) (length (given_in all.drained.more))
            (ap (λ n. length (emitted before.session.log) + n) all.drained.given_are ∙ is);
        stops = all.stops;
      };
      emitted = told ∙ ap departures_in (ap (drop (length (pulls before.session.log))) all.drained.pulls_are ∙ drop-append_seam (pulls before.session.log) all.drained.more);
      moments = moments calls setup events old new d moment made left before after at set kept kind all.drained;
    }

-- a device that can be pulled is there, and so is one that can be closed
pub can-pull : (keeps : Keeps) (devices : List RouterDevice) (d : ℕ) → CanPullAt keeps (slice_get devices d) → d < length devices
can-pull keeps [] d can = absurd can
can-pull keeps (device ∷ devices) zero can = omega arith
can-pull keeps (device ∷ devices) (suc d) can = let below = can-pull keeps devices d can in omega (arith, below)

pub can-close : (moment : ℕ) (devices : List RouterDevice) (d : ℕ) → CanCloseAt moment (slice_get devices d) → d < length devices
can-close moment [] d can = absurd can
can-close moment (device ∷ devices) zero can = omega arith
can-close moment (device ∷ devices) (suc d) can = let below = can-close moment devices d can in omega (arith, below)
