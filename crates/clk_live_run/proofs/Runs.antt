-- What a run comes to, once its devices are drained.
use Rattle.std.proofs.Common.{◌≡◌, ℕ, zero, suc, ◌+◌, ◌*◌, ◌<◌, ◌≤◌, ◌==◌, Bool, true, false, List, [], ◌∷◌, ◌++◌, length, map, max, fold, Some, refl, sym, ap, ap₂, ◌∙◌, subst, arith, mul-zero, mul-le-mul_left}
use Rattle.std.specs.List.{filter_map, range_with_len, AllByRecursion, AllZip}
use Rattle.std.proofs.lemmas.List.{length-map}
use Rattle.std.proofs.lemmas.Simd.{map-map}
use Rattle.clk_packet.specs.declared.packet.Packet.{Packet}
use Rattle.clk_packet.specs.declared.packet.Offered.TheVariants.{Accepted, Refused, Evicted}
use Rattle.clk_packet.specs.Trace.{sent_by, packets_in}
use Rattle.clk_packet.specs.declared.limits.TheConstants.{MAX_RECORDS}
use Rattle.clk_packet.specs.Lists.{AreRising}
use Rattle.clk_packet.proofs.Callers.Lists.{rising-distinct}
use Rattle.clk_gate.specs.declared.limits.TheConstants.{MAX_LIMIT}
use Rattle.clk_gate.specs.Sent.{sent_in}
use Rattle.clk_gate.proofs.Callers.TraceSums.{within-trace}
use Rattle.clk_inlet.specs.Halves.{pushed, popped, offered as offered_items, fits, taken, AreHalves}
use Rattle.clk_inlet.specs.Items.{packets}
use Rattle.clk_inlet.specs.declared.inlet.Inlet.{Inlet}
use Rattle.clk_inlet.specs.declared.item.Item.{Item}
use Rattle.clk_inlet.specs.declared.outlet.Outlet.{Outlet}
use Rattle.clk_sched.specs.declared.limits.TheConstants.{MAX_LEFT}
use Rattle.clk_router.specs.Course.{Course, events_of, CanClose}
use Rattle.clk_router.specs.Settled.{offered_in, IsCourseSettled, AreAllOut}
use Rattle.clk_router.specs.Events.{Setup, Event, offered, pulled, happens_at, events_at, moment_in, accepted_in, sender_numbers, CanHappen}
use Rattle.clk_tree.specs.declared.plan.parts.SenderSpec.{SenderSpec}
use Rattle.clk_tree.specs.PlanParts.{number_of}
use Rattle.clk_live.specs.State.{LiveState, seen, AllGoOn}
use Rattle.clk_live.proofs.Callers.Halves.{all_go_on}
use Rattle.clk_live.proofs.Callers.Sending.{nothing_yet, come_back, all_offered}
use Rattle.clk_live.specs.Outcome.{item_length, packet_length, AreOffersOf, IsLiveOutcome}
use Rattle.clk_script.specs.declared.limits.TheConstants.{MAX_MOMENT, MAX_LINES}
use Rattle.clk_script.specs.Record.{FitsLimits}
use Rattle.clk_script.specs.Meaning.{CloseFirst, command_of}
use Rattle.clk_live_run.specs.declared.senders.SenderInlet.{SenderInlet}
use Rattle.clk_live_run.specs.Run.{moments_at, OffersAll, IsLiveRun}
use Rattle.clk_live_run.specs.Recorded.{IsRecorded, failures_with}
use Rattle.clk_live_run.specs.inside.Sending.{HasSentAll}
use Rattle.clk_live_run.specs.inside.Recording.{SinkAt, IsEnded}
use Rattle.clk_live_run.specs.inside.Consuming.{items_of, items_in, taken_in, HasPaced, HasClosed}
use Rattle.clk_live_run.proofs.Takings.{as-many}

-- Nothing has happened.
items-none : (outlets : List Outlet) → AllByRecursion (λ (o : Outlet). popped o ≡ []) outlets → items_in (map taken outlets) ≡ 0
items-none [] h = refl
items-none (o ∷ outlets) h = let here = ap (λ xs. length (packets xs)) h.0 in let rest = items-none outlets h.1 in omega (arith, here, rest)

pub paced-none : (step : ℕ) (l : LiveState) → l.course.events ≡ [] → AllByRecursion (λ (o : Outlet). popped o ≡ []) l.outlets → HasPaced step 0 l
paced-none step l none popped_none =
    let events = ap length none in
    let offers = ap (λ es. length (filter_map offered_in es)) none in
    let items = items-none l.outlets popped_none in
    let no_pulls = mul-zero (length l.course.setup.trees) in
    record {
      many = omega (arith, events, items, no_pulls);
      offers = omega (arith, offers, items);
      early = subst (λ es. AllByRecursion (λ m. m ≤ MAX_MOMENT) (filter_map moment_in es)) (sym none) tt;
      moments = λ d low. ap (λ es. moments_at l.course.setup es d) none;
    }

-- What all senders send is what was taken of them.
pub items-sent : (traces : List (List Packet)) (senders : List SenderInlet) → items_in (map (λ (s : SenderInlet). items_of (sent_by traces s.number)) senders) ≡ sent_in traces (map (λ (s : SenderInlet). s.number) senders)
items-sent traces [] = refl
items-sent traces (s ∷ senders) = ap₂ (λ m n. m + n) (length-map (sent_by traces s.number) _) (items-sent traces senders)

-- Each sender offered what it sends.
pub all-sent : (traces : List (List Packet)) (events : List Event) (numbers : List ℕ) (senders : List SenderInlet) → map (λ (s : SenderInlet). s.number) senders ≡ numbers
    → AllZip (AreOffersOf events) numbers (map (λ (s : SenderInlet). items_of (sent_by traces s.number)) senders) → AllByRecursion (OffersAll traces events) numbers
all-sent traces events [] senders e h = tt
all-sent traces events (n ∷ numbers) [] e h = absurd h
all-sent traces events (n ∷ numbers) (s ∷ senders) e h =
    let same : s.number ≡ n = cc in
    let rest : map (λ (x : SenderInlet). x.number) senders ≡ numbers = cc in
    let lengths : map item_length (items_of (sent_by traces s.number)) ≡ map packet_length (sent_by traces s.number) = map-map item_length _ (sent_by traces s.number) in
    (sym h.0 ∙ lengths ∙ ap (λ k. map packet_length (sent_by traces k)) same, all-sent traces events numbers senders rest h.1)

-- A device accepted no more packets than were offered.
accepted-few : (setup : Setup) (d : ℕ) (events : List Event) → length (filter_map accepted_in (events_at setup d events)) ≤ length (filter_map offered_in events)
accepted-few setup d [] = omega arith
accepted-few setup d (offered p outcome ∷ events) = by_place (happens_at setup d (offered p outcome)) refl (accepted-few setup d events)
  where
    by_outcome : (o : _) → length (filter_map accepted_in (offered p o ∷ events_at setup d events)) ≤ suc (length (filter_map accepted_in (events_at setup d events)))
    by_outcome Accepted = omega arith
    by_outcome (Refused q) = omega arith
    by_outcome (Evicted front) = omega arith

    by_place : (b : Bool) → happens_at setup d (offered p outcome) ≡ b → length (filter_map accepted_in (events_at setup d events)) ≤ length (filter_map offered_in events)
        → length (filter_map accepted_in (events_at setup d (offered p outcome ∷ events))) ≤ suc (length (filter_map offered_in events))
    by_place true e rest = rw e (let one = by_outcome outcome in omega (arith, one, rest))
    by_place false e rest = rw e (omega (arith, rest))
accepted-few setup d (pulled device moment visits ∷ events) = by_place (happens_at setup d (pulled device moment visits)) refl (accepted-few setup d events)
  where
    by_place : (b : Bool) → happens_at setup d (pulled device moment visits) ≡ b → length (filter_map accepted_in (events_at setup d events)) ≤ length (filter_map offered_in events)
        → length (filter_map accepted_in (events_at setup d (pulled device moment visits ∷ events))) ≤ length (filter_map offered_in events)
    by_place true e rest = rw e rest
    by_place false e rest = rw e rest

-- the greatest of moments that a script can name
fold-low : (b most : ℕ) (ms : List ℕ) → b ≤ most → AllByRecursion (λ m. m ≤ most) ms → fold max b ms ≤ most
fold-low b most [] low h = low
fold-low b most (m ∷ ms) low h = fold-low (max b m) most ms (omega (arith, low, h.0)) h.1

-- Each device can be closed.
pub can-close : (step pulls limit : ℕ) (l : LiveState) → HasPaced step pulls l → pulls ≤ limit → limit ≤ MAX_LIMIT → taken_in l ≤ MAX_LEFT → (d : ℕ) → d < length l.course.setup.trees → CanClose l.course d 0
can-close step pulls limit l so few low sent d there =
    record {
      there = there;
      left = let accepted = accepted-few l.course.setup d l.course.events in omega (arith, accepted, so.offers, sent);
      moments =
          let most = fold-low 0 MAX_MOMENT (moments_at l.course.setup l.course.events d) (omega arith) (early-there l.course.events so.early) in
          omega (arith, most);
      pulls =
          let many = as-many (events_of l.course d) ∙ ap length (so.moments d there) ∙ length-map (range_with_len 1 pulls) (λ n. n * step) ∙ length-range 1 pulls in
          omega (arith, many, few, low);
    }
  where
    early-there : (events : List Event) → AllByRecursion (λ m. m ≤ MAX_MOMENT) (filter_map moment_in events) → AllByRecursion (λ m. m ≤ MAX_MOMENT) (filter_map moment_in (events_at l.course.setup d events))
    early-there [] h = tt
    early-there (offered p outcome ∷ events) h = by_place (happens_at l.course.setup d (offered p outcome)) refl (early-there events h)
      where
        by_place : (b : Bool) → happens_at l.course.setup d (offered p outcome) ≡ b → AllByRecursion (λ m. m ≤ MAX_MOMENT) (filter_map moment_in (events_at l.course.setup d events))
            → AllByRecursion (λ m. m ≤ MAX_MOMENT) (filter_map moment_in (events_at l.course.setup d (offered p outcome ∷ events)))
        by_place true e rest = rw e rest
        by_place false e rest = rw e rest
    early-there (pulled device moment visits ∷ events) h = by_place (device == d) refl (early-there events h.1)
      where
        by_place : (b : Bool) → (device == d) ≡ b → AllByRecursion (λ m. m ≤ MAX_MOMENT) (filter_map moment_in (events_at l.course.setup d events))
            → AllByRecursion (λ m. m ≤ MAX_MOMENT) (filter_map moment_in (events_at l.course.setup d (pulled device moment visits ∷ events)))
        by_place true e rest = rw e (h.0, rest)
        by_place false e rest = rw e rest

    length-range : (first count : ℕ) → length (range_with_len first count) ≡ count
    length-range first zero = refl
    length-range first (suc count) = ap suc (length-range (first + 1) count)

-- The record fits a script.
pub fits-script : (step pulls limit : ℕ) (l : LiveState) → HasPaced step pulls l → pulls ≤ limit → taken_in l + length l.course.setup.trees * limit + 1 ≤ MAX_LINES → FitsLimits l.course.events (Some 0)
fits-script step pulls limit l so few low =
    record {
      moments = so.early;
      last = omega arith;
      few =
          let more = mul-le-mul_left (length l.course.setup.trees) few in
          omega (arith, so.many, more, low);
    }

-- A run, once its devices are drained.
pub ran : (traces : List (List Packet)) (step pulls limit : ℕ) (senders : List SenderInlet) (l closed : LiveState) → HasPaced step pulls l → pulls ≤ limit → (drained : HasClosed (length l.course.setup.trees) l closed)
    → map (λ (s : SenderInlet). s.number) senders ≡ sender_numbers l.course.setup → (seen l).items ≡ map (λ (s : SenderInlet). items_of (sent_by traces s.number)) senders
    → IsLiveOutcome closed.course (map taken closed.outlets) → IsLiveRun traces step limit closed.course.setup l.course.events drained.closed
ran traces step pulls limit senders l closed so few drained numbers items outcome =
    let setup : closed.course.setup ≡ l.course.setup = ap (λ (c : Course). c.setup) drained.goes_on in
    let events : closed.course.events ≡ l.course.events ++ drained.closed = ap (λ (c : Course). c.events) drained.goes_on in
    let taken_same : map taken closed.outlets ≡ map taken l.outlets = drained.items in
    record {
      happened = subst (CanHappen closed.course.setup) events outcome.happened;
      settled = subst (IsCourseSettled closed.course.setup) events outcome.settled;
      all_out = subst (AreAllOut closed.course.setup) events outcome.all_out;
      offered =
          subst (λ es. AllByRecursion (OffersAll traces es) (sender_numbers closed.course.setup)) events
          (all-sent traces closed.course.events (sender_numbers closed.course.setup) senders (numbers ∙ ap sender_numbers (sym setup))
          (subst (AllZip (AreOffersOf closed.course.events) (sender_numbers closed.course.setup)) (taken_same ∙ items) outcome.offered));
      pulls = pulls;
      few = few;
      moments = λ d low.
          ap (λ (s : Setup). moments_at s l.course.events d) setup ∙ so.moments d (subst (λ (s : Setup). d < length s.trees) setup low);
      closes = subst (λ (s : Setup). CloseFirst s 0 (length s.trees) l.course.events drained.closed) (sym setup) drained.closes;
    }

-- what senders send together, and one sender more
pub sent-more : (traces : List (List Packet)) (senders : List SenderSpec) (x : SenderSpec) → sent_in traces (map number_of (senders ++ x ∷ [])) ≡ sent_in traces (map number_of senders) + length (sent_by traces x.number)
sent-more traces [] x = omega arith
sent-more traces (y ∷ senders) x = let rest = sent-more traces senders x in omega (arith, rest)

-- What was offered through all inlets, once their senders are through.
abbrev inlet_of : SenderInlet → Inlet
inlet_of s = s.inlet

abbrev pub sends : List (List Packet) → SenderInlet → List Item
sends traces s = items_of (sent_by traces s.number)

pub all-through : (room : ℕ) (traces : List (List Packet)) (senders : List SenderInlet) (old new : List Inlet) → map (λ (s : SenderInlet). s.inlet) senders ≡ old → AllByRecursion (λ (i : Inlet). (pushed i ≡ []) × (fits i ≡ room)) old
    → AllZip (HasSentAll traces) senders new → map offered_items new ≡ map (sends traces) senders
all-through room traces senders old new inlets none sent =
    all_offered inlet_of (sends traces) senders new (subst (AllByRecursion (λ (i : Inlet). offered_items i ≡ [])) (sym inlets) (nothing_yet room old none)) sent

-- the inlets are the other halves of the outlets still
pub still-halves : (traces : List (List Packet)) (senders : List SenderInlet) (old new : List Inlet) (before after : List Outlet) → map (λ (s : SenderInlet). s.inlet) senders ≡ old → AllZip AreHalves old before → AllZip (HasSentAll traces) senders new
    → AllGoOn before after → AllZip AreHalves new after
still-halves traces senders old new before after inlets halves sent goes =
    all_go_on new before after (come_back inlet_of (sends traces) senders new before (subst (λ (is : List Inlet). AllZip AreHalves is before) (sym inlets) halves) sent) goes

-- no more was taken than a trace tells
pub taken-is : (traces : List (List Packet)) (senders : List SenderInlet) (l : LiveState) (numbers : List ℕ) → (seen l).items ≡ map (sends traces) senders → map (λ (s : SenderInlet). s.number) senders ≡ numbers → taken_in l ≡ sent_in traces numbers
taken-is traces senders l numbers items are = ap items_in items ∙ items-sent traces senders ∙ ap (sent_in traces) are

pub sent-few : (traces : List (List Packet)) (numbers : List ℕ) → AreRising numbers → packets_in traces ≤ MAX_RECORDS → sent_in traces numbers ≤ MAX_LEFT
sent-few traces numbers rising few = let within = within-trace traces numbers (rising-distinct numbers rising) in omega (arith, within, few)

-- What was written of the record, and how often the sink failed.
pub recorded : (recording failed : Bool) (start now : SinkAt) (events : List Event) → (recording ≡ true → FitsLimits events (Some 0)) → IsEnded recording failed start now (map command_of events)
    → IsRecorded recording failed start.taken now.taken events × (now.failures ≡ failures_with failed start.failures)
recorded recording failed start now events its_fit ended = (
  record {
    unrecorded = λ e. (ap (λ (s : SinkAt). s.taken) (ended.unrecorded e).0, (ended.unrecorded e).1);
    fits = its_fit;
    whole = λ e f. (ended.whole e (low e) f).1;
    front = λ e f. (ended.front e (low e) f).1;
  },
  counts recording failed refl refl,
)
  where
    low : recording ≡ true → length (map command_of events) < MAX_LINES
    low e = let few = (its_fit e).few in let many = length-map events command_of in omega (arith, few, many)

    counts : (r f : Bool) → recording ≡ r → failed ≡ f → now.failures ≡ failures_with failed start.failures
    counts false f e g = ap (λ (s : SinkAt). s.failures) (ended.unrecorded e).0 ∙ sym (ap (λ b. failures_with b start.failures) (ended.unrecorded e).1)
    counts true false e g = (ended.whole e (low e) g).0 ∙ sym (ap (λ b. failures_with b start.failures) g)
    counts true true e g = (ended.front e (low e) g).0 ∙ sym (ap (λ b. failures_with b start.failures) g)
