-- How a consumer takes packets and pulls devices, one after another.
use Rattle.std.proofs.Common.{◌≡◌, ℕ, zero, suc, ◌+◌, ◌*◌, ◌<◌, ◌≤◌, ◌==◌, nat_lt, if◌then◌else◌, Bool, true, false, List, [], ◌∷◌, ◌++◌, length, map, set, Option, Some, slice_get, refl, sym, ap, ap₂, ◌∙◌, subst, arith, mul-add, mul-one, mul-le-mul}
use Rattle.std.specs.List.{filter_map, range_with_len, AllByRecursion, AllZip}
use Rattle.std.proofs.lemmas.List.{append-nil, append_assoc, length-append, length-map, map-append}
use Rattle.std.proofs.lemmas.List.Elements.{filter_map-append}
use Rattle.std.proofs.lemmas.List.FromFn.{map-range_with_len_more}
use Rattle.std.proofs.lemmas.Bool.Decides.{nat_tests}
use Rattle.clk_inlet.specs.declared.item.Item.{Item}
use Rattle.clk_packet.specs.declared.packet.Packet.{Packet}
use Rattle.clk_packet.specs.declared.packet.Offered.{Offered}
use Rattle.clk_sched.specs.declared.visit.Visit.{Visit}
use Rattle.clk_inlet.specs.Halves.{taken as taken_items}
use Rattle.clk_router.specs.Settled.{offered_in}
use Rattle.clk_router.specs.Course.{Course, after, events_of, CanPull}
use Rattle.clk_gate.specs.declared.limits.TheConstants.{MAX_LIMIT, MAX_STEP}
use Rattle.clk_router.specs.Events.{Setup, Event, offered, pulled, happens_at, events_at, moment_in, pull_in}
use Rattle.clk_router.proofs.Callers.Events.{all-join, events-here, events-elsewhere}
use Rattle.clk_script.specs.declared.limits.TheConstants.{MAX_MOMENT}
use Rattle.clk_live.specs.State.{LiveState, Seen, seen, GoesOn, AllGoOn}
use Rattle.clk_live.specs.Taking.{IsTaken, offer_outcome}
use Rattle.clk_live.specs.declared.taking.Taken.{Taken}
use Rattle.clk_live.specs.Pulling.{IsPulledLive}
use Rattle.clk_live.specs.declared.pulling.Emitted.{Emitted}
use Rattle.clk_live.proofs.Callers.Halves.{all_same, all_then}
use Rattle.clk_script.specs.declared.script.Command.{Command}
use Rattle.clk_script.specs.declared.script.Command.TheVariants.{Send, Pull}
use Rattle.clk_script.specs.Meaning.{command_of}
use Rattle.clk_live_run.specs.Run.{moments_at, paced}
use Rattle.clk_live_run.specs.inside.Recording.{RecordAt, LeadsOn}
use Rattle.clk_live_run.specs.inside.Consuming.{commands_of, items_in, taken_in, OnlyTook, if_first, PulledFirst, HasPaced}

-- moments handed in, with an offer more, and with a pull more
moments-offer : (setup : Setup) (events : List Event) (p : Packet) (outcome : Offered) (d : ℕ) → moments_at setup (events ++ offered p outcome ∷ []) d ≡ moments_at setup events d
moments-offer setup events p outcome d = by_place (happens_at setup d (offered p outcome)) refl
  where
    by_place : (b : Bool) → happens_at setup d (offered p outcome) ≡ b → moments_at setup (events ++ offered p outcome ∷ []) d ≡ moments_at setup events d
    by_place true e =
        ap (filter_map moment_in) (events-here setup d events (offered p outcome) e) ∙ filter_map-append moment_in (events_at setup d events) (offered p outcome ∷ []) ∙ append-nil (moments_at setup events d)
    by_place false e = ap (filter_map moment_in) (events-elsewhere setup d events (offered p outcome) e)

moments-pull : (setup : Setup) (events : List Event) (device moment : ℕ) (visits : List Visit) (d : ℕ) → moments_at setup (events ++ pulled device moment visits ∷ []) d ≡ moments_at setup events d ++ (if device == d then moment ∷ [] else [])
moments-pull setup events device moment visits d = by_place (device == d) refl
  where
    by_place : (b : Bool) → (device == d) ≡ b → moments_at setup (events ++ pulled device moment visits ∷ []) d ≡ moments_at setup events d ++ (if b then moment ∷ [] else [])
    by_place true e =
        ap (filter_map moment_in) (events-here setup d events (pulled device moment visits) e) ∙ filter_map-append moment_in (events_at setup d events) (pulled device moment visits ∷ [])
    by_place false e = ap (filter_map moment_in) (events-elsewhere setup d events (pulled device moment visits) e) ∙ sym (append-nil (moments_at setup events d))

-- one item more
items-more : (all : List (List Item)) (i : ℕ) (before : List Item) (x : Item) → slice_get all i ≡ Some before → items_in (set all i (before ++ x ∷ [])) ≡ items_in all + 1
items-more [] i before x e = absurd (cc)
items-more (xs ∷ all) zero before x e =
    let same : xs ≡ before = cc in
    let many = length-append before (x ∷ []) in
    let is = ap length same in
    omega (arith, many, is)
items-more (xs ∷ all) (suc i) before x e = let rest = items-more all i before x e in omega (arith, rest)

-- A packet was taken.
pub took-one : (place : ℕ) (old new : LiveState) (t : Taken) → IsTaken place (seen old) t (seen new) → AllGoOn old.outlets new.outlets → OnlyTook old new
took-one place old new t one outlets =
    let event : Event = offered t.packet (offer_outcome t.packet t.outcome) in
    record {
      setup = ap (λ (c : Course). c.setup) one.goes_on;
      outlets = outlets;
      many =
          let events = ap (λ (c : Course). length c.events) one.goes_on ∙ length-append old.course.events (event ∷ []) in
          let items = ap items_in one.items ∙ items-more (seen old).items place one.before _ one.was in
          omega (arith, events, items);
      offers =
          let events = ap (λ (c : Course). length (filter_map offered_in c.events)) one.goes_on ∙ ap length (filter_map-append offered_in old.course.events (event ∷ [])) ∙ length-append (filter_map offered_in old.course.events) (t.packet ∷ []) in
          let items = ap items_in one.items ∙ items-more (seen old).items place one.before _ one.was in
          omega (arith, events, items);
      handed_in = ap (λ (c : Course). filter_map moment_in c.events) one.goes_on ∙ filter_map-append moment_in old.course.events (event ∷ []) ∙ append-nil (filter_map moment_in old.course.events);
      moments = λ d. ap (λ (c : Course). moments_at c.setup c.events d) one.goes_on ∙ moments-offer old.course.setup old.course.events t.packet (offer_outcome t.packet t.outcome) d;
    }

pub took-command : (place : ℕ) (old new : LiveState) (t : Taken) → IsTaken place (seen old) t (seen new) → commands_of new.course ≡ commands_of old.course ++ Send t.packet.sender t.packet.length ∷ []
took-command place old new t one = ap commands_of one.goes_on ∙ map-append command_of old.course.events (offered t.packet (offer_outcome t.packet t.outcome) ∷ [])

pub took-none : (l : LiveState) → OnlyTook l l
took-none l = record { setup = refl; outlets = all_same l.outlets; many = refl; offers = refl; handed_in = refl; moments = λ d. refl }

pub took-then : (old mid new : LiveState) → OnlyTook old mid → OnlyTook mid new → OnlyTook old new
took-then old mid new a b =
    record {
      setup = b.setup ∙ a.setup;
      outlets = all_then old.outlets mid.outlets new.outlets a.outlets b.outlets;
      many = omega (arith, a.many, b.many);
      offers = omega (arith, a.offers, b.offers);
      handed_in = b.handed_in ∙ a.handed_in;
      moments = λ d. b.moments d ∙ a.moments d;
    }

-- nothing changes for `seen` alone
pub took-same : (old new : LiveState) → seen new ≡ seen old → AllGoOn old.outlets new.outlets → OnlyTook old new
took-same old new same outlets =
    record {
      setup = ap (λ (s : Seen). s.course.setup) same;
      outlets = outlets;
      many = let a = ap (λ (s : Seen). length s.course.events) same in let b = ap (λ (s : Seen). items_in s.items) same in omega (arith, a, b);
      offers = let a = ap (λ (s : Seen). length (filter_map offered_in s.course.events)) same in let b = ap (λ (s : Seen). items_in s.items) same in omega (arith, a, b);
      handed_in = ap (λ (s : Seen). filter_map moment_in s.course.events) same;
      moments = λ d. ap (λ (s : Seen). moments_at s.course.setup s.course.events d) same;
    }

-- Devices are pulled by number.
pub pulled-command : (device moment : ℕ) (old new : LiveState) (got : Option Emitted) → IsPulledLive device moment (seen old) got (seen new) → commands_of new.course ≡ commands_of old.course ++ Pull device moment ∷ []
pulled-command device moment old new got one = ap commands_of one.pulled.goes_on ∙ map-append command_of old.course.events (pulled device moment one.pulled.visits ∷ [])

pub pulled-more : (count moment : ℕ) (old l new : LiveState) (got : Option Emitted) → PulledFirst count moment old l → IsPulledLive count moment (seen l) got (seen new) → new.outlets ≡ l.outlets → PulledFirst (count + 1) moment old new
pulled-more count moment old l new got so one outlets =
    record {
      setup = ap (λ (c : Course). c.setup) one.pulled.goes_on ∙ so.setup;
      outlets = outlets ∙ so.outlets;
      many =
          let events = ap (λ (c : Course). length c.events) one.pulled.goes_on ∙ length-append l.course.events (pulled count moment one.pulled.visits ∷ []) in
          omega (arith, events, so.many);
      offers =
          ap (λ (c : Course). length (filter_map offered_in c.events)) one.pulled.goes_on ∙ ap length (filter_map-append offered_in l.course.events (pulled count moment one.pulled.visits ∷ []) ∙ append-nil (filter_map offered_in l.course.events))
          ∙ so.offers;
      early = λ low h.
          subst (AllByRecursion (λ m. m ≤ MAX_MOMENT)) (sym (ap (λ (c : Course). filter_map moment_in c.events) one.pulled.goes_on ∙ filter_map-append moment_in l.course.events (pulled count moment one.pulled.visits ∷ [])))
          (all-join (λ m. m ≤ MAX_MOMENT) (filter_map moment_in l.course.events) (moment ∷ []) (so.early low h) (low, tt));
      moments = λ d.
          ap (λ (c : Course). moments_at c.setup c.events d) one.pulled.goes_on ∙ moments-pull l.course.setup l.course.events count moment one.pulled.visits d
          ∙ ap (λ ms. ms ++ (if count == d then moment ∷ [] else [])) (so.moments d)
          ∙ append_assoc (moments_at old.course.setup old.course.events d) (if_first count moment d) (if count == d then moment ∷ [] else [])
          ∙ ap (λ ms. moments_at old.course.setup old.course.events d ++ ms) (by_place d (nat_lt d count) (count == d) refl refl);
    }
  where
    by_place : (d : ℕ) (a b : Bool) → nat_lt d count ≡ a → (count == d) ≡ b → (if a then moment ∷ [] else []) ++ (if b then moment ∷ [] else []) ≡ if_first (count + 1) moment d
    by_place d true true e f = let low : d < count = grind (arith, nat_tests, e) in let same : count ≡ d = grind (arith, nat_tests, f) in absurd (omega (arith, low, same))
    by_place d true false e f = let more : nat_lt d (count + 1) ≡ true = grind (arith, nat_tests, e) in ap (λ c. if c then moment ∷ [] else []) (sym more)
    by_place d false true e f = let more : nat_lt d (count + 1) ≡ true = grind (arith, nat_tests, f) in ap (λ c. if c then moment ∷ [] else []) (sym more)
    by_place d false false e f = let none : nat_lt d (count + 1) ≡ false = grind (arith, nat_tests, e, f) in ap (λ c. if c then moment ∷ [] else []) (sym none)

-- A device was pulled no more often than it has moments.
pub as-many : (events : List Event) → length (filter_map pull_in events) ≡ length (filter_map moment_in events)
as-many [] = refl
as-many (offered p outcome ∷ events) = as-many events
as-many (pulled device moment visits ∷ events) = ap suc (as-many events)

-- A round: packets are taken, and each device is pulled once more.
pub paced-took : (step pulls : ℕ) (old new : LiveState) → HasPaced step pulls old → OnlyTook old new → HasPaced step pulls new
paced-took step pulls old new so took =
    let trees : length new.course.setup.trees ≡ length old.course.setup.trees = ap (λ (s : Setup). length s.trees) took.setup in
    record {
      many =
          let product = ap (λ n. n * pulls) trees in
          omega (arith, so.many, took.many, product);
      offers = omega (arith, so.offers, took.offers);
      early = subst (AllByRecursion (λ m. m ≤ MAX_MOMENT)) (sym took.handed_in) so.early;
      moments = λ d low. took.moments d ∙ so.moments d (subst (λ n. d < n) trees low);
    }

paced-more : (step pulls : ℕ) → paced step (pulls + 1) ≡ paced step pulls ++ (pulls + 1) * step ∷ []
paced-more step pulls = map-range_with_len_more (λ n. n * step) 1 pulls (pulls + 1) (omega arith)

pub paced-pulled : (step pulls : ℕ) (old new : LiveState) → HasPaced step pulls old → PulledFirst (length old.course.setup.trees) ((pulls + 1) * step) old new → (pulls + 1) * step ≤ MAX_MOMENT → HasPaced step (pulls + 1) new
paced-pulled step pulls old new so each low_moment =
    let taken : taken_in new ≡ taken_in old = ap (λ outlets. items_in (map taken_items outlets)) each.outlets in
    let trees : length new.course.setup.trees ≡ length old.course.setup.trees = ap (λ (s : Setup). length s.trees) each.setup in
    record {
      many =
          let product = ap (λ n. n * (pulls + 1)) trees in
          let more = mul-add (length old.course.setup.trees) pulls 1 in let one = mul-one (length old.course.setup.trees) in
          omega (arith, so.many, each.many, taken, product, more, one);
      offers = omega (arith, so.offers, each.offers, taken);
      early = each.early low_moment so.early;
      moments = λ d low.
          let there : d < length old.course.setup.trees = subst (λ n. d < n) trees low in
          let first : nat_lt d (length old.course.setup.trees) ≡ true = grind (arith, nat_tests, there) in
          each.moments d ∙ ap₂ (λ a b. a ++ b) (so.moments d there) (ap (λ c. if c then (pulls + 1) * step ∷ [] else []) first) ∙ sym (paced-more step pulls);
    }

-- lists that stand side by side have as many members
pub same-many : {X Y : Type 0} (R : X → Y → Type 0) (xs : List X) (ys : List Y) → AllZip R xs ys → length xs ≡ length ys
same-many R [] [] h = refl
same-many R [] (y ∷ ys) h = absurd h
same-many R (x ∷ xs) [] h = absurd h
same-many R (x ∷ xs) (y ∷ ys) h = ap suc (same-many R xs ys h.1)

-- a place is there after packets were taken
pub still-there : (place : ℕ) (old new : LiveState) → AllGoOn old.outlets new.outlets → place < length old.outlets → place < length new.outlets
still-there place old new goes low = let many = same-many GoesOn old.outlets new.outlets goes in omega (arith, many, low)

-- a record goes on by two parts
pub leads-then : (old mid new : RecordAt) (before between after : List Command) → LeadsOn old mid before between → LeadsOn mid new between after → LeadsOn old new before after
leads-then old mid new before between after a b = λ recording start h. b recording start (a recording start h)

-- The next device of a round can be pulled.
pub can-pull : (count moment : ℕ) (old l : LiveState) → PulledFirst count moment old l → count < length old.course.setup.trees → moment ≤ MAX_MOMENT → length (moments_at old.course.setup old.course.events count) ≤ MAX_LIMIT → CanPull l.course count moment
can-pull count moment old l so there early few =
    record {
      there = subst (λ (s : Setup). count < length s.trees) (sym so.setup) there;
      moments = omega (arith, early);
      pulls =
          let many = as-many (events_of l.course count) ∙ ap length (so.moments count) ∙ length-append (moments_at old.course.setup old.course.events count) (if_first count moment count) in
          let one = at-most-one (nat_lt count count) in
          omega (arith, many, one, few);
    }
  where
    at-most-one : (b : Bool) → length (if b then moment ∷ [] else []) ≤ 1
    at-most-one true = omega arith
    at-most-one false = omega arith

-- how often a device was pulled in some rounds
pub paced-length : (step count : ℕ) → length (paced step count) ≡ count
paced-length step count = length-map (range_with_len 1 count) (λ n. n * step) ∙ length-range 1 count
  where
    length-range : (first many : ℕ) → length (range_with_len first many) ≡ many
    length-range first zero = refl
    length-range first (suc many) = ap suc (length-range (first + 1) many)

-- a script can name the moment of each round
pub round-early : (round step : ℕ) → round ≤ MAX_LIMIT → step ≤ MAX_STEP → round * step ≤ MAX_MOMENT
round-early round step low small = let most : round * step ≤ MAX_LIMIT * MAX_STEP = mul-le-mul low small in omega (arith, most)

-- a round: packets were taken, and then each device was pulled
pub paced-round : (step round : ℕ) (old mid new : LiveState) → HasPaced step round old → OnlyTook old mid → PulledFirst (length mid.course.setup.trees) ((round + 1) * step) mid new → (round + 1) * step ≤ MAX_MOMENT → HasPaced step (round + 1) new
paced-round step round old mid new so took each early = paced-pulled step round mid new (paced-took step round old mid so took) each early
