-- How a device is drained, pull by pull, and how devices are drained one after the other.
use Rattle.std.proofs.Common.{◌≡◌, ℕ, zero, suc, ◌+◌, ◌<◌, ◌==◌, Bool, true, false, List, [], ◌∷◌, ◌++◌, length, map, max, fold, is_some, Option, Some, None, MatchOption, slice_get, refl, sym, ap, ap₂, ◌∙◌, subst, arith}
use Rattle.std.specs.Bool.{⊤}
use Rattle.std.specs.List.{filter_map, cons_option, range_with_len}
use Rattle.std.proofs.lemmas.List.{append_assoc, append-nil, length-append}
use Rattle.std.proofs.lemmas.List.Elements.{filter-append, filter_map-append}
use Rattle.std.proofs.lemmas.Bool.Decides.{nat_tests}
use Rattle.clk_inlet.specs.Halves.{taken}
use Rattle.clk_packet.specs.declared.packet.Packet.{Packet}
use Rattle.clk_sched.specs.declared.visit.Visit.{Visit}
use Rattle.clk_sched.specs.declared.limits.TheConstants.{END_OF_DRAINS, END_OF_DRAINED_PULLS}
use Rattle.clk_sched.specs.Log.{visits_of, result_of}
use Rattle.clk_sched.specs.Results.{emitted}
use Rattle.clk_sched.specs.Session.{given_in, LastGives}
use Rattle.clk_sched.specs.Tree.{Tree}
use Rattle.clk_router.specs.Events.{Setup, Event, pulled, happens_at, events_at, moment_in, pull_in, accepted_in, evicted_in, emitted_in, log_of, pulls_from, RunsTree, CanHappen, Closes}
use Rattle.clk_router.specs.Course.{Course, after, events_of, accepted_at, evicted_at, emitted_at, moment_at, CanPull, CanClose}
use Rattle.clk_router.specs.Settled.{IsDrained}
use Rattle.clk_router.specs.Drains.{HasLeft, drained_by, DrainsEnd}
use Rattle.clk_router.proofs.Callers.Events.{pulls-moments, pulls-given, pulls-elsewhere, events-pulls, pulls-add_none}
use Rattle.clk_router.proofs.Callers.Emitted.{its-given}
use Rattle.clk_script.specs.Meaning.{CloseFirst}
use Rattle.clk_live.specs.State.{LiveState, Seen, seen}
use Rattle.clk_live.specs.declared.pulling.Emitted.{Emitted}
use Rattle.clk_live.specs.Pulling.{IsPulledLive}
use Rattle.clk_live_run.specs.inside.Consuming.{HasDrained, HasClosed}

-- a member that is there
member : {X : Type 0} (xs : List X) (i : ℕ) → i < length xs → (x : X) × (slice_get xs i ≡ Some x)
member [] i low = absurd (omega (arith, low))
member (x ∷ xs) zero low = (x, refl)
member (x ∷ xs) (suc i) low = member xs i (omega (arith, low))

-- one pull more, behind pulls one tick apart
pulls-more : (d t : ℕ) (more : List (List Visit)) (visits : List Visit) → pulls_from d t (more ++ visits ∷ []) ≡ pulls_from d t more ++ pulled d (t + length more) visits ∷ []
pulls-more d t [] visits = let same : t ≡ t + 0 = omega arith in ap (λ n. pulled d n visits ∷ []) same
pulls-more d t (v ∷ more) visits =
    let same : t + 1 + length more ≡ t + suc (length more) = omega arith in
    ap (λ es. pulled d t v ∷ es) (pulls-more d (t + 1) more visits ∙ ap (λ n. pulls_from d (t + 1) more ++ pulled d n visits ∷ []) same)

given-more : (more : List (List Visit)) (visits : List Visit) → given_in (more ++ visits ∷ []) ≡ given_in more ++ cons_option (result_of (visits_of 0 visits)) []
given-more more visits = filter_map-append (λ (pull : List Visit). result_of (visits_of 0 pull)) more (visits ∷ [])

last-gives : (more : List (List Visit)) (visits : List Visit) → is_some (result_of (visits_of 0 visits)) ≡ true → LastGives (more ++ visits ∷ [])
last-gives [] visits e = e
last-gives (a ∷ []) visits e = e
last-gives (a ∷ b ∷ more) visits e = last-gives (b ∷ more) visits e

-- the greatest of moments one tick apart, above what came before
fold-range : (b n : ℕ) → fold max b (range_with_len (b + 1) n) ≡ b + n
fold-range b zero = omega arith
fold-range b (suc n) =
    let greater : max b (b + 1) ≡ b + 1 = omega arith in
    let rest = fold-range (b + 1) n in
    let here = ap (λ m. fold max m (range_with_len (b + 1 + 1) n)) greater in
    omega (arith, rest, here)

fold-join : (b : ℕ) (xs ys : List ℕ) → fold max b (xs ++ ys) ≡ fold max (fold max b xs) ys
fold-join b [] ys = refl
fold-join b (x ∷ xs) ys = fold-join (max b x) xs ys

-- Pulls of a drain from moment 0 on.
module _ (c : Course) (device : ℕ) where
  abbrev latest : ℕ
  latest = max (moment_at c device) 0

  abbrev its : List Event
  its = events_of c device

  its-after : (more : List (List Visit)) → events_of (drained_by c device 0 more) device ≡ its ++ pulls_from device (latest + 1) more
  its-after more = events-pulls c.setup device c.events (latest + 1) more

  pub moment-after : (more : List (List Visit)) → moment_at (drained_by c device 0 more) device ≡ latest + length more
  moment-after more =
      let zero_less : latest ≡ moment_at c device = omega arith in
      ap (λ es. fold max 0 (filter_map moment_in es)) (its-after more)
      ∙ ap (fold max 0) (filter_map-append moment_in its (pulls_from device (latest + 1) more) ∙ ap (λ ms. filter_map moment_in its ++ ms) (pulls-moments device (latest + 1) more))
      ∙ fold-join 0 (filter_map moment_in its) (range_with_len (latest + 1) (length more))
      ∙ ap (λ n. fold max n (range_with_len (latest + 1) (length more))) (sym zero_less)
      ∙ fold-range latest (length more)

  accepted-after : (more : List (List Visit)) → accepted_at (drained_by c device 0 more) device ≡ accepted_at c device
  accepted-after more = ap (λ es. length (filter_map accepted_in es)) (its-after more) ∙ ap length (pulls-add_none accepted_in (λ d t visits. refl) its device (latest + 1) more)

  evicted-after : (more : List (List Visit)) → evicted_at (drained_by c device 0 more) device ≡ evicted_at c device
  evicted-after more = ap (λ es. length (filter_map evicted_in es)) (its-after more) ∙ ap length (pulls-add_none evicted_in (λ d t visits. refl) its device (latest + 1) more)

  -- what the device emitted, where all this can happen
  runs-there : (tree : Tree) → slice_get c.setup.trees device ≡ Some tree → (events : List Event) → CanHappen c.setup events → RunsTree tree (events_at c.setup device events)
  runs-there tree is events can = subst (λ o. MatchOption o ⊤ (λ t. RunsTree t (events_at c.setup device events))) is (can.runs device)

  pub emitted-after : (tree : Tree) → slice_get c.setup.trees device ≡ Some tree → CanHappen c.setup c.events → (more : List (List Visit)) → CanHappen c.setup (drained_by c device 0 more).events
      → emitted_at (drained_by c device 0 more) device ≡ emitted_at c device + length (given_in more)
  emitted-after tree is can more goes =
      ap length (its-given tree (events_of (drained_by c device 0 more) device) (runs-there tree is (drained_by c device 0 more).events goes) ∙ ap (filter_map emitted_in) (its-after more)
      ∙ filter_map-append emitted_in its (pulls_from device (latest + 1) more) ∙ ap₂ (λ a b. a ++ b) (sym (its-given tree its (runs-there tree is c.events can))) (pulls-given device (latest + 1) more))
      ∙ length-append (emitted (log_of its)) (given_in more)

-- A device is being drained: so many pulls were made, and once no packet is left, the last of them gave one.
pub record DrainedSoFar (device : ℕ) (old now : LiveState) : Type 0 where
  pub more : List (List Visit)
  pub goes_on : now.course ≡ drained_by old.course device 0 more
  pub began : CanHappen old.course.setup old.course.events
  pub happened : CanHappen now.course.setup now.course.events
  pub gives : accepted_at now.course device ≡ evicted_at now.course device + emitted_at now.course device → LastGives more
  pub outlets : now.outlets ≡ old.outlets

pub drained-none : (device : ℕ) (l : LiveState) → CanHappen l.course.setup l.course.events → DrainedSoFar device l l
drained-none device l can =
    record {
      more = [];
      goes_on = ap (λ es. record { setup = l.course.setup; events = es; keeps = l.course.keeps }) (sym (append-nil l.course.events));
      began = can;
      happened = can;
      gives = λ e. tt;
      outlets = refl;
    }

-- one pull more
module _ (device : ℕ) (old l new : LiveState) (moment : ℕ) (got : Option Emitted) (so : DrainedSoFar device old l) (there : device < length old.course.setup.trees) (left : HasLeft l.course device) (when : moment ≡ moment_at l.course device + 1)
    (pull : IsPulledLive device moment (seen l) got (seen new)) (happened : CanHappen new.course.setup new.course.events) where
  abbrev visits : List Visit
  visits = pull.pulled.visits

  abbrev more : List (List Visit)
  more = so.more ++ visits ∷ []

  goes_on : new.course ≡ drained_by old.course device 0 more
  goes_on =
      pull.pulled.goes_on
      ∙ ap (λ (c : Course). after c (pulled device moment visits ∷ [])) so.goes_on
      ∙ ap (λ es. record { setup = old.course.setup; events = es; keeps = old.course.keeps })
      (append_assoc old.course.events (pulls_from device (latest old.course device + 1) so.more) (pulled device moment visits ∷ [])
      ∙ ap (λ es. old.course.events ++ es) (ap (λ m. pulls_from device (latest old.course device + 1) so.more ++ pulled device m visits ∷ []) at ∙ sym (pulls-more device (latest old.course device + 1) so.more visits)))
    where
      at : moment ≡ latest old.course device + 1 + length so.more
      at =
          let was = ap (λ (c : Course). moment_at c device) so.goes_on in
          let is = moment-after old.course device so.more in
          omega (arith, when, was, is)

  -- how many packets the device emitted, before and after
  its-tree : (tree : Tree) × (slice_get old.course.setup.trees device ≡ Some tree)
  its-tree = member old.course.setup.trees device there

  counts : (pulls : List (List Visit)) → CanHappen old.course.setup (drained_by old.course device 0 pulls).events → emitted_at (drained_by old.course device 0 pulls) device ≡ emitted_at old.course device + length (given_in pulls)
  counts pulls goes = emitted-after old.course device its-tree.0 its-tree.1 so.began pulls goes

  before : emitted_at l.course device ≡ emitted_at old.course device + length (given_in so.more)
  before = ap (λ (c : Course). emitted_at c device) so.goes_on ∙ counts so.more (subst (λ (c : Course). CanHappen c.setup c.events) so.goes_on so.happened)

  now : emitted_at new.course device ≡ emitted_at old.course device + length (given_in more)
  now = ap (λ (c : Course). emitted_at c device) goes_on ∙ counts more (subst (λ (c : Course). CanHappen c.setup c.events) goes_on happened)

  gives : accepted_at new.course device ≡ evicted_at new.course device + emitted_at new.course device → LastGives more
  gives emptied = by_result (result_of (visits_of 0 visits)) refl
    where
      by_result : (o : Option Packet) → result_of (visits_of 0 visits) ≡ o → LastGives more
      by_result (Some p) e = last-gives so.more visits (ap is_some e)
      by_result None e =
          let none : length (given_in more) ≡ length (given_in so.more) = ap length (given-more so.more visits ∙ ap (λ o. given_in so.more ++ cons_option o []) e ∙ append-nil (given_in so.more)) in
          let a = ap (λ (c : Course). accepted_at c device) goes_on ∙ accepted-after old.course device more in
          let b = ap (λ (c : Course). evicted_at c device) goes_on ∙ evicted-after old.course device more in
          let c = ap (λ (c : Course). accepted_at c device) so.goes_on ∙ accepted-after old.course device so.more in
          let d = ap (λ (c : Course). evicted_at c device) so.goes_on ∙ evicted-after old.course device so.more in
          let was = before in
          let is = now in
          absurd (omega (arith, emptied, none, a, b, c, d, was, is, left))

  pub drained-more : new.outlets ≡ l.outlets → DrainedSoFar device old new
  drained-more outlets = record { more = more; goes_on = goes_on; began = so.began; happened = happened; gives = gives; outlets = outlets ∙ so.outlets }

-- no packet is left
pub drained : (device : ℕ) (old now : LiveState) → device < length old.course.setup.trees → (so : DrainedSoFar device old now) → accepted_at now.course device ≡ evicted_at now.course device + emitted_at now.course device
    → HasDrained device old now
drained device old now there so emptied =
    let tree = member old.course.setup.trees device there in
    let last = pulls_from device (latest old.course device + 1) so.more in
    record {
      last = last;
      goes_on = so.goes_on;
      closes = record {
        closing = so.more;
        are = refl;
        all =
            let a = ap (λ (c : Course). accepted_at c device) so.goes_on ∙ accepted-after old.course device so.more in
            let b = ap (λ (c : Course). evicted_at c device) so.goes_on ∙ evicted-after old.course device so.more in
            let c = ap (λ (c : Course). emitted_at c device) so.goes_on ∙ emitted-after old.course device tree.0 tree.1 so.began so.more (subst (λ (c : Course). CanHappen c.setup c.events) so.goes_on so.happened) in
            omega (arith, emptied, a, b, c);
        stops = so.gives emptied;
      };
      none_left = emptied;
      elsewhere = λ d other.
          ap (λ (c : Course). events_of c d) so.goes_on ∙ filter-append (happens_at old.course.setup d) old.course.events last
          ∙ ap (λ es. events_of old.course d ++ es) (pulls-elsewhere old.course.setup device d (latest old.course device + 1) so.more other) ∙ append-nil (events_of old.course d);
      outlets = so.outlets;
    }

-- a device at which nothing happened can be closed as before
pub can-still-close : (old now : Course) (d : ℕ) → now.setup ≡ old.setup → events_of now d ≡ events_of old d → CanClose old d 0 → CanClose now d 0
can-still-close old now d setup same can =
    let a = ap (λ es. length (filter_map accepted_in es)) same in
    let b = ap (λ es. length (filter_map evicted_in es)) same in
    let c = ap (λ es. length (emitted (log_of es))) same in
    let m = ap (λ es. fold max 0 (filter_map moment_in es)) same in
    let p = ap (λ es. length (filter_map pull_in es)) same in
    let was = can.left in
    record {
      there = subst (λ (s : Setup). d < length s.trees) (sym setup) can.there;
      left = omega (arith, a, b, c, was);
      moments = subst (λ n. max n 0 < END_OF_DRAINS) (sym m) can.moments;
      pulls = subst (λ n. n < END_OF_DRAINED_PULLS) (sym p) can.pulls;
    }

-- The devices are drained one after the other.
pub closed-more : (count : ℕ) (old l new : LiveState) → HasClosed count old l → HasDrained count l new → HasClosed (suc count) old new
closed-more count old l new so one =
    record {
      closed = so.closed ++ one.last;
      goes_on = one.goes_on ∙ ap (λ (c : Course). after c one.last) so.goes_on ∙ ap (λ es. record { setup = old.course.setup; events = es; keeps = old.course.keeps }) (append_assoc old.course.events so.closed one.last);
      closes = (so.closed, one.last, so.closes, subst (λ (c : Course). Closes count 0 (events_of c count) one.last) so.goes_on one.closes, refl);
      others = λ d low. one.elsewhere d (let other : (count == d) ≡ false = grind (arith, nat_tests, low) in other) ∙ so.others d (omega (arith, low));
      none_left = λ d low. by_last (count == d) d refl low;
      items = ap (λ outlets. map taken outlets) one.outlets ∙ so.items;
    }
  where
    by_last : (b : Bool) → (d : ℕ) → (count == d) ≡ b → d < suc count → accepted_at new.course d ≡ evicted_at new.course d + emitted_at new.course d
    by_last true d e low = let same : count ≡ d = grind (arith, nat_tests) in subst (λ k. accepted_at new.course k ≡ evicted_at new.course k + emitted_at new.course k) same one.none_left
    by_last false d e low =
        let before : d < count = grind (arith, nat_tests, low, e) in
        let same = one.elsewhere d e in
        let was = so.none_left d before in
        let a = ap (λ es. length (filter_map accepted_in es)) same in
        let b = ap (λ es. length (filter_map evicted_in es)) same in
        let c = ap (λ es. length (emitted (log_of es))) same in
        omega (arith, was, a, b, c)

-- the next pull of a drain can be made
pub can-go-on : (device : ℕ) (old now : LiveState) (moment : ℕ) → DrainsEnd old.course device 0 → CanClose old.course device 0 → DrainedSoFar device old now → HasLeft now.course device → moment ≡ moment_at now.course device + 1
    → CanPull now.course device moment
can-go-on device old now moment ends can so left when =
    let happened = subst (λ (c : Course). CanHappen c.setup c.events) so.goes_on so.happened in
    let next = ends can so.more happened (subst (λ (c : Course). HasLeft c device) so.goes_on left) in
    let at : moment ≡ latest old.course device + length so.more + 1 =
    (let was = ap (λ (c : Course). moment_at c device) so.goes_on in let is = moment-after old.course device so.more in omega (arith, when, was, is)) in
    subst (λ m. CanPull now.course device m) (sym at) (subst (λ (c : Course). CanPull c device (latest old.course device + length so.more + 1)) (sym so.goes_on) next)

-- what was seen of a live router alone counts
pub closed-from : (count : ℕ) (old mid new : LiveState) → seen mid ≡ seen old → HasClosed count mid new → HasClosed count old new
closed-from count old mid new same so =
    let course : mid.course ≡ old.course = ap (λ (s : Seen). s.course) same in
    record {
      closed = so.closed;
      goes_on = so.goes_on ∙ ap (λ (c : Course). after c so.closed) course;
      closes = subst (λ (c : Course). CloseFirst c.setup 0 count c.events so.closed) course so.closes;
      others = λ d low. so.others d low ∙ ap (λ (c : Course). events_of c d) course;
      none_left = so.none_left;
      items = so.items ∙ ap (λ (s : Seen). s.items) same;
    }

-- all devices are drained
pub all-drained : (old new : LiveState) → HasClosed (length old.course.setup.trees) old new → IsDrained new.course
all-drained old new so =
    record { none_left = λ d low. so.none_left d (subst (λ (s : Setup). d < length s.trees) (ap (λ (c : Course). c.setup) so.goes_on) low) }

-- a test that does not fail
pub must-be : (b : Bool) → (b ≡ false → ⊥) → b ≡ true
must-be true h = refl
must-be false h = absurd (h refl)
