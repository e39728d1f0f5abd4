-- A run goes on by one pull.
use Rattle.std.proofs.Common.{◌≡◌, ◌≢◌, ℕ, zero, suc, ◌+◌, ◌<◌, ◌≤◌, ◌==◌, Bool, true, false, if◌then◌else◌, List, [], ◌∷◌, ◌++◌, length, map, filter, reverse, refl, sym, ap, ap₂, ◌∙◌, subst, append-nil, append_assoc, length-append, arith, rules}
use Rattle.std.specs.List.{flat_map, range_with_len, AllByRecursion, list_any}
use Rattle.std.proofs.lemmas.List.{map-append, reverse-append, length-reverse, append_cancel_right}
use Rattle.std.proofs.lemmas.List.Concat.{flat_map-append}
use Rattle.std.proofs.lemmas.List.Elements.{filter-append}
use Rattle.std.proofs.lemmas.List.FromFn.{map-range_with_len_more, length-map-range_with_len}
use Rattle.clk_sched.specs.declared.visit.Visit.{Visit}
use Rattle.clk_sched.specs.Tree.{Tree, PlacedScheduler, schedulers_of, width}
use Rattle.clk_sched.specs.Turns.{EachAfter}
use Rattle.clk_sched.specs.Log.{visits_of, in_pull, pulls, block, moment_of, HasOneMoment, NeverFalls, turn, asks, pulls_below}
use Rattle.clk_sched.specs.Laws.{AllowsTurn, Obeys}
use Rattle.clk_sched.specs.Laws.Device.{IsDeviceTurn}
use Rattle.clk_sched.specs.Run.{GetsResult, ObeysIn, IsRun, own_turns}
use Rattle.clk_sched.specs.Step.{AllowsIn, IsNextPull, IsOnePullMore, GoesOn, IsOnePullLess, IsRunOf}
use Rattle.clk_sched.proofs.Lists.Members.{all-append, all-weaker, filter-all, filter-none, all-split, of-all, to-all}
use Rattle.clk_sched.proofs.Runs.Allowed.{onto, onto-reverse, each-split, each-join, device-visit}
use Rattle.clk_sched.proofs.Runs.PullByPull.{in_pull-number, IsNumbered, each-numbered, each-whole}
use Rattle.clk_sched.proofs.Runs.Blocks.{flat_map-same}
use Rattle.clk_sched.proofs.Runs.Pulled.{joined}
use Rattle.clk_sched.proofs.Lists.Numbers.{equal, differs}

each-more : {X : Type 0} (P : List X → X → Type 0) (xs : List X) (x : X) → EachAfter P [] xs → P (reverse xs) x → EachAfter P [] (xs ++ x ∷ [])
each-more P xs x h k = each-join P [] xs (x ∷ []) h (subst (λ e. P e x) (sym (onto-reverse xs)) k, tt)

reverse-more : {X : Type 0} (x : X) (xs : List X) → reverse (x ∷ xs) ≡ reverse xs ++ x ∷ []
reverse-more x xs = reverse-append (x ∷ []) xs

pub filter-reverse : {X : Type 0} (test : X → Bool) (xs : List X) → filter test (reverse xs) ≡ reverse (filter test xs)
filter-reverse test [] = refl
filter-reverse test (x ∷ xs) = search (rules, reverse-more, filter-append, append-nil, (filter-reverse test xs))

map-reverse : {X Y : Type 0} (f : X → Y) (xs : List X) → map f (reverse xs) ≡ reverse (map f xs)
map-reverse f [] = refl
map-reverse f (x ∷ xs) = ap (map f) (reverse-more x xs) ∙ map-append f (reverse xs) (x ∷ []) ∙ ap (λ l. l ++ f x ∷ []) (map-reverse f xs) ∙ sym (reverse-more (f x) (map f xs))

-- The pulls of a scheduler among some pulls and one more: that one too, if the node above asked for it.
own-more : (n : PlacedScheduler) (pulled : List (List Visit)) (pull : List Visit)
    → pulls_below n.above n.input (pulled ++ pull ∷ []) ≡ pulls_below n.above n.input pulled ++ (if list_any (asks n.input) (visits_of n.above pull) then pull ∷ [] else [])
own-more n pulled pull = filter-append (λ p. list_any (asks n.input) (visits_of n.above p)) pulled (pull ∷ [])

-- the turns of a node that stands at an input of the one above, in pulls that have the latest first
pub turns-back : (x above input : ℕ) (pulled : List (List Visit)) → map (turn x) (pulls_below above input (reverse pulled)) ≡ reverse (map (turn x) (pulls_below above input pulled))
turns-back x above input pulled = ap (map (turn x)) (filter-reverse (λ p. list_any (asks input) (visits_of above p)) pulled) ∙ map-reverse (turn x) (pulls_below above input pulled)

-- A scheduler that obeys its law goes on obeying it by a pull that allows it, and by no other.
obeys-more : (n : PlacedScheduler) (pulled : List (List Visit)) (pull : List Visit) → ObeysIn pulled n → AllowsIn (reverse pulled) pull n → ObeysIn (pulled ++ pull ∷ []) n
obeys-more n pulled pull h k = (
  subst (λ ps. Obeys n.class (width n.inputs) (map (turn n.number) ps)) (sym (own-more n pulled pull)) (by_asked (list_any (asks n.input) (visits_of n.above pull)) k.0),
  all-append (GetsResult n.above n.input n.number) pulled (pull ∷ []) h.1 (k.1, tt),
)
  where
    before : List (List Visit)
    before = pulls_below n.above n.input pulled

    by_asked : (b : Bool) → (b ≡ true → AllowsTurn n.class (width n.inputs) (own_turns (reverse pulled) n) (turn n.number pull))
        → Obeys n.class (width n.inputs) (map (turn n.number) (before ++ (if b then pull ∷ [] else [])))
    by_asked true allows =
        subst (Obeys n.class (width n.inputs)) (sym (map-append (turn n.number) before (pull ∷ [])))
        (each-more (AllowsTurn n.class (width n.inputs)) (own_turns pulled n) (turn n.number pull) h.0
        (subst (λ e. AllowsTurn n.class (width n.inputs) e (turn n.number pull)) (turns-back n.number n.above n.input pulled) (allows refl)))
    by_asked false allows = subst (λ ps. Obeys n.class (width n.inputs) (map (turn n.number) ps)) (sym (append-nil before)) h.0

obeys-last : (n : PlacedScheduler) (pulled : List (List Visit)) (pull : List Visit) → ObeysIn (pulled ++ pull ∷ []) n → AllowsIn (reverse pulled) pull n
obeys-last n pulled pull h = (
  λ asked. by_turns (own-more n pulled pull ∙ ap (λ b. before ++ (if b then pull ∷ [] else [])) asked),
  (all-split (GetsResult n.above n.input n.number) pulled (pull ∷ []) h.1).1.0,
)
  where
    before : List (List Visit)
    before = pulls_below n.above n.input pulled

    by_turns : pulls_below n.above n.input (pulled ++ pull ∷ []) ≡ before ++ pull ∷ [] → AllowsTurn n.class (width n.inputs) (own_turns (reverse pulled) n) (turn n.number pull)
    by_turns are =
        subst (λ e. AllowsTurn n.class (width n.inputs) e (turn n.number pull)) (onto-reverse (own_turns pulled n) ∙ sym (turns-back n.number n.above n.input pulled))
        (each-split (AllowsTurn n.class (width n.inputs)) [] (own_turns pulled n) (turn n.number pull ∷ [])
        (subst (Obeys n.class (width n.inputs)) (ap (map (turn n.number)) are ∙ map-append (turn n.number) before (pull ∷ [])) h.0)).1.0

-- the visits of the pulls before one are of pulls numbered below it
numbers-below : (log : List Visit) (a n total : ℕ) → a + n ≤ total → AllByRecursion (λ (v : Visit). v.pull < total) (flat_map (λ p. p) (map (λ k. in_pull k log) (range_with_len a n)))
numbers-below log a zero total l = tt
numbers-below log a (suc n) total l = search (rules, all-append, all-weaker, in_pull-number, (numbers-below log (a + 1) n total (omega arith)))

in-one : (k : ℕ) (visits : List Visit) → AllByRecursion (λ (v : Visit). v.pull ≡ k) visits → in_pull k visits ≡ visits
in-one k visits h = filter-all (λ (v : Visit). v.pull == k) visits (all-weaker (λ (v : Visit). v.pull ≡ k) (λ (v : Visit). (v.pull == k) ≡ true) visits (λ v e. equal v.pull k e) h)

in-other : (k : ℕ) (visits : List Visit) → AllByRecursion (λ (v : Visit). v.pull ≢ k) visits → in_pull k visits ≡ []
in-other k visits h = filter-none (λ (v : Visit). v.pull == k) visits (all-weaker (λ (v : Visit). v.pull ≢ k) (λ (v : Visit). (v.pull == k) ≡ false) visits (λ v d. differs v.pull k d) h)

map-range : {X : Type 0} (f g : ℕ → X) (a n : ℕ) → ((k : ℕ) → k < a + n → f k ≡ g k) → map f (range_with_len a n) ≡ map g (range_with_len a n)
map-range f g a zero h = refl
map-range f g a (suc n) h = λ i. h a (omega arith) i ∷ map-range f g (a + 1) n (λ k l. h k (omega arith)) i

-- the pulls of a log to which the visits of the next pull are added
pulls-more : (log next : List Visit) (n : ℕ) → n ≡ length (visits_of 0 log) → AllByRecursion (λ (v : Visit). v.pull < n) log
    → AllByRecursion (λ (v : Visit). v.pull ≡ n) next → length (visits_of 0 next) ≡ 1 → pulls (log ++ next) ≡ pulls log ++ next ∷ []
pulls-more log next n count before now one =
    let total : length (visits_of 0 (log ++ next)) ≡ n + 1 =
    omega (arith, ap length (filter-append (λ (v : Visit). v.node == 0) log next), length-append (visits_of 0 log) (visits_of 0 next))
    in
    ap (λ m. map (λ k. in_pull k (log ++ next)) (range_with_len 0 m)) total
    ∙ map-range_with_len_more (λ k. in_pull k (log ++ next)) 0 n n (omega arith)
    ∙ ap₂ (λ ps p. ps ++ p ∷ []) (map-range (λ k. in_pull k (log ++ next)) (λ k. in_pull k log) 0 n earlier ∙ ap (λ m. map (λ k. in_pull k log) (range_with_len 0 m)) count) latest
  where
    earlier : (k : ℕ) → k < 0 + n → in_pull k (log ++ next) ≡ in_pull k log
    earlier k l = search (rules, filter-append, in-other, all-weaker, append-nil)

    latest : in_pull n (log ++ next) ≡ next
    latest = search (rules, filter-append, in-other, all-weaker, in-one)

one-more : (tree : Tree) (log pull : List Visit) → IsRun tree log → IsNextPull tree log pull → IsOnePullMore tree log pull
one-more tree log pull run is =
    record {
      run = record {
        shape = record {
          blocks =
              ap₂ (λ l p. l ++ p) run.shape.blocks (is.whole ∙ sym (append-nil (block tree pull))) ∙ sym (flat_map-append (block tree) (pulls log) (pull ∷ [])) ∙ ap (flat_map (block tree)) (sym last);
          one_moment = subst (AllByRecursion HasOneMoment) (sym last) (all-append HasOneMoment (pulls log) (pull ∷ []) run.shape.one_moment (is.one_moment, tt));
          moments = subst (λ ps. NeverFalls 0 (map moment_of ps)) (sym last) is.moments;
        };
        device =
            subst (AllByRecursion IsDeviceTurn) (sym (ap (map (turn 0)) last ∙ map-append (turn 0) (pulls log) (pull ∷ [])))
            (all-append IsDeviceTurn (map (turn 0) (pulls log)) (turn 0 pull ∷ []) run.device (is.device, tt));
        below =
            subst (λ ps. AllByRecursion (ObeysIn ps) (schedulers_of tree)) (sym last)
            (to-all (ObeysIn (pulls log ++ pull ∷ [])) (schedulers_of tree) (λ n m. obeys-more n (pulls log) pull (of-all (ObeysIn (pulls log)) n (schedulers_of tree) run.below m) (of-all (AllowsIn (reverse (pulls log)) pull) n (schedulers_of tree) is.below m)));
      };
      last = last;
    }
  where
    count : ℕ
    count = length (visits_of 0 log)

    counted : length (pulls log) ≡ count
    counted = length-map-range_with_len (λ k. in_pull k log) 0 count

    before : AllByRecursion (λ (v : Visit). v.pull < count) log
    before = subst (AllByRecursion (λ (v : Visit). v.pull < count)) (sym (joined tree log run)) (numbers-below log 0 count count (omega arith))

    last : pulls (log ++ pull) ≡ pulls log ++ pull ∷ []
    last = pulls-more log pull count refl before (subst (λ n. AllByRecursion (λ (v : Visit). v.pull ≡ n) pull) counted is.number) (ap length (device-visit (visits_of 0 pull) is.device).only)

-- and back: what holds of the pulls up to one holds of those before it
obeys-less : (n : PlacedScheduler) (pulled later : List (List Visit)) → ObeysIn (pulled ++ later) n → ObeysIn pulled n
obeys-less n pulled later h = (
  (each-split (AllowsTurn n.class (width n.inputs)) [] (own_turns pulled n) (own_turns later n)
      (subst (Obeys n.class (width n.inputs))
      (ap (map (turn n.number)) (filter-append (λ p. list_any (asks n.input) (visits_of n.above p)) pulled later) ∙ map-append (turn n.number) (pulls_below n.above n.input pulled) (pulls_below n.above n.input later))
      h.0)).0,
  (all-split (GetsResult n.above n.input n.number) pulled later h.1).0,
)

-- nothing has happened yet
none-yet : (tree : Tree) → AllByRecursion (ObeysIn []) (schedulers_of tree)
none-yet tree = to-all (ObeysIn []) (schedulers_of tree) (λ n m. (tt, tt))

never-less : (least : ℕ) (ms later : List ℕ) → NeverFalls least (ms ++ later) → NeverFalls least ms
never-less least [] later h = tt
never-less least (m ∷ ms) later h = (h.0, never-less m ms later h.1)

-- pulls that are numbered one after another, and in each of which the device has its turn, are those of the log that they are joined to
joined-more : (tree : Tree) (before more : List (List Visit)) → pulls (flat_map (λ p. p) before) ≡ before → AllByRecursion (λ (v : Visit). v.pull < length before) (flat_map (λ p. p) before) → EachAfter (IsNumbered tree) (reverse before) more
    → AllByRecursion IsDeviceTurn (map (turn 0) more) → pulls (flat_map (λ p. p) (before ++ more)) ≡ before ++ more
joined-more tree before [] are below numbered devices = subst (λ ps. pulls (flat_map (λ p. p) ps) ≡ ps) (sym (append-nil before)) are
joined-more tree before (pull ∷ more) are below numbered devices =
    subst (λ ps. pulls (flat_map (λ p. p) ps) ≡ ps) (append_assoc before (pull ∷ []) more)
    (joined-more tree (before ++ pull ∷ []) more (ap pulls log ∙ last ∙ ap (λ ps. ps ++ pull ∷ []) are) (subst (AllByRecursion (λ (v : Visit). v.pull < length (before ++ pull ∷ []))) (sym log) numbers)
    (subst (λ e. EachAfter (IsNumbered tree) e more) (sym (reverse-append before (pull ∷ []))) numbered.1) devices.1)
  where
    earlier : List Visit
    earlier = flat_map (λ p. p) before

    log : flat_map (λ p. p) (before ++ pull ∷ []) ≡ earlier ++ pull
    log = flat_map-append (λ p. p) before (pull ∷ []) ∙ ap (λ l. earlier ++ l) (append-nil pull)

    number : AllByRecursion (λ (v : Visit). v.pull ≡ length before) pull
    number = subst (λ n. AllByRecursion (λ (v : Visit). v.pull ≡ n) pull) (length-reverse before) numbered.0.number

    last : pulls (earlier ++ pull) ≡ pulls earlier ++ pull ∷ []
    last = search (rules, append-nil, append_assoc, reverse-append, flat_map-append, length-reverse, pulls-more, length-map-range_with_len, device-visit, length-append, all-append, all-weaker, earlier, number)

    numbers : AllByRecursion (λ (v : Visit). v.pull < length (before ++ pull ∷ [])) (earlier ++ pull)
    numbers = search (rules, length-append, all-append, all-weaker, earlier, number)

-- what comes before some pulls of a run
pub front : (tree : Tree) (log : List Visit) (before after : List (List Visit)) → IsRun tree log → pulls log ≡ before ++ after → IsRunOf tree (flat_map (λ p. p) before) before
front tree log before after run are =
    record {
      run = record {
        shape = record {
          blocks = flat_map-same (λ p. p) (block tree) before (λ p m. of-all (λ r. r ≡ block tree r) p before wholes m) ∙ ap (flat_map (block tree)) (sym them);
          one_moment = subst (AllByRecursion HasOneMoment) (sym them) (all-split HasOneMoment before after (subst (AllByRecursion HasOneMoment) are run.shape.one_moment)).0;
          moments = subst (λ ps. NeverFalls 0 (map moment_of ps)) (sym them) (never-less 0 (map moment_of before) (map moment_of after) (subst (NeverFalls 0) (ap (map moment_of) are ∙ map-append moment_of before after) run.shape.moments));
        };
        device = subst (λ ps. AllByRecursion IsDeviceTurn (map (turn 0) ps)) (sym them) devices;
        below =
            subst (λ ps. AllByRecursion (ObeysIn ps) (schedulers_of tree)) (sym them)
            (all-weaker (ObeysIn (before ++ after)) (ObeysIn before) (schedulers_of tree) (λ n h. obeys-less n before after h) (subst (λ ps. AllByRecursion (ObeysIn ps) (schedulers_of tree)) are run.below));
      };
      are = them;
    }
  where
    wholes : AllByRecursion (λ p. p ≡ block tree p) before
    wholes = (all-split (λ p. p ≡ block tree p) before after (subst (AllByRecursion (λ p. p ≡ block tree p)) are (each-whole tree log run.shape))).0

    devices : AllByRecursion IsDeviceTurn (map (turn 0) before)
    devices = (all-split IsDeviceTurn (map (turn 0) before) (map (turn 0) after) (subst (AllByRecursion IsDeviceTurn) (ap (map (turn 0)) are ∙ map-append (turn 0) before after) run.device)).0

    them : pulls (flat_map (λ p. p) before) ≡ before
    them = joined-more tree [] before refl tt (each-split (IsNumbered tree) [] before after (subst (EachAfter (IsNumbered tree) []) are (each-numbered tree log run.shape))).0 devices

one-less : (tree : Tree) (log pull : List Visit) → IsOnePullMore tree log pull → IsOnePullLess tree log pull
one-less tree log pull more =
    record {
      run = subst (IsRun tree) (sym log_is) (front tree (log ++ pull) (pulls log) (pull ∷ []) more.run more.last).run;
      next = record {
        number = subst (λ n. AllByRecursion (λ (v : Visit). v.pull ≡ n) pull) (ap length (onto-reverse (pulls log)) ∙ length-reverse (pulls log)) numbered.number;
        whole = numbered.whole;
        one_moment = numbered.one_moment;
        moments = moments;
        device = devices.1.0;
        below =
            all-weaker (ObeysIn (pulls log ++ pull ∷ [])) (AllowsIn (reverse (pulls log)) pull) (schedulers_of tree) (λ n h. obeys-last n (pulls log) pull h)
            (subst (λ ps. AllByRecursion (ObeysIn ps) (schedulers_of tree)) more.last more.run.below);
      };
    }
  where
    log_is : log ≡ flat_map (λ p. p) (pulls log)
    log_is =
        append_cancel_right log (flat_map (λ p. p) (pulls log)) pull
        (joined tree (log ++ pull) more.run ∙ ap (flat_map (λ p. p)) more.last ∙ flat_map-append (λ p. p) (pulls log) (pull ∷ []) ∙ ap (λ l. flat_map (λ p. p) (pulls log) ++ l) (append-nil pull))

    moments : NeverFalls 0 (map moment_of (pulls log ++ pull ∷ []))
    moments = subst (λ ps. NeverFalls 0 (map moment_of ps)) more.last more.run.shape.moments

    devices : AllByRecursion IsDeviceTurn (map (turn 0) (pulls log)) × AllByRecursion IsDeviceTurn (turn 0 pull ∷ [])
    devices =
        all-split IsDeviceTurn (map (turn 0) (pulls log)) (turn 0 pull ∷ [])
        (subst (AllByRecursion IsDeviceTurn) (ap (map (turn 0)) more.last ∙ map-append (turn 0) (pulls log) (pull ∷ [])) more.run.device)

    numbered : IsNumbered tree (onto (pulls log) []) pull
    numbered = (each-split (IsNumbered tree) [] (pulls log) (pull ∷ []) (subst (EachAfter (IsNumbered tree) []) more.last (each-numbered tree (log ++ pull) more.run.shape))).1.0

pub goes-on : (tree : Tree) → GoesOn tree
goes-on tree = search (rules, none-yet, one-more, one-less, front)
