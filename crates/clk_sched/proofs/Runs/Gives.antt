-- What the node above a node got from it is what it passed.
use Rattle.std.proofs.Common.{◌≡◌, ℕ, suc, ◌+◌, ◌==◌, if◌then◌else◌, Bool, true, List, [], ◌∷◌, ◌++◌, map, filter, reverse, Option, Some, option_and_then, refl, sym, ap, ◌∙◌, subst, arith, rules}
use Rattle.std.specs.List.{flat_map, AllByRecursion, list_any}
use Rattle.clk_sched.specs.declared.visit.Visit.{Visit}
use Rattle.clk_packet.specs.Scheduler.{Scheduler}
use Rattle.clk_sched.specs.Tree.{Row, leaf, node, nodes, width}
use Rattle.clk_sched.specs.Turns.{Turn, EachAfter}
use Rattle.clk_sched.specs.Laws.{manner, Follows, Obeys}
use Rattle.clk_sched.specs.Log.{visits_of, in_pull, turn, asks, pulls_below, result_of}
use Rattle.clk_sched.specs.Run.{GetsResult}
use Rattle.clk_sched.specs.Results.{Traced, traced, up_to, passed_input, latest_origin, passed_origin, origin_in, held_at}
use Rattle.clk_packet.specs.Lists.{In}
use Rattle.clk_sched.proofs.Lists.Members.{of-all, in-filter, filter-in, all-filter}
use Rattle.clk_sched.proofs.Runs.PullByPull.{in_pull-number}
use Rattle.clk_sched.proofs.Runs.Allowed.{each-follows}
use Rattle.clk_sched.proofs.Runs.Heads.{got_by, KeepsHead, IsOrdered, passed_by, got-passed_and_held}
use Rattle.clk_sched.proofs.Runs.HeadsByManner.{PassesLast, turns-keep}
use Rattle.clk_sched.proofs.Runs.Blocks.{flat_map-same, owns-self, copies, copies-cancel}
use Rattle.clk_sched.proofs.Runs.Pulled.{IsPullOf, rising-in, flat_map-filter, flat_map-flat_map, copies-unasked, IsPulledIn, pulled-inputs, turns-last, ordered-turns, turns-visits}

-- what the node above a row got from what stands at an input of the row, counted from its first, with where it came from
abbrev pub gives : List Visit → ℕ → ℕ → ℕ → Row → ℕ → List Traced
gives log above first next row i = flat_map (got_by (λ k. origin_in log next row i k) (first + i)) (visits_of above log)

-- where came from what a node passes in a pull from an input
abbrev pub passed_from : List Visit → ℕ → Row → ℕ → ℕ → Option ℕ
passed_from log x inputs k i = latest_origin (origin_in log (suc x) inputs i) i (up_to k (reverse (visits_of x log)))

-- what a node passed, with where it came from
abbrev pub result_by : List Visit → ℕ → Row → Visit → List Traced
result_by log x inputs v = if v.passed then traced v.got (passed_from log x inputs v.pull v.input) else []

abbrev pub results : List Visit → ℕ → Row → List Traced
results log x inputs = flat_map (result_by log x inputs) (visits_of x log)

-- the results of one pull
turn-result : (log : List Visit) (x : ℕ) (inputs : Row) (k : ℕ) (us : List Visit) → PassesLast us → AllByRecursion (λ (v : Visit). v.pull ≡ k) us
    → flat_map (result_by log x inputs) us ≡ traced (result_of us) (option_and_then (passed_from log x inputs k) (passed_input us))
turn-result log x inputs k [] l h = refl
turn-result log x inputs k (v ∷ us) l h = search (rules, v.passed, l.0, (turn-result log x inputs k us l.1 h.1))

-- a node's visits in a pull are those of the pull among its own
filter-turned : {X : Type 0} (f g : X → Bool) (xs : List X) → filter f (filter g xs) ≡ filter g (filter f xs)
filter-turned f g [] = refl
filter-turned f g (x ∷ xs) = search (rules, (filter-turned f g xs))

-- what the node above a node got from it is what it passed
pub gives-results : (log : List Visit) (above first next : ℕ) (class : Scheduler) (inputs row : Row) (pulled : List (List Visit)) → IsPulledIn log above first next (node class inputs row) pulled
    → Obeys class (width inputs) (map (turn next) (pulls_below above first pulled)) → AllByRecursion (GetsResult above first next) pulled
    → gives log above first next (node class inputs row) 0 ≡ results log next inputs
gives-results log above first next class inputs row pulled h law gets =
    ap (λ j. flat_map (got_by origin j) (visits_of above log)) (let e : first + 0 ≡ first = omega arith in e)
    ∙ ap (flat_map got) h.own_visits ∙ flat_map-flat_map got (visits_of above) pulled
    ∙ flat_map-filter asked (λ p. flat_map got (visits_of above p)) pulled (λ p k e. each p k ∙ copies-unasked (asks first) (result p k) (visits_of above p) e)
    ∙ flat_map-same _ _ (pulls_below above first pulled) (λ p k. same p (in-filter asked p pulled k).0 (of-all _ p (pulls_below above first pulled) last k))
    ∙ sym (flat_map-flat_map (result_by log next inputs) (visits_of next) (pulls_below above first pulled))
    ∙ ap (flat_map (result_by log next inputs)) (sym below.own_visits)
  where
    asked : List Visit → Bool
    asked p = list_any (asks first) (visits_of above p)

    below : IsPulledIn log next 0 (suc next) inputs (pulls_below above first pulled)
    below = pulled-inputs log above first next class inputs row pulled h

    last : AllByRecursion (λ p. PassesLast (visits_of next p)) (pulls_below above first pulled)
    last = turns-last (manner class (width inputs)) (width inputs) next [] (pulls_below above first pulled) (each-follows class (width inputs) _ law)

    origin : ℕ → Option ℕ
    origin k = passed_origin (λ i n. origin_in log (suc next) inputs i n) k (visits_of next log)

    got : Visit → List Traced
    got v = got_by origin first v

    is : (p : List Visit) → In p pulled → IsPullOf log p
    is p k = rising-in log 0 pulled p h.rising k

    result : (p : List Visit) → In p pulled → List Traced
    result p k = traced (result_of (visits_of next p)) (origin (is p k).number)

    visit : (p : List Visit) (k : In p pulled) (v : Visit) → In v (visits_of above p) → asks first v ≡ true → traced v.got (origin v.pull) ≡ result p k
    visit p k v m t = search (rules, of-all, filter-in, in-filter, got, origin, is)

    each : (p : List Visit) (k : In p pulled) → flat_map got (visits_of above p) ≡ copies (asks first) (result p k) (visits_of above p)
    each p k = flat_map-same _ _ (visits_of above p) (λ v m. (search (rules, (asks first v), (visit p k v m))))

    same : (p : List Visit) → In p pulled → PassesLast (visits_of next p) → flat_map got (visits_of above p) ≡ flat_map (result_by log next inputs) (visits_of next p)
    same p k l =
        each p k
        ∙ copies-cancel (asks first) (visits_of next p) (result p k) (visits_of above p) (owns-self p above first next class inputs row (h.owns next (omega arith) (omega arith) p k))
        (λ e. ap (λ us. traced (result_of us) (origin (is p k).number)) e)
        ∙ sym passed
      where
        passed : flat_map (result_by log next inputs) (visits_of next p) ≡ result p k
        passed =
            let whole = (is p k).whole in
            subst (λ r. flat_map (result_by log next inputs) (visits_of next r) ≡ traced (result_of (visits_of next r)) (origin (is p k).number)) whole
            (turn-result log next inputs (is p k).number (visits_of next (in_pull (is p k).number log)) (subst (λ r. PassesLast (visits_of next r)) (sym whole) l)
            (all-filter (λ (u : Visit). u.pull ≡ (is p k).number) (λ (u : Visit). u.node == next) (in_pull (is p k).number log) (in_pull-number (is p k).number log))
            ∙ ap (λ us. traced (result_of (visits_of next (in_pull (is p k).number log))) (option_and_then (passed_from log next inputs (is p k).number) (passed_input us)))
            (filter-turned (λ (u : Visit). u.node == next) (λ (u : Visit). u.pull == (is p k).number) log))

-- what the node above got at the first input of a row from a queue, and at later inputs
pub gives-queue : (log : List Visit) (above first next q : ℕ) (row : Row) → gives log above first next (leaf q row) 0 ≡ flat_map (got_by (λ _. Some q) first) (visits_of above log)
gives-queue log above first next q row = ap (λ j. flat_map (got_by (λ _. Some q) j) (visits_of above log)) (let e : first + 0 ≡ first = omega arith in e)

pub gives-after_leaf : (log : List Visit) (above first next q : ℕ) (row : Row) (i : ℕ) → gives log above first next (leaf q row) (suc i) ≡ gives log above (suc first) next row i
gives-after_leaf log above first next q row i = search rules

pub gives-after_node : (log : List Visit) (above first next : ℕ) (class : Scheduler) (inputs row : Row) (i : ℕ)
    → gives log above first next (node class inputs row) (suc i) ≡ gives log above (suc first) (suc (next + nodes inputs)) row i
gives-after_node log above first next class inputs row i = search rules

-- what a node got at an input is what it passed from there, and then what it holds there
pub gives-passed_and_held : (log : List Visit) (above first next : ℕ) (class : Scheduler) (inputs row : Row) (pulled : List (List Visit)) → IsPulledIn log above first next (node class inputs row) pulled
    → Obeys class (width inputs) (map (turn next) (pulls_below above first pulled)) → (i : ℕ)
    → gives log next 0 (suc next) inputs i ≡ flat_map (passed_by (λ k. origin_in log (suc next) inputs i k) i (reverse (visits_of next log))) (visits_of next log) ++ held_at log next inputs i
gives-passed_and_held log above first next class inputs row pulled h law i =
    ap (λ j. flat_map (got_by (λ k. origin_in log (suc next) inputs i k) j) (visits_of next log)) (let e : 0 + i ≡ i = omega arith in e)
    ∙ got-passed_and_held (λ k. origin_in log (suc next) inputs i k) i (visits_of next log)
    (subst (EachAfter KeepsHead []) (turns-visits log above first next class inputs row pulled h) (turns-keep (manner class (width inputs)) (width inputs) turns follows))
    (subst IsOrdered (sym below.own_visits) (ordered-turns log next 0 (pulls_below above first pulled) below.rising (turns-last (manner class (width inputs)) (width inputs) next [] (pulls_below above first pulled) follows)).0)
  where
    turns : List Turn
    turns = map (turn next) (pulls_below above first pulled)

    below : IsPulledIn log next 0 (suc next) inputs (pulls_below above first pulled)
    below = pulled-inputs log above first next class inputs row pulled h

    follows : EachAfter (Follows (manner class (width inputs)) (width inputs)) [] turns
    follows = each-follows class (width inputs) turns law
