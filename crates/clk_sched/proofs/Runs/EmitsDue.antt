-- No pull emits a packet at a moment at which it could emit none.
use Rattle.std.proofs.Common.{◌≡◌, ℕ, zero, suc, ◌+◌, ◌<◌, ◌≤◌, ◌==◌, ◌&&◌, ◌||◌, Bool, true, false, not, List, [], ◌∷◌, map, reverse, None, is_some, refl, ap, ap₂, ◌∙◌, arith, if◌then◌else◌, rules}
use Rattle.std.specs.List.{AllByRecursion, list_any, range_with_len}
use Rattle.std.proofs.lemmas.Bool.Decides.{nat_tests}
use Rattle.clk_packet.specs.declared.packet.Packet.{Packet}
use Rattle.clk_packet.specs.Lists.{In}
use Rattle.clk_sched.specs.declared.visit.Visit.{Visit}
use Rattle.clk_packet.specs.Scheduler.{Scheduler}
use Rattle.clk_sched.specs.Tree.{Row, end, leaf, node, Tree, root, nodes, width}
use Rattle.clk_sched.specs.Turns.{Turn, EachAfter, IsPlain, visits_before}
use Rattle.clk_sched.specs.Heads.{head_at, LooksAtHeads}
use Rattle.clk_sched.specs.Laws.{Manner, in_order, with_heads, manner, Follows, AllowsTurn}
use Rattle.clk_sched.specs.Log.{visits_of, pulls, moment_of, turn, asks, pulls_below, result_of}
use Rattle.clk_sched.specs.Step.{IsOnePullLess}
use Rattle.clk_sched.specs.Due.{turns_in, lets_through, holds_head, could_emit, GetsFromBacklogged, EmitsOnceDue}
use Rattle.clk_sched.specs.inside.Pulling.{History}
use Rattle.clk_sched.specs.inside.Session.{history_of}
use Rattle.clk_sched.proofs.Lists.Members.{of-all, to-all, filter-in, any-in, in-filter}
use Rattle.clk_sched.proofs.Classes.BusyTurns.{busy, history-busy, busy-visits, busy-room}
use Rattle.clk_sched.proofs.Trees.Numbering.{StandsAt, stands-root, stands-after_leaf, stands-after_node, stands-inputs, at-leaf}
use Rattle.clk_sched.proofs.Runs.Rows.{EachAllows}
use Rattle.clk_sched.proofs.Runs.ByRows.{next-rows}
use Rattle.clk_sched.proofs.Runs.Allowed.{device-visit}
use Rattle.clk_sched.proofs.Runs.Blocks.{node-is}
use Rattle.clk_sched.proofs.Runs.GoesOn.{goes-on}
use Rattle.clk_sched.proofs.Runs.NoChoice.{root-width}
use Rattle.clk_sched.proofs.Runs.DeviceBlock.{ArePast, IsPast, past-after_leaf, past-after_node, past-inputs, are-past}
use Rattle.clk_sched.specs.inside.Looking.{is_covered}

-- Turns without visits change nothing.
lets-busy : (class : Scheduler) (turns : List Turn) (moment : ℕ) → lets_through class (busy turns) moment ≡ lets_through class turns moment
lets-busy class turns moment = search (rules, busy-room)

heads-busy : (m : Manner) (inputs : ℕ) (turns : List Turn) → holds_head m inputs (busy turns) ≡ holds_head m inputs turns
heads-busy m inputs turns = search (rules, busy-visits)

pub could-busy : (history turns : History) (backlogged : ℕ → Bool) (moment next : ℕ) (row : Row) → ((x : ℕ) → history x ≡ busy (turns x)) → could_emit history backlogged moment next row ≡ could_emit turns backlogged moment next row
could-busy history turns backlogged moment next end e = refl
could-busy history turns backlogged moment next (leaf q row) e = ap (λ b. backlogged q || b) (could-busy history turns backlogged moment next row e)
could-busy history turns backlogged moment next (node class inputs row) e =
    ap₂ (λ a b. a || b)
    (ap₂ (λ a b. a && b) (ap (λ ts. lets_through class ts moment) (e next) ∙ lets-busy class (turns next) moment)
    (ap₂ (λ a b. a || b) (ap (holds_head (manner class (width inputs)) (width inputs)) (e next) ∙ heads-busy (manner class (width inputs)) (width inputs) (turns next))
    (could-busy history turns backlogged moment (suc next) inputs e)))
    (could-busy history turns backlogged moment (suc (next + nodes inputs)) row e)

-- neither of two is true
neither : (a b : Bool) → (a || b) ≡ false → (a ≡ false) × (b ≡ false)
neither a b e = search rules

-- no visit passed a packet
abbrev NonePassed : List Visit → Type 0
NonePassed visits = AllByRecursion (λ (v : Visit). v.passed ≡ false) visits

none-results : (visits : List Visit) → NonePassed visits → result_of visits ≡ None
none-results [] h = refl
none-results (v ∷ visits) h = ap (λ b. if b then v.got else result_of visits) h.0 ∙ none-results visits h.1

-- each of these visits that asked got nothing
abbrev GetNone : List Visit → Type 0
GetNone visits = AllByRecursion (λ (v : Visit). v.fresh ≡ true → v.got ≡ None) visits

plain-none : (visits : List Visit) → AllByRecursion IsPlain visits → GetNone visits → NonePassed visits
plain-none [] p h = tt
plain-none (v ∷ visits) p h = (p.0.passed ∙ ap is_some (h.0 p.0.fresh), plain-none visits p.1 h.1)

-- an input without a head has none after a visit that asked there in vain
abbrev NoHeads : ℕ → List Visit → Type 0
NoHeads inputs before = (i : ℕ) → i < inputs → head_at i before ≡ None

no-heads : (before : List Visit) (a n : ℕ) → list_any (λ i. is_some (head_at i before)) (range_with_len a n) ≡ false → (i : ℕ) → a ≤ i → i < a + n → head_at i before ≡ None
no-heads before a zero e i l m = absurd (omega (arith, l, m))
no-heads before a (suc n) e i l m = by_test (i == a) refl (λ j k. no-heads before (a + 1) n both.1 i j k)
  where
    both : (is_some (head_at a before) ≡ false) × (list_any (λ j. is_some (head_at j before)) (range_with_len (a + 1) n) ≡ false)
    both = neither (is_some (head_at a before)) (list_any (λ j. is_some (head_at j before)) (range_with_len (a + 1) n)) e

    by_test : (b : Bool) → (i == a) ≡ b → (a + 1 ≤ i → i < (a + 1) + n → head_at i before ≡ None) → head_at i before ≡ None
    by_test b f later = search rules

looks-none : (turn_of : List Visit → ℕ) (covers : List Visit → ℕ → Packet → Bool) (inputs : ℕ) (earlier visits : List Visit) → EachAfter (LooksAtHeads turn_of covers) earlier visits
    → AllByRecursion (λ (v : Visit). v.input < inputs) visits → NoHeads inputs earlier → GetNone visits → NonePassed visits
looks-none turn_of covers inputs earlier [] h within none gets = tt
looks-none turn_of covers inputs earlier (v ∷ visits) h within none gets = (
  h.0.passes ∙ ap (is_covered (covers earlier v.input)) got,
  looks-none turn_of covers inputs (v ∷ earlier) visits h.1 within.1 (λ i l. search rules) gets.1,
)
  where
    got : v.got ≡ None
    got = gets.0 (h.0.fresh ∙ ap (λ o. not (is_some o)) (none v.input within.0))

-- A scheduler that lets nothing through, or has no head and gets nothing, has no result.
turn-none : (class : Scheduler) (inputs : ℕ) (earlier : List Turn) (t : Turn) (below : Bool) → AllowsTurn class inputs earlier t
    → (lets_through class earlier t.moment && (holds_head (manner class inputs) inputs earlier || below)) ≡ false → (below ≡ false → GetNone t.visits) → result_of t.visits ≡ None
turn-none class inputs earlier t below allowed e gets = search (rules, neither, none-results, shut, by_manner)
  where
    shut : (c : Scheduler) → AllowsTurn c inputs earlier t → lets_through c earlier t.moment ≡ false → t.visits ≡ []
    shut c a f = search rules

    by_manner : (m : Manner) → Follows m inputs earlier t → holds_head m inputs earlier ≡ false → GetNone t.visits → NonePassed t.visits
    by_manner (in_order order) f h g = plain-none t.visits f.plain g
    by_manner (with_heads turn_of covers) f h g =
        looks-none turn_of covers inputs (visits_before earlier) t.visits f.0 allowed.within (λ i l. no-heads (visits_before earlier) 0 inputs h i (omega arith) (omega (arith, l))) g

-- what a node asked at the inputs of a row gave nothing
abbrev GaveNone : List Visit → (above first : ℕ) → Row → Type 0
GaveNone pull above first row = (v : Visit) → In v (visits_of above pull) → v.fresh ≡ true → first ≤ v.input → v.input < first + width row → v.got ≡ None

gave-none : (tree : Tree) (history : History) (backlogged : ℕ → Bool) (pull : List Visit) (row : Row) (above first next : ℕ) (earlier : List (List Visit)) → StandsAt tree above first next row
    → ArePast history above first next row earlier → GetsFromBacklogged tree backlogged pull → EachAllows above first next row earlier pull
    → could_emit history backlogged (moment_of pull) next row ≡ false → GaveNone pull above first row
gave-none tree history backlogged pull end above first next earlier stands past gets allows e v m f l k = absurd (omega (arith, l, k))
gave-none tree history backlogged pull (leaf q row) above first next earlier stands past gets allows e v m f l k =
    by_test (v.input == first) refl
    (gave-none tree history backlogged pull row above (suc first) next earlier (stands-after_leaf tree above first next q row stands) (past-after_leaf history above first next q row earlier past) gets allows both.1 v m f)
  where
    both : (backlogged q ≡ false) × (could_emit history backlogged (moment_of pull) next row ≡ false)
    both = neither (backlogged q) (could_emit history backlogged (moment_of pull) next row) e

    by_test : (b : Bool) → (v.input == first) ≡ b → (suc first ≤ v.input → v.input < suc first + width row → v.got ≡ None) → v.got ≡ None
    by_test b g later = search (rules, node-is, at-leaf, of-all, in-filter, both)
gave-none tree history backlogged pull (node class inputs row) above first next earlier stands past gets allows e v m f l k =
    by_test (v.input == first) refl
    (gave-none tree history backlogged pull row above (suc first) (suc (next + nodes inputs)) earlier (stands-after_node tree above first next class inputs row stands)
    (past-after_node history above first next class inputs row earlier past) gets allows.2 both.1 v m f)
    (λ allowed none. gave-none tree history backlogged pull inputs next 0 (suc next) (pulls_below above first earlier) (stands-inputs tree above first next class inputs row stands)
    (past-inputs history above first next class inputs row earlier past).below gets allowed none)
  where
    moment : ℕ
    moment = moment_of pull

    here : Bool
    here = lets_through class (history next) moment && (holds_head (manner class (width inputs)) (width inputs) (history next) || could_emit history backlogged moment (suc next) inputs)

    both : (here ≡ false) × (could_emit history backlogged moment (suc (next + nodes inputs)) row ≡ false)
    both = neither here (could_emit history backlogged moment (suc (next + nodes inputs)) row) e

    by_test : (b : Bool) → (v.input == first) ≡ b → (suc first ≤ v.input → v.input < suc first + width row → v.got ≡ None)
        → (EachAllows next 0 (suc next) inputs (pulls_below above first earlier) pull → could_emit history backlogged moment (suc next) inputs ≡ false → GaveNone pull next 0 inputs) → v.got ≡ None
    by_test false g later below = later (let other : (v.input ≡ first) → ⊥ = (λ s. grind (arith, nat_tests)) in omega (arith, l, other)) (omega (arith, k))
    by_test true g later below = of-all _ v _ allows.1 (filter-in (asks first) v (visits_of above pull) asked m) ∙ result
      where
        asked : asks first v ≡ true
        asked = ap₂ (λ b c. b && c) f g

        is_past : IsPast history above first next inputs earlier
        is_past = past-inputs history above first next class inputs row earlier past

        turns : List Turn
        turns = map (turn next) (pulls_below above first earlier)

        allowed : AllowsTurn class (width inputs) turns (turn next pull) × EachAllows next 0 (suc next) inputs (pulls_below above first earlier) pull
        allowed = allows.0 (any-in (asks first) v (visits_of above pull) asked m)

        shut : (lets_through class turns moment && (holds_head (manner class (width inputs)) (width inputs) turns || could_emit history backlogged moment (suc next) inputs)) ≡ false
        shut = search (rules, lets-busy, heads-busy, moment, is_past, here, turns, both)

        result : result_of (visits_of next pull) ≡ None
        result =
            turn-none class (width inputs) turns (turn next pull) (could_emit history backlogged moment (suc next) inputs) allowed.0 shut
            (λ none. to-all _ (visits_of next pull) (λ u n fresh.
            below allowed.1 none u n fresh (omega arith) (let within = of-all _ u (visits_of next pull) allowed.0.within n in omega (arith, within))))

pub emits-due : (tree : Tree) → EmitsOnceDue tree
emits-due tree log pull backlogged more gets none = none-results (visits_of 0 pull) passed
  where
    less : IsOnePullLess tree log pull
    less = (goes-on tree).back log pull more

    history : History
    history = history_of (reverse (pulls log))

    never : could_emit history backlogged (moment_of pull) 1 (root tree) ≡ false
    never = could-busy history (turns_in log) backlogged (moment_of pull) 1 (root tree) (λ x. history-busy (reverse (pulls log)) x) ∙ none

    gave : GaveNone pull 0 0 (root tree)
    gave = gave-none tree history backlogged pull (root tree) 0 0 1 (reverse (pulls log)) (stands-root tree) (are-past tree log less.run) gets (next-rows tree log pull less.run less.next) never

    passed : NonePassed (visits_of 0 pull)
    passed = plain-none (visits_of 0 pull) less.next.device.plain (to-all _ (visits_of 0 pull) (λ v m fresh. gave v m fresh (omega arith) (search (rules, device-visit, of-all, root-width, less))))
