-- Closing pulls, one after another: all that is left comes out within the bound.
use Rattle.std.proofs.Common.{◌≡◌, ℕ, suc, ◌+◌, ◌*◌, ◌<◌, ◌≤◌, ◌==◌, ◌&&◌, ◌||◌, Bool, true, false, List, [], ◌∷◌, ◌++◌, length, map, filter, reverse, drop, get_or, append-nil, append_assoc, Option, Some, None, is_some, refl, sym, ap, ap₂, ◌∙◌, subst, arith, rules}
use Rattle.std.specs.List.{AllByRecursion, flat_map, cons_option}
use Rattle.std.proofs.lemmas.Bool.{false≢true}
use Rattle.std.proofs.lemmas.List.{length-map, map-append}
use Rattle.std.proofs.lemmas.List.Concat.{flat_map-append}
use Rattle.std.proofs.lemmas.List.Elements.{filter-append}
use Rattle.clk_packet.specs.declared.packet.Packet.{Packet}
use Rattle.clk_sched.specs.declared.visit.Visit.{Visit}
use Rattle.clk_packet.specs.Lists.{stands_in, are_distinct}
use Rattle.clk_packet.specs.Scheduler.{prio}
use Rattle.clk_sched.specs.Tree.{Row, end, leaf, node, Tree, root, width, nodes, leaves, height, leaves_distinct, queue_at, IsSound}
use Rattle.clk_sched.specs.Log.{visits_of, pulls, moment_of, NeverFalls, turn, asks, result_of}
use Rattle.clk_sched.specs.Laws.{AllowsTurn}
use Rattle.clk_sched.specs.Laws.Device.{IsDeviceTurn}
use Rattle.clk_sched.specs.Run.{IsRun}
use Rattle.clk_sched.specs.Step.{IsNextPull, IsOnePullMore, IsRunOf}
use Rattle.clk_sched.specs.Bound.{rounds, closing_bound}
use Rattle.clk_sched.specs.Results.{asks_queue, traced_heads}
use Rattle.clk_sched.proofs.Conservation.RowHeads.{tree-heads}
use Rattle.clk_sched.specs.Choice.{answers_of}
use Rattle.clk_sched.specs.Session.{latest_moment, given_in}
use Rattle.clk_sched.specs.Closing.{GivesOut, IsClosing, left_in, BoundIsEnough}
use Rattle.clk_sched.proofs.Lists.Numbers.{equal}
use Rattle.clk_sched.proofs.Lists.Members.{all-append, all-weaker}
use Rattle.clk_sched.proofs.Runs.Allowed.{device-visit, onto, onto-reverse}
use Rattle.clk_sched.proofs.Runs.Blocks.{owns-root}
use Rattle.clk_sched.proofs.Runs.Pulled.{joined, pulled-root}
use Rattle.clk_sched.proofs.Runs.ByRows.{run-rows, next-rows}
use Rattle.clk_sched.proofs.Trees.Distinct.{distinct-parts}
use Rattle.clk_sched.proofs.Runs.NoChoice.{root-width}
use Rattle.clk_sched.proofs.Conservation.Origins.{StandsOnlyIn, only-after_leaf, only-after_node, only-inputs, only-here, asks-at}
use Rattle.clk_sched.proofs.Trees.TreeLemmas.{stands_in-append}
use Rattle.clk_sched.proofs.Runs.GoesOn.{goes-on}
use Rattle.clk_sched.proofs.Closing.Visited.{one_if, hits, hits-all, sum_from}
use Rattle.clk_sched.proofs.Closing.Turned.{passes, IsTurn, is-turn, all-visited}
use Rattle.clk_sched.proofs.Closing.Rows.{Amount, Costs, EachGives, answers_at, EachIsEnough}
use Rattle.clk_sched.proofs.Closing.PullMore.{all-in_vain, IsRowAfter, row-after}
use Rattle.clk_sched.proofs.Closing.First.{IsRowFirst, row-first}
use Rattle.clk_sched.proofs.Closing.Quanta.{rounds_less, rounds-more, each-enough}

-- what a queue answered in a pull is what was answered where it stands
filter-twice : {X : Type 0} (f g h : X → Bool) (xs : List X) → ((x : X) → f x ≡ (g x && h x)) → filter f xs ≡ filter h (filter g xs)
filter-twice f g h [] same = refl
filter-twice f g h (x ∷ xs) same = search (rules, (filter-twice f g h xs same))

answers-here : (tree : Tree) (q above first next : ℕ) (row : Row) (pull : List Visit) → stands_in q (leaves row) ≡ false → StandsOnlyIn q tree above first next (leaf q row) → answers_of tree q pull ≡ answers_at above first pull
answers-here tree q above first next row pull other only =
    ap (map (λ (v : Visit). v.got)) (filter-twice (asks_queue tree q) (λ (v : Visit). v.node == above) (asks first) pull each)
  where
    each : (v : Visit) → asks_queue tree q v ≡ ((v.node == above) && asks first v)
    each v = asks-at q v.fresh (queue_at tree v.node v.input) ∙ ap (λ b. v.fresh && b) (only-here q tree above first next q row (equal q q refl) other only v.node v.input) ∙ (search rules)

each-gives : (row : Row) (tree : Tree) (old new : ℕ → ℕ) (pull : List Visit) (above first next : ℕ) → above < next → ((q : ℕ) → stands_in q (leaves row) ≡ true → StandsOnlyIn q tree above first next row)
    → are_distinct (leaves row) ≡ true → ((q : ℕ) → GivesOut (old q) (answers_of tree q pull) (new q)) → EachGives old new pull above first next row
each-gives end tree old new pull above first next o only distinct gives = tt
each-gives (leaf q row) tree old new pull above first next o only distinct gives = (
  subst (λ told. GivesOut (old q) told (new q)) (answers-here tree q above first next row pull apart (only q (ap (λ b. b || stands_in q (leaves row)) (equal q q refl)))) (gives q),
  each-gives row tree old new pull above (suc first) next o (λ p s. only-after_leaf p tree above first next q row o (differ p s (q == p) refl) (only p (search rules))) parts.1 gives,
)
  where
    parts : (are_distinct (q ∷ []) ≡ true) × (are_distinct (leaves row) ≡ true) × (stands_in q (q ∷ []) ≡ true → stands_in q (leaves row) ≡ false)
    parts = distinct-parts q (q ∷ []) (leaves row) distinct

    apart : stands_in q (leaves row) ≡ false
    apart = parts.2 (ap (λ b. b || false) (equal q q refl))

    differ : (p : ℕ) → stands_in p (leaves row) ≡ true → (b : Bool) → (q == p) ≡ b → b ≡ false
    differ p s b e = search rules
each-gives (node class inputs row) tree old new pull above first next o only distinct gives = (
  each-gives inputs tree old new pull next 0 (suc next) (omega arith) (λ p s. only-inputs p tree above first next class inputs row ((parts p).2 s) (only p (left p s))) (parts 0).0 gives,
  each-gives row tree old new pull above (suc first) (suc (next + nodes inputs)) (omega (arith, o)) (λ p s. only-after_node p tree above first next class inputs row o (other p s (stands_in p (leaves inputs)) refl) (only p (search (rules, stands_in-append)))) (parts 0).1 gives,
)
  where
    parts : (p : ℕ) → (are_distinct (leaves inputs) ≡ true) × (are_distinct (leaves row) ≡ true) × (stands_in p (leaves inputs) ≡ true → stands_in p (leaves row) ≡ false)
    parts p = distinct-parts p (leaves inputs) (leaves row) distinct

    left : (p : ℕ) → stands_in p (leaves inputs) ≡ true → stands_in p (leaves inputs ++ leaves row) ≡ true
    left p s = stands_in-append p (leaves inputs) (leaves row) ∙ ap (λ b. b || stands_in p (leaves row)) s

    other : (p : ℕ) → stands_in p (leaves row) ≡ true → (b : Bool) → stands_in p (leaves inputs) ≡ b → b ≡ false
    other p s b e = search (rules, false≢true, parts)

-- a closing pull
pub record IsClosingPull (tree : Tree) (log pull : List Visit) (moment : ℕ) (held rest : ℕ → ℕ) : Type 0 where
  pub goes_on : IsOnePullMore tree log pull
  pub at_moment : moment_of pull ≡ moment + 1
  pub gives : (q : ℕ) → GivesOut (held q) (answers_of tree q pull) (rest q)

-- what a queue answered before and after
gives-split : (xs ys : List (Option Packet)) (held rest : ℕ) → GivesOut held (xs ++ ys) rest → (mid : ℕ) × GivesOut held xs mid × GivesOut mid ys rest
gives-split [] ys held rest h = (held, refl, h)
gives-split (None ∷ xs) ys held rest h = let k = gives-split xs ys held rest h.1 in (k.0, (h.0, k.1), k.2)
gives-split (Some p ∷ xs) ys held rest h = let k = gives-split xs ys h.0 rest h.2 in (k.0, (h.0, h.1, k.1), k.2)

answers-joined : (tree : Tree) (q : ℕ) (us vs : List Visit) → answers_of tree q (us ++ vs) ≡ answers_of tree q us ++ answers_of tree q vs
answers-joined tree q us vs = ap (map (λ (v : Visit). v.got)) (filter-append (asks_queue tree q) us vs) ∙ map-append (λ (v : Visit). v.got) (filter (asks_queue tree q) us) (filter (asks_queue tree q) vs)

-- the first of some closing pulls, and the others
record IsFirstOf (tree : Tree) (log pull : List Visit) (moment : ℕ) (held rest : ℕ → ℕ) (more : List (List Visit)) : Type 0 where
  mid : ℕ → ℕ
  first : IsClosingPull tree log pull moment held mid
  others : IsClosing tree (log ++ pull) (moment + 1) mid rest more

first-of : (tree : Tree) (log pull : List Visit) (moment : ℕ) (held rest : ℕ → ℕ) (more : List (List Visit)) → IsRun tree log → IsClosing tree log moment held rest (pull ∷ more) → IsFirstOf tree log pull moment held rest more
first-of tree log pull moment held rest more run h =
    record {
      mid = λ q. (split q).0;
      first = record {
        goes_on = record { run = subst (IsRun tree) log_is one.run; last = ap pulls (sym log_is) ∙ one.are };
        at_moment = ap (λ ms. get_or ms 0 (moment + 1)) h.moments;
        gives = λ q. (split q).1;
      };
      others = record {
        run = subst (IsRun tree) whole h.run;
        pulls_are = ap pulls (sym whole) ∙ h.pulls_are ∙ sym (append_assoc (pulls log) (pull ∷ []) more) ∙ ap (λ ps. ps ++ more) (sym (ap pulls (sym log_is) ∙ one.are));
        moments = ap (drop 1) h.moments;
        gives = λ q. (split q).2;
      };
    }
  where
    rests : List Visit
    rests = flat_map (λ p. p) more

    one : IsRunOf tree (flat_map (λ p. p) (pulls log ++ pull ∷ [])) (pulls log ++ pull ∷ [])
    one = (goes-on tree).fronts (log ++ (pull ++ rests)) (pulls log ++ pull ∷ []) more h.run (h.pulls_are ∙ sym (append_assoc (pulls log) (pull ∷ []) more))

    log_is : flat_map (λ p. p) (pulls log ++ pull ∷ []) ≡ log ++ pull
    log_is = flat_map-append (λ p. p) (pulls log) (pull ∷ []) ∙ ap₂ (λ l m. l ++ m) (sym (joined tree log run)) (append-nil pull)

    whole : log ++ (pull ++ rests) ≡ (log ++ pull) ++ rests
    whole = sym (append_assoc log pull rests)

    split : (q : ℕ) → (mid : ℕ) × GivesOut (held q) (answers_of tree q pull) mid × GivesOut mid (answers_of tree q rests) (rest q)
    split q = gives-split (answers_of tree q pull) (answers_of tree q rests) (held q) (rest q) (subst (λ told. GivesOut (held q) told (rest q)) (answers-joined tree q pull rests) (h.gives q))

-- The closing so far: so many pulls were made, and so many packets came out, of those that were left at first.
pub record IsEmptying (k : ℕ) (tree : Tree) (log : List Visit) (held : ℕ → ℕ) (first all made given : ℕ) : Type 0 where
  pub now : Amount
  pub costs : Costs k held log prio 0 0 1 (root tree) now.left now.work
  pub conserved : now.left + given ≡ first
  pub spent : 0 < now.left → made + (now.left + now.work) ≤ all

-- what the device did in a pull
device-turn : (pull : List Visit) → IsDeviceTurn (turn 0 pull) → AllowsTurn prio 1 [] (turn 0 pull)
device-turn pull h = record { within = let one = device-visit (visits_of 0 pull) h in subst (AllByRecursion (λ (v : Visit). v.input < 1)) (sym one.only) ((let e = one.input in omega (arith, e)), tt); follows = h }

pull-empties : (k : ℕ) (tree : Tree) (log pull : List Visit) (held rest : ℕ → ℕ) (moment first all made given : ℕ) → IsSound (root tree) → leaves_distinct tree ≡ true → EachIsEnough k (root tree) → IsRun tree log
    → AllByRecursion (λ p. moment_of p ≤ moment) (pulls log) → IsNextPull tree log pull → moment_of pull ≡ moment + 1 → ((q : ℕ) → GivesOut (held q) (answers_of tree q pull) (rest q)) → IsEmptying k tree log held first all made given
    → IsEmptying k tree (log ++ pull) rest first all (made + 1) (given + one_if (is_some (result_of (visits_of 0 pull))))
pull-empties k tree log pull held rest moment first all made given sound distinct enough run before next at gives h =
    let now_is = after.conserved in
    let was = h.conserved in
    let out = passed in
    record {
      now = after.now;
      costs = after.costs;
      conserved = omega (arith, now_is, was, out);
      spent = λ some. by_result (result_of visits) refl (let s = some in s);
    }
  where
    visits : List Visit
    visits = visits_of 0 pull

    allowed : AllowsTurn prio 1 [] (turn 0 pull)
    allowed = device-turn pull next.device

    is : IsTurn 1 visits
    is = is-turn prio 1 [] (turn 0 pull) (omega arith) tt allowed

    wide : width (root tree) ≡ 1
    wide = root-width tree

    after : IsRowAfter k rest (log ++ pull) visits prio 0 0 1 (root tree) h.now.left h.now.work
    after =
        row-after (root tree) k 1 held rest log pull prio 0 0 1 (pulls log) h.now.left h.now.work (let w = wide in omega (arith, w)) allowed.follows.plain is.apart
        (record {
          inside = pulled-root tree log run;
          obeys = run-rows tree log run;
          allows = next-rows tree log pull run next;
          owns = λ y l m. owns-root tree pull next.whole y l;
          sound = sound;
          enough = enough;
          later = all-weaker (λ p. moment_of p ≤ moment) (λ p. moment_of p < moment_of pull) (pulls log) (λ p l. omega (arith, at, l)) before;
          gives = each-gives (root tree) tree held rest pull 0 0 1 (omega arith) (λ q s x i. refl) distinct gives;
        })
        h.costs

    passed : sum_from (λ j. hits passes j visits) 0 (width (root tree)) ≡ one_if (is_some (result_of visits))
    passed = ap (λ n. sum_from (λ j. hits passes j visits) 0 n) wide ∙ hits-all passes 1 visits is.within ∙ is.passed

    by_result : (o : Option Packet) → result_of visits ≡ o → 0 < after.now.left → made + 1 + (after.now.left + after.now.work) ≤ all
    by_result None e some =
        let now_is = after.conserved in
        let out = passed ∙ ap (λ o. one_if (is_some o)) e in
        let was : 0 < h.now.left = omega (arith, now_is, out, some) in
        let fell = after.falls (λ j l m. all-in_vain 1 visits is (all-visited prio 1 [] (turn 0 pull) (omega arith) tt tt allowed e) e j l (let w = wide in omega (arith, w, m))) was in
        let spent = h.spent was in
        omega (arith, now_is, out, fell, spent)
    by_result (Some p) e some =
        let now_is = after.conserved in
        let out = passed ∙ ap (λ o. one_if (is_some o)) e in
        let was : 0 < h.now.left = omega (arith, now_is, out, some) in
        let never = after.never_grows in
        let spent = h.spent was in
        omega (arith, now_is, out, never, spent)

length-option : {X : Type 0} (o : Option X) (xs : List X) → length (cons_option o xs) ≡ one_if (is_some o) + length xs
length-option o xs = search rules

closes-within : (more : List (List Visit)) (k : ℕ) (tree : Tree) (log : List Visit) (held rest : ℕ → ℕ) (moment first all made given : ℕ) → IsSound (root tree) → leaves_distinct tree ≡ true → EachIsEnough k (root tree) → IsRun tree log
    → AllByRecursion (λ p. moment_of p ≤ moment) (pulls log) → IsClosing tree log moment held rest more → IsEmptying k tree log held first all made given → given + length (given_in more) < first → made + length more < all
closes-within [] k tree log held rest moment first all made given sound distinct enough run before closes h short = omega arith
closes-within (pull ∷ more) k tree log held rest moment first all made given sound distinct enough run before closes h short =
    let parts = first-of tree log pull moment held rest more run closes in
    let its = parts.first in
    let less = (goes-on tree).back log pull its.goes_on in
    let now = pull-empties k tree log pull held parts.mid moment first all made given sound distinct enough run before less.next its.at_moment its.gives h in
    let out = length-option (result_of (visits_of 0 pull)) (given_in more) in
    let later = subst (AllByRecursion (λ p. moment_of p ≤ moment + 1)) (sym its.goes_on.last)
    (all-append (λ p. moment_of p ≤ moment + 1) (pulls log) (pull ∷ []) (all-weaker (λ p. moment_of p ≤ moment) (λ p. moment_of p ≤ moment + 1) (pulls log) (λ p l. omega (arith, l)) before) ((let e = its.at_moment in omega (arith, e)), tt)) in
    let rest = closes-within more k tree (log ++ pull) parts.mid rest (moment + 1) first all (made + 1) (given + one_if (is_some (result_of (visits_of 0 pull)))) sound distinct enough its.goes_on.run later parts.others now (omega (arith, short, out)) in
    omega (arith, rest)

-- no moment is above the latest
rising-latest : (ps earlier : List (List Visit)) → NeverFalls (latest_moment earlier) (map moment_of ps)
    → AllByRecursion (λ p. moment_of p ≤ latest_moment (onto ps earlier)) ps × (latest_moment earlier ≤ latest_moment (onto ps earlier))
rising-latest [] earlier h = (tt, omega arith)
rising-latest (p ∷ ps) earlier h = search (rules, (rising-latest ps (p ∷ earlier) h.1))

-- all that is left when the closing begins, and its work, which are within the bound
pub record IsEmptied (tree : Tree) (log : List Visit) (held : ℕ → ℕ) (left made given : ℕ) : Type 0 where
  pub all : ℕ
  pub within : all ≤ closing_bound tree left
  pub emptying : IsEmptying (rounds_less tree) tree log held left all made given

bounded : (left high n : ℕ) → left + left * (high * n + n) ≤ left * (high + 1) * (n + 1)
bounded left high n = omega arith

pub emptied-first : (tree : Tree) (log : List Visit) (held : ℕ → ℕ) (left : ℕ) → IsSound (root tree) → IsRun tree log → left ≡ left_in tree log held → IsEmptied tree log held left 0 0
emptied-first tree log held left sound run is =
    record {
      all = start.now.left + start.now.work;
      within =
          let bound = start.bound in
          let within = bounded start.now.left (height (root tree)) k in
          let closing = ap (λ n. n * (height (root tree) + 1) * rounds tree) (sym left_is) ∙ ap (λ n. start.now.left * (height (root tree) + 1) * n) (rounds-more tree) in
          omega (arith, bound, within, closing);
      emptying = record { now = start.now; costs = start.costs; conserved = let e = left_is in omega (arith, e); spent = λ _. omega arith };
    }
  where
    k : ℕ
    k = rounds_less tree

    start : IsRowFirst k (height (root tree)) held log prio 0 0 1 (root tree)
    start = row-first (root tree) k (height (root tree)) 1 held log prio 0 0 1 (pulls log) (let w = root-width tree in omega (arith, w)) (omega arith) tt (pulled-root tree log run) (run-rows tree log run) sound (each-enough tree sound)

    left_is : start.now.left ≡ left
    left_is = let e = start.left_is in let f = length-map (traced_heads tree log) (λ t. t.0) in let g = ap length (tree-heads tree log) in omega (arith, e, f, g, is)

-- no moment of a run is above its counted moment
moments-before : (tree : Tree) (log : List Visit) (moment : ℕ) → IsRun tree log → latest_moment (reverse (pulls log)) ≤ moment → AllByRecursion (λ p. moment_of p ≤ moment) (pulls log)
moments-before tree log moment run latest =
    all-weaker (λ p. moment_of p ≤ latest_moment (onto (pulls log) [])) (λ p. moment_of p ≤ moment) (pulls log) (λ p l. let e = ap latest_moment (onto-reverse (pulls log)) in omega (arith, l, e, latest))
    (rising-latest (pulls log) [] run.shape.moments).0

pub bound-is_enough : (tree : Tree) → IsSound (root tree) → leaves_distinct tree ≡ true → BoundIsEnough tree
bound-is_enough tree sound distinct log moment held rest more run latest closes short =
    let start = emptied-first tree log held (left_in tree log held) sound run refl in
    let fewer = closes-within more (rounds_less tree) tree log held rest moment (left_in tree log held) start.all 0 0 sound distinct (each-enough tree sound) run (moments-before tree log moment run latest) closes
    start.emptying (omega (arith, short)) in
    let within = start.within in
    omega (arith, fewer, within)

-- one more closing pull
pub emptied-more : (tree : Tree) (log pull : List Visit) (held rest : ℕ → ℕ) (moment left made given : ℕ) → IsSound (root tree) → leaves_distinct tree ≡ true → IsRun tree log → latest_moment (reverse (pulls log)) ≤ moment
    → IsClosingPull tree log pull moment held rest → IsEmptied tree log held left made given → IsEmptied tree (log ++ pull) rest left (made + 1) (given + one_if (is_some (result_of (visits_of 0 pull))))
emptied-more tree log pull held rest moment left made given sound distinct run latest closing h =
    record {
      all = h.all;
      within = h.within;
      emptying = pull-empties (rounds_less tree) tree log pull held rest moment left h.all made given sound distinct (each-enough tree sound) run (moments-before tree log moment run latest)
          ((goes-on tree).back log pull closing.goes_on).next closing.at_moment closing.gives h.emptying;
    }
