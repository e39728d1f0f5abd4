-- A run leaves nothing to choose: two runs at the same moments, in which each queue answers alike, are the same log.
use Rattle.std.proofs.Common.{◌≡◌, ℕ, suc, ◌+◌, ◌<◌, ◌≤◌, ◌==◌, ◌&&◌, if◌then◌else◌, Bool, true, false, List, [], ◌∷◌, ◌++◌, length, map, filter, drop, refl, sym, ap, ap₂, ◌∙◌, subst, arith, rules}
use Rattle.std.specs.List.{flat_map, AllByRecursion}
use Rattle.std.proofs.lemmas.Bool.Decides.{nat_tests}
use Rattle.clk_sched.specs.declared.visit.Visit.{Visit}
use Rattle.clk_packet.specs.Scheduler.{Scheduler}
use Rattle.clk_sched.specs.Tree.{Row, end, leaf, node, Tree, root, nodes, width}
use Rattle.clk_sched.specs.Turns.{EachAfter}
use Rattle.clk_sched.specs.Laws.{manner}
use Rattle.clk_sched.specs.Laws.Device.{IsDeviceTurn}
use Rattle.clk_sched.specs.Log.{visits_of, pulls, block_at, block, moment_of, HasOneMoment, turn, asks, pulls_below, result_of}
use Rattle.clk_sched.specs.Run.{GetsResult, IsRun}
use Rattle.clk_sched.specs.Choice.{answers_of, LeavesNoChoice, PullsLeaveNoChoice}
use Rattle.clk_packet.specs.Lists.{In}
use Rattle.clk_sched.proofs.Lists.Members.{of-all, in-filter, filter-in, any-in, each-from_all, each-weaker, each-both, each-mapped}
use Rattle.clk_sched.proofs.Trees.Numbering.{StandsAt, stands-root, stands-after_leaf, stands-after_node, stands-inputs}
use Rattle.clk_sched.proofs.Runs.Rows.{EachAllows}
use Rattle.clk_sched.proofs.Runs.ByRows.{run-rows}
use Rattle.clk_sched.proofs.Runs.Allowed.{AreWithin, each-allowed, device-visit, onto, each-split}
use Rattle.clk_sched.proofs.Runs.PullByPull.{asked, IsNumbered, each-numbered}
use Rattle.clk_sched.proofs.Runs.SameTurns.{AnswerAlike, begin-alike, go_on-alike, Sides, AreLike, GetAlike, plain-same, turn-same}
use Rattle.clk_sched.proofs.Lists.Numbers.{equal}

-- two pulls with the same number and the same moment
record ArePaired (p q : List Visit) : Type 0 where
  number : ℕ
  one : AllByRecursion (λ (v : Visit). v.pull ≡ number) p
  other : AllByRecursion (λ (v : Visit). v.pull ≡ number) q
  one_moment : HasOneMoment p
  other_moment : HasOneMoment q
  moment : moment_of p ≡ moment_of q

node-of : (x : ℕ) (pull : List Visit) (v : Visit) → In v (visits_of x pull) → In v pull × (v.node ≡ x)
node-of x pull v m = let both = in-filter (λ (u : Visit). u.node == x) v pull m in (both.0, let e = both.1 in grind (arith, nat_tests))

same-visit : (p q : List Visit) (x : ℕ) (v u : Visit) → ArePaired p q → In v (visits_of x p) → In u (visits_of x q) → AreLike v u → v.got ≡ u.got → v ≡ u
same-visit p q x v u pair mv mu like got = search (rules, of-all, node-of)

-- two visits of node `above` that ask at one of the inputs of a row get the same where the answers are alike, and what they asked
-- did the same
abbrev AskAlike : Tree → (p q : List Visit) (above first next : ℕ) → Row → Type 0
AskAlike tree p q above first next row =
    (i : ℕ) (v u : Visit) → In v (visits_of above p) → In u (visits_of above q) → v.input ≡ i → u.input ≡ i → first ≤ i → i < first + width row → v.fresh ≡ true → u.fresh ≡ true
    → AnswerAlike tree (block_at p first next row i ++ v ∷ []) (block_at q first next row i ++ u ∷ []) → (block_at p first next row i ≡ block_at q first next row i) × (v.got ≡ u.got)

abbrev sides : Tree → (p q : List Visit) → ℕ → Row → Sides
sides tree p q next row = record { tree = tree; one = asked p next row; other = asked q next row }

-- visits of a node get alike where those that ask do
get-alike : (tree : Tree) (p q : List Visit) (x : ℕ) (inputs : Row) → ArePaired p q → AreWithin (width inputs) (visits_of x p) → AskAlike tree p q x 0 (suc x) inputs
    → GetAlike (sides tree p q (suc x) inputs) (visits_of x p) (visits_of x q)
get-alike tree p q x inputs pair within ask v u mv mu like e =
    subst (λ m. AnswerAlike tree (part p v.fresh v) (part q m u) → (v ≡ u) × (part p v.fresh v ≡ part q m u)) like.fresh (by_fresh v.fresh refl) e
  where
    part : List Visit → Bool → Visit → List Visit
    part pull b w = (if b then block_at pull 0 (suc x) inputs w.input else []) ++ w ∷ []

    by_fresh : (m : Bool) → v.fresh ≡ m → AnswerAlike tree (part p m v) (part q m u) → (v ≡ u) × (part p m v ≡ part q m u)
    by_fresh false f h = let visit = same-visit p q x v u pair mv mu like (like.held f) in (visit, ap (λ w. w ∷ []) visit)
    by_fresh true f h =
        let below = of-all (λ (w : Visit). w.input < width inputs) v (visits_of x p) within mv in
        let same = ask v.input v u mv mu refl (sym like.input) (omega arith) (omega arith) f (sym like.fresh ∙ f) (subst (λ i. AnswerAlike tree (part p true v) (block_at q 0 (suc x) inputs i ++ u ∷ [])) (sym like.input) h) in
        let visit = same-visit p q x v u pair mv mu like same.1 in (visit, ap₂ (λ b w. b ++ w ∷ []) same.0 visit ∙ ap (λ i. block_at q 0 (suc x) inputs i ++ u ∷ []) like.input)

leaf-alike : (tree : Tree) (p q : List Visit) (above first next k : ℕ) (row : Row) → StandsAt tree above first next (leaf k row) → AskAlike tree p q above (suc first) next row
    → AskAlike tree p q above first next (leaf k row)
leaf-alike tree p q above first next k row stands rest i v u mv mu iv iu l h fv fu e = by_test (first == i) refl e
  where
    part : List Visit → Bool → List Visit
    part pull b = if b then [] else block_at pull (suc first) next row i

    -- what a visit adds to the answers of the queue
    answer : (w : Visit) → w.node ≡ above → w.input ≡ first → w.fresh ≡ true → answers_of tree k (w ∷ []) ≡ w.got ∷ []
    answer w n j f = search rules

    by_test : (b : Bool) → (first == i) ≡ b → AnswerAlike tree (part p b ++ v ∷ []) (part q b ++ u ∷ []) → (part p b ≡ part q b) × (v.got ≡ u.got)
    by_test true t c =
        let here : i ≡ first = grind (arith, nat_tests) in
        let both : v.got ∷ (c k).left ≡ u.got ∷ (c k).right =
        ap (λ os. os ++ (c k).left) (sym (answer v (node-of above p v mv).1 (iv ∙ here) fv)) ∙ (c k).same ∙ ap (λ os. os ++ (c k).right) (answer u (node-of above q u mu).1 (iu ∙ here) fu) in
        (refl, cc)
    by_test false t c = rest i v u mv mu iv iu (grind (arith, nat_tests)) (omega arith) fv fu c

node-alike : (tree : Tree) (p q : List Visit) → ArePaired p q → (earlier : List (List Visit)) (above first next : ℕ) (class : Scheduler) (inputs row : Row)
    → EachAllows above first next (node class inputs row) earlier p → EachAllows above first next (node class inputs row) earlier q
    → (EachAllows next 0 (suc next) inputs (pulls_below above first earlier) p → EachAllows next 0 (suc next) inputs (pulls_below above first earlier) q → AskAlike tree p q next 0 (suc next) inputs)
    → AskAlike tree p q above (suc first) (suc (next + nodes inputs)) row → AskAlike tree p q above first next (node class inputs row)
node-alike tree p q pair earlier above first next class inputs row a b below rest i v u mv mu iv iu l h fv fu e = by_test (first == i) refl e
  where
    part : List Visit → Bool → List Visit
    part pull t = if t then flat_map (asked pull (suc next) inputs) (visits_of next pull) else block_at pull (suc first) (suc (next + nodes inputs)) row i

    asks_here : (w : Visit) → w.input ≡ first → w.fresh ≡ true → asks first w ≡ true
    asks_here w f g = ap₂ (λ t m. t && (m == first)) g f ∙ equal first first refl

    got_result : (pull : List Visit) (w : Visit) → GetsResult above first next pull → In w (visits_of above pull) → asks first w ≡ true → w.got ≡ result_of (visits_of next pull)
    got_result pull w g m k = of-all (λ (x : Visit). x.got ≡ result_of (visits_of next pull)) w (filter (asks first) (visits_of above pull)) g (filter-in (asks first) w (visits_of above pull) k m)

    by_test : (t : Bool) → (first == i) ≡ t → AnswerAlike tree (part p t ++ v ∷ []) (part q t ++ u ∷ []) → (part p t ≡ part q t) × (v.got ≡ u.got)
    by_test true t c =
        let here : i ≡ first = grind (arith, nat_tests) in
        let asks_v = asks_here v (iv ∙ here) fv in
        let asks_u = asks_here u (iu ∙ here) fu in
        let one = a.0 (any-in (asks first) v (visits_of above p) asks_v mv) in
        let other = b.0 (any-in (asks first) u (visits_of above q) asks_u mu) in
        let same = turn-same (sides tree p q (suc next) inputs) (manner class (width inputs)) (width inputs) (map (turn next) (pulls_below above first earlier)) (turn next p) (turn next q)
        (get-alike tree p q next inputs pair one.0.within (below one.1 other.1)) one.0.follows other.0.follows pair.moment (begin-alike tree (part p true) (v ∷ []) (part q true) (u ∷ []) c)
        in (same.parts, got_result p v a.1 mv asks_v ∙ ap result_of same.visits ∙ sym (got_result q u b.1 mu asks_u))
    by_test false t c = rest i v u mv mu iv iu (grind (arith, nat_tests)) (omega arith) fv fu c

ask-alike : (tree : Tree) (p q : List Visit) → ArePaired p q → (row : Row) (earlier : List (List Visit)) (above first next : ℕ) → StandsAt tree above first next row
    → EachAllows above first next row earlier p → EachAllows above first next row earlier q → AskAlike tree p q above first next row
ask-alike tree p q pair end earlier above first next stands a b = λ i v u mv mu iv iu l h. absurd (omega arith)
ask-alike tree p q pair (leaf k row) earlier above first next stands a b =
    leaf-alike tree p q above first next k row stands (ask-alike tree p q pair row earlier above (suc first) next (stands-after_leaf tree above first next k row stands) a b)
ask-alike tree p q pair (node class inputs row) earlier above first next stands a b =
    node-alike tree p q pair earlier above first next class inputs row a b
    (λ c d. ask-alike tree p q pair inputs (pulls_below above first earlier) next 0 (suc next) (stands-inputs tree above first next class inputs row stands) c d)
    (ask-alike tree p q pair row earlier above (suc first) (suc (next + nodes inputs)) (stands-after_node tree above first next class inputs row stands) a.2 b.2)

-- a pull of a run after those before it
record IsPullOfRun (tree : Tree) (earlier : List (List Visit)) (pull : List Visit) : Type 0 where
  device : IsDeviceTurn (turn 0 pull)
  below : EachAllows 0 0 1 (root tree) earlier pull
  numbered : IsNumbered tree earlier pull

pulls-of_run : (tree : Tree) (log : List Visit) → IsRun tree log → EachAfter (IsPullOfRun tree) [] (pulls log)
pulls-of_run tree log run =
    each-weaker _ (IsPullOfRun tree) (λ e p h. record { device = h.0; below = h.1.0; numbered = h.1.1 }) [] (pulls log)
    (each-both _ _ [] (pulls log) (each-mapped (λ e t. IsDeviceTurn t) (turn 0) [] (pulls log) (each-from_all IsDeviceTurn [] (map (turn 0) (pulls log)) run.device))
    (each-both _ _ [] (pulls log) (each-allowed 0 0 1 (root tree) (pulls log) (run-rows tree log run)) (each-numbered tree log run.shape)))

pub root-width : (tree : Tree) → width (root tree) ≡ 1
root-width tree = search rules

pull-same : (tree : Tree) (earlier : List (List Visit)) (p q : List Visit) → IsPullOfRun tree earlier p → IsPullOfRun tree earlier q → moment_of p ≡ moment_of q
    → AnswerAlike tree (block tree p) (block tree q) → p ≡ q
pull-same tree earlier p q a b moment e =
    let pair : ArePaired p q =
    record {
      number = length earlier;
      one = a.numbered.number;
      other = b.numbered.number;
      one_moment = a.numbered.one_moment;
      other_moment = b.numbered.one_moment;
      moment = moment;
    }
    in
    let alike = get-alike tree p q 0 (root tree) pair within (ask-alike tree p q pair (root tree) earlier 0 0 1 (stands-root tree) a.below b.below) in
    let same = plain-same (sides tree p q 1 (root tree)) (0 ∷ []) (visits_of 0 p) (visits_of 0 q) alike a.device b.device e in
    a.numbered.whole ∙ same.parts ∙ sym b.numbered.whole
  where
    within : AreWithin (width (root tree)) (visits_of 0 p)
    within = let one = device-visit (visits_of 0 p) a.device in subst (AreWithin (width (root tree))) (sym one.only) (omega (arith, root-width tree, one.input), tt)

pulls-same : (tree : Tree) (earlier ps qs : List (List Visit)) → EachAfter (IsPullOfRun tree) earlier ps → EachAfter (IsPullOfRun tree) earlier qs → map moment_of ps ≡ map moment_of qs
    → AnswerAlike tree (flat_map (block tree) ps) (flat_map (block tree) qs) → ps ≡ qs
pulls-same tree earlier [] [] a b m e = refl
pulls-same tree earlier [] (q ∷ qs) a b m e = absurd (omega (arith, ap length m))
pulls-same tree earlier (p ∷ ps) [] a b m e = absurd (omega (arith, ap length m))
pulls-same tree earlier (p ∷ ps) (q ∷ qs) a b m e =
    let same = pull-same tree earlier p q a.0 b.0 (cc) (begin-alike tree (block tree p) (flat_map (block tree) ps) (block tree q) (flat_map (block tree) qs) e) in
    ap₂ (λ x xs. x ∷ xs) same
    (pulls-same tree (p ∷ earlier) ps qs a.1 (subst (λ x. EachAfter (IsPullOfRun tree) (x ∷ earlier) qs) (sym same) b.1) (ap (drop 1) m)
    (go_on-alike tree (block tree p) (flat_map (block tree) ps) (block tree q) (flat_map (block tree) qs) (ap (block tree) same) e))

pub leaves-no_choice : (tree : Tree) → LeavesNoChoice tree
leaves-no_choice tree a b one other m e =
    one.shape.blocks
    ∙ ap (flat_map (block tree)) (pulls-same tree [] (pulls a) (pulls b) (pulls-of_run tree a one) (pulls-of_run tree b other) m
    (subst (λ log. AnswerAlike tree log (flat_map (block tree) (pulls b))) one.shape.blocks (subst (AnswerAlike tree a) other.shape.blocks e)))
    ∙ sym other.shape.blocks

pub pulls-leave_no_choice : (tree : Tree) → PullsLeaveNoChoice tree
pulls-leave_no_choice tree a b earlier p q more rest one other ea eb m e =
    let first = pull-after a p more one ea in
    let second = pull-after b q rest other eb in
    pull-same tree (onto earlier []) p q first second m (subst (λ l. AnswerAlike tree l (block tree q)) first.numbered.whole (subst (AnswerAlike tree p) second.numbered.whole e))
  where
    pull-after : (log : List Visit) (r : List Visit) (later : List (List Visit)) → IsRun tree log → pulls log ≡ earlier ++ r ∷ later → IsPullOfRun tree (onto earlier []) r
    pull-after log r later run is = (each-split (IsPullOfRun tree) [] earlier (r ∷ later) (subst (EachAfter (IsPullOfRun tree) []) is (pulls-of_run tree log run))).1.0
