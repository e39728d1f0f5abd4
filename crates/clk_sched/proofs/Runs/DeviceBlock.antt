-- The block of the device, once it is a pull of its own, may follow the run after which it was made.
use Rattle.std.proofs.Common.{◌≡◌, ◌==◌, ℕ, zero, suc, ◌+◌, ◌<◌, ◌≤◌, true, if◌then◌else◌, List, [], ◌∷◌, ◌++◌, length, map, reverse, filter, Option, refl, sym, ap, ap₂, ◌∙◌, subst, append-nil, arith, rules}
use Rattle.std.specs.List.{flat_map, AllByRecursion}
use Rattle.std.proofs.lemmas.List.{map-append}
use Rattle.std.proofs.lemmas.List.Elements.{filter-append}
use Rattle.clk_packet.specs.declared.packet.Packet.{Packet}
use Rattle.clk_sched.specs.declared.visit.Visit.{Visit}
use Rattle.clk_packet.specs.Scheduler.{Scheduler, prio}
use Rattle.clk_sched.specs.Tree.{Row, end, leaf, node, Tree, root, nodes, width}
use Rattle.clk_sched.specs.Turns.{AsksInOrder}
use Rattle.clk_sched.specs.Log.{visits_of, pulls, block_at, block, moment_of, NeverFalls, turn, asks, pulls_below, result_of}
use Rattle.clk_sched.specs.Laws.{AllowsTurn}
use Rattle.clk_sched.specs.Laws.Priority.{priority_order}
use Rattle.clk_sched.specs.Run.{IsRun}
use Rattle.clk_sched.specs.Step.{IsNextPull}
use Rattle.clk_sched.proofs.Runs.Rows.{EachAllows}
use Rattle.clk_sched.proofs.Runs.ByRows.{rows-next}
use Rattle.clk_sched.specs.inside.Pulling.{Now, History, as_turn, asked_of, with_asked, input_of, IsVisitAt, IsAskedAt, IsBlock}
use Rattle.clk_sched.specs.inside.Session.{history_of}
use Rattle.clk_packet.specs.Lists.{In}
use Rattle.clk_sched.proofs.Lists.Members.{of-all, to-all, in-filter, all-weaker}
use Rattle.clk_sched.proofs.Lists.Numbers.{equal, differs}
use Rattle.clk_sched.proofs.Runs.Allowed.{IsOneVisit, device-visit}
use Rattle.clk_sched.proofs.Runs.PullByPull.{asked}
use Rattle.clk_sched.proofs.Lists.Apart.{any-member, all-reverse, only-one}
use Rattle.clk_sched.proofs.Runs.WithAsked.{absent, present}
use Rattle.clk_sched.proofs.Runs.Blocks.{flat_map-same, filter-flat_map, flat_map-one, Owns, owns-after_leaf, owns-after_node, owns-self, owns-inputs, asks-both}
use Rattle.clk_sched.proofs.Runs.Pulled.{copies-unasked, pulled-root}
use Rattle.clk_sched.proofs.Trees.Below.{LiesAt, lies-within, lies-apart, IsVisitBelow, asked-below}
use Rattle.clk_sched.proofs.Classes.BusyTurns.{busy, history-busy, busy-filtered}
use Rattle.clk_sched.proofs.Classes.Table.{allows-busy}

-- what a visit asked has no visits of a node that doesn't lie there
asked-absent : (now : Now) (history : History) (next : ℕ) (row : Row) (made : ℕ → List Visit) (v : Visit) (y : ℕ) → (v.fresh ≡ true → IsAskedAt now history next row v.input (made v.input) v.got)
    → (LiesAt next row v.input y → ⊥) → visits_of y (asked_of made v) ≡ []
asked-absent now history next row made v y h away = search (rules, absent, all-weaker, asked-below)

-- A pull has the block of node x: the visits of the node, and of those below it, are those of the block.
record HasBlock (now : Now) (history : History) (x : ℕ) (class : Scheduler) (row : Row) (visits : List Visit) (got : Option Packet) (pull : List Visit) : Type 0 where
  block : IsBlock now history x class row visits got
  has : (y : ℕ) → x ≤ y → y < suc (x + nodes row) → visits_of y pull ≡ visits_of y visits

-- In a pull, what node `above` asked at the inputs of a row is what was made: the visits of each node that lies at such an input
-- are those made there.
record IsMadeIn (now : Now) (history : History) (above first next : ℕ) (row : Row) (made : ℕ → List Visit) (pull : List Visit) : Type 0 where
  asked : (i : ℕ) (v : Visit) → In v (visits_of above pull) → v.fresh ≡ true → v.input ≡ first + i → IsAskedAt now history next row i (made v.input) v.got
  owns : (i : ℕ) (v : Visit) → In v (visits_of above pull) → v.fresh ≡ true → v.input ≡ first + i → (y : ℕ) → LiesAt next row i y → visits_of y pull ≡ visits_of y (made v.input)

-- of a node itself are its own visits
block-own : (now : Now) (history : History) (x : ℕ) (class : Scheduler) (row : Row) (visits : List Visit) (got : Option Packet) (pull : List Visit) → (h : HasBlock now history x class row visits got pull)
    → visits_of x pull ≡ h.block.own
block-own now history x class row visits got pull h =
    h.has x (omega arith) (omega arith) ∙ ap (visits_of x) b.whole ∙ filter-flat_map (λ (v : Visit). v.node == x) (λ v. asked_of b.made v ++ v ∷ []) b.own
    ∙ flat_map-same _ (λ v. v ∷ []) b.own
    (λ v m. filter-append (λ (u : Visit). u.node == x) (asked_of b.made v) (v ∷ []) ∙ ap₂ (λ l k. l ++ k) (none v m) (present x (v ∷ []) ((of-all (IsVisitAt now x) v b.own b.theirs m).node, tt)))
    ∙ flat_map-one b.own
  where
    b : IsBlock now history x class row visits got
    b = h.block

    none : (v : Visit) → In v b.own → visits_of x (asked_of b.made v) ≡ []
    none v m = asked-absent now history (suc x) row b.made v x (of-all _ v b.own b.each m) (λ l. let k = (lies-within (suc x) row v.input x l).0 in omega (arith, k))

-- and of one below it are those that were made where it lies
block-made : (now : Now) (history : History) (x : ℕ) (class : Scheduler) (row : Row) (visits : List Visit) (got : Option Packet) (pull : List Visit) → (h : HasBlock now history x class row visits got pull)
    → IsMadeIn now history x 0 (suc x) row h.block.made pull
block-made now history x class row visits got pull h =
    record {
      asked = λ i v m f e. subst (λ j. IsAskedAt now history (suc x) row j (b.made v.input) v.got) (at_input v.input i e) (of-all _ v b.own b.each (mine v m) f);
      owns = λ i v m f e y at.
          let l = lies-within (suc x) row i y at in
          h.has y (let k = l.0 in omega arith) (let k = l.1 in omega arith) ∙ below v (mine v m) f y (subst (λ j. LiesAt (suc x) row j y) (sym (at_input v.input i e)) at);
    }
  where
    b : IsBlock now history x class row visits got
    b = h.block

    at_input : (j i : ℕ) → j ≡ 0 + i → j ≡ i
    at_input j i e = omega (arith, e)

    mine : (v : Visit) → In v (visits_of x pull) → In v b.own
    mine v m = subst (In v) (block-own now history x class row visits got pull h) m

    other : (v : Visit) → In v b.own → (y : ℕ) → suc x ≤ y → visits_of y (v ∷ []) ≡ []
    other v m y l = absent y (v ∷ []) ((λ e. let k = (of-all (IsVisitAt now x) v b.own b.theirs m).node in omega (arith, e, k)), tt)

    below : (v : Visit) → In v b.own → v.fresh ≡ true → (y : ℕ) → LiesAt (suc x) row v.input y → visits_of y visits ≡ visits_of y (b.made v.input)
    below v m f y at =
        ap (visits_of y) b.whole ∙ filter-flat_map (λ (u : Visit). u.node == y) (λ u. asked_of b.made u ++ u ∷ []) b.own
        ∙ flat_map-same _ (λ u. visits_of y (asked_of b.made u)) b.own
        (λ u k. filter-append (λ (w : Visit). w.node == y) (asked_of b.made u) (u ∷ [])
        ∙ ap (λ l. visits_of y (asked_of b.made u) ++ l) (other u k y (lies-within (suc x) row v.input y at).0) ∙ append-nil _)
        ∙ only-one input_of (λ u. visits_of y (asked_of b.made u)) b.own v b.apart m
        (λ u k d. asked-absent now history (suc x) row b.made u y (of-all _ u b.own b.each k) (λ l. d (lies-apart (suc x) row u.input v.input y l at)))
        ∙ ap (λ c. visits_of y (if c then b.made v.input else [])) f

-- the block of what stands at the first input of a row, where it was asked
made-block : (now : Now) (history : History) (above first next : ℕ) (class : Scheduler) (inputs row : Row) (made : ℕ → List Visit) (pull : List Visit)
    → IsMadeIn now history above first next (node class inputs row) made pull → (v : Visit) → In v (visits_of above pull) → v.fresh ≡ true → v.input ≡ first
    → HasBlock now history next class inputs (made v.input) v.got pull
made-block now history above first next class inputs row made pull h v m f e =
    record { block = h.asked 0 v m f (omega (arith, e)); has = λ y l k. h.owns 0 v m f (omega (arith, e)) y (l, k) }

made-after_leaf : (now : Now) (history : History) (above first next q : ℕ) (row : Row) (made : ℕ → List Visit) (pull : List Visit) → IsMadeIn now history above first next (leaf q row) made pull
    → IsMadeIn now history above (suc first) next row made pull
made-after_leaf now history above first next q row made pull h =
    record { asked = λ i v m f e. h.asked (suc i) v m f (omega (arith, e)); owns = λ i v m f e y at. h.owns (suc i) v m f (omega (arith, e)) y at }

made-after_node : (now : Now) (history : History) (above first next : ℕ) (class : Scheduler) (inputs row : Row) (made : ℕ → List Visit) (pull : List Visit)
    → IsMadeIn now history above first next (node class inputs row) made pull → IsMadeIn now history above (suc first) (suc (next + nodes inputs)) row made pull
made-after_node now history above first next class inputs row made pull h =
    record { asked = λ i v m f e. h.asked (suc i) v m f (omega (arith, e)); owns = λ i v m f e y at. h.owns (suc i) v m f (omega (arith, e)) y at }

-- the block of a node, by the blocks that it asked for
block-whole : (now : Now) (history : History) (x : ℕ) (class : Scheduler) (row : Row) (visits : List Visit) (got : Option Packet) (pull : List Visit) → (h : HasBlock now history x class row visits got pull)
    → ((v : Visit) → In v (visits_of x pull) → v.fresh ≡ true → block_at pull 0 (suc x) row v.input ≡ h.block.made v.input) → flat_map (asked pull (suc x) row) (visits_of x pull) ≡ visits
block-whole now history x class row visits got pull h below =
    flat_map-same (asked pull (suc x) row) (λ v. asked_of h.block.made v ++ v ∷ []) (visits_of x pull) (λ v m. ap (λ l. l ++ v ∷ []) (search rules))
    ∙ ap (with_asked h.block.made) (block-own now history x class row visits got pull h) ∙ sym h.block.whole

-- what was made at an input is the block there
made-whole : (row : Row) (now : Now) (history : History) (above first next : ℕ) (made : ℕ → List Visit) (pull : List Visit) → IsMadeIn now history above first next row made pull
    → (i : ℕ) (v : Visit) → In v (visits_of above pull) → v.fresh ≡ true → v.input ≡ first + i → block_at pull first next row v.input ≡ made v.input
made-whole end now history above first next made pull h i v m f e = absurd (h.asked i v m f e)
made-whole (leaf q row) now history above first next made pull h zero v m f e =
    ap (λ b. if b then [] else block_at pull (suc first) next row v.input) (equal first v.input (omega (arith, e))) ∙ sym (h.asked 0 v m f e)
made-whole (leaf q row) now history above first next made pull h (suc i) v m f e = search (rules, differs, made-after_leaf, (made-whole row now history above (suc first) next made pull (made-after_leaf now history above first next q row made pull h) i v m f (omega (arith, e))))
made-whole (node class inputs row) now history above first next made pull h zero v m f e =
    let k = made-block now history above first next class inputs row made pull h v m f (omega (arith, e)) in
    ap (λ b. if b then flat_map (asked pull (suc next) inputs) (visits_of next pull) else block_at pull (suc first) (suc (next + nodes inputs)) row v.input) (equal first v.input (omega (arith, e)))
    ∙ block-whole now history next class inputs (made v.input) v.got pull k
    (λ u n g. made-whole inputs now history next 0 (suc next) k.block.made pull (block-made now history next class inputs (made v.input) v.got pull k) u.input u n g (omega arith))
made-whole (node class inputs row) now history above first next made pull h (suc i) v m f e = search (rules, differs, made-after_node, (made-whole row now history above (suc first) (suc (next + nodes inputs)) made pull (made-after_node now history above first next class inputs row made pull h) i v m f (omega (arith, e))))

-- Earlier pulls, in which node `above` is pulled: in them the nodes of a row have their visits, and the turns of a history.
pub record ArePast (history : History) (above first next : ℕ) (row : Row) (earlier : List (List Visit)) : Type 0 where
  pub owns : (y : ℕ) → next ≤ y → y < next + nodes row → (p : List Visit) → In p earlier → Owns y p above first next row
  pub turns : (y : ℕ) → next ≤ y → y < next + nodes row → history y ≡ busy (map (turn y) earlier)

pub past-after_leaf : (history : History) (above first next q : ℕ) (row : Row) (earlier : List (List Visit)) → ArePast history above first next (leaf q row) earlier
    → ArePast history above (suc first) next row earlier
past-after_leaf history above first next q row earlier h = record { owns = λ y l k p m. owns-after_leaf y p above first next q row (h.owns y l k p m); turns = h.turns }

pub past-after_node : (history : History) (above first next : ℕ) (class : Scheduler) (inputs row : Row) (earlier : List (List Visit)) → ArePast history above first next (node class inputs row) earlier
    → ArePast history above (suc first) (suc (next + nodes inputs)) row earlier
past-after_node history above first next class inputs row earlier h = search (rules, owns-after_node)

-- of a scheduler at the first input, and of those below it, in the pulls in which it is asked
pub record IsPast (history : History) (above first next : ℕ) (inputs : Row) (earlier : List (List Visit)) : Type 0 where
  pub here : history next ≡ busy (map (turn next) (pulls_below above first earlier))
  pub below : ArePast history next 0 (suc next) inputs (pulls_below above first earlier)

pub past-inputs : (history : History) (above first next : ℕ) (class : Scheduler) (inputs row : Row) (earlier : List (List Visit)) → ArePast history above first next (node class inputs row) earlier
    → IsPast history above first next inputs earlier
past-inputs history above first next class inputs row earlier h = search (rules, busy-filtered, in-filter, owns-self, copies-unasked, owns-inputs)

-- each scheduler of a row that is asked has an allowed turn, and what was got from it is its result
each-allows : (row : Row) (now : Now) (history : History) (above first next : ℕ) (earlier : List (List Visit)) (made : ℕ → List Visit) (pull : List Visit) → ArePast history above first next row earlier
    → moment_of pull ≡ now.moment → IsMadeIn now history above first next row made pull → EachAllows above first next row earlier pull
each-allows end now history above first next earlier made pull past at h = tt
each-allows (leaf q row) now history above first next earlier made pull past at h =
    each-allows row now history above (suc first) next earlier made pull (past-after_leaf history above first next q row earlier past) at (made-after_leaf now history above first next q row made pull h)
each-allows (node class inputs row) now history above first next earlier made pull past at h = (
  λ some. let w = any-member (asks first) (visits_of above pull) some in let k = here w.0 w.1 w.2 in (
    subst (AllowsTurn class (width inputs) (map (turn next) (pulls_below above first earlier))) (ap₂ as_turn (sym at) (sym (block-own now history next class inputs (made w.0.input) w.0.got pull k)))
        (allows-busy class (width inputs) (map (turn next) (pulls_below above first earlier)) (as_turn now.moment k.block.own)
        (subst (λ ts. AllowsTurn class (width inputs) ts (as_turn now.moment k.block.own)) before.here k.block.allowed)),
    each-allows inputs now history next 0 (suc next) (pulls_below above first earlier) k.block.made pull before.below at (block-made now history next class inputs (made w.0.input) w.0.got pull k),
  ),
  to-all (λ (v : Visit). v.got ≡ result_of (visits_of next pull)) (filter (asks first) (visits_of above pull)) (λ v m. let k = in-filter (asks first) v (visits_of above pull) m in result v k.0 k.1),
  each-allows row now history above (suc first) (suc (next + nodes inputs)) earlier made pull (past-after_node history above first next class inputs row earlier past) at
      (made-after_node now history above first next class inputs row made pull h),
)
  where
    before : IsPast history above first next inputs earlier
    before = past-inputs history above first next class inputs row earlier past

    here : (v : Visit) → In v (visits_of above pull) → asks first v ≡ true → HasBlock now history next class inputs (made v.input) v.got pull
    here v m t = let both = asks-both first v t in made-block now history above first next class inputs row made pull h v m both.0 both.1

    result : (v : Visit) → In v (visits_of above pull) → asks first v ≡ true → v.got ≡ result_of (visits_of next pull)
    result v m t = let k = here v m t in k.block.result ∙ ap result_of (sym (block-own now history next class inputs (made v.input) v.got pull k))

-- the pulls of a run are past
pub are-past : (tree : Tree) (log : List Visit) → IsRun tree log → ArePast (history_of (reverse (pulls log))) 0 0 1 (root tree) (reverse (pulls log))
are-past tree log run =
    record {
      owns = λ y l k p m. (pulled-root tree log run).owns y l k p (back p m);
      turns = λ y l k. history-busy (reverse (pulls log)) y;
    }
  where
    back : (p : List Visit) → In p (reverse (pulls log)) → In p (pulls log)
    back p m = of-all (λ r. In r (pulls log)) p (reverse (pulls log)) (all-reverse (λ r. In r (pulls log)) (pulls log) (to-all (λ r. In r (pulls log)) (pulls log) (λ r k. k))) m

-- a pull may follow a run, at the moment of the one that is made, and the device got its result
pub record IsNextOf (tree : Tree) (log : List Visit) (now : Now) (pull : List Visit) (got : Option Packet) : Type 0 where
  pub next : IsNextPull tree log pull
  pub at_moment : moment_of pull ≡ now.moment
  pub result : got ≡ result_of (visits_of 0 pull)

pub next-pull : (tree : Tree) (log pull : List Visit) (now : Now) (got : Option Packet) → IsRun tree log → now.number ≡ length (pulls log)
    → NeverFalls 0 (map moment_of (pulls log) ++ now.moment ∷ []) → IsBlock now (history_of (reverse (pulls log))) 0 prio (root tree) pull got
    → IsNextOf tree log now pull got
next-pull tree log pull now got run number moments b =
    record {
      next = record {
        number = all-weaker (IsVisitBelow now 0 whole_row 0) (λ (v : Visit). v.pull ≡ length (pulls log)) pull (λ v h. h.number ∙ number) all;
        whole = whole;
        one_moment = all-weaker (IsVisitBelow now 0 whole_row 0) (λ (v : Visit). v.moment ≡ moment_of pull) pull (λ v h. h.moment ∙ sym at_moment) all;
        moments = subst (NeverFalls 0) (sym (map-append moment_of (pulls log) (pull ∷ []) ∙ ap (λ m. map moment_of (pulls log) ++ m ∷ []) at_moment)) moments;
        device = device;
        below = rows-next tree log pull run whole (each-allows (root tree) now history 0 0 1 (reverse (pulls log)) b.made pull (are-past tree log run) at_moment made);
      };
      at_moment = at_moment;
      result = b.result ∙ ap result_of (sym own);
    }
  where
    history : History
    history = history_of (reverse (pulls log))

    whole_row : Row
    whole_row = node prio (root tree) end

    all : AllByRecursion (IsVisitBelow now 0 whole_row 0) pull
    all = asked-below now history 0 whole_row 0 pull got b

    has : HasBlock now history 0 prio (root tree) pull got pull
    has = record { block = b; has = λ y l k. refl }

    own : visits_of 0 pull ≡ b.own
    own = block-own now history 0 prio (root tree) pull got pull has

    made : IsMadeIn now history 0 0 1 (root tree) b.made pull
    made = block-made now history 0 prio (root tree) pull got pull has

    whole : pull ≡ block tree pull
    whole = sym (block-whole now history 0 prio (root tree) pull got pull has (λ v m f. made-whole (root tree) now history 0 0 1 b.made pull made v.input v m f (omega arith)))

    one_input : (t : Tree) → width (root t) ≡ 1
    one_input t = search rules

    device : AsksInOrder (0 ∷ []) (visits_of 0 pull)
    device = subst (AsksInOrder (0 ∷ [])) (sym own) (subst (λ n. AsksInOrder (priority_order n) b.own) (one_input tree) b.allowed.follows)

    first-moment : (visits : List Visit) → IsOneVisit (visits_of 0 visits) → AllByRecursion (IsVisitBelow now 0 whole_row 0) visits → moment_of visits ≡ now.moment
    first-moment visits one h = search rules

    at_moment : moment_of pull ≡ now.moment
    at_moment = first-moment pull (device-visit (visits_of 0 pull) device) all
