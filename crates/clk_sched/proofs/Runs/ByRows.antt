-- What each scheduler of a tree does by itself, and what the schedulers of its rows do, is the same: a scheduler that isn't pulled asks
-- nothing.
use Rattle.std.proofs.Common.{◌≡◌, ℕ, suc, ◌+◌, Bool, true, false, if◌then◌else◌, List, [], ◌∷◌, filter, map, reverse, refl, sym, ap, ◌∙◌, subst, inl, inr, arith}
use Rattle.std.specs.List.{AllByRecursion, list_any}
use Rattle.std.proofs.lemmas.Bool.{false≢true}
use Rattle.clk_packet.specs.Lists.{In}
use Rattle.clk_packet.specs.Scheduler.{Scheduler}
use Rattle.clk_sched.specs.declared.visit.Visit.{Visit}
use Rattle.clk_sched.specs.Tree.{Row, end, leaf, node, Tree, schedulers_in, schedulers_of, root, nodes, width}
use Rattle.clk_sched.specs.Log.{visits_of, pulls, block, turn, asks, pulls_below, result_of}
use Rattle.clk_sched.specs.Laws.{AllowsTurn, Obeys}
use Rattle.clk_sched.specs.Run.{GetsResult, ObeysIn, IsRun}
use Rattle.clk_sched.specs.Step.{AllowsIn, IsNextPull}
use Rattle.clk_sched.proofs.Lists.Members.{of-all, to-all, in-filter, all-append, all-split}
use Rattle.clk_sched.proofs.Lists.Apart.{all-reverse}
use Rattle.clk_sched.proofs.Runs.Rows.{EachObeys, EachAllows}
use Rattle.clk_sched.proofs.Runs.Blocks.{owns-root, owns-after_leaf, owns-after_node, owns-inputs}
use Rattle.clk_sched.proofs.Runs.Pulled.{OwnIn, unasked-none, pulled-root}

own-after_leaf : (pull : List Visit) (above first next q : ℕ) (row : Row) → OwnIn pull above first next (leaf q row) → OwnIn pull above (suc first) next row
own-after_leaf pull above first next q row own y l h = owns-after_leaf y pull above first next q row (own y l h)

own-after_node : (pull : List Visit) (above first next : ℕ) (class : Scheduler) (inputs row : Row) → OwnIn pull above first next (node class inputs row) → OwnIn pull above (suc first) (suc (next + nodes inputs)) row
own-after_node pull above first next class inputs row own y l h = owns-after_node y pull above first next class inputs row l (own y (omega (arith, l)) (omega (arith, h)))

own-inputs : (pull : List Visit) (above first next : ℕ) (class : Scheduler) (inputs row : Row) → OwnIn pull above first next (node class inputs row) → OwnIn pull next 0 (suc next) inputs
own-inputs pull above first next class inputs row own y l h =
    owns-inputs y pull above first next class inputs row l (omega (arith, h)) (own next (omega arith) (omega arith)) (own y (omega (arith, l)) (omega (arith, h)))

-- members that pass a test, where those that fail another fail it
filter-through : {X : Type 0} (test other : X → Bool) (xs : List X) → ((x : X) → In x xs → other x ≡ false → test x ≡ false) → filter test (filter other xs) ≡ filter test xs
filter-through test other [] h = refl
filter-through {X = X} test other (x ∷ xs) h = by_other (other x) (h x (inl refl)) (filter-through test other xs (λ y m. h y (inr m)))
  where
    by_other : (b : Bool) → (b ≡ false → test x ≡ false) → filter test (filter other xs) ≡ filter test xs → filter test (if b then x ∷ filter other xs else filter other xs) ≡ (if test x then x ∷ filter test xs else filter test xs)
    by_other true e rest = ap (λ l. if test x then x ∷ l else l) rest
    by_other false e rest = rest ∙ ap (λ b. if b then x ∷ filter test xs else filter test xs) (sym (e refl))

-- Of some pulls, those in which a node is pulled: in the others it asks nothing.
record ArePullsOf (above : ℕ) (all pulled : List (List Visit)) : Type 0 where
  within : (p : List Visit) → In p pulled → In p all
  below : (input : ℕ) → pulls_below above input pulled ≡ pulls_below above input all

all-pulls : (above : ℕ) (all : List (List Visit)) → ArePullsOf above all all
all-pulls above all = record { within = λ p m. m; below = λ input. refl }

-- a row in some pulls, and those of them in which node `above` is pulled
record IsRowIn (above first next : ℕ) (row : Row) (all pulled : List (List Visit)) : Type 0 where
  own : (p : List Visit) → In p all → OwnIn p above first next row
  are : ArePullsOf above all pulled

row-after_leaf : (above first next q : ℕ) (row : Row) (all pulled : List (List Visit)) → IsRowIn above first next (leaf q row) all pulled → IsRowIn above (suc first) next row all pulled
row-after_leaf above first next q row all pulled h = record { own = λ p m. own-after_leaf p above first next q row (h.own p m); are = h.are }

row-after_node : (above first next : ℕ) (class : Scheduler) (inputs row : Row) (all pulled : List (List Visit)) → IsRowIn above first next (node class inputs row) all pulled
    → IsRowIn above (suc first) (suc (next + nodes inputs)) row all pulled
row-after_node above first next class inputs row all pulled h = record { own = λ p m. own-after_node p above first next class inputs row (h.own p m); are = h.are }

row-inputs : (above first next : ℕ) (class : Scheduler) (inputs row : Row) (all pulled : List (List Visit)) → IsRowIn above first next (node class inputs row) all pulled
    → IsRowIn next 0 (suc next) inputs all (pulls_below above first pulled)
row-inputs above first next class inputs row all pulled h =
    record {
      own = λ p m. own-inputs p above first next class inputs row (h.own p m);
      are = record {
        within = λ p m. h.are.within p (in-filter asked p pulled m).0;
        below = λ input. ap (pulls_below next input) (h.are.below first)
            ∙ filter-through (λ p. list_any (asks input) (visits_of next p)) asked all
            (λ p m none. ap (list_any (asks input)) (unasked-none p above first next class inputs row (h.own p m) none));
      };
    }
  where
    asked : List Visit → Bool
    asked p = list_any (asks first) (visits_of above p)

-- from the laws of each scheduler by itself
obeys-rows : (row : Row) (above first next : ℕ) (all pulled : List (List Visit)) → IsRowIn above first next row all pulled → AllByRecursion (ObeysIn all) (schedulers_in above first next row)
    → EachObeys above pulled first next row
obeys-rows end above first next all pulled h obeys = tt
obeys-rows (leaf q row) above first next all pulled h obeys = obeys-rows row above (suc first) next all pulled (row-after_leaf above first next q row all pulled h) obeys
obeys-rows (node class inputs row) above first next all pulled h obeys =
    let parts = all-split (ObeysIn all) (schedulers_in next 0 (suc next) inputs) (schedulers_in above (suc first) (suc (next + nodes inputs)) row) obeys.1 in (
      subst (λ ps. Obeys class (width inputs) (map (turn next) ps)) (sym (h.are.below first)) obeys.0.0,
      to-all (GetsResult above first next) pulled (λ p m. of-all (GetsResult above first next) p all obeys.0.1 (h.are.within p m)),
      obeys-rows inputs next 0 (suc next) all (pulls_below above first pulled) (row-inputs above first next class inputs row all pulled h) parts.0,
      obeys-rows row above (suc first) (suc (next + nodes inputs)) all pulled (row-after_node above first next class inputs row all pulled h) parts.1,
    )

allows-rows : (row : Row) (above first next : ℕ) (all earlier : List (List Visit)) (pull : List Visit) → IsRowIn above first next row all earlier
    → AllByRecursion (AllowsIn all pull) (schedulers_in above first next row) → EachAllows above first next row earlier pull
allows-rows end above first next all earlier pull h allows = tt
allows-rows (leaf q row) above first next all earlier pull h allows = allows-rows row above (suc first) next all earlier pull (row-after_leaf above first next q row all earlier h) allows
allows-rows (node class inputs row) above first next all earlier pull h allows =
    let parts = all-split (AllowsIn all pull) (schedulers_in next 0 (suc next) inputs) (schedulers_in above (suc first) (suc (next + nodes inputs)) row) allows.1 in (
      λ asked. (
        subst (λ ps. AllowsTurn class (width inputs) (map (turn next) ps) (turn next pull)) (sym (h.are.below first)) (allows.0.0 asked),
        allows-rows inputs next 0 (suc next) all (pulls_below above first earlier) pull (row-inputs above first next class inputs row all earlier h) parts.0,
      ),
      allows.0.1,
      allows-rows row above (suc first) (suc (next + nodes inputs)) all earlier pull (row-after_node above first next class inputs row all earlier h) parts.1,
    )

-- and back: below a node without visits nothing is pulled
none-pulled : (row : Row) (above first next : ℕ) (all : List (List Visit)) (pull : List Visit) → OwnIn pull above first next row → visits_of above pull ≡ []
    → AllByRecursion (AllowsIn all pull) (schedulers_in above first next row)
none-pulled end above first next all pull own none = tt
none-pulled (leaf q row) above first next all pull own none = none-pulled row above (suc first) next all pull (own-after_leaf pull above first next q row own) none
none-pulled (node class inputs row) above first next all pull own none = (
  (
    λ asked. absurd (false≢true (sym unasked ∙ asked)),
    subst (λ visits. AllByRecursion (λ (v : Visit). v.got ≡ result_of (visits_of next pull)) (filter (asks first) visits)) (sym none) tt,
  ),
  all-append (AllowsIn all pull) (schedulers_in next 0 (suc next) inputs) (schedulers_in above (suc first) (suc (next + nodes inputs)) row)
      (none-pulled inputs next 0 (suc next) all pull (own-inputs pull above first next class inputs row own) (unasked-none pull above first next class inputs row own unasked))
      (none-pulled row above (suc first) (suc (next + nodes inputs)) all pull (own-after_node pull above first next class inputs row own) none),
)
  where
    unasked : list_any (asks first) (visits_of above pull) ≡ false
    unasked = ap (list_any (asks first)) none

rows-allow : (row : Row) (above first next : ℕ) (all earlier : List (List Visit)) (pull : List Visit) → IsRowIn above first next row all earlier → OwnIn pull above first next row
    → EachAllows above first next row earlier pull → AllByRecursion (AllowsIn all pull) (schedulers_in above first next row)
rows-allow end above first next all earlier pull h own allows = tt
rows-allow (leaf q row) above first next all earlier pull h own allows =
    rows-allow row above (suc first) next all earlier pull (row-after_leaf above first next q row all earlier h) (own-after_leaf pull above first next q row own) allows
rows-allow (node class inputs row) above first next all earlier pull h own allows = (
  (
    λ asked. subst (λ ps. AllowsTurn class (width inputs) (map (turn next) ps) (turn next pull)) (h.are.below first) (allows.0 asked).0,
    allows.1,
  ),
  all-append (AllowsIn all pull) (schedulers_in next 0 (suc next) inputs) (schedulers_in above (suc first) (suc (next + nodes inputs)) row)
      (by_asked (list_any (asks first) (visits_of above pull)) refl
      (λ k. rows-allow inputs next 0 (suc next) all (pulls_below above first earlier) pull (row-inputs above first next class inputs row all earlier h) inside k))
      (rows-allow row above (suc first) (suc (next + nodes inputs)) all earlier pull (row-after_node above first next class inputs row all earlier h)
      (own-after_node pull above first next class inputs row own) allows.2),
)
  where
    inside : OwnIn pull next 0 (suc next) inputs
    inside = own-inputs pull above first next class inputs row own

    by_asked : (b : Bool) → list_any (asks first) (visits_of above pull) ≡ b
        → (EachAllows next 0 (suc next) inputs (pulls_below above first earlier) pull → AllByRecursion (AllowsIn all pull) (schedulers_in next 0 (suc next) inputs))
        → AllByRecursion (AllowsIn all pull) (schedulers_in next 0 (suc next) inputs)
    by_asked true is rest = rest (allows.0 is).1
    by_asked false is rest = none-pulled inputs next 0 (suc next) all pull inside (unasked-none pull above first next class inputs row own is)

-- the pulls of a run, in order, and the latest first
pub run-rows : (tree : Tree) (log : List Visit) → IsRun tree log → EachObeys 0 (pulls log) 0 1 (root tree)
run-rows tree log run =
    obeys-rows (root tree) 0 0 1 (pulls log) (pulls log)
    (record { own = λ p m y l h. (pulled-root tree log run).owns y l h p m; are = all-pulls 0 (pulls log) }) run.below

rows-back : (tree : Tree) (log : List Visit) → IsRun tree log → IsRowIn 0 0 1 (root tree) (reverse (pulls log)) (reverse (pulls log))
rows-back tree log run =
    record { own = λ p m y l h. (pulled-root tree log run).owns y l h p (in-back (pulls log) p m); are = all-pulls 0 (reverse (pulls log)) }
  where
    in-back : (ps : List (List Visit)) (p : List Visit) → In p (reverse ps) → In p ps
    in-back ps p m = of-all (λ r. In r ps) p (reverse ps) (all-reverse (λ r. In r ps) ps (to-all (λ r. In r ps) ps (λ r k. k))) m

-- one more pull of a run
pub next-rows : (tree : Tree) (log pull : List Visit) → IsRun tree log → IsNextPull tree log pull → EachAllows 0 0 1 (root tree) (reverse (pulls log)) pull
next-rows tree log pull run next = allows-rows (root tree) 0 0 1 (reverse (pulls log)) (reverse (pulls log)) pull (rows-back tree log run) next.below

pub rows-next : (tree : Tree) (log pull : List Visit) → IsRun tree log → pull ≡ block tree pull → EachAllows 0 0 1 (root tree) (reverse (pulls log)) pull
    → AllByRecursion (AllowsIn (reverse (pulls log)) pull) (schedulers_of tree)
rows-next tree log pull run whole allows =
    rows-allow (root tree) 0 0 1 (reverse (pulls log)) (reverse (pulls log)) pull (rows-back tree log run) (λ y l h. owns-root tree pull whole y l) allows
