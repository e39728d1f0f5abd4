-- The pulls in which a node is pulled, and whose visits stand in them.
use Rattle.std.proofs.Common.{◌≡◌, ℕ, zero, suc, ◌+◌, ◌<◌, ◌≤◌, ◌==◌, if◌then◌else◌, inl, inr, Bool, false, List, [], ◌∷◌, ◌++◌, length, map, filter, refl, sym, ap, ◌∙◌, subst, arith, rules}
use Rattle.std.specs.List.{flat_map, range_with_len, AllByRecursion, list_any}
use Rattle.std.specs.Bool.{⊤}
use Rattle.std.proofs.lemmas.Bool.{false≢true}
use Rattle.std.proofs.lemmas.List.Concat.{flat_map-append}
use Rattle.clk_sched.specs.declared.visit.Visit.{Visit}
use Rattle.clk_packet.specs.Scheduler.{Scheduler}
use Rattle.clk_sched.specs.Tree.{Row, leaf, node, Tree, root, nodes}
use Rattle.clk_sched.specs.Turns.{Turn, EachAfter, all_visits}
use Rattle.clk_sched.specs.Log.{visits_of, in_pull, pulls, block, turn, asks, pulls_below}
use Rattle.clk_sched.specs.Laws.{Manner, Follows}
use Rattle.clk_sched.specs.Run.{IsRun}
use Rattle.clk_packet.specs.Lists.{In}
use Rattle.clk_sched.proofs.Lists.Members.{of-all, in-filter, all-append, all-filter, all-weaker}
use Rattle.clk_sched.proofs.Runs.PullByPull.{each-whole, in_pull-number}
use Rattle.clk_sched.proofs.Runs.Heads.{IsLater, IsOrdered}
use Rattle.clk_sched.proofs.Runs.HeadsByManner.{PassesLast, turn-last}
use Rattle.clk_sched.proofs.Runs.Blocks.{flat_map-same, filter-flat_map, Owns, owns-root, owns-after_leaf, owns-after_node, owns-self, owns-inputs, copies}
use Rattle.std.proofs.lemmas.List.Folds.{flat_map-map}

-- pulls of a log, in rising order
abbrev pub Rising : List Visit → ℕ → List (List Visit) → Type 0
Rising log least [] = ⊤
Rising log least (p ∷ ps) = (k : ℕ) × (least ≤ k) × AllByRecursion (λ (v : Visit). v.pull ≡ k) p × (in_pull k log ≡ p) × Rising log (k + 1) ps

rising-from : (log : List Visit) (a n : ℕ) → Rising log a (map (λ k. in_pull k log) (range_with_len a n))
rising-from log a zero = tt
rising-from log a (suc n) = (a, omega arith, in_pull-number a log, refl, rising-from log (a + 1) n)

rising-less : (log : List Visit) (m n : ℕ) (ps : List (List Visit)) → m ≤ n → Rising log n ps → Rising log m ps
rising-less log m n [] l h = tt
rising-less log m n (p ∷ ps) l h = (h.0, let k = h.1 in omega arith, h.2, h.3, h.4)

rising-filter : (log : List Visit) (test : List Visit → Bool) (least : ℕ) (ps : List (List Visit)) → Rising log least ps → Rising log least (filter test ps)
rising-filter log test least [] h = tt
rising-filter log test least (p ∷ ps) h = search (rules, rising-less, (rising-filter log test (h.0 + 1) ps h.4))

-- a pull of a log, by its number
pub record IsPullOf (log pull : List Visit) : Type 0 where
  pub number : ℕ
  pub all : AllByRecursion (λ (v : Visit). v.pull ≡ number) pull
  pub whole : in_pull number log ≡ pull

pub rising-in : (log : List Visit) (least : ℕ) (ps : List (List Visit)) (p : List Visit) → Rising log least ps → In p ps → IsPullOf log p
rising-in log least [] p h m = absurd m
rising-in log least (r ∷ ps) p h (inl e) = subst (IsPullOf log) e (record { number = h.0; all = h.2; whole = h.3 })
rising-in log least (r ∷ ps) p h (inr m) = rising-in log (h.0 + 1) ps p h.4 m

-- visits of one pull that end where one passed, before visits of later pulls
ordered-append : (k : ℕ) (us ws : List Visit) → AllByRecursion (λ (v : Visit). v.pull ≡ k) us → PassesLast us → AllByRecursion (λ (v : Visit). k < v.pull) ws → IsOrdered ws → IsOrdered (us ++ ws)
ordered-append k [] ws h l a o = o
ordered-append k (v ∷ us) ws h l a o = (all-append (IsLater v) us ws (search (rules, same)) (later ws a), ordered-append k us ws h.1 l.1 a o)
  where
    later : (xs : List Visit) → AllByRecursion (λ (w : Visit). k < w.pull) xs → AllByRecursion (IsLater v) xs
    later [] b = tt
    later (w ∷ xs) b = (record { pull = let e = h.0 in let m = b.0 in omega arith; passed = λ t. let e = h.0 in let m = b.0 in omega arith }, later xs b.1)

    same : v.passed ≡ false → (xs : List Visit) → AllByRecursion (λ (w : Visit). w.pull ≡ k) xs → AllByRecursion (IsLater v) xs
    same f [] b = tt
    same f (w ∷ xs) b = (record { pull = let e = h.0 in let m = b.0 in omega arith; passed = λ t. absurd (false≢true (sym f ∙ t)) }, same f xs b.1)

pub ordered-turns : (log : List Visit) (x least : ℕ) (ps : List (List Visit)) → Rising log least ps → AllByRecursion (λ p. PassesLast (visits_of x p)) ps
    → IsOrdered (flat_map (visits_of x) ps) × AllByRecursion (λ (v : Visit). least ≤ v.pull) (flat_map (visits_of x) ps)
ordered-turns log x least [] h l = (tt, tt)
ordered-turns log x least (p ∷ ps) h l =
    let rest = ordered-turns log x (h.0 + 1) ps h.4 l.1 in
    let now = all-filter (λ (v : Visit). v.pull ≡ h.0) (λ (v : Visit). v.node == x) p h.2 in (
      ordered-append h.0 (visits_of x p) (flat_map (visits_of x) ps) now l.0 (all-weaker _ (λ (v : Visit). h.0 < v.pull) _ (λ v k. omega arith) rest.1) rest.0,
      all-append (λ (v : Visit). least ≤ v.pull) (visits_of x p) (flat_map (visits_of x) ps) (all-weaker _ (λ (v : Visit). least ≤ v.pull) _ (λ v e. let k = h.1 in omega (arith, e)) now)
          (all-weaker _ (λ (v : Visit). least ≤ v.pull) _ (λ v k. let m = h.1 in omega arith) rest.1),
    )

pub flat_map-flat_map : {X Y Z : Type 0} (f : Y → List Z) (g : X → List Y) (xs : List X) → flat_map f (flat_map g xs) ≡ flat_map (λ x. flat_map f (g x)) xs
flat_map-flat_map f g [] = refl
flat_map-flat_map f g (x ∷ xs) = flat_map-append f (g x) (flat_map g xs) ∙ ap (λ l. flat_map f (g x) ++ l) (flat_map-flat_map f g xs)

pub flat_map-filter : {X Y : Type 0} (test : X → Bool) (f : X → List Y) (xs : List X) → ((x : X) → In x xs → test x ≡ false → f x ≡ []) → flat_map f xs ≡ flat_map f (filter test xs)
flat_map-filter test f [] h = refl
flat_map-filter test f (x ∷ xs) h = by_test (test x) (h x (inl refl)) (flat_map-filter test f xs (λ y m. h y (inr m)))
  where
    by_test : (b : Bool) → (b ≡ false → f x ≡ []) → flat_map f xs ≡ flat_map f (filter test xs) → f x ++ flat_map f xs ≡ flat_map f (if b then x ∷ filter test xs else filter test xs)
    by_test b e rest = search rules

pub copies-unasked : {X Y : Type 0} (test : X → Bool) (ys : List Y) (xs : List X) → list_any test xs ≡ false → copies test ys xs ≡ []
copies-unasked test ys [] e = refl
copies-unasked test ys (x ∷ xs) e = search (rules, false≢true, (copies-unasked test ys xs))

-- a row that stands at the inputs of node `above`: in a pull its nodes have the visits in the blocks that `above` asked for
abbrev pub OwnIn : List Visit → ℕ → ℕ → ℕ → Row → Type 0
OwnIn pull above first next row = (y : ℕ) → next ≤ y → y < next + nodes row → Owns y pull above first next row

-- a scheduler that isn't asked in a pull has no visits in it
pub unasked-none : (pull : List Visit) (above first next : ℕ) (class : Scheduler) (inputs row : Row) → OwnIn pull above first next (node class inputs row) → list_any (asks first) (visits_of above pull) ≡ false
    → visits_of next pull ≡ []
unasked-none pull above first next class inputs row own none =
    owns-self pull above first next class inputs row (own next (omega arith) (omega arith)) ∙ copies-unasked (asks first) (visits_of next pull) (visits_of above pull) none

-- a row that stands at the inputs of a node, and the pulls in which the node is pulled
pub record IsPulledIn (log : List Visit) (above first next : ℕ) (row : Row) (pulled : List (List Visit)) : Type 0 where
  pub ordered : above < next
  pub owns : (y : ℕ) → next ≤ y → y < next + nodes row → (p : List Visit) → In p pulled → Owns y p above first next row
  pub own_visits : visits_of above log ≡ flat_map (visits_of above) pulled
  pub below_visits : (y : ℕ) → next ≤ y → y < next + nodes row → visits_of y log ≡ flat_map (visits_of y) pulled
  pub rising : Rising log 0 pulled

pub pulled-after_leaf : (log : List Visit) (above first next q : ℕ) (row : Row) (pulled : List (List Visit)) → IsPulledIn log above first next (leaf q row) pulled
    → IsPulledIn log above (suc first) next row pulled
pulled-after_leaf log above first next q row pulled h = search (rules, owns-after_leaf)

pub pulled-after_node : (log : List Visit) (above first next : ℕ) (class : Scheduler) (inputs row : Row) (pulled : List (List Visit))
    → IsPulledIn log above first next (node class inputs row) pulled → IsPulledIn log above (suc first) (suc (next + nodes inputs)) row pulled
pulled-after_node log above first next class inputs row pulled h = search (rules, owns-after_node)

pub pulled-inputs : (log : List Visit) (above first next : ℕ) (class : Scheduler) (inputs row : Row) (pulled : List (List Visit))
    → IsPulledIn log above first next (node class inputs row) pulled → IsPulledIn log next 0 (suc next) inputs (pulls_below above first pulled)
pulled-inputs log above first next class inputs row pulled h = search (rules, in-filter, flat_map-filter, rising-filter, owns-self, copies-unasked, owns-inputs)

-- a node's turns have all its visits
pub turns-visits : (log : List Visit) (above first next : ℕ) (class : Scheduler) (inputs row : Row) (pulled : List (List Visit)) → IsPulledIn log above first next (node class inputs row) pulled
    → all_visits (map (turn next) (pulls_below above first pulled)) ≡ visits_of next log
turns-visits log above first next class inputs row pulled h =
    flat_map-map (λ (t : Turn). t.visits) (turn next) (pulls_below above first pulled) ∙ sym (pulled-inputs log above first next class inputs row pulled h).own_visits

pub turns-last : (m : Manner) (inputs x : ℕ) (earlier : List Turn) (ps : List (List Visit)) → EachAfter (Follows m inputs) earlier (map (turn x) ps) → AllByRecursion (λ p. PassesLast (visits_of x p)) ps
turns-last m inputs x earlier [] h = tt
turns-last m inputs x earlier (p ∷ ps) h = (turn-last m inputs earlier (turn x p) h.0, turns-last m inputs x (turn x p ∷ earlier) ps h.1)

-- a log is its pulls, joined
pub joined : (tree : Tree) (log : List Visit) → IsRun tree log → log ≡ flat_map (λ p. p) (pulls log)
joined tree log run = run.shape.blocks ∙ flat_map-same (block tree) (λ p. p) (pulls log) (λ p m. sym (of-all (λ r. r ≡ block tree r) p (pulls log) (each-whole tree log run.shape) m))

pub pulled-root : (tree : Tree) (log : List Visit) → IsRun tree log → IsPulledIn log 0 0 1 (root tree) (pulls log)
pulled-root tree log run =
    record {
      ordered = omega arith;
      owns = λ y l m p k. owns-root tree p (of-all (λ r. r ≡ block tree r) p (pulls log) (each-whole tree log run.shape) k) y l;
      own_visits = visits 0;
      below_visits = λ y l m. visits y;
      rising = rising-from log 0 (length (visits_of 0 log));
    }
  where
    visits : (y : ℕ) → visits_of y log ≡ flat_map (visits_of y) (pulls log)
    visits y = ap (visits_of y) (joined tree log run) ∙ filter-flat_map (λ (v : Visit). v.node == y) (λ p. p) (pulls log)
