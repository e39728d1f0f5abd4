-- Whose visits stand in a block: a node's visits in a pull are those in the blocks that the node above asked for.
use Rattle.std.proofs.lemmas.Grind.{common_steps}
use Rattle.std.proofs.Common.{◌≡◌, ◌≢◌, ℕ, zero, suc, ◌+◌, ◌<◌, ◌≤◌, ◌==◌, inl, inr, if◌then◌else◌, Bool, true, false, List, [], ◌∷◌, ◌++◌, length, filter, refl, sym, ap, ap₂, ◌∙◌, length-append, append-nil, arith, rules}
use Rattle.std.specs.List.{flat_map, AllByRecursion}
use Rattle.std.proofs.lemmas.Bool.Decides.{nat_tests}
use Rattle.std.proofs.lemmas.List.Elements.{filter-append}
use Rattle.clk_sched.specs.declared.visit.Visit.{Visit}
use Rattle.clk_packet.specs.Scheduler.{Scheduler}
use Rattle.clk_sched.specs.Tree.{Row, end, leaf, node, Tree, root, nodes}
use Rattle.clk_sched.specs.Log.{visits_of, block_at, block, asks}
use Rattle.clk_packet.specs.Lists.{In}
use Rattle.clk_sched.proofs.Lists.Members.{of-all, to-all, in-filter, all-append, all-flat_map, filter-none}
use Rattle.clk_sched.proofs.Runs.PullByPull.{asked}

pub flat_map-same : {X Y : Type 0} (f g : X → List Y) (xs : List X) → ((x : X) → In x xs → f x ≡ g x) → flat_map f xs ≡ flat_map g xs
flat_map-same f g [] h = refl
flat_map-same f g (x ∷ xs) h = ap₂ (λ l m. l ++ m) (h x (inl refl)) (flat_map-same f g xs (λ y m. h y (inr m)))

pub filter-flat_map : {X Y : Type 0} (test : Y → Bool) (f : X → List Y) (xs : List X) → filter test (flat_map f xs) ≡ flat_map (λ x. filter test (f x)) xs
filter-flat_map test f [] = refl
filter-flat_map test f (x ∷ xs) = filter-append test (f x) (flat_map f xs) ∙ ap (λ l. filter test (f x) ++ l) (filter-flat_map test f xs)

pub node-is : (x : ℕ) (visits : List Visit) (v : Visit) → In v (visits_of x visits) → v.node ≡ x
node-is x visits v m = let e = (in-filter (λ (u : Visit). u.node == x) v visits m).1 in grind (arith, nat_tests)

-- the nodes of visits are numbered from one on, up to another
abbrev Within : ℕ → ℕ → List Visit → Type 0
Within low high visits = AllByRecursion (λ (v : Visit). (low ≤ v.node) × (v.node < high)) visits

wider : (low high a b : ℕ) (visits : List Visit) → a ≤ low → high ≤ b → Within low high visits → Within a b visits
wider low high a b [] l h k = tt
wider low high a b (v ∷ visits) l h k = ((let m = k.0.0 in omega arith, let m = k.0.1 in omega arith), wider low high a b visits l h k.1)

absent-below : (y low high : ℕ) (visits : List Visit) → y < low → Within low high visits → visits_of y visits ≡ []
absent-below y low high visits l h = search (rules, filter-none, to-all, of-all)

absent-above : (y low high : ℕ) (visits : List Visit) → high ≤ y → Within low high visits → visits_of y visits ≡ []
absent-above y low high visits l h = search (rules, filter-none, to-all, of-all)

-- what a visit asked for, in a row
abbrev pub asked_in : List Visit → ℕ → ℕ → Row → Visit → List Visit
asked_in pull first next row v = if v.fresh then block_at pull first next row v.input else []

-- the block of one scheduler
abbrev pub own_block : List Visit → ℕ → Row → List Visit
own_block pull next inputs = flat_map (asked pull (suc next) inputs) (visits_of next pull)

own_block-within : (pull : List Visit) (next : ℕ) (inputs : Row) → ((i : ℕ) → Within (suc next) (suc next + nodes inputs) (block_at pull 0 (suc next) inputs i))
    → Within next (suc (next + nodes inputs)) (own_block pull next inputs)
own_block-within pull next inputs below = all-flat_map _ (asked pull (suc next) inputs) (visits_of next pull) (λ v m. by_fresh v (node-is next pull v m) v.fresh)
  where
    by_fresh : (v : Visit) → v.node ≡ next → (b : Bool) → Within next (suc (next + nodes inputs)) ((if b then block_at pull 0 (suc next) inputs v.input else []) ++ v ∷ [])
    by_fresh v e b = search (rules, all-append, wider)

block-within : (pull : List Visit) (first next : ℕ) (row : Row) (i : ℕ) → Within next (next + nodes row) (block_at pull first next row i)
block-within pull first next end i = tt
block-within pull first next (leaf q row) i = search (rules, (block-within pull (suc first) next row i))
block-within pull first next (node class inputs row) i =
    by_test (first == i) (own_block-within pull next inputs (λ j. block-within pull 0 (suc next) inputs j)) (block-within pull (suc first) (suc (next + nodes inputs)) row i)
  where
    by_test : (b : Bool) → Within next (suc (next + nodes inputs)) (own_block pull next inputs)
        → Within (suc (next + nodes inputs)) (suc (next + nodes inputs) + nodes row) (block_at pull (suc first) (suc (next + nodes inputs)) row i)
        → Within next (next + suc (nodes inputs + nodes row)) (if b then own_block pull next inputs else block_at pull (suc first) (suc (next + nodes inputs)) row i)
    by_test b h k = search (rules, wider)

-- at an input before those of a row stands none of its blocks
block-before : (pull : List Visit) (first next : ℕ) (row : Row) (i : ℕ) → i < first → block_at pull first next row i ≡ []
block-before pull first next end i l = refl
block-before pull first next (leaf q row) i l = let e : (first == i) ≡ false = grind (arith, nat_tests) in rw e (block-before pull (suc first) next row i (omega arith))
block-before pull first next (node class inputs row) i l = search (rules, (block-before pull (suc first) (suc (next + nodes inputs)) row i (omega arith)))

-- the visits of node y in a pull are those in the blocks that node `above` asked for in a row
abbrev pub Owns : ℕ → List Visit → ℕ → ℕ → ℕ → Row → Type 0
Owns y pull above first next row = visits_of y pull ≡ flat_map (λ (v : Visit). visits_of y (asked_in pull first next row v)) (visits_of above pull)

visits-asked : (pull : List Visit) (y x next : ℕ) (row : Row) → x ≢ y → visits_of y (flat_map (asked pull next row) (visits_of x pull)) ≡ flat_map (λ (v : Visit). visits_of y (asked_in pull 0 next row v)) (visits_of x pull)
visits-asked pull y x next row d =
    filter-flat_map (λ (v : Visit). v.node == y) (asked pull next row) (visits_of x pull)
    ∙ flat_map-same _ _ (visits_of x pull) (λ v m. filter-append (λ (u : Visit). u.node == y) (asked_in pull 0 next row v) (v ∷ []) ∙ ap (λ l. visits_of y (asked_in pull 0 next row v) ++ l) ((search (rules, (node-is x pull v m)))) ∙ append-nil _)

pub owns-root : (tree : Tree) (pull : List Visit) → pull ≡ block tree pull → (y : ℕ) → 1 ≤ y → Owns y pull 0 0 1 (root tree)
owns-root tree pull whole y l = ap (visits_of y) whole ∙ visits-asked pull y 0 1 (root tree) (λ e. omega (arith, e))

-- by whether a visit asked, and whether it was at the first input of a row
pub owns-after_leaf : (y : ℕ) (pull : List Visit) (above first next q : ℕ) (row : Row) → Owns y pull above first next (leaf q row) → Owns y pull above (suc first) next row
owns-after_leaf y pull above first next q row h = search (rules, flat_map-same, block-before)

pub owns-after_node : (y : ℕ) (pull : List Visit) (above first next : ℕ) (class : Scheduler) (inputs row : Row) → suc (next + nodes inputs) ≤ y → Owns y pull above first next (node class inputs row)
    → Owns y pull above (suc first) (suc (next + nodes inputs)) row
owns-after_node y pull above first next class inputs row l h = h ∙ flat_map-same _ _ (visits_of above pull) (λ v m. by_test v.fresh v.input (first == v.input) refl)
  where
    rest : ℕ → List Visit
    rest i = block_at pull (suc first) (suc (next + nodes inputs)) row i

    by_test : (f : Bool) (i : ℕ) (b : Bool) → (first == i) ≡ b → visits_of y (if f then (if b then own_block pull next inputs else rest i) else []) ≡ visits_of y (if f then rest i else [])
    by_test f i b e = search (rules, absent-above, own_block-within, block-within, block-before)

-- one list for each member that passes a test
abbrev pub copies : {X Y : Type 0} → (X → Bool) → List Y → List X → List Y
copies test ys xs = flat_map (λ x. if test x then ys else []) xs

-- of the scheduler at an input, and of those below it, by what the node above asked there
owns-here : (y : ℕ) (pull : List Visit) (above first next : ℕ) (class : Scheduler) (inputs row : Row) → y < suc (next + nodes inputs) → Owns y pull above first next (node class inputs row)
    → visits_of y pull ≡ copies (asks first) (visits_of y (own_block pull next inputs)) (visits_of above pull)
owns-here y pull above first next class inputs row l h = search (rules, flat_map-same, absent-below, block-within)

pub flat_map-one : {X : Type 0} (xs : List X) → flat_map (λ x. x ∷ []) xs ≡ xs
flat_map-one [] = refl
flat_map-one (x ∷ xs) = ap (λ l. x ∷ l) (flat_map-one xs)

own_block-self : (pull : List Visit) (next : ℕ) (inputs : Row) → visits_of next (own_block pull next inputs) ≡ visits_of next pull
own_block-self pull next inputs =
    filter-flat_map (λ (v : Visit). v.node == next) (asked pull (suc next) inputs) (visits_of next pull)
    ∙ flat_map-same _ (λ v. v ∷ []) (visits_of next pull) (λ v m. filter-append (λ (u : Visit). u.node == next) (asked_in pull 0 (suc next) inputs v) (v ∷ []) ∙ ap₂ (λ l k. l ++ k) (below v v.fresh) ((search (rules, (node-is next pull v m)))))
    ∙ flat_map-one (visits_of next pull)
  where
    below : (v : Visit) (f : Bool) → visits_of next (if f then block_at pull 0 (suc next) inputs v.input else []) ≡ []
    below v f = search (rules, absent-below, block-within)

-- how many members pass a test
abbrev count : {X : Type 0} → (X → Bool) → List X → ℕ
count test [] = 0
count test (x ∷ xs) = if test x then suc (count test xs) else count test xs

copies-none : {X Y : Type 0} (test : X → Bool) (ys : List Y) (xs : List X) → count test xs ≡ 0 → copies test ys xs ≡ []
copies-none test ys [] e = refl
copies-none test ys (x ∷ xs) e = search (rules, (copies-none test ys xs))

copies-one : {X Y : Type 0} (test : X → Bool) (ys : List Y) (xs : List X) → count test xs ≡ 1 → copies test ys xs ≡ ys
copies-one test ys [] e = absurd (omega (arith, e))
copies-one test ys (x ∷ xs) e = search (rules, copies-none, append-nil, (copies-one test ys xs))

copies-some : {X Y : Type 0} (test : X → Bool) (ys : List Y) (xs : List X) → 1 ≤ count test xs → length ys ≤ length (copies test ys xs)
copies-some test ys [] l = absurd (omega arith)
copies-some test ys (x ∷ xs) l = search (rules, length-append, (copies-some test ys xs))

copies-more : {X Y : Type 0} (test : X → Bool) (ys : List Y) (xs : List X) → 2 ≤ count test xs → length ys + length ys ≤ length (copies test ys xs)
copies-more test ys [] l = absurd (omega arith)
copies-more test ys (x ∷ xs) l = search (rules, copies-some, length-append, (copies-more test ys xs))

empty-length : {X : Type 0} (xs : List X) → length xs ≡ 0 → xs ≡ []
empty-length xs e = grind (arith, common_steps)

copies-empty : {X Y : Type 0} (test : X → Bool) (xs : List X) → copies {Y = Y} test [] xs ≡ []
copies-empty test [] = refl
copies-empty {Y = Y} test (x ∷ xs) = by_test (test x) (copies-empty test xs)
  where
    by_test : (b : Bool) → copies {Y = Y} test [] xs ≡ [] → (if b then [] else []) ++ copies {Y = Y} test [] xs ≡ []
    by_test b e = search rules

-- Where a list is as many copies of itself, so is another that is empty with it.
pub copies-cancel : {X Y Z : Type 0} (test : X → Bool) (ys : List Y) (zs : List Z) (xs : List X) → ys ≡ copies test ys xs → (ys ≡ [] → zs ≡ []) → copies test zs xs ≡ zs
copies-cancel {Y = Y} {Z = Z} test ys zs xs e empty = by_count (count test xs) refl
  where
    none : ys ≡ [] → copies test zs xs ≡ zs
    none k = ap (λ l. copies test l xs) (empty k) ∙ copies-empty test xs ∙ sym (empty k)

    by_count : (n : ℕ) → count test xs ≡ n → copies test zs xs ≡ zs
    by_count zero k = none (e ∙ copies-none test ys xs k)
    by_count (suc zero) k = copies-one test zs xs k
    by_count (suc (suc n)) k = let more = copies-more test ys xs (omega (arith, k)) in let same = ap length e in none (empty-length ys (omega (arith, more, same)))

pub owns-self : (pull : List Visit) (above first next : ℕ) (class : Scheduler) (inputs row : Row) → Owns next pull above first next (node class inputs row)
    → visits_of next pull ≡ copies (asks first) (visits_of next pull) (visits_of above pull)
owns-self pull above first next class inputs row h =
    owns-here next pull above first next class inputs row (omega arith) h ∙ ap (λ l. copies (asks first) l (visits_of above pull)) (own_block-self pull next inputs)

pub owns-inputs : (y : ℕ) (pull : List Visit) (above first next : ℕ) (class : Scheduler) (inputs row : Row) → suc next ≤ y → y < suc (next + nodes inputs)
    → Owns next pull above first next (node class inputs row) → Owns y pull above first next (node class inputs row) → Owns y pull next 0 (suc next) inputs
owns-inputs y pull above first next class inputs row l h self own =
    owns-here y pull above first next class inputs row h own ∙ ap (λ k. copies (asks first) k (visits_of above pull)) (visits-asked pull y next (suc next) inputs (λ e. omega (arith, e)))
    ∙ copies-cancel (asks first) (visits_of next pull) _ (visits_of above pull) (owns-self pull above first next class inputs row self)
    (λ e. ap (flat_map (λ (v : Visit). visits_of y (asked_in pull 0 (suc next) inputs v))) e)

-- a visit that asked at an input
pub asks-both : (first : ℕ) (v : Visit) → asks first v ≡ true → (v.fresh ≡ true) × (v.input ≡ first)
asks-both first v = search rules
