-- As many packets come out and are held as the queues gave.
use Rattle.std.proofs.lemmas.Grind.{common_steps}
use Rattle.std.proofs.Common.{◌≡◌, ℕ, ◌+◌, ◌==◌, ◌&&◌, ◌||◌, Bool, true, false, true≢false, not, List, [], ◌∷◌, length, Option, Some, None, MatchOption, refl, sym, ap, ◌∙◌, arith, if◌then◌else◌, rules}
use Rattle.std.proofs.lemmas.Bool.Decides.{nat_tests}
use Rattle.std.proofs.lemmas.List.{length-append, length-map}
use Rattle.std.specs.List.{AllByRecursion, filter_map, flat_map}
use Rattle.clk_sched.specs.declared.visit.Visit.{Visit}
use Rattle.clk_sched.specs.Log.{visits_of}
use Rattle.clk_packet.specs.Lists.{stands_in, are_distinct}
use Rattle.clk_sched.specs.Tree.{Tree, root, leaves, leaves_distinct}
use Rattle.clk_sched.specs.Results.{Traced, traced, origin_in, traced_emitted, traced_heads}
use Rattle.clk_sched.specs.Conservation.{from_queue, given_in_all, IsConserved, CameFrom, ConservesCounts}
use Rattle.clk_sched.proofs.Conservation.CameFrom.{makes-nothing}
use Rattle.clk_sched.proofs.Conservation.Conserved.{conserves-packets}
use Rattle.clk_sched.proofs.Trees.Distinct.{or-neither}
use Rattle.clk_sched.proofs.Lists.Members.{all-weaker}
use Rattle.clk_sched.proofs.Lists.Numbers.{same}
use Rattle.clk_sched.proofs.Lists.Numbers.{is_number}

abbrev one_if : Bool → ℕ
one_if b = if b then 1 else 0

-- how often a queue stands in a list
abbrev times : Option ℕ → List ℕ → ℕ
times origin [] = 0
times origin (q ∷ qs) = one_if (is_number q origin) + times origin qs

-- how many packets came from some queues in all
abbrev counted : List ℕ → List Traced → ℕ
counted [] ts = 0
counted (q ∷ qs) ts = length (from_queue q ts) + counted qs ts

pub and-both : (a b : Bool) → (a && b) ≡ true → (a ≡ true) × (b ≡ true)
and-both a b e = search rules

not-true : (a : Bool) → not a ≡ true → a ≡ false
not-true a e = search rules

or-right : (a b : Bool) → b ≡ true → (a || b) ≡ true
or-right a b e = search rules

turned : (m n : ℕ) → (m == n) ≡ (n == m)
turned m n = grind (arith, nat_tests)

-- A queue stands once in a list in which no queue stands twice, if it stands there.
times-none : (k : ℕ) (qs : List ℕ) → stands_in k qs ≡ false → times (Some k) qs ≡ 0
times-none k [] e = refl
times-none k (q ∷ qs) e =
    let both = or-neither (q == k) (stands_in k qs) e in
    let here = ap one_if (turned k q ∙ both.0) in
    let rest = times-none k qs both.1 in
    omega (arith, here, rest)

times-one : (k : ℕ) (qs : List ℕ) → are_distinct qs ≡ true → stands_in k qs ≡ true → times (Some k) qs ≡ 1
times-one k [] d s = absurd (true≢false (sym s))
times-one k (q ∷ qs) d s = search (rules, and-both, turned, times-none, not-true, (times-one k qs (and-both (not (stands_in q qs)) (are_distinct qs) d).1))

-- one packet more
one-more : (q : ℕ) (t : Traced) (ts : List Traced) → length (from_queue q (t ∷ ts)) ≡ one_if (is_number q t.1) + length (from_queue q ts)
one-more q t ts = search rules

counted-more : (qs : List ℕ) (t : Traced) (ts : List Traced) → counted qs (t ∷ ts) ≡ times t.1 qs + counted qs ts
counted-more [] t ts = refl
counted-more (q ∷ qs) t ts = let here = one-more q t ts in let rest = counted-more qs t ts in omega (arith, here, rest)

counted-none : (qs : List ℕ) → counted qs [] ≡ 0
counted-none [] = refl
counted-none (q ∷ qs) = let rest = counted-none qs in omega (arith, rest)

-- a packet came from a queue of a list
abbrev ComesFrom : List ℕ → Traced → Type 0
ComesFrom qs t = MatchOption t.1 ⊥ (λ q. stands_in q qs ≡ true)

-- Packets that came from these queues are as many as came from each.
counted-all : (qs : List ℕ) → are_distinct qs ≡ true → (ts : List Traced) → AllByRecursion (ComesFrom qs) ts → counted qs ts ≡ length ts
counted-all qs d [] h = counted-none qs
counted-all qs d (t ∷ ts) h = search (rules, counted-none, counted-more, times-one, (counted-all qs d ts h.1))

came-comes : (tree : Tree) (log : List Visit) (t : Traced) → CameFrom tree log (root tree) t → ComesFrom (leaves (root tree)) t
came-comes tree log t h = grind (arith, common_steps)

-- What each queue gave came out or is held.
given-counted : (tree : Tree) (log : List Visit) (qs : List ℕ) → ((q : ℕ) → stands_in q qs ≡ true → IsConserved tree log q)
    → given_in_all tree qs log ≡ counted qs (traced_emitted tree log) + counted qs (traced_heads tree log)
given-counted tree log [] each = refl
given-counted tree log (q ∷ qs) each =
    let out = from_queue q (traced_emitted tree log) in
    let held = from_queue q (traced_heads tree log) in
    let here = ap length (each q (ap (λ (b : Bool). b || stands_in q qs) (same q))) ∙ length-append out held in
    let rest = given-counted tree log qs (λ r s. each r (or-right (q == r) (stands_in r qs) s)) in
    omega (arith, here, rest)

-- as many were traced as came out
emitted-counted : (tree : Tree) (log : List Visit) (visits : List Visit)
    → length (flat_map (λ (v : Visit). if v.passed then traced v.got (origin_in log 1 (root tree) 0 v.pull) else []) visits) ≡ length (filter_map (λ (v : Visit). if v.passed then v.got else None) visits)
emitted-counted tree log [] = refl
emitted-counted tree log (v ∷ visits) = search (rules, (emitted-counted tree log visits))

pub conserves-counts : (tree : Tree) → leaves_distinct tree ≡ true → ConservesCounts tree
conserves-counts tree distinct log run =
    let queues = leaves (root tree) in
    let came = makes-nothing tree log run in
    let given = given-counted tree log queues (conserves-packets tree distinct log run) in
    let out = counted-all queues distinct (traced_emitted tree log) (all-weaker _ (ComesFrom queues) (traced_emitted tree log) (came-comes tree log) came.0) in
    let held = counted-all queues distinct (traced_heads tree log) (all-weaker _ (ComesFrom queues) (traced_heads tree log) (came-comes tree log) came.1) in
    let emitted_are = emitted-counted tree log (visits_of 0 log) in
    let heads_are = length-map (traced_heads tree log) (λ (t : Traced). t.0) in
    omega (arith, given, out, held, emitted_are, heads_are)
