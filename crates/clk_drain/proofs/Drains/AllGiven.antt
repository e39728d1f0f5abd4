-- Once a drain gave all that was left, nothing is held, and each queue's packets were all taken that weren't evicted.
use Rattle.std.proofs.Common.{◌≡◌, ℕ, ◌+◌, ◌≤◌, ◌==◌, ◌&&◌, ◌||◌, true, false, true≢false, not, List, [], ◌∷◌, length, refl, sym, arith, if◌then◌else◌, rules}
use Rattle.std.proofs.lemmas.Grind.{common_steps}
use Rattle.std.proofs.lemmas.Bool.Decides.{nat_tests}
use Rattle.std.proofs.lemmas.List.{nil_from_length}
use Rattle.std.specs.List.{AllByRecursion}
use Rattle.clk_sched.specs.declared.visit.Visit.{Visit}
use Rattle.clk_packet.specs.Lists.{stands_in, are_distinct}
use Rattle.clk_packet.proofs.Callers.Lists.{distinct-more, rising-distinct}
use Rattle.clk_sched.specs.Tree.{Tree, root, leaves, leaves_distinct}
use Rattle.clk_sched.specs.Conservation.{given_in_all, ConservesCounts}
use Rattle.clk_sched.specs.Closing.{held_in_all}
use Rattle.clk_sched.specs.Results.{emitted, heads, leaf_packets}
use Rattle.clk_sched.specs.Run.{IsRun}
use Rattle.clk_sched.specs.Session.{Progress, IsDrained}
use Rattle.clk_drain.specs.Closing.{accepted_over, evicted_over, left_over}
use Rattle.clk_drain.specs.Line.{LineLists, leaves_of, AreLinesOf}
use Rattle.clk_drain.specs.Parts.{IsWithin, HasAllTaken}
use Rattle.clk_drain.proofs.Plans.Apart.{has-here}
use Rattle.clk_drain.proofs.Drains.Emitting.{emitted-more}

-- a list without the first place of a number
abbrev drop_one : ℕ → List ℕ → List ℕ
drop_one x [] = []
drop_one x (y ∷ ys) = if y == x then ys else y ∷ drop_one x ys

-- Behind the first of a list without repeats stands what stands in the list, but for the first.
stands-behind : (q x : ℕ) (xs : List ℕ) → stands_in x xs ≡ false → stands_in q xs ≡ (((x == q) || stands_in q xs) && not (x == q))
stands-behind q x xs e = search rules

stands-dropped : (q x : ℕ) (ys : List ℕ) → are_distinct ys ≡ true → stands_in q (drop_one x ys) ≡ (stands_in q ys && not (x == q))
stands-dropped q x [] d = refl
stands-dropped q x (y ∷ ys) d = grind (arith, common_steps, nat_tests, (stands-dropped q x ys))

distinct-dropped : (x : ℕ) (ys : List ℕ) → are_distinct ys ≡ true → are_distinct (drop_one x ys) ≡ true
distinct-dropped x [] d = refl
distinct-dropped x (y ∷ ys) d = grind (arith, common_steps, nat_tests, distinct-more, stands-dropped, (distinct-dropped x ys))

-- A sum over numbers is that of one of them, and of the others.
sum-dropped : (f : ℕ → ℕ) (x : ℕ) (ys : List ℕ) → stands_in x ys ≡ true → held_in_all f ys ≡ f x + held_in_all f (drop_one x ys)
sum-dropped f x [] s = absurd (true≢false (sym s))
sum-dropped f x (y ∷ ys) s = search (rules, (sum-dropped f x ys))

-- Over the same numbers, each once on both sides, it is the same.
pub sum-same : (f : ℕ → ℕ) (xs ys : List ℕ) → are_distinct xs ≡ true → are_distinct ys ≡ true → ((q : ℕ) → stands_in q xs ≡ stands_in q ys) → held_in_all f xs ≡ held_in_all f ys
sum-same f [] [] c d same = refl
sum-same f [] (y ∷ ys) c d same = search rules
sum-same f (x ∷ xs) ys c d same = grind (arith, common_steps, nat_tests, has-here, distinct-dropped, stands-behind, stands-dropped, sum-dropped, (sum-same f xs (drop_one x ys)))

-- what all queues gave is such a sum
pub given-sum : (tree : Tree) (log : List Visit) (qs : List ℕ) → given_in_all tree qs log ≡ held_in_all (λ q. length (leaf_packets tree q log)) qs
given-sum tree log [] = refl
given-sum tree log (q ∷ qs) = search (rules, (given-sum tree log qs))

-- how many packets the taps of lines took in all
abbrev pub taken_over : List LineLists → ℕ
taken_over [] = 0
taken_over (l ∷ lines) = length l.tap.taken + taken_over lines

given-taken : (tree : Tree) (log : List Visit) (lines : List LineLists) → AllByRecursion (λ (l : LineLists). l.tap.taken ≡ leaf_packets tree l.leaf log) lines → given_in_all tree (leaves_of lines) log ≡ taken_over lines
given-taken tree log [] h = refl
given-taken tree log (l ∷ lines) h = search (rules, (given-taken tree log lines h.1))

pub all-within : (lines : List LineLists) → AllByRecursion IsWithin lines → evicted_over lines + taken_over lines ≤ accepted_over lines
all-within [] h = omega arith
all-within (l ∷ lines) h = search (rules, (all-within lines h.1))

-- Where in all no fewer were taken than weren't evicted, it is so of each line.
each-taken : (lines : List LineLists) → AllByRecursion IsWithin lines → accepted_over lines ≤ evicted_over lines + taken_over lines → AllByRecursion HasAllTaken lines
each-taken [] h all = tt
each-taken (l ∷ lines) h all = search (rules, all-within, (each-taken lines h.1))

-- What the taps of a session's lines took is what came out of it and what its heads hold.
pub taken-counts : (session : Progress) (lines : List LineLists) → leaves_distinct session.tree ≡ true → ConservesCounts session.tree → IsRun session.tree session.log → AreLinesOf session lines
    → taken_over lines ≡ length (emitted session.log) + length (heads session.tree session.log)
taken-counts session lines distinct conserves run own = search (rules, (given-taken session.tree session.log lines own.taken), (given-sum session.tree session.log (leaves_of lines)), (given-sum session.tree session.log (leaves (root session.tree))), sum-same, (rising-distinct (leaves_of lines) own.rise))

-- A drain that gave all that was left leaves no head held, and each line has all taken.
pub all-given : (old new : Progress) (lines : List LineLists) (moment made : ℕ) → leaves_distinct new.tree ≡ true → ConservesCounts new.tree → IsDrained old new moment made (left_over old lines) → AreLinesOf new lines
    → AllByRecursion IsWithin lines → (heads new.tree new.log ≡ []) × AllByRecursion HasAllTaken lines
all-given old new lines moment made distinct conserves drained own within = search (rules, (emitted-more old new moment made (left_over old lines) drained), (taken-counts new lines distinct conserves drained.run own), (all-within lines within), nil_from_length, each-taken)
