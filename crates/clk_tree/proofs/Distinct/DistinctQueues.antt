-- No two queues of a plan have one number.
use Rattle.std.proofs.lemmas.Bool.Decides.{nat_tests}
use Rattle.std.proofs.lemmas.Grind.{common_steps, elements}
use Rattle.std.proofs.Common.{◌≡◌, ℕ, ◌<◌, zero, suc, true, List, [], ◌∷◌, take, Option, Some, slice_get, arith, rules}
use Rattle.std.proofs.lemmas.Bool.{cases_order, false≢true}
use Rattle.std.proofs.lemmas.Option.{cond_some}
use Rattle.clk_tree.specs.Plan.{Planned}
use Rattle.clk_tree.specs.PlanTree.{queue_count, queue_number}
use Rattle.clk_tree.specs.inside.PlanTree.{is_queue_at, number_if}

-- as many queues stand before a queue as its number says, and more before what comes later
queues-before : (plan : List Planned) (i j : ℕ) → i < j → is_queue_at (slice_get plan i) ≡ true → queue_count (take i plan) < queue_count (take j plan)
queues-before [] i j l is = absurd (false≢true is)
queues-before (e ∷ more) zero zero l is = absurd (omega arith)
queues-before (e ∷ more) zero (suc j) l is = search (rules, false≢true)
queues-before (e ∷ more) (suc i) zero l is = absurd (omega arith)
queues-before (e ∷ more) (suc i) (suc j) l is = search (rules, false≢true, (queues-before more i j (omega arith) is))

pub number-of : (n q : ℕ) (o : Option Planned) → number_if n o ≡ Some q → (is_queue_at o ≡ true) × (n ≡ q)
number-of n q o e = search (rules, cond_some)

pub one-number : (plan : List Planned) (i j q : ℕ) → queue_number plan i ≡ Some q → queue_number plan j ≡ Some q → i ≡ j
one-number plan i j q a b = grind (arith, common_steps, elements, nat_tests, cases_order, queues-before, number-of)
