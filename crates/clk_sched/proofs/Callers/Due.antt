-- Whether a pull could emit a packet follows from which of the tree's own queues are backlogged.
use Rattle.std.proofs.Common.{◌≡◌, ℕ, suc, ◌+◌, ◌==◌, ◌&&◌, ◌||◌, Bool, true, List, refl, ap, ap₂, ◌∙◌, arith, rules}
use Rattle.std.proofs.lemmas.Bool.Decides.{nat_tests}
use Rattle.clk_packet.specs.Lists.{stands_in}
use Rattle.clk_sched.specs.Tree.{Row, end, leaf, node, nodes, width, leaves}
use Rattle.clk_sched.specs.Turns.{Turn}
use Rattle.clk_sched.specs.Laws.{manner}
use Rattle.clk_sched.specs.Due.{lets_through, holds_head, could_emit}
use Rattle.clk_sched.proofs.Trees.TreeLemmas.{stands_in-append}

or-first : (a b : Bool) → a ≡ true → (a || b) ≡ true
or-first a b e = ap (λ x. x || b) e

or-second : (a b : Bool) → b ≡ true → (a || b) ≡ true
or-second a b e = search rules

pub could-same : (turns : ℕ → List Turn) (some other : ℕ → Bool) (moment next : ℕ) (row : Row) → ((q : ℕ) → stands_in q (leaves row) ≡ true → some q ≡ other q)
    → could_emit turns some moment next row ≡ could_emit turns other moment next row
could-same turns some other moment next end same = refl
could-same turns some other moment next (leaf q row) same =
    ap₂ (λ a b. a || b) (same q (or-first (q == q) (stands_in q (leaves row)) (grind (arith, nat_tests))))
    (could-same turns some other moment next row (λ r m. same r (or-second (q == r) (stands_in r (leaves row)) m)))
could-same turns some other moment next (node class inputs row) same =
    ap₂ (λ a b. (lets_through class (turns next) moment && (holds_head (manner class (width inputs)) (width inputs) (turns next) || a)) || b)
    (could-same turns some other moment (suc next) inputs (λ r m. same r (stands_in-append r (leaves inputs) (leaves row) ∙ or-first (stands_in r (leaves inputs)) (stands_in r (leaves row)) m)))
    (could-same turns some other moment (suc (next + nodes inputs)) row (λ r m. same r (stands_in-append r (leaves inputs) (leaves row) ∙ or-second (stands_in r (leaves inputs)) (stands_in r (leaves row)) m)))
