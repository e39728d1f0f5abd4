-- Which nodes stand at an input of a row or below, and that visits that were made there are theirs.
use Rattle.std.proofs.Common.{◌≡◌, ℕ, zero, suc, ◌+◌, ◌<◌, ◌≤◌, Bool, if◌then◌else◌, List, [], ◌∷◌, ◌++◌, Option, refl, sym, ap, subst, arith, rules}
use Rattle.std.specs.List.{AllByRecursion}
use Rattle.clk_packet.specs.declared.packet.Packet.{Packet}
use Rattle.clk_sched.specs.declared.visit.Visit.{Visit}
use Rattle.clk_sched.specs.Tree.{Row, end, leaf, node, nodes}
use Rattle.clk_sched.specs.inside.Pulling.{Now, History, asked_of, IsVisitAt, IsAskedAt}
use Rattle.clk_packet.specs.Lists.{In}
use Rattle.clk_sched.proofs.Lists.Members.{of-all, all-append, all-flat_map}

-- a node stands at an input of a row, or below what does
abbrev pub LiesAt : ℕ → Row → ℕ → ℕ → Type 0
LiesAt next end i y = ⊥
LiesAt next (leaf q row) zero y = ⊥
LiesAt next (leaf q row) (suc i) y = LiesAt next row i y
LiesAt next (node class inputs row) zero y = (next ≤ y) × (y < suc (next + nodes inputs))
LiesAt next (node class inputs row) (suc i) y = LiesAt (suc (next + nodes inputs)) row i y

abbrev IsBetween : ℕ → ℕ → ℕ → Type 0
IsBetween low high y = (low ≤ y) × (y < high)

pub lies-within : (next : ℕ) (row : Row) (i y : ℕ) → LiesAt next row i y → IsBetween next (next + nodes row) y
lies-within next end i y h = absurd h
lies-within next (leaf q row) zero y h = absurd h
lies-within next (leaf q row) (suc i) y h = lies-within next row i y h
lies-within next (node class inputs row) zero y h = (h.0, let k = h.1 in omega arith)
lies-within next (node class inputs row) (suc i) y h = let k = lies-within (suc (next + nodes inputs)) row i y h in (let l = k.0 in omega arith, let l = k.1 in omega arith)

pub lies-apart : (next : ℕ) (row : Row) (i j y : ℕ) → LiesAt next row i y → LiesAt next row j y → i ≡ j
lies-apart next end i j y h k = absurd h
lies-apart next (leaf q row) zero j y h k = absurd h
lies-apart next (leaf q row) (suc i) zero y h k = absurd k
lies-apart next (leaf q row) (suc i) (suc j) y h k = ap suc (lies-apart next row i j y h k)
lies-apart next (node class inputs row) zero zero y h k = refl
lies-apart next (node class inputs row) zero (suc j) y h k = let l = (lies-within (suc (next + nodes inputs)) row j y k).0 in let m = h.1 in absurd (omega arith)
lies-apart next (node class inputs row) (suc i) zero y h k = let l = (lies-within (suc (next + nodes inputs)) row i y h).0 in let m = k.1 in absurd (omega arith)
lies-apart next (node class inputs row) (suc i) (suc j) y h k = ap suc (lies-apart (suc (next + nodes inputs)) row i j y h k)

-- a visit of a pull, of a node at or below an input of a row
pub record IsVisitBelow (now : Now) (next : ℕ) (row : Row) (i : ℕ) (v : Visit) : Type 0 where
  pub lies : LiesAt next row i v.node
  pub number : v.pull ≡ now.number
  pub moment : v.moment ≡ now.moment

-- what was made at an input was made there
pub asked-below : (now : Now) (history : History) (next : ℕ) (row : Row) (i : ℕ) (visits : List Visit) (got : Option Packet) → IsAskedAt now history next row i visits got
    → AllByRecursion (IsVisitBelow now next row i) visits
asked-below now history next end i visits got h = absurd h
asked-below now history next (leaf q row) zero visits got h = subst (AllByRecursion (IsVisitBelow now next (leaf q row) zero)) (sym h) tt
asked-below now history next (leaf q row) (suc i) visits got h = again visits (asked-below now history next row i visits got h)
  where
    again : (vs : List Visit) → AllByRecursion (IsVisitBelow now next row i) vs → AllByRecursion (IsVisitBelow now next (leaf q row) (suc i)) vs
    again [] k = tt
    again (v ∷ vs) k = (record { lies = k.0.lies; number = k.0.number; moment = k.0.moment }, again vs k.1)
asked-below now history next (node class inputs row) zero visits got h =
    subst (AllByRecursion (IsVisitBelow now next (node class inputs row) zero)) (sym h.whole)
    (all-flat_map (IsVisitBelow now next (node class inputs row) zero) (λ v. asked_of h.made v ++ v ∷ []) h.own
    (λ v m. all-append _ (asked_of h.made v) (v ∷ []) (below v m (λ k. asked-below now history (suc next) inputs v.input (h.made v.input) v.got k) v.fresh refl) (own v (of-all (IsVisitAt now next) v h.own h.theirs m), tt)))
  where
    own : (v : Visit) → IsVisitAt now next v → IsVisitBelow now next (node class inputs row) zero v
    own v k = let e = k.node in record { lies = (omega (arith, e), omega (arith, e)); number = k.number; moment = k.moment }

    further : (j : ℕ) (vs : List Visit) → AllByRecursion (IsVisitBelow now (suc next) inputs j) vs → AllByRecursion (IsVisitBelow now next (node class inputs row) zero) vs
    further j [] k = tt
    further j (v ∷ vs) k =
        let l = lies-within (suc next) inputs j v.node k.0.lies in
        (record { lies = (let m = l.0 in omega arith, let m = l.1 in omega arith); number = k.0.number; moment = k.0.moment }, further j vs k.1)

    below : (v : Visit) → In v h.own → (IsAskedAt now history (suc next) inputs v.input (h.made v.input) v.got → AllByRecursion (IsVisitBelow now (suc next) inputs v.input) (h.made v.input))
        → (b : Bool) → v.fresh ≡ b → AllByRecursion (IsVisitBelow now next (node class inputs row) zero) (if b then h.made v.input else [])
    below v m made b e = search (rules, of-all, further, own)
asked-below now history next (node class inputs row) (suc i) visits got h = again visits (asked-below now history (suc (next + nodes inputs)) row i visits got h)
  where
    again : (vs : List Visit) → AllByRecursion (IsVisitBelow now (suc (next + nodes inputs)) row i) vs → AllByRecursion (IsVisitBelow now next (node class inputs row) (suc i)) vs
    again [] k = tt
    again (v ∷ vs) k = (record { lies = k.0.lies; number = k.0.number; moment = k.0.moment }, again vs k.1)
