-- How many edges some inputs of a node have at most.
use Rattle.std.proofs.Common.{◌≡◌, ◌≢◌, ℕ, zero, suc, ◌+◌, ◌≤◌, List, [], ◌∷◌, map, slice_get, Some, refl, ap, arith, rules}
use Rattle.std.specs.List.{AllByRecursion}
use Rattle.std.proofs.lemmas.Option.{slice_get_past}
use Rattle.clk_sched.specs.declared.session.inputs.Input.{Input}
use Rattle.clk_sched.specs.declared.session.inputs.Inputs.{Inputs}
use Rattle.clk_sched.specs.inside.Places.{AreWired, edges_of, edges_to, edges_to_all, edges_in, option_edges_to}
use Rattle.clk_sched.specs.inside.Pulling.{AreApart}

abbrev total : List ℕ → ℕ
total [] = 0
total (n ∷ ns) = n + total ns

-- the number at a place, and the same numbers with 0 there
abbrev pick : List ℕ → ℕ → ℕ
pick [] i = 0
pick (n ∷ ns) zero = n
pick (n ∷ ns) (suc i) = pick ns i

abbrev zeroed : List ℕ → ℕ → List ℕ
zeroed [] i = []
zeroed (n ∷ ns) zero = 0 ∷ ns
zeroed (n ∷ ns) (suc i) = n ∷ zeroed ns i

abbrev picked : List ℕ → List ℕ → ℕ
picked ns [] = 0
picked ns (i ∷ order) = pick ns i + picked ns order

total-pick : (ns : List ℕ) (i : ℕ) → total ns ≡ pick ns i + total (zeroed ns i)
total-pick [] i = refl
total-pick (n ∷ ns) zero = omega arith
total-pick (n ∷ ns) (suc i) = let e = total-pick ns i in omega (arith, e)

pick-other : (ns : List ℕ) (i j : ℕ) → j ≢ i → pick (zeroed ns i) j ≡ pick ns j
pick-other [] i j d = refl
pick-other (n ∷ ns) zero zero d = absurd (d refl)
pick-other (n ∷ ns) zero (suc j) d = refl
pick-other (n ∷ ns) (suc i) zero d = refl
pick-other (n ∷ ns) (suc i) (suc j) d = pick-other ns i j (λ e. d (ap suc e))

picked-other : (ns : List ℕ) (i : ℕ) (order : List ℕ) → AllByRecursion (λ j. j ≢ i) order → picked (zeroed ns i) order ≡ picked ns order
picked-other ns i [] d = refl
picked-other ns i (j ∷ order) d = let e = pick-other ns i j d.0 in let f = picked-other ns i order d.1 in omega (arith, e, f)

picked-most : (ns : List ℕ) (order : List ℕ) → AreApart (λ (i : ℕ). i) order → picked ns order ≤ total ns
picked-most ns [] h = omega arith
picked-most ns (i ∷ order) h = search (rules, total-pick, picked-other, (picked-most (zeroed ns i) order h.1))

pick-edges : (table : List Inputs) (inputs : List Input) (i : ℕ) → option_edges_to table (slice_get inputs i) ≡ pick (map (edges_to table) inputs) i
pick-edges table [] i = ap (option_edges_to table) (slice_get_past [] i (omega arith))
pick-edges table (input ∷ inputs) zero = refl
pick-edges table (input ∷ inputs) (suc i) = pick-edges table inputs i

total-edges : (table : List Inputs) (inputs : List Input) → edges_to_all table inputs ≡ total (map (edges_to table) inputs)
total-edges table [] = refl
total-edges table (input ∷ inputs) = let e = total-edges table inputs in omega (arith, e)

picked-edges : (table : List Inputs) (x : ℕ) (p : Inputs) (order : List ℕ) → slice_get table x ≡ Some p → edges_in table x order ≡ picked (map (edges_to table) p.each.items) order
picked-edges table x p [] e = refl
picked-edges table x p (i ∷ order) e = search (rules, pick-edges, (picked-edges table x p order e))

-- inputs of which none is named twice
pub edges-order : (table : List Inputs) (x : ℕ) (p : Inputs) (order : List ℕ) → AreWired table → slice_get table x ≡ Some p → AreApart (λ (i : ℕ). i) order → edges_in table x order ≤ edges_of table x
edges-order table x p order wired e apart = search (rules, picked-most, picked-edges, total-edges)
