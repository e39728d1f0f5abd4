-- Visits of a node, each after what it asked, by what was made at each input: whose visits stand there.
use Rattle.std.proofs.Common.{◌≡◌, ◌≢◌, ◌==◌, ℕ, true, false, List, [], ◌∷◌, refl, append-nil, rules}
use Rattle.std.specs.List.{flat_map, AllByRecursion}
use Rattle.std.proofs.lemmas.List.Elements.{filter-append}
use Rattle.clk_sched.specs.declared.visit.Visit.{Visit}
use Rattle.clk_sched.specs.Log.{visits_of}
use Rattle.clk_sched.specs.inside.Pulling.{asked_of, with_asked}
use Rattle.clk_sched.proofs.Lists.Numbers.{equal, differs}
use Rattle.clk_sched.proofs.Lists.Members.{filter-all, filter-none, all-append, all-weaker}

-- no visit is of this node
abbrev pub IsAbsent : ℕ → List Visit → Type 0
IsAbsent y visits = AllByRecursion (λ (v : Visit). v.node ≢ y) visits

-- each is
abbrev pub AreOf : ℕ → List Visit → Type 0
AreOf x visits = AllByRecursion (λ (v : Visit). v.node ≡ x) visits

pub absent : (y : ℕ) (visits : List Visit) → IsAbsent y visits → visits_of y visits ≡ []
absent y visits h = filter-none (λ (v : Visit). v.node == y) visits (all-weaker (λ (v : Visit). v.node ≢ y) (λ (v : Visit). (v.node == y) ≡ false) visits (λ v d. differs v.node y d) h)

pub present : (x : ℕ) (visits : List Visit) → AreOf x visits → visits_of x visits ≡ visits
present x visits h = filter-all (λ (v : Visit). v.node == x) visits (all-weaker (λ (v : Visit). v.node ≡ x) (λ (v : Visit). (v.node == x) ≡ true) visits (λ v e. equal v.node x e) h)

pub with_asked-all : (P : Visit → Type 0) (made : ℕ → List Visit) (visits : List Visit) → ((i : ℕ) → AllByRecursion P (made i)) → AllByRecursion P visits → AllByRecursion P (with_asked made visits)
with_asked-all P made [] h k = tt
with_asked-all P made (v ∷ visits) h k = search (rules, all-append, (with_asked-all P made visits h k.1))

asked-absent : (y : ℕ) (made : ℕ → List Visit) (v : Visit) → ((i : ℕ) → IsAbsent y (made i)) → visits_of y (asked_of made v) ≡ []
asked-absent y made v h = search (rules, absent)

-- of the node that makes the visits are the visits, where nothing of it was asked
pub with_asked-self : (x : ℕ) (made : ℕ → List Visit) (visits : List Visit) → ((i : ℕ) → IsAbsent x (made i)) → AreOf x visits → visits_of x (with_asked made visits) ≡ visits
with_asked-self x made [] h k = refl
with_asked-self x made (v ∷ visits) h k = search (rules, filter-append, asked-absent, present, (with_asked-self x made visits h k.1))

-- and of another is what was asked
pub with_asked-other : (x y : ℕ) (made : ℕ → List Visit) (visits : List Visit) → x ≢ y → AreOf x visits
    → visits_of y (with_asked made visits) ≡ flat_map (λ (v : Visit). visits_of y (asked_of made v)) visits
with_asked-other x y made [] d k = refl
with_asked-other x y made (v ∷ visits) d k = search (rules, filter-append, absent, append-nil, (with_asked-other x y made visits d k.1))
