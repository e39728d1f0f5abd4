-- What a node got at an input is what it passed from there, and then the head that it holds.
use Rattle.std.proofs.lemmas.Bool.Decides.{nat_tests}
use Rattle.std.proofs.lemmas.Grind.{common_steps, elements}
use Rattle.std.proofs.Common.{◌≡◌, ℕ, ◌<◌, ◌≤◌, ◌==◌, ◌&&◌, if◌then◌else◌, Bool, true, not, List, [], ◌∷◌, ◌++◌, reverse, Option, Some, is_some, MatchOption, refl, sym, ap, ap₂, ◌∙◌, append_assoc, append-nil, arith, rules}
use Rattle.std.specs.List.{flat_map, AllByRecursion}
use Rattle.std.specs.Bool.{⊤}
use Rattle.std.proofs.lemmas.Bool.{false≢true}
use Rattle.clk_sched.specs.declared.visit.Visit.{Visit}
use Rattle.clk_sched.specs.Turns.{EachAfter}
use Rattle.clk_sched.specs.Heads.{head_at}
use Rattle.clk_sched.specs.Log.{asks}
use Rattle.clk_sched.specs.Results.{Traced, traced, up_to, latest_origin}
use Rattle.clk_sched.proofs.Runs.Allowed.{onto, onto-reverse}

-- A visit after earlier ones, the latest first, asks where no head is held at its input, and looks at the head where one is.
pub record KeepsHead (earlier : List Visit) (v : Visit) : Type 0 where
  pub fresh : v.fresh ≡ not (is_some (head_at v.input earlier))
  pub looks : MatchOption (head_at v.input earlier) ⊤ (λ p. v.got ≡ Some p)

-- what a visit got by asking at an input, with its origin by the pull
abbrev pub got_by : (ℕ → Option ℕ) → ℕ → Visit → List Traced
got_by origin i v = if asks i v then traced v.got (origin v.pull) else []

abbrev passed_after : (ℕ → Option ℕ) → ℕ → List Visit → List Visit → List Traced
passed_after origin i earlier [] = []
passed_after origin i earlier (v ∷ visits) =
    (if v.passed && (v.input == i) then traced v.got (latest_origin origin i (v ∷ earlier)) else []) ++ passed_after origin i (v ∷ earlier) visits

-- what is held at an input after visits, the latest first
abbrev pub held_in : (ℕ → Option ℕ) → ℕ → List Visit → List Traced
held_in origin i latest = traced (head_at i latest) (latest_origin origin i latest)

-- what was held and then got at an input is what is passed from there and then held
visits-keep : (origin : ℕ → Option ℕ) (i : ℕ) (earlier visits : List Visit) → EachAfter KeepsHead earlier visits
    → held_in origin i earlier ++ flat_map (got_by origin i) visits ≡ passed_after origin i earlier visits ++ held_in origin i (onto visits earlier)
visits-keep origin i earlier [] h = append-nil (held_in origin i earlier)
visits-keep origin i earlier (v ∷ visits) h = search (rules, append_assoc, onto, (visits-keep origin i (v ∷ earlier) visits h.1))

-- Later visits are of no earlier pull, and after one that passed of a later pull.
pub record IsLater (v w : Visit) : Type 0 where
  pub pull : v.pull ≤ w.pull
  pub passed : v.passed ≡ true → v.pull < w.pull

abbrev pub IsOrdered : List Visit → Type 0
IsOrdered [] = ⊤
IsOrdered (v ∷ visits) = AllByRecursion (IsLater v) visits × IsOrdered visits

-- visits of pulls up to one
abbrev UpTo : ℕ → List Visit → Type 0
UpTo k visits = AllByRecursion (λ (v : Visit). v.pull ≤ k) visits

-- Visits that are all of pulls up to one stay where those up to it are taken, and later ones go.
up_to-all : (k : ℕ) (earlier : List Visit) → UpTo k earlier → up_to k earlier ≡ earlier
up_to-all k [] h = refl
up_to-all k (v ∷ earlier) h = search (rules, false≢true, (up_to-all k earlier h.1))

up_to-past : (k : ℕ) (later earlier : List Visit) → AllByRecursion (λ (v : Visit). k < v.pull) later → up_to k (onto later earlier) ≡ up_to k earlier
up_to-past k [] earlier h = refl
up_to-past k (v ∷ later) earlier h = search (rules, false≢true, (up_to-past k later (v ∷ earlier) h.1))

-- what a visit passed from an input, with its origin by the pull in which it was asked for, in a whole history with the latest first
abbrev pub passed_by : (ℕ → Option ℕ) → ℕ → List Visit → Visit → List Traced
passed_by origin i latest v = if v.passed && (v.input == i) then traced v.got (latest_origin origin i (up_to v.pull latest)) else []

-- each visit is of no earlier pull than those before it
abbrev Behind : List Visit → List Visit → Type 0
Behind earlier visits = AllByRecursion (λ (v : Visit). UpTo v.pull earlier) visits

behind-more : (v : Visit) (earlier visits : List Visit) → Behind earlier visits → AllByRecursion (IsLater v) visits → Behind (v ∷ earlier) visits
behind-more v earlier [] h k = tt
behind-more v earlier (w ∷ visits) h k = ((k.0.pull, h.0), behind-more v earlier visits h.1 k.1)

behind-none : (visits : List Visit) → Behind [] visits
behind-none visits = grind (arith, common_steps, elements, nat_tests)

passed-whole : (origin : ℕ → Option ℕ) (i : ℕ) (earlier visits : List Visit) → Behind earlier visits → IsOrdered visits
    → passed_after origin i earlier visits ≡ flat_map (passed_by origin i (onto visits earlier)) visits
passed-whole origin i earlier [] behind ordered = refl
passed-whole origin i earlier (v ∷ visits) behind ordered =
    ap₂ (λ l m. l ++ m) (by_passed v.passed (v.input == i) known) (passed-whole origin i (v ∷ earlier) visits (behind-more v earlier visits behind.1 ordered.0) ordered.1)
  where
    by_passed : (b c : Bool) → (b ≡ true → v ∷ earlier ≡ up_to v.pull (onto visits (v ∷ earlier)))
        → (if b && c then traced v.got (latest_origin origin i (v ∷ earlier)) else []) ≡ (if b && c then traced v.got (latest_origin origin i (up_to v.pull (onto visits (v ∷ earlier)))) else [])
    by_passed b c e = search rules

    later : v.passed ≡ true → (ws : List Visit) → AllByRecursion (IsLater v) ws → AllByRecursion (λ (w : Visit). v.pull < w.pull) ws
    later e [] h = tt
    later e (w ∷ ws) h = (h.0.passed e, later e ws h.1)

    known : v.passed ≡ true → v ∷ earlier ≡ up_to v.pull (onto visits (v ∷ earlier))
    known e = sym (up_to-past v.pull visits (v ∷ earlier) (later e visits ordered.0) ∙ up_to-all v.pull (v ∷ earlier) (omega arith, behind.0))

-- What a node got at an input over a history, in order, is what it passed from there, and then what it holds there.
pub got-passed_and_held : (origin : ℕ → Option ℕ) (i : ℕ) (visits : List Visit) → EachAfter KeepsHead [] visits → IsOrdered visits
    → flat_map (got_by origin i) visits ≡ flat_map (passed_by origin i (reverse visits)) visits ++ held_in origin i (reverse visits)
got-passed_and_held origin i visits keeps ordered =
    visits-keep origin i [] visits keeps ∙ ap (λ l. l ++ held_in origin i (onto visits [])) (passed-whole origin i [] visits (behind-none visits) ordered)
    ∙ ap (λ latest. flat_map (passed_by origin i latest) visits ++ held_in origin i latest) (onto-reverse visits)
