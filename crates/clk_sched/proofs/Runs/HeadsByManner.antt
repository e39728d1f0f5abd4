-- Each manner keeps heads, the first by holding none; and the visits of a turn end where one passed.
use Rattle.std.proofs.Common.{◌≡◌, ℕ, zero, suc, true, List, [], ◌∷◌, None, refl, sym, subst, rules}
use Rattle.std.specs.List.{AllByRecursion}
use Rattle.std.specs.Bool.{⊤}
use Rattle.std.proofs.lemmas.Bool.{false≢true}
use Rattle.clk_sched.specs.declared.visit.Visit.{Visit}
use Rattle.clk_sched.specs.Turns.{Turn, EachAfter, all_visits, IsPlain, UpToFirst}
use Rattle.clk_sched.specs.Heads.{head_at, EndAtPass}
use Rattle.clk_sched.specs.Laws.{Manner, in_order, with_heads, Follows}
use Rattle.clk_sched.proofs.Lists.Members.{all-append, each-weaker}
use Rattle.clk_sched.proofs.Runs.Allowed.{onto, turns-look}
use Rattle.clk_sched.proofs.Runs.Heads.{KeepsHead}

-- a visit that passed is the last
abbrev pub PassesLast : List Visit → Type 0
PassesLast [] = ⊤
PassesLast (v ∷ visits) = (v.passed ≡ true → visits ≡ []) × PassesLast visits

plain-last : (order : List ℕ) (visits : List Visit) → AllByRecursion IsPlain visits → UpToFirst order visits → PassesLast visits
plain-last order [] p h = tt
plain-last [] (v ∷ visits) p h = absurd h
plain-last (i ∷ order) (v ∷ visits) p h = search (rules, false≢true, (plain-last order visits p.1))

heads-last : (left : ℕ) (visits : List Visit) → EndAtPass left visits → PassesLast visits
heads-last zero visits e = subst PassesLast (sym e) tt
heads-last (suc left) [] e = tt
heads-last (suc left) (v ∷ visits) e = search (rules, false≢true, (heads-last left visits))

pub turn-last : (m : Manner) (inputs : ℕ) (earlier : List Turn) (t : Turn) → Follows m inputs earlier t → PassesLast t.visits
turn-last m inputs earlier t h = search (rules, plain-last, heads-last)

turns-plain : (order : List Turn → ℕ → List ℕ) (inputs : ℕ) (earlier turns : List Turn) → EachAfter (Follows (in_order order) inputs) earlier turns → AllByRecursion IsPlain (all_visits turns)
turns-plain order inputs earlier [] h = tt
turns-plain order inputs earlier (t ∷ turns) h = all-append IsPlain t.visits (all_visits turns) h.0.plain (turns-plain order inputs (t ∷ earlier) turns h.1)

-- no input holds a head after these visits
abbrev pub HoldsNone : List Visit → Type 0
HoldsNone earlier = (i : ℕ) → head_at i earlier ≡ None

plain-none : (earlier : List Visit) (v : Visit) → HoldsNone earlier → IsPlain v → HoldsNone (v ∷ earlier)
plain-none earlier v none p i = search rules

plain-keeps : (earlier visits : List Visit) → HoldsNone earlier → AllByRecursion IsPlain visits → EachAfter KeepsHead earlier visits × HoldsNone (onto visits earlier)
plain-keeps earlier [] none h = (tt, none)
plain-keeps earlier (v ∷ visits) none h = search (rules, plain-none, (plain-keeps (v ∷ earlier) visits (plain-none earlier v none h.0) h.1))

in_order-keeps : (order : List Turn → ℕ → List ℕ) (inputs : ℕ) (turns : List Turn) → EachAfter (Follows (in_order order) inputs) [] turns
    → EachAfter KeepsHead [] (all_visits turns) × HoldsNone (onto (all_visits turns) [])
in_order-keeps order inputs turns h = plain-keeps [] (all_visits turns) (λ i. refl) (turns-plain order inputs [] turns h)

pub turns-keep : (m : Manner) (inputs : ℕ) (turns : List Turn) → EachAfter (Follows m inputs) [] turns → EachAfter KeepsHead [] (all_visits turns)
turns-keep (in_order order) inputs turns h = (in_order-keeps order inputs turns h).0
turns-keep (with_heads turn_of covers) inputs turns h = search (rules, each-weaker, turns-look)

pub in_order-holds : (order : List Turn → ℕ → List ℕ) (inputs : ℕ) (turns : List Turn) → EachAfter (Follows (in_order order) inputs) [] turns → HoldsNone (onto (all_visits turns) [])
in_order-holds order inputs turns h = (in_order-keeps order inputs turns h).1
