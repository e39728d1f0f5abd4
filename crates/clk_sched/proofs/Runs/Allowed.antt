-- Runs, pull by pull: what a tree does in one pull, after those before it.
use Rattle.std.proofs.lemmas.Bool.Decides.{nat_tests}
use Rattle.std.proofs.lemmas.Grind.{common_steps, elements}
use Rattle.std.proofs.Common.{◌≡◌, ℕ, suc, ◌+◌, ◌<◌, Bool, true, List, [], ◌∷◌, ◌++◌, map, refl, reverse, append_assoc, append-nil, ap, ◌∙◌, sym, subst, rules, arith}
use Rattle.std.specs.List.{AllByRecursion, list_any}
use Rattle.std.specs.Bool.{⊤}
use Rattle.std.proofs.lemmas.List.{reverse-append}
use Rattle.clk_packet.specs.declared.packet.Packet.{Packet}
use Rattle.clk_sched.specs.declared.visit.Visit.{Visit}
use Rattle.clk_packet.specs.Scheduler.{Scheduler}
use Rattle.clk_sched.specs.Tree.{Row, end, leaf, node, nodes, width}
use Rattle.clk_sched.specs.Turns.{Turn, EachAfter, all_visits, visits_before, IsPlain, AsksInOrder}
use Rattle.clk_sched.specs.Heads.{LooksAtHeads}
use Rattle.clk_sched.specs.Log.{visits_of, turn, asks, pulls_below}
use Rattle.clk_sched.specs.Laws.{with_heads, manner, Follows, AllowsTurn, Obeys}
use Rattle.clk_sched.specs.Run.{GetsResult}
use Rattle.clk_sched.proofs.Runs.Rows.{EachObeys, EachAllows}
pub use Rattle.clk_sched.specs.inside.Making.{onto}
use Rattle.clk_sched.proofs.Lists.Members.{all-append, each-from_all, each-weaker, each-both, each-mapped, each-filtered}

pub onto-append : {X : Type 0} (xs earlier : List X) → onto xs earlier ≡ reverse xs ++ earlier
onto-append [] earlier = refl
onto-append (x ∷ xs) earlier = onto-append xs (x ∷ earlier) ∙ sym (append_assoc (reverse xs) (x ∷ []) earlier) ∙ ap (λ l. l ++ earlier) (sym (reverse-append (x ∷ []) xs))

pub onto-reverse : {X : Type 0} (xs : List X) → onto xs [] ≡ reverse xs
onto-reverse xs = onto-append xs [] ∙ append-nil (reverse xs)

pub each-split : {X : Type 0} (P : List X → X → Type 0) (earlier us vs : List X) → EachAfter P earlier (us ++ vs) → EachAfter P earlier us × EachAfter P (onto us earlier) vs
each-split P earlier [] vs h = (tt, h)
each-split P earlier (u ∷ us) vs h = let rest = each-split P (u ∷ earlier) us vs h.1 in ((h.0, rest.0), rest.1)

pub each-join : {X : Type 0} (P : List X → X → Type 0) (earlier us vs : List X) → EachAfter P earlier us → EachAfter P (onto us earlier) vs → EachAfter P earlier (us ++ vs)
each-join P earlier [] vs h k = k
each-join P earlier (u ∷ us) vs h k = (h.0, each-join P (u ∷ earlier) us vs h.1 k)

-- visits go to the inputs that there are
abbrev pub AreWithin : ℕ → List Visit → Type 0
AreWithin inputs visits = AllByRecursion (λ (v : Visit). v.input < inputs) visits

pub turns-within : (class : Scheduler) (inputs : ℕ) (earlier turns : List Turn) → EachAfter (AllowsTurn class inputs) earlier turns → AreWithin inputs (all_visits turns)
turns-within class inputs earlier [] h = tt
turns-within class inputs earlier (t ∷ turns) h = all-append (λ (v : Visit). v.input < inputs) t.visits (all_visits turns) h.0.within (turns-within class inputs (t ∷ earlier) turns h.1)

-- each turn of a scheduler is in its manner
pub each-follows : (class : Scheduler) (inputs : ℕ) (turns : List Turn) → Obeys class inputs turns → EachAfter (Follows (manner class inputs) inputs) [] turns
each-follows class inputs turns h = each-weaker (AllowsTurn class inputs) (Follows (manner class inputs) inputs) (λ e t k. k.follows) [] turns h

-- the visits of what holds heads, as one history across its turns
pub turns-look : (turn_of : List Visit → ℕ) (covers : List Visit → ℕ → Packet → Bool) (inputs : ℕ) (earlier turns : List Turn) → EachAfter (Follows (with_heads turn_of covers) inputs) earlier turns
    → EachAfter (LooksAtHeads turn_of covers) (visits_before earlier) (all_visits turns)
turns-look turn_of covers inputs earlier [] h = tt
turns-look turn_of covers inputs earlier (t ∷ turns) h =
    each-join (LooksAtHeads turn_of covers) (visits_before earlier) t.visits (all_visits turns) h.0.0
    (subst (λ e. EachAfter (LooksAtHeads turn_of covers) e (all_visits turns)) (sym (onto-append t.visits (visits_before earlier))) (turns-look turn_of covers inputs (t ∷ earlier) turns h.1))

pub each-allowed : (above first next : ℕ) (row : Row) (pulled : List (List Visit)) → EachObeys above pulled first next row → EachAfter (EachAllows above first next row) [] pulled
each-allowed above first next end pulled h = each-from_all (λ p. ⊤) [] pulled (all pulled)
  where
    all : (ps : List (List Visit)) → AllByRecursion (λ (p : List Visit). ⊤) ps
    all ps = grind (arith, common_steps, elements, nat_tests, each-from_all, each-weaker, each-both, each-filtered, each-mapped)
each-allowed above first next (leaf q row) pulled h = each-allowed above (suc first) next row pulled h
each-allowed above first next (node class inputs row) pulled h =
    each-weaker _ (EachAllows above first next (node class inputs row)) (λ e p both. (λ asked. (both.0.0 asked, both.0.1 asked), both.1.0, both.1.1)) [] pulled
    (each-both _ _ [] pulled (each-both _ _ [] pulled turns (below (each-allowed next 0 (suc next) inputs (pulls_below above first pulled) h.2))) (each-both _ _ [] pulled results (each-allowed above (suc first) (suc (next + nodes inputs)) row pulled h.3)))
  where
    asked : List Visit → Bool
    asked pull = list_any (asks first) (visits_of above pull)

    Allowed : List (List Visit) → List Visit → Type 0
    Allowed e p = AllowsTurn class (width inputs) (map (turn next) e) (turn next p)

    turns : EachAfter (λ e p. asked p ≡ true → Allowed (pulls_below above first e) p) [] pulled
    turns =
        each-filtered Allowed asked [] pulled
        (each-mapped (AllowsTurn class (width inputs)) (turn next) [] (pulls_below above first pulled) h.0)

    below : EachAfter (EachAllows next 0 (suc next) inputs) [] (pulls_below above first pulled)
        → EachAfter (λ e p. asked p ≡ true → EachAllows next 0 (suc next) inputs (pulls_below above first e) p) [] pulled
    below k = each-filtered (EachAllows next 0 (suc next) inputs) asked [] pulled k

    results : EachAfter (λ e p. GetsResult above first next p) [] pulled
    results = each-from_all (GetsResult above first next) [] pulled h.1

-- the device has one visit in a pull, which asks at its one input
pub record IsOneVisit (visits : List Visit) : Type 0 where
  pub visit : Visit
  pub only : visits ≡ visit ∷ []
  pub plain : IsPlain visit
  pub input : visit.input ≡ 0

pub device-visit : (visits : List Visit) → AsksInOrder (0 ∷ []) visits → IsOneVisit visits
device-visit visits h = search rules
