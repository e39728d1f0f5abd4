-- The ranks of a row in a pull: the winner's pass is subtracted before the winner is put in its place.
use Rattle.std.proofs.Common.{◌≡◌, ℕ, zero, suc, ◌+◌, ◌-◌, ◌<◌, ◌≤◌, true, List, [], ◌∷◌, ◌++◌, length, map, take, drop, get_or, refl, sym, ap, ap₂, ◌∙◌, subst, arith, drop-cons, append-nil, rules}
use Rattle.std.specs.List.{All, AllByRecursion}
use Rattle.std.proofs.lemmas.List.Elements.{All-from_recursion}
use Rattle.std.proofs.Math.ListN.{drop_of_length-le}
use borrow.Rule.Slice.PartMut.{put_mid}
use Rattle.std.proofs.lemmas.List.{drop-drop, length-append, length-drop, length-map, length-take-le}
use Rattle.clk_sched.specs.inside.Ranks.{Ranked, HasRisingPasses, AreInOrder, AreUpTo, is_up_to, put_rank, at_pass, after_win, first_pass, from_least, less}
use Rattle.clk_sched.proofs.Classes.RankLemmas.{after-place, put-holds, put-some, first-least, less-rises, win-rises, beyond-place, in_order-rises, in_order-front, in_order-after, front-kept}
use Rattle.clk_sched.proofs.Classes.RankMerge.{in_order-up}

-- Subtracting as much from all passes changes no order.
up-less : (least : ℕ) (r o : Ranked) → least ≤ r.pass → least ≤ o.pass → is_up_to r o ≡ is_up_to (less least r) (less least o)
up-less least r o l m = search rules

less-put : (least : ℕ) (r : Ranked) (others : List Ranked) → least ≤ r.pass → AllByRecursion (λ (o : Ranked). least ≤ o.pass) others → map (less least) (put_rank r others) ≡ put_rank (less least r) (map (less least) others)
less-put least r [] l h = refl
less-put least r (o ∷ others) l h = search (rules, up-less, (less-put least r others l h.1))

pub less-up : (least : ℕ) (ranks : List Ranked) → AllByRecursion (λ (o : Ranked). least ≤ o.pass) ranks → AreUpTo ranks → AreUpTo (map (less least) ranks)
less-up least [] l h = tt
less-up least (r ∷ ranks) l h = (all-up ranks l.1 h.0, less-up least ranks l.1 h.1)
  where
    all-up : (others : List Ranked) → AllByRecursion (λ (o : Ranked). least ≤ o.pass) others → AllByRecursion (λ (o : Ranked). is_up_to r o ≡ true) others → AllByRecursion (λ (o : Ranked). is_up_to (less least r) o ≡ true) (map (less least) others)
    all-up [] m k = tt
    all-up (o ∷ others) m k = (sym (up-less least r o l.0 m.0) ∙ k.0, all-up others m.1 k.1)

all-least : (pass stride place : ℕ) (row : List Ranked) → AllByRecursion (λ (r : Ranked). pass ≤ r.pass) (drop (suc place) row) → AllByRecursion (λ (r : Ranked). pass ≤ r.pass) (after_win pass stride place row)
all-least pass stride zero [] h = tt
all-least pass stride (suc place) [] h = tt
all-least pass stride zero (r ∷ others) h = put-holds (λ (o : Ranked). pass ≤ o.pass) (at_pass (pass + stride) r) others (omega arith) h
all-least pass stride (suc place) (r ∷ others) h = put-holds (λ (o : Ranked). pass ≤ o.pass) (at_pass pass r) (after_win pass stride place others) (omega arith) (all-least pass stride place others h)

-- The winner's pass may be subtracted before the winner is put in its place: from those from its place on, since the others get that pass.
less-win : (pass stride place : ℕ) (row : List Ranked) → AllByRecursion (λ (r : Ranked). pass ≤ r.pass) (drop (suc place) row)
    → map (less pass) (after_win pass stride place row) ≡ after_win 0 stride place (take place row ++ map (less pass) (drop place row))
less-win pass stride zero [] h = refl
less-win pass stride (suc place) [] h = refl
less-win pass stride zero (r ∷ others) h = search (rules, less-put)
less-win pass stride (suc place) (r ∷ others) h = search (rules, less-put, all-least, (less-win pass stride place others h))

-- What was subtracted before is subtracted from the least too.
less-again : (least : ℕ) (ranks : List Ranked) → least ≤ first_pass ranks → from_least (map (less least) ranks) ≡ from_least ranks
less-again least [] l = refl
less-again least (r ∷ ranks) l = both (r ∷ ranks)
  where
    both : (xs : List Ranked) → map (less (r.pass - least)) (map (less least) xs) ≡ map (less r.pass) xs
    both [] = refl
    both (x ∷ xs) = ap₂ (λ y ys. y ∷ ys) (ap (λ pass. at_pass pass x) (let same : x.pass - least - (r.pass - least) ≡ x.pass - r.pass = omega (arith, l) in same)) (both xs)

first-holds : (least : ℕ) (ranks : List Ranked) → 0 < length ranks → AllByRecursion (λ (r : Ranked). least ≤ r.pass) ranks → least ≤ first_pass ranks
first-holds least ranks l h = search rules

win-some : (pass stride place : ℕ) (row : List Ranked) → place < length row → 0 < length (after_win pass stride place row)
win-some pass stride place [] l = absurd (omega arith)
win-some pass stride place (r ∷ others) l = search (rules, put-some)

-- the row of which the winner's pass was subtracted from its place on
abbrev pub taken_from : ℕ → ℕ → List Ranked → List Ranked
taken_from pass place row = take place row ++ map (less pass) (drop place row)

-- what is known of that row
pub record IsTaken (pass stride place : ℕ) (row : List Ranked) : Type 0 where
  pub within : place < length (taken_from pass place row)
  pub front : AreInOrder (take place (taken_from pass place row))
  pub back : AreUpTo (drop (place + 1) (taken_from pass place row))
  pub least : AllByRecursion (λ (r : Ranked). first_pass (after_win 0 stride place (taken_from pass place row)) ≤ r.pass) (after_win 0 stride place (taken_from pass place row))
  pub same : from_least (after_win 0 stride place (taken_from pass place row)) ≡ from_least (after_win pass stride place row)

pub taken : (pass stride place : ℕ) (row : List Ranked) (d : Ranked) → place < length row → (get_or row place d).pass ≡ pass → AreInOrder row → IsTaken pass stride place row
taken pass stride place row d l e order =
    record {
      within = let all = length-append (take place row) (map (less pass) (drop place row)) in let front = length-take-le place row (omega arith) in let back = length-map (drop place row) (less pass) in let size = length-drop place row in omega (arith, all, front, back, size, l);
      front = subst AreInOrder (sym kept.0) (in_order-front place row order);
      back = subst AreUpTo (sym behind) (less-up pass (drop (suc place) row) beyond (in_order-up (drop (suc place) row) (in_order-after (suc place) row order)));
      least = subst (λ xs. AllByRecursion (λ (r : Ranked). first_pass xs ≤ r.pass) xs) won (first-least (map (less pass) (after_win pass stride place row)) (less-rises pass (after_win pass stride place row) (win-rises pass stride place row rises)));
      same = ap from_least (sym won) ∙ less-again pass (after_win pass stride place row) (first-holds pass (after_win pass stride place row) (win-some pass stride place row l) (all-least pass stride place row beyond));
    }
  where
    rises : HasRisingPasses row
    rises = in_order-rises row order

    beyond : AllByRecursion (λ (r : Ranked). pass ≤ r.pass) (drop (suc place) row)
    beyond = subst (λ p. AllByRecursion (λ (r : Ranked). p ≤ r.pass) (drop (suc place) row)) e (beyond-place row place d l rises)

    kept : (take place (taken_from pass place row) ≡ take place row) × (drop place (taken_from pass place row) ≡ map (less pass) (drop place row))
    kept = front-kept place row (map (less pass) (drop place row)) (omega arith)

    won : map (less pass) (after_win pass stride place row) ≡ after_win 0 stride place (taken_from pass place row)
    won = less-win pass stride place row beyond

    behind : drop (place + 1) (taken_from pass place row) ≡ map (less pass) (drop (suc place) row)
    behind = sym (drop-drop 1 place (taken_from pass place row)) ∙ ap (drop 1) (kept.1 ∙ ap (map (less pass)) (drop-cons row place d l))

-- the same row, as a slice that was changed from a place on
pub taken-slice : (pass place : ℕ) (row less_now : List Ranked) → less_now ≡ map (less pass) (take (length row - place) (drop place row)) → put_mid place (length row - place) row less_now ≡ taken_from pass place row
taken-slice pass place row less_now e = search (rules, after-place, drop_of_length-le, length-drop, append-nil)

-- No rank from a place on has a lower pass than the one there.
pub none-lower : (row : List Ranked) (place : ℕ) (d : Ranked) → place < length row → AreInOrder row → All (λ (r : Ranked). (get_or row place d).pass ≤ r.pass) (take (length row - place) (drop place row))
none-lower row place d l order =
    subst (All (λ (r : Ranked). (get_or row place d).pass ≤ r.pass)) (sym (after-place row place ∙ drop-cons row place d l))
    (All-from_recursion (λ (r : Ranked). (get_or row place d).pass ≤ r.pass) (get_or row place d ∷ drop (suc place) row) (omega arith, beyond-place row place d l (in_order-rises row order)))
