-- Ranks in order that are put among others in order: it makes no difference which are put first.
use Rattle.std.proofs.lemmas.Grind.{common_steps}
use Rattle.std.proofs.Common.{◌≡◌, ℕ, zero, suc, ◌+◌, ◌-◌, ◌<◌, ◌≤◌, if◌then◌else◌, Bool, true, false, List, [], ◌∷◌, ◌++◌, length, map, take, drop, set, get_or, refl, sym, ap, ap₂, ◌∙◌, subst, append_assoc, arith, rules}
use Rattle.std.specs.List.{AllByRecursion}
use Rattle.std.proofs.Math.Seq.{paste, take-add}
use Rattle.std.proofs.lemmas.List.{length-append, length-take-le, drop-take, take-append-drop}
use Rattle.clk_sched.specs.inside.Ranks.{Ranked, with_pass, IsBefore, AreInOrder, AreUpTo, is_up_to, put_rank, put_all, at_pass, after_win}
use Rattle.clk_sched.specs.inside.Rising.{put_in_order}
use Rattle.clk_sched.proofs.Lists.Members.{all-weaker}
use Rattle.clk_sched.proofs.Lists.Rising.{put-put}
use Rattle.clk_sched.proofs.Classes.RankLemmas.{put-here, put-holds, front-kept, win-each}
use Rattle.clk_sched.proofs.Classes.StridePasses.{put-pairs}

-- a rank, of its pair
abbrev as_rank : ℕ × ℕ → Ranked
as_rank i = record { pass = i.1; input = i.0 }

unpaired : (ranks : List Ranked) → map as_rank (map (with_pass 0) ranks) ≡ ranks
unpaired [] = refl
unpaired (r ∷ ranks) = ap₂ (λ (pass : ℕ) (xs : List Ranked). record { pass = pass; input = r.input } ∷ xs) (let none : r.pass + 0 ≡ r.pass = omega arith in none) (unpaired ranks)

-- Of two ranks it makes no difference which is put first.
put-two : (r s : Ranked) (others : List Ranked) → put_rank r (put_rank s others) ≡ put_rank s (put_rank r others)
put-two r s others = sym (unpaired (put_rank r (put_rank s others))) ∙ ap (map as_rank) pairs ∙ unpaired (put_rank s (put_rank r others))
  where
    both : (r s : Ranked) → map (with_pass 0) (put_rank r (put_rank s others)) ≡ put_in_order (with_pass 0 r) (put_in_order (with_pass 0 s) (map (with_pass 0) others))
    both r s = put-pairs 0 r (put_rank s others) ∙ ap (put_in_order (with_pass 0 r)) (put-pairs 0 s others)

    pairs : map (with_pass 0) (put_rank r (put_rank s others)) ≡ map (with_pass 0) (put_rank s (put_rank r others))
    pairs = both r s ∙ put-put (with_pass 0 r) (with_pass 0 s) (map (with_pass 0) others) ∙ sym (both s r)

put-later : (r : Ranked) (ranks others : List Ranked) → put_all ranks (put_rank r others) ≡ put_rank r (put_all ranks others)
put-later r [] others = refl
put-later r (s ∷ ranks) others = ap (put_rank s) (put-later r ranks others) ∙ put-two s r (put_all ranks others)

-- One that is put among those that are to be put is put itself.
pub put-among : (r : Ranked) (ranks others : List Ranked) → put_all (put_rank r ranks) others ≡ put_all ranks (put_rank r others)
put-among r [] others = refl
put-among r (s ∷ ranks) others = by_test (is_up_to r s) (put-among r ranks others)
  where
    by_test : (b : Bool) → put_all (put_rank r ranks) others ≡ put_all ranks (put_rank r others) → put_all (if b then r ∷ s ∷ ranks else s ∷ put_rank r ranks) others ≡ put_rank s (put_all ranks (put_rank r others))
    by_test true rest = sym (put-later r (s ∷ ranks) others)
    by_test false rest = ap (put_rank s) rest

pub up-then : (r s o : Ranked) → is_up_to r s ≡ true → is_up_to s o ≡ true → is_up_to r o ≡ true
up-then r s o e f = search rules

-- Ranks that are in order stay so when one is put among them.
pub put-up : (r : Ranked) (others : List Ranked) → AreUpTo others → AreUpTo (put_rank r others)
put-up r [] h = (tt, tt)
put-up r (s ∷ others) h = search (rules, all-weaker, up-then, put-holds, (put-up r others h.1))

before-up : (r s : Ranked) → IsBefore r s → is_up_to r s ≡ true
before-up r s h = grind arith

pub in_order-up : (ranks : List Ranked) → AreInOrder ranks → AreUpTo ranks
in_order-up [] h = tt
in_order-up (r ∷ ranks) h = (all-weaker (IsBefore r) (λ o. is_up_to r o ≡ true) ranks (λ o k. before-up r o k) h.0, in_order-up ranks h.1)

-- one that stands before others in order stays before them
pub first-stays : (r : Ranked) (others : List Ranked) → AllByRecursion (λ (o : Ranked). is_up_to r o ≡ true) others → put_rank r others ≡ r ∷ others
first-stays r [] h = refl
first-stays r (o ∷ others) h = put-here r o others h.0

-- Ranks in order stay where they are in front of others where the last of them does.
pub all-stay : (ranks others : List Ranked) (d : Ranked) (k : ℕ) → length ranks ≡ suc k → AreUpTo ranks → put_rank (get_or ranks k d) others ≡ get_or ranks k d ∷ others → put_all ranks others ≡ ranks ++ others
all-stay [] others d k l h last = absurd (omega (arith, l))
all-stay (r ∷ []) others d zero l h last = last
all-stay (r ∷ []) others d (suc k) l h last = absurd (omega (arith, l))
all-stay (r ∷ s ∷ ranks) others d zero l h last = absurd (omega (arith, l))
all-stay (r ∷ s ∷ ranks) others d (suc k) l h last = ap (put_rank r) (all-stay (s ∷ ranks) others d k (omega (arith, l)) h.1 last) ∙ put-here r s (ranks ++ others) h.0.0

pub put-size : (r : Ranked) (others : List Ranked) → length (put_rank r others) ≡ suc (length others)
put-size r [] = refl
put-size r (o ∷ others) = search (rules, (put-size r others))

-- two lists, one after the other
pub parts : (n : ℕ) (xs ys : List Ranked) → length xs ≡ n → (take n (xs ++ ys) ≡ xs) × (drop n (xs ++ ys) ≡ ys)
parts n xs ys l = grind (arith, common_steps)

-- The ranks before a place and those from it on are in order, and give these when the former are put among the latter.
pub record AreMerging (target row : List Ranked) (place : ℕ) : Type 0 where
  pub front : AreUpTo (take place row)
  pub back : AreUpTo (drop place row)
  pub same : put_all (take place row) (drop place row) ≡ target

-- The rank at the place was put among those before it.
pub merging-next : (target row now : List Ranked) (place next : ℕ) (r : Ranked) → next ≡ suc place → place ≤ length row → drop place row ≡ r ∷ drop next row → now ≡ put_rank r (take place row) ++ drop next row → AreMerging target row place
    → AreMerging target now next
merging-next target row now place next r after l here is h =
    record {
      front = subst AreUpTo (sym (ap (take next) is ∙ split.0)) (put-up r (take place row) h.front);
      back = subst AreUpTo (sym (ap (drop next) is ∙ split.1)) order.1;
      same = ap₂ put_all (ap (take next) is ∙ split.0) (ap (drop next) is ∙ split.1) ∙ put-among r (take place row) (drop next row) ∙ ap (put_all (take place row)) (first-stays r (drop next row) order.0 ∙ sym here) ∙ h.same;
    }
  where
    order : AreUpTo (r ∷ drop next row)
    order = subst AreUpTo here h.back

    split : (take next (put_rank r (take place row) ++ drop next row) ≡ put_rank r (take place row)) × (drop next (put_rank r (take place row) ++ drop next row) ≡ drop next row)
    split = parts next (put_rank r (take place row)) (drop next row) (put-size r (take place row) ∙ (let size = length-take-le place row l in omega (arith, after, size)))

set-front : (k : ℕ) (row ys zs : List Ranked) (r : Ranked) → k < length row → set ((take (suc k) row ++ ys) ++ zs) k r ≡ take k row ++ r ∷ (ys ++ zs)
set-front k [] ys zs r l = absurd (omega arith)
set-front zero (x ∷ row) ys zs r l = refl
set-front (suc k) (x ∷ row) ys zs r l = ap (λ xs. x ∷ xs) (set-front k row ys zs r (omega arith))

-- A rank is put among those before it, and those that it stands before move up.
pub put-fronted : (r : Ranked) (row : List Ranked) (from before : ℕ) → from < length row → before ≤ length (take from row) → put_rank r (take from row) ≡ take before (take from row) ++ r ∷ drop before (take from row)
    → set (paste row (before + 1) (drop before row) (from - before)) before r ≡ put_rank r (take from row) ++ drop (from + 1) row
put-fronted r row from before l m put =
    ap₂ (λ a b. set ((take a row ++ take moved (drop before row)) ++ drop b row) before r) next end
    ∙ set-front before row (take moved (drop before row)) (drop (from + 1) row) r (omega (arith, l, m, size))
    ∙ ap₂ (λ xs ys. xs ++ r ∷ (ys ++ drop (from + 1) row)) (sym front) (sym rest)
    ∙ sym (append_assoc (take before (take from row)) (r ∷ drop before (take from row)) (drop (from + 1) row))
    ∙ ap (λ xs. xs ++ drop (from + 1) row) (sym put)
  where
    moved : ℕ
    moved = from - before

    size : length (take from row) ≡ from
    size = length-take-le from row (omega arith)

    next : before + 1 ≡ suc before
    next = omega arith

    end : before + 1 + moved ≡ from + 1
    end = omega (arith, m, size)

    whole : from ≡ before + moved
    whole = omega (arith, m, size)

    front : take before (take from row) ≡ take before row
    front = ap (λ n. take before (take n row)) whole ∙ ap (take before) (take-add before moved row) ∙ (front-kept before row (take moved (drop before row)) (omega (arith, l, m, size))).0

    rest : drop before (take from row) ≡ take moved (drop before row)
    rest = ap (λ n. drop before (take n row)) whole ∙ drop-take before moved row

get-front : (n k : ℕ) (row : List Ranked) (d : Ranked) → k < n → get_or (take n row) k d ≡ get_or row k d
get-front n k row d l = grind (arith, common_steps)

-- No rank is left that stands before the last of those before the place.
pub merging-end : (target row : List Ranked) (place k : ℕ) (d : Ranked) → place ≡ suc k → place ≤ length row → put_rank (get_or row k d) (drop place row) ≡ get_or row k d ∷ drop place row → AreMerging target row place → row ≡ target
merging-end target row place k d after l last h =
    sym (take-append-drop place row)
    ∙ sym (all-stay (take place row) (drop place row) d k (length-take-le place row l ∙ after) h.front (subst (λ r. put_rank r (drop place row) ≡ r ∷ drop place row) (sym (get-front place k row d (omega (arith, after)))) last))
    ∙ h.same

-- The winner of a row was put in its place, and those before it have 0.
pub record IsPassed (stride place : ℕ) (row now : List Ranked) : Type 0 where
  pub within : place ≤ length now
  pub front : AreUpTo (take place now)
  pub back : AreUpTo (drop place now)
  pub won : put_all (take place now) (drop place now) ≡ after_win 0 stride place row

pub passed : (stride place : ℕ) (row put : List Ranked) (winner d : Ranked) → place < length row → AreInOrder (take place row) → AreUpTo (drop (place + 1) row) → winner ≡ at_pass stride (get_or row place d)
    → put ≡ take place row ++ put_rank winner (drop (place + 1) row) → map (at_pass 0) (take place put) ≡ take place put → IsPassed stride place row put
passed stride place row put winner d l order behind won is zero_now =
    record {
      within = let all = ap length is ∙ length-append (take place row) (put_rank winner (drop (place + 1) row)) in let size = length-take-le place row (omega arith) in omega (arith, all, size);
      front = subst AreUpTo (sym front) (in_order-up (take place row) order);
      back = subst AreUpTo (sym back) (put-up winner (drop (place + 1) row) behind);
      won =
          ap₂ put_all (sym zero_now ∙ ap (map (at_pass 0)) front) (back ∙ ap₂ (λ w n. put_rank w (drop n row)) (won ∙ ap (λ n. at_pass n (get_or row place d)) (let same : stride ≡ 0 + stride = omega arith in same)) (let next : place + 1 ≡ suc place = omega arith in next))
          ∙ sym (win-each 0 stride place row d l);
    }
  where
    kept : (take place (take place row ++ put_rank winner (drop (place + 1) row)) ≡ take place row) × (drop place (take place row ++ put_rank winner (drop (place + 1) row)) ≡ put_rank winner (drop (place + 1) row))
    kept = front-kept place row (put_rank winner (drop (place + 1) row)) (omega arith)

    front : take place put ≡ take place row
    front = ap (take place) is ∙ kept.0

    back : drop place put ≡ put_rank winner (drop (place + 1) row)
    back = ap (drop place) is ∙ kept.1
