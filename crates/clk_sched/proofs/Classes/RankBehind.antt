-- A rank that is put among others that are in order: where one of them stands before it, so do all before that one.
use Rattle.std.proofs.lemmas.Grind.{common_steps}
use Rattle.std.proofs.Common.{◌≡◌, ℕ, zero, suc, ◌+◌, ◌-◌, ◌<◌, false, List, [], ◌∷◌, ◌++◌, length, take, drop, get_or, sym, ap, ap₂, ◌∙◌, subst, append_assoc, arith}
use Rattle.std.specs.List.{AllByRecursion}
use Rattle.std.proofs.Math.Seq.{paste}
use Rattle.std.proofs.lemmas.List.{drop-drop, get_or-drop, length-append, length-drop, length-take-le}
use Rattle.clk_sched.specs.inside.Ranks.{Ranked, AreUpTo, is_up_to, put_rank}
use Rattle.clk_sched.proofs.Classes.RankLemmas.{StandBefore, put-past}
use Rattle.clk_sched.proofs.Classes.RankMerge.{up-then, parts}

pub all-at : (P : Ranked → Type 0) (others : List Ranked) (n : ℕ) (d : Ranked) → n < length others → AllByRecursion P others → P (get_or others n d)
all-at P others n d l h = grind (arith, common_steps)

-- Where one doesn't stand before the rank at a place, so many stand before it.
pub stand-past : (r : Ranked) (others : List Ranked) (n : ℕ) (d : Ranked) → n < length others → AreUpTo others → is_up_to r (get_or others n d) ≡ false → StandBefore r others (suc n)
stand-past r [] n d l h e = absurd (omega arith)
stand-past r (o ∷ others) zero d l h e = put-past r o others e
stand-past r (o ∷ others) (suc n) d l h e = grind (arith, up-then, all-at, put-past, (stand-past r others n d (omega arith) h.1 e))

-- what is in order is so from a place on
up-after : (n : ℕ) (ranks : List Ranked) → AreUpTo ranks → AreUpTo (drop n ranks)
up-after zero ranks h = h
up-after (suc n) [] h = tt
up-after (suc n) (r ∷ ranks) h = up-after n ranks h.1

-- A rank is to be put behind a place: among those after it, which are in order, it gives these.
pub record IsPutting (target row : List Ranked) (place : ℕ) (r : Ranked) : Type 0 where
  pub within : place < length row
  pub order : AreUpTo (drop (place + 1) row)
  pub same : take place row ++ put_rank r (drop (place + 1) row) ≡ target

-- So many that stand before it were moved.
pub putting-next : (target row now : List Ranked) (place n next : ℕ) (r d : Ranked) → next ≡ place + suc n → next < length row → is_up_to r (get_or row next d) ≡ false → now ≡ paste row place (drop (place + 1) row) (suc n)
    → IsPutting target row place r → IsPutting target now next r
putting-next target row now place n next r d at l test is h =
    record {
      within = omega (arith, size, l);
      order = subst AreUpTo (sym behind) (up-after (suc n) rest h.order);
      same =
          ap₂ (λ xs ys. xs ++ put_rank r ys) front behind
          ∙ append_assoc (take place row) (take (suc n) rest) (put_rank r (drop (suc n) rest))
          ∙ ap (λ xs. take place row ++ xs) (sym past) ∙ h.same;
    }
  where
    rest : List Ranked
    rest = drop (place + 1) row

    rest_size : length rest ≡ length row - (place + 1)
    rest_size = length-drop (place + 1) row

    moved : List Ranked
    moved = take place row ++ take (suc n) rest

    moved_size : length moved ≡ next
    moved_size = let a = length-append (take place row) (take (suc n) rest) in let b = length-take-le place row (omega (arith, at, l)) in let c = length-take-le (suc n) rest (omega (arith, at, l, rest_size)) in omega (arith, a, b, c, at)

    is_moved : now ≡ moved ++ drop next row
    is_moved = is ∙ ap (λ k. moved ++ drop k row) (sym at)

    split : (take next (moved ++ drop next row) ≡ moved) × (drop next (moved ++ drop next row) ≡ drop next row)
    split = parts next moved (drop next row) moved_size

    front : take next now ≡ moved
    front = ap (take next) is_moved ∙ split.0

    behind : drop (next + 1) now ≡ drop (suc n) rest
    behind =
        sym (drop-drop 1 next now) ∙ ap (drop 1) (ap (drop next) is_moved ∙ split.1) ∙ drop-drop 1 next row
        ∙ ap (λ k. drop k row) (let same : next + 1 ≡ place + 1 + suc n = omega (arith, at) in same) ∙ sym (drop-drop (suc n) (place + 1) row)

    size : length now ≡ length row
    size = ap length is_moved ∙ length-append moved (drop next row) ∙ (let a = length-drop next row in omega (arith, a, moved_size, l))

    past : StandBefore r rest (suc n)
    past =
        stand-past r rest n d (omega (arith, at, l, rest_size)) h.order
        (ap (is_up_to r) (get_or-drop (place + 1) row n d ∙ ap (λ k. get_or row k d) (let same : place + 1 + n ≡ next = omega (arith, at) in same)) ∙ test)
