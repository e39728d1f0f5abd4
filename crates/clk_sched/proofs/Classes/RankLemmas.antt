-- The ranks of a StrideSched: how they are put in their places, and what stays true of them.
use Rattle.std.proofs.lemmas.Grind.{common_steps}
use Rattle.std.proofs.Common.{◌≡◌, ℕ, zero, suc, ◌+◌, ◌-◌, ◌<◌, ◌≤◌, if◌then◌else◌, Bool, true, false, List, [], ◌∷◌, ◌++◌, length, map, take, drop, set, get_or, slice_get, Some, refl, sym, ap, ap₂, ◌∙◌, subst, append_assoc, arith, drop-cons, rules}
use Rattle.std.specs.List.{AllByRecursion, range_with_len}
use Rattle.std.proofs.lemmas.Bool.Decides.{nat_tests}
use Rattle.std.proofs.Math.Seq.{paste, set_at, length_paste_head, take-suc}
use Rattle.std.proofs.Math.ListN.{drop_of_length-le}
use Rattle.std.proofs.lemmas.List.{drop-drop, drop-map, get_or-drop, get_or_default, length-drop, set_split, take_all}
use Rattle.std.proofs.lemmas.List.Edits.{drop-paste}
use Rattle.std.proofs.lemmas.Option.{slice_get_within, get_or_from_slice_get}
use Rattle.clk_sched.specs.inside.Ranks.{Ranked, greatest_stride, IsRankOf, FollowOneAnother, HasRisingPasses, IsBefore, AreInOrder, is_up_to, put_rank, put_all, at_pass, after_win, first_pass, from_least, less, inputs_in}
use Rattle.clk_sched.proofs.Lists.Members.{all-weaker}
use Rattle.clk_sched.proofs.Lists.Apart.{all-map}

-- a rank that stands before all others
pub put-here : (r other : Ranked) (others : List Ranked) → is_up_to r other ≡ true → put_rank r (other ∷ others) ≡ r ∷ other ∷ others
put-here r other others e = ap (λ b. if b then r ∷ other ∷ others else other ∷ put_rank r others) e

-- a rank that was read, at another default
pub read-at : (row : List Ranked) (i : ℕ) (r d : Ranked) → i < length row → r ≡ get_or row i r → r ≡ get_or row i d
read-at row i r d l is = is ∙ get_or_default row i r d l

-- the row from a place on
pub from-place : (row : List Ranked) (place : ℕ) (d r : Ranked) → place < length row → r ≡ get_or row place d → drop place row ≡ r ∷ drop (suc place) row
from-place row place d r l e = drop-cons row place d l ∙ ap (λ x. x ∷ drop (suc place) row) (sym e)

-- Of ranks in order so many stand before one that is put among them.
abbrev pub StandBefore : Ranked → List Ranked → ℕ → Type 0
StandBefore r row n = put_rank r row ≡ take n row ++ put_rank r (drop n row)

pub put-past : (r other : Ranked) (others : List Ranked) → is_up_to r other ≡ false → put_rank r (other ∷ others) ≡ other ∷ put_rank r others
put-past r other others e = ap (λ b. if b then r ∷ other ∷ others else other ∷ put_rank r others) e

pub before-next : (r : Ranked) (row : List Ranked) (n : ℕ) (d other : Ranked) → n < length row → other ≡ get_or row n d → is_up_to r other ≡ false → StandBefore r row n → StandBefore r row (n + 1)
before-next r row n d other l at test so = grind (arith, common_steps, from-place, put-past, append_assoc, take-suc)

pub before-found : (r : Ranked) (row : List Ranked) (n : ℕ) (d other : Ranked) → n < length row → other ≡ get_or row n d → is_up_to r other ≡ true → StandBefore r row n → put_rank r row ≡ take n row ++ r ∷ drop n row
before-found r row n d other l at test so = search (rules, from-place, put-here)

pub before-all : (r : Ranked) (row : List Ranked) (n : ℕ) → length row ≤ n → StandBefore r row n → put_rank r row ≡ take n row ++ r ∷ drop n row
before-all r row n l so = let none = drop_of_length-le row l in so ∙ ap (λ x. take n row ++ x) (ap (put_rank r) none ∙ ap (λ x. r ∷ x) (sym none))

-- A rank is put in its place, and those before it move down.
pub put-moved : (r : Ranked) (row : List Ranked) (from before : ℕ) → from < length row → before ≤ length (drop (from + 1) row) → put_rank r (drop (from + 1) row) ≡ take before (drop (from + 1) row) ++ r ∷ drop before (drop (from + 1) row)
    → set (paste row from (drop (from + 1) row) before) (from + before) r ≡ take from row ++ put_rank r (drop (from + 1) row)
put-moved r row from before l m put =
    ap (λ x. set (front ++ x) (from + before) r) (drop-cons row (from + before) r (let all = length-drop (from + 1) row in omega (arith, all)))
    ∙ set_at front (get_or row (from + before) r) (drop (suc (from + before)) row) r (from + before) (length_paste_head row from rest before (omega arith) m)
    ∙ ap (λ x. front ++ r ∷ x) (ap (λ k. drop k row) (let same : suc (from + before) ≡ from + 1 + before = omega arith in same) ∙ sym (drop-drop before (from + 1) row))
    ∙ append_assoc (take from row) (take before rest) (r ∷ drop before rest)
    ∙ ap (λ x. take from row ++ x) (sym put)
  where
    rest : List Ranked
    rest = drop (from + 1) row

    front : List Ranked
    front = take from row ++ take before rest

-- Of a row whose ranks after a place moved down, so many so far: the next that may move.
pub next-moved : (row : List Ranked) (from k : ℕ) (d : Ranked) → from + k + 1 < length row → get_or (paste row from (drop (from + 1) row) k) (from + k + 1) d ≡ get_or (drop (from + 1) row) k d
next-moved row from k d l = grind (arith, common_steps, length-drop, get_or-drop, paste, drop-paste)

-- A rank stays in its place.
pub put-first : (r : Ranked) (row : List Ranked) (from : ℕ) → from < length row → put_rank r (drop (from + 1) row) ≡ r ∷ drop (from + 1) row → set row from r ≡ take from row ++ put_rank r (drop (from + 1) row)
put-first r row from l first = search (rules, set_split)

-- the row from a place on, where it is known what stands there
from-rank : (row : List Ranked) (n : ℕ) (r : Ranked) → slice_get row n ≡ Some r → drop n row ≡ r ∷ drop (suc n) row
from-rank row n r e = from-place row n r r (slice_get_within row n r e) (sym (get_or_from_slice_get row n r r e))

-- A rank stays in its place, since it stands before the next.
pub put-next : (r next : Ranked) (row : List Ranked) (from : ℕ) → slice_get row (from + 1) ≡ Some next → is_up_to r next ≡ true → set row from r ≡ take from row ++ put_rank r (drop (from + 1) row)
put-next r next row from e test = search (rules, from-rank, put-first, slice_get_within, put-here)

pub put-some : (r : Ranked) (others : List Ranked) → 0 < length (put_rank r others)
put-some r [] = omega arith
put-some r (other ∷ others) = search rules

-- what stands after a place, as a slice has it
pub after-place : (row : List Ranked) (n : ℕ) → take (length row - n) (drop n row) ≡ drop n row
after-place row n = take_all (length row - n) (drop n row) (let l = length-drop n row in omega (arith, l))

pub inputs-after : (row : List Ranked) (n : ℕ) → inputs_in (take (length row - n) (drop n row)) ≡ drop n (inputs_in row)
inputs-after row n = ap inputs_in (after-place row n) ∙ sym (drop-map (λ (r : Ranked). r.input) n row)

-- of those before the winner, one more is put in its place
win-step : (pass stride idle k : ℕ) (row : List Ranked) (d r : Ranked) → idle < length row → r ≡ get_or (take (suc idle) row ++ after_win pass stride k (drop (suc idle) row)) idle d
    → take idle (take (suc idle) row ++ after_win pass stride k (drop (suc idle) row)) ++ put_rank (at_pass pass r) (drop (suc idle) (take (suc idle) row ++ after_win pass stride k (drop (suc idle) row)))
    ≡ take idle row ++ after_win pass stride (suc k) (drop idle row)
win-step pass stride idle k [] d r l e = absurd (omega arith)
win-step pass stride zero k (x ∷ row) d r l e = ap (λ y. put_rank (at_pass pass y) (after_win pass stride k row)) e
win-step pass stride (suc idle) k (x ∷ row) d r l e = ap (λ xs. x ∷ xs) (win-step pass stride idle k row d r (omega arith) e)

pub win-next : (pass stride : ℕ) (row now : List Ranked) (place idle above : ℕ) (d r : Ranked) → above ≡ idle + 1 → idle < place → place < length row → r ≡ get_or now idle d
    → now ≡ take above row ++ after_win pass stride (place - above) (drop above row)
    → take idle now ++ put_rank (at_pass pass r) (drop (idle + 1) now) ≡ take idle row ++ after_win pass stride (place - idle) (drop idle row)
win-next pass stride row now place idle above d r next l m e is = search (rules, win-step)

-- what holds of a rank that is put among others that it holds of
pub put-holds : (P : Ranked → Type 0) (r : Ranked) (others : List Ranked) → P r → AllByRecursion P others → AllByRecursion P (put_rank r others)
put-holds P r [] one h = (one, tt)
put-holds P r (other ∷ others) one h = search (rules, (put-holds P r others one h.1))

win-all : (P Q : Ranked → Type 0) (pass stride place : ℕ) (row : List Ranked) → ((r : Ranked) → Q r → P (at_pass pass r) × P (at_pass (pass + stride) r))
    → AllByRecursion Q row → AllByRecursion P (drop (suc place) row) → AllByRecursion P (after_win pass stride place row)
win-all P Q pass stride zero [] f h k = tt
win-all P Q pass stride (suc place) [] f h k = tt
win-all P Q pass stride zero (r ∷ others) f h k = put-holds P (at_pass (pass + stride) r) others (f r h.0).1 k
win-all P Q pass stride (suc place) (r ∷ others) f h k = put-holds P (at_pass pass r) (after_win pass stride place others) (f r h.0).0 (win-all P Q pass stride place others f h.1 k)

-- passes rise
lower : (least pass : ℕ) (ranks : List Ranked) → least ≤ pass → AllByRecursion (λ (r : Ranked). pass ≤ r.pass) ranks → AllByRecursion (λ (r : Ranked). least ≤ r.pass) ranks
lower least pass ranks l h = all-weaker (λ (r : Ranked). pass ≤ r.pass) (λ (r : Ranked). least ≤ r.pass) ranks (λ r k. omega arith) h

pub put-rises : (r : Ranked) (others : List Ranked) → HasRisingPasses others → HasRisingPasses (put_rank r others)
put-rises r [] h = (tt, tt)
put-rises r (other ∷ others) h = by_test (is_up_to r other) refl (put-rises r others h.1)
  where
    by_test : (b : Bool) → is_up_to r other ≡ b → HasRisingPasses (put_rank r others) → HasRisingPasses (if b then r ∷ other ∷ others else other ∷ put_rank r others)
    by_test true e rest = let l : r.pass ≤ other.pass = grind (arith, nat_tests) in ((l, lower r.pass other.pass others l h.0), h)
    by_test false e rest = (put-holds (λ (o : Ranked). other.pass ≤ o.pass) r others (grind (arith, nat_tests)) h.0, rest)

pub win-rises : (pass stride place : ℕ) (row : List Ranked) → HasRisingPasses row → HasRisingPasses (after_win pass stride place row)
win-rises pass stride zero [] h = tt
win-rises pass stride (suc place) [] h = tt
win-rises pass stride zero (r ∷ others) h = put-rises (at_pass (pass + stride) r) others h.1
win-rises pass stride (suc place) (r ∷ others) h = put-rises (at_pass pass r) (after_win pass stride place others) (win-rises pass stride place others h.1)

-- those after a place have no lower pass than the one there
pub beyond-place : (row : List Ranked) (place : ℕ) (d : Ranked) → place < length row → HasRisingPasses row → AllByRecursion (λ (r : Ranked). (get_or row place d).pass ≤ r.pass) (drop (suc place) row)
beyond-place [] place d l h = absurd (omega arith)
beyond-place (r ∷ others) zero d l h = h.0
beyond-place (r ∷ others) (suc place) d l h = beyond-place others place d (omega arith) h.1

-- a rank after a win: its pass is from the one that the winner had to a greatest stride above
abbrev pub IsWonRank : ℕ → ℕ → Ranked → Type 0
IsWonRank inputs pass r = (r.input < inputs) × (pass ≤ r.pass) × (r.pass ≤ pass + greatest_stride)

pub all-drop : (P : Ranked → Type 0) (n : ℕ) (ranks : List Ranked) → AllByRecursion P ranks → AllByRecursion P (drop n ranks)
all-drop P n ranks h = grind (arith, common_steps)

all-two : (P Q : Ranked → Type 0) (ranks : List Ranked) → AllByRecursion P ranks → AllByRecursion Q ranks → AllByRecursion (λ r. P r × Q r) ranks
all-two P Q [] h k = tt
all-two P Q (r ∷ ranks) h k = ((h.0, k.0), all-two P Q ranks h.1 k.1)

pub won-ranks : (inputs pass stride place : ℕ) (row : List Ranked) → stride ≤ greatest_stride → AllByRecursion (IsRankOf inputs) row → AllByRecursion (λ (r : Ranked). pass ≤ r.pass) (drop (suc place) row)
    → AllByRecursion (IsWonRank inputs pass) (after_win pass stride place row)
won-ranks inputs pass stride place row l h k =
    win-all (IsWonRank inputs pass) (IsRankOf inputs) pass stride place row (λ r one. let a = one.0 in ((a, omega arith, omega arith), (a, omega arith, omega arith))) h
    (all-weaker (λ (r : Ranked). IsRankOf inputs r × (pass ≤ r.pass)) (IsWonRank inputs pass) (drop (suc place) row) (λ r one. (one.0.0, one.1, let a = one.0.1 in omega (arith, a)))
    (all-two (IsRankOf inputs) (λ (r : Ranked). pass ≤ r.pass) (drop (suc place) row) (all-drop (IsRankOf inputs) (suc place) row h) k))

-- the first pass is the least
pub first-least : (ranks : List Ranked) → HasRisingPasses ranks → AllByRecursion (λ (r : Ranked). first_pass ranks ≤ r.pass) ranks
first-least [] h = tt
first-least (r ∷ ranks) h = (omega arith, h.0)

pub first-below : (ranks : List Ranked) → HasRisingPasses ranks → (place : ℕ) (d : Ranked) → place < length ranks → first_pass ranks ≤ (get_or ranks place d).pass
first-below ranks h place d l = grind (arith, common_steps)

pub less-rises : (least : ℕ) (ranks : List Ranked) → HasRisingPasses ranks → HasRisingPasses (map (less least) ranks)
less-rises least [] h = tt
less-rises least (r ∷ ranks) h = search (rules, all-map, all-weaker, (less-rises least ranks h.1))

less-ranks : (inputs pass : ℕ) (ranks : List Ranked) → AllByRecursion (IsWonRank inputs pass) ranks → AllByRecursion (IsRankOf inputs) (from_least ranks)
less-ranks inputs pass ranks h = search (rules, all-map, all-weaker)

-- then the least pass is 0
pub least-none : (ranks : List Ranked) → first_pass (from_least ranks) ≡ 0
least-none ranks = search rules

pub less-none : (ranks : List Ranked) → map (less 0) ranks ≡ ranks
less-none [] = refl
less-none (r ∷ ranks) = ap₂ (λ x xs. x ∷ xs) (ap (λ pass. at_pass pass r) (let same : r.pass - 0 ≡ r.pass = omega arith in same)) (less-none ranks)

-- winning rows keep what the type says
pub win-kept : (inputs pass stride place : ℕ) (row : List Ranked) (d : Ranked) → stride ≤ greatest_stride → place < length row → (get_or row place d).pass ≡ pass → AllByRecursion (IsRankOf inputs) row → HasRisingPasses row
    → AllByRecursion (IsRankOf inputs) (from_least (after_win pass stride place row))
win-kept inputs pass stride place row d l m e h rises =
    less-ranks inputs pass (after_win pass stride place row) (won-ranks inputs pass stride place row l h (subst (λ p. AllByRecursion (λ (r : Ranked). p ≤ r.pass) (drop (suc place) row)) e (beyond-place row place d m rises)))

pub win-kept_rising : (pass stride place : ℕ) (row : List Ranked) → HasRisingPasses row → HasRisingPasses (from_least (after_win pass stride place row))
win-kept_rising pass stride place row rises = less-rises (first_pass (after_win pass stride place row)) (after_win pass stride place row) (win-rises pass stride place row rises)

pub win-least : (pass stride place : ℕ) (row : List Ranked) → HasRisingPasses row → AllByRecursion (λ (r : Ranked). first_pass (after_win pass stride place row) ≤ r.pass) (after_win pass stride place row)
win-least pass stride place row rises = first-least (after_win pass stride place row) (win-rises pass stride place row rises)

-- a row of which the first so many are changed, and one more
pub changed-read : {X : Type 0} (f : X → X) (n : ℕ) (xs : List X) (d : X) → get_or (map f (take n xs) ++ drop n xs) n d ≡ get_or xs n d
changed-read f n xs d = grind (arith, common_steps)

pub changed-more : {X : Type 0} (f : X → X) (n : ℕ) (xs : List X) (d : X) → n < length xs → set (map f (take n xs) ++ drop n xs) n (f (get_or xs n d)) ≡ map f (take (suc n) xs) ++ drop (suc n) xs
changed-more f n [] d l = absurd (omega arith)
changed-more f zero (x ∷ xs) d l = refl
changed-more f (suc n) (x ∷ xs) d l = ap (λ ys. f x ∷ ys) (changed-more f n xs d (omega arith))

-- the new row, in words of the row and the strides that it was made of
pub win-from : (row now : List Ranked) (strides read : List ℕ) (place input : ℕ) (d : Ranked) (new : List Ranked) → now ≡ row → read ≡ strides → input ≡ (get_or now place d).input
    → new ≡ after_win (get_or now place d).pass (get_or read input 0) place now → new ≡ after_win (get_or row place d).pass (get_or strides (get_or row place d).input 0) place row
win-from row now strides read place input d new e f g h = search

-- Ranks that are in order rise by their passes.
pub in_order-rises : (ranks : List Ranked) → AreInOrder ranks → HasRisingPasses ranks
in_order-rises [] h = tt
in_order-rises (r ∷ ranks) h = (all-weaker (IsBefore r) (λ (o : Ranked). r.pass ≤ o.pass) ranks (λ o k. k.0) h.0, in_order-rises ranks h.1)

-- The second of ranks in order has the pass of the first where a later one has.
second-same : (r s : Ranked) (ranks : List Ranked) (d : Ranked) (k : ℕ) → AreInOrder (r ∷ s ∷ ranks) → k < length (s ∷ ranks) → r.pass ≡ (get_or (s ∷ ranks) k d).pass → s.pass ≡ r.pass
second-same r s ranks d k h l e = let up = h.0.0.0 in let down = first-below (s ∷ ranks) (in_order-rises (s ∷ ranks) h.1) k d l in omega (arith, up, down, e)

-- The winner is put in its place, and then each of those before it.
pub win-each : (pass stride place : ℕ) (row : List Ranked) (d : Ranked) → place < length row → after_win pass stride place row ≡ put_all (map (at_pass pass) (take place row)) (put_rank (at_pass (pass + stride) (get_or row place d)) (drop (suc place) row))
win-each pass stride place [] d l = absurd (omega arith)
win-each pass stride zero (r ∷ row) d l = refl
win-each pass stride (suc place) (r ∷ row) d l = ap (put_rank (at_pass pass r)) (win-each pass stride place row d (omega arith))

-- what is in order is so in front of a place
pub in_order-front : (n : ℕ) (row : List Ranked) → AreInOrder row → AreInOrder (take n row)
in_order-front zero row h = tt
in_order-front (suc n) [] h = tt
in_order-front (suc n) (r ∷ row) h = grind (arith, common_steps, (in_order-front n row h.1))

-- what stands before a place and from it on, where the row was changed from there on
pub front-kept : (n : ℕ) (row rest : List Ranked) → n ≤ length row → (take n (take n row ++ rest) ≡ take n row) × (drop n (take n row ++ rest) ≡ rest)
front-kept n row rest l = grind (arith, common_steps)

-- Of ranks in order that have one pass the inputs rise by one at least.
inputs-climb : (ranks : List Ranked) (d : Ranked) (k : ℕ) → AreInOrder ranks → length ranks ≡ suc k → (get_or ranks 0 d).pass ≡ (get_or ranks k d).pass → (get_or ranks 0 d).input + k ≤ (get_or ranks k d).input
inputs-climb [] d k h l e = absurd (omega (arith, l))
inputs-climb (r ∷ ranks) d zero h l e = omega arith
inputs-climb (r ∷ []) d (suc k) h l e = absurd (omega (arith, l))
inputs-climb (r ∷ s ∷ ranks) d (suc k) h l e =
    let same = second-same r s ranks d k h (omega (arith, l)) e in
    let rest = inputs-climb (s ∷ ranks) d k h.1 (omega (arith, l)) (same ∙ e) in
    omega (arith, rest)

-- They follow one another where the last is so far behind the first.
pub ends-follow : (ranks : List Ranked) (d : Ranked) (k : ℕ) → AreInOrder ranks → length ranks ≡ suc k → (get_or ranks 0 d).pass ≡ (get_or ranks k d).pass → (get_or ranks k d).input ≡ (get_or ranks 0 d).input + k → FollowOneAnother ranks
ends-follow [] d k h l e far = tt
ends-follow (r ∷ []) d k h l e far = refl
ends-follow (r ∷ s ∷ ranks) d zero h l e far = absurd (omega (arith, l))
ends-follow (r ∷ s ∷ ranks) d (suc k) h l e far =
    let same = second-same r s ranks d k h (omega (arith, l)) e in
    let climb = inputs-climb (s ∷ ranks) d k h.1 (omega (arith, l)) (same ∙ e) in
    let next : s.input ≡ r.input + 1 = omega (arith, climb, far) in
    ap (λ is. r.input ∷ is) (ends-follow (s ∷ ranks) d k h.1 (omega (arith, l)) (same ∙ e) (omega (arith, next, far)) ∙ ap (λ n. range_with_len n (length (s ∷ ranks))) next)

-- what is in order is so from a place on
pub in_order-after : (n : ℕ) (row : List Ranked) → AreInOrder row → AreInOrder (drop n row)
in_order-after zero row h = h
in_order-after (suc n) [] h = tt
in_order-after (suc n) (r ∷ row) h = in_order-after n row h.1

-- Of ranks in order none has a greater pass than the last.
last-greatest : (ranks : List Ranked) (d : Ranked) (k : ℕ) → HasRisingPasses ranks → length ranks ≡ suc k → AllByRecursion (λ (r : Ranked). r.pass ≤ (get_or ranks k d).pass) ranks
last-greatest [] d k h l = tt
last-greatest (r ∷ []) d zero h l = (omega arith, tt)
last-greatest (r ∷ []) d (suc k) h l = absurd (omega (arith, l))
last-greatest (r ∷ s ∷ ranks) d zero h l = absurd (omega (arith, l))
last-greatest (r ∷ s ∷ ranks) d (suc k) h l = let rest = last-greatest (s ∷ ranks) d k h.1 (omega (arith, l)) in (let a = h.0.0 in let b = rest.0 in omega (arith, a, b), rest)

at_zero-same : (ranks : List Ranked) → AllByRecursion (λ (r : Ranked). r.pass ≤ 0) ranks → map (at_pass 0) ranks ≡ ranks
at_zero-same [] h = refl
at_zero-same (r ∷ ranks) h = ap₂ (λ x xs. x ∷ xs) (ap (λ pass. at_pass pass r) (let l = h.0 in let none : 0 ≡ r.pass = omega (arith, l) in none)) (at_zero-same ranks h.1)

-- Ranks in order of which the last has a pass of 0 keep theirs when they get 0.
pub last-zero : (ranks : List Ranked) (d : Ranked) (k : ℕ) → AreInOrder ranks → length ranks ≡ suc k → (get_or ranks k d).pass ≡ 0 → map (at_pass 0) ranks ≡ ranks
last-zero ranks d k h l e = at_zero-same ranks (subst (λ n. AllByRecursion (λ (r : Ranked). r.pass ≤ n) ranks) e (last-greatest ranks d k (in_order-rises ranks h) l))
