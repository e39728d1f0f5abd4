-- What the row of a StrideSched holds: before the first pull, after a pull that an input won, and after one that none won.
use Rattle.std.proofs.lemmas.Grind.{common_steps, elements}
use Rattle.std.proofs.Common.{◌≡◌, ◌≢◌, ℕ, zero, suc, ◌+◌, ◌-◌, ◌<◌, ◌≤◌, ◌==◌, ◌||◌, if◌then◌else◌, inl, inr, Bool, true, false, List, [], ◌∷◌, length, map, take, drop, get_or, Some, slice_get, refl, sym, ap, ap₂, ◌∙◌, subst, arith, rules}
use Rattle.std.specs.List.{enumerate_from, range_with_len, list_any, AllByRecursion}
use Rattle.std.proofs.lemmas.Bool.Decides.{nat_tests}
use Rattle.std.proofs.Math.Nat.{div-le_self}
use Rattle.clk_sched.specs.declared.visit.Visit.{Visit}
use Rattle.clk_sched.specs.declared.session.stride.Passes.{Passes}
use Rattle.clk_sched.specs.Turns.{Turn, giver}
use Rattle.clk_sched.specs.Laws.Stride.{stride_of, stride_at, pass_in, visits_input, passes_after, passes_of, stride_order}
use Rattle.clk_sched.specs.inside.Rising.{put_in_order, in_rising_order}
use Rattle.clk_sched.specs.inside.Ranks.{Ranked, with_pass, greatest_stride, IsRankOf, HasRisingPasses, AreInOrder, put_rank, at_pass, after_win, first_pass, from_least, first_rank, less}
use Rattle.clk_sched.specs.inside.Holds.Stride.{HoldsPasses}
use Rattle.clk_packet.specs.Lists.{In}
use Rattle.clk_sched.proofs.Lists.Members.{of-all, to-all, any-in, all-weaker, in-slice}
use Rattle.clk_sched.specs.inside.Pulling.{AreApart}
use Rattle.clk_sched.proofs.Lists.Apart.{all-map}
use Rattle.clk_sched.proofs.Classes.Orders.{paired_input, rising-apart, enumerated, passes-length}
use Rattle.clk_sched.proofs.Classes.Enumerated.{enumerated-at}
use Rattle.clk_sched.proofs.Lists.Rising.{put-first, IsInOrder, rising-is, rising-same, mapped-rising, ordered-in}
use Rattle.clk_sched.proofs.Classes.RankLemmas.{win-least}

pub put-pairs : (taken : ℕ) (r : Ranked) (others : List Ranked) → map (with_pass taken) (put_rank r others) ≡ put_in_order (with_pass taken r) (map (with_pass taken) others)
put-pairs taken r [] = refl
put-pairs taken r (other ∷ others) = search (rules, (put-pairs taken r others))

-- what is taken from each pass is added again
taken-more : (taken least : ℕ) (ranks : List Ranked) → AllByRecursion (λ (r : Ranked). least ≤ r.pass) ranks → map (with_pass (taken + least)) (map (less least) ranks) ≡ map (with_pass taken) ranks
taken-more taken least [] h = refl
taken-more taken least (r ∷ ranks) h = ap₂ (λ pass pairs. (r.input, pass) ∷ pairs) (let l = h.0 in let same : r.pass - least + (taken + least) ≡ r.pass + taken = omega arith in same) (taken-more taken least ranks h.1)

-- The change of each pair, as ranks before a place, at it and after it have it.
abbrev AreMoved : (ℕ × ℕ → ℕ × ℕ) → ℕ → ℕ → ℕ → ℕ → List Ranked → Type 0
AreMoved f taken pass stride place [] = Unit {0}
AreMoved f taken pass stride zero (r ∷ others) = (f (with_pass taken r) ≡ with_pass taken (at_pass (pass + stride) r)) × AllByRecursion (λ (o : Ranked). f (with_pass taken o) ≡ with_pass taken o) others
AreMoved f taken pass stride (suc place) (r ∷ others) = (f (with_pass taken r) ≡ with_pass taken (at_pass pass r)) × AreMoved f taken pass stride place others

fixed : (f : ℕ × ℕ → ℕ × ℕ) (taken : ℕ) (ranks : List Ranked) → AllByRecursion (λ (o : Ranked). f (with_pass taken o) ≡ with_pass taken o) ranks → map f (map (with_pass taken) ranks) ≡ map (with_pass taken) ranks
fixed f taken [] h = refl
fixed f taken (r ∷ ranks) h = ap₂ (λ x xs. x ∷ xs) h.0 (fixed f taken ranks h.1)

moved-rising : (f : ℕ × ℕ → ℕ × ℕ) (taken pass stride place : ℕ) (row : List Ranked) → AreMoved f taken pass stride place row → IsInOrder (map (with_pass taken) row)
    → map (with_pass taken) (after_win pass stride place row) ≡ in_rising_order (map f (map (with_pass taken) row))
moved-rising f taken pass stride zero [] h order = refl
moved-rising f taken pass stride (suc place) [] h order = refl
moved-rising f taken pass stride zero (r ∷ others) h order = search (rules, put-pairs, fixed, rising-same)
moved-rising f taken pass stride (suc place) (r ∷ others) h order = search (rules, put-pairs, (moved-rising f taken pass stride place others h.1 order.1))

-- the change that a pull makes, by the winner, its stride, the pass that it had, and whether an input was visited
abbrev moved : ℕ → ℕ → ℕ → (ℕ → Bool) → ℕ × ℕ → ℕ × ℕ
moved w stride pass visited i = (i.0, if i.0 == w then i.1 + stride else (if visited i.0 then pass else i.1))

moved-ranks : (taken stride w place : ℕ) (visited : ℕ → Bool) (row : List Ranked) (d : Ranked) → slice_get (map (λ (r : Ranked). r.input) row) place ≡ Some w → AreApart (λ (r : Ranked). r.input) row
    → ((i : ℕ) → In i (take (suc place) (map (λ (r : Ranked). r.input) row)) → visited i ≡ true) → AllByRecursion (λ (r : Ranked). visited r.input ≡ false) (drop (suc place) row)
    → (pass : ℕ) → (get_or row place d).pass ≡ pass → AreMoved (moved w stride (pass + taken) visited) taken pass stride place row
moved-ranks taken stride w place visited [] d at apart front behind pass e = tt
moved-ranks taken stride w zero visited (r ∷ others) d at apart front behind pass e = search (rules, to-all, of-all)
moved-ranks taken stride w (suc place) visited (r ∷ others) d at apart front behind pass e = (
  ap₂ (λ (a b : Bool). (r.input, if a then r.pass + taken + stride else (if b then pass + taken else r.pass + taken))) other (front r.input (inl refl)),
  moved-ranks taken stride w place visited others d at apart.1 (λ i m. front i (inr m)) behind pass e,
)
  where
    differs : w ≢ r.input
    differs = of-all (λ n. n ≢ r.input) w (map (λ (o : Ranked). o.input) others) (all-map (λ n. n ≢ r.input) (λ (o : Ranked). o.input) others apart.0) (in-slice (map (λ (o : Ranked). o.input) others) place w at)

    other : (r.input == w) ≡ false
    other = search (rules, differs)

-- of inputs that differ, those after a place stand in no part before it
all-drop_both : (P Q : Ranked → Type 0) (n : ℕ) (ranks : List Ranked) → AllByRecursion P ranks → AllByRecursion Q (drop n ranks) → AllByRecursion (λ r. P r × Q r) (drop n ranks)
all-drop_both P Q zero [] h k = tt
all-drop_both P Q (suc n) [] h k = tt
all-drop_both P Q zero (r ∷ ranks) h k = ((h.0, k.0), all-drop_both P Q zero ranks h.1 k.1)
all-drop_both P Q (suc n) (r ∷ ranks) h k = all-drop_both P Q n ranks h.1 k

apart-none : (n : ℕ) (row : List Ranked) → AreApart (λ (r : Ranked). r.input) row
    → AllByRecursion (λ (r : Ranked). list_any (λ j. j == r.input) (take n (map (λ (o : Ranked). o.input) row)) ≡ false) (drop n row)
apart-none zero row h = to-all (λ (r : Ranked). list_any (λ j. j == r.input) [] ≡ false) row (λ r m. refl)
apart-none (suc n) [] h = tt
apart-none (suc n) (o ∷ row) h =
    all-weaker (λ (r : Ranked). (r.input ≢ o.input) × (list_any (λ j. j == r.input) inputs ≡ false)) (λ (r : Ranked). ((o.input == r.input) || list_any (λ j. j == r.input) inputs) ≡ false) (drop n row)
    (λ r k. search rules) (all-drop_both (λ (r : Ranked). r.input ≢ o.input) (λ (r : Ranked). list_any (λ j. j == r.input) inputs ≡ false) n row h.0 (apart-none n row h.1))
  where
    inputs : List ℕ
    inputs = take n (map (λ (r : Ranked). r.input) row)

any-map : {X Y : Type 0} (test : Y → Bool) (f : X → Y) (xs : List X) → list_any test (map f xs) ≡ list_any (λ x. test (f x)) xs
any-map test f [] = refl
any-map test f (x ∷ xs) = ap (λ b. test (f x) || b) (any-map test f xs)

-- inputs that are apart as pairs are so as ranks
apart-ranks : (taken : ℕ) (row : List Ranked) → AreApart paired_input (map (with_pass taken) row) → AreApart (λ (r : Ranked). r.input) row
apart-ranks taken [] h = tt
apart-ranks taken (r ∷ row) h = (unmapped row h.0, apart-ranks taken row h.1)
  where
    unmapped : (others : List Ranked) → AllByRecursion (λ (y : ℕ × ℕ). paired_input y ≢ r.input) (map (with_pass taken) others) → AllByRecursion (λ (o : Ranked). o.input ≢ r.input) others
    unmapped [] k = tt
    unmapped (o ∷ others) k = (k.0, unmapped others k.1)

-- no input has two ranks
row-apart : (tickets : List ℕ) (turns : List Turn) (taken : ℕ) (row : List Ranked) → map (with_pass taken) row ≡ in_rising_order (enumerate_from 0 (passes_of tickets turns)) → AreApart (λ (r : Ranked). r.input) row
row-apart tickets turns taken row is = search (rules, apart-ranks, rising-apart, enumerated)

ranks-in_order : (taken : ℕ) (row : List Ranked) → IsInOrder (map (with_pass taken) row) → AreApart (λ (r : Ranked). r.input) row → AreInOrder row
ranks-in_order taken [] order apart = tt
ranks-in_order taken (r ∷ []) order apart = (tt, tt)
ranks-in_order taken (r ∷ s ∷ row) order apart = search (rules, all-weaker, (ranks-in_order taken (s ∷ row) order.1 apart.1))

-- The row that is held is in order.
pub row-in_order : (tickets : List ℕ) (turns : List Turn) (p : Passes) → HoldsPasses tickets turns p → AreInOrder p.row.items
row-in_order tickets turns p holds = search (rules, ranks-in_order, rising-is, row-apart)

-- the rank at a place
in-pairs : (taken place : ℕ) (row : List Ranked) (d : Ranked) → place < length row → In (with_pass taken (get_or row place d)) (map (with_pass taken) row)
in-pairs taken place [] d l = absurd (omega arith)
in-pairs taken zero (r ∷ row) d l = inl refl
in-pairs taken (suc place) (r ∷ row) d l = inr (in-pairs taken place row d (omega arith))

pub input-at : (place : ℕ) (row : List Ranked) (d : Ranked) → place < length row → slice_get (map (λ (r : Ranked). r.input) row) place ≡ Some (get_or row place d).input
input-at place row d l = grind (arith, common_steps, elements, nat_tests)

stride-read : (tickets : List ℕ) (w d : ℕ) → w < length tickets → get_or (map stride_of tickets) w d ≡ stride_at tickets w
stride-read tickets w d l = grind (arith, common_steps, elements, nat_tests)

-- passes that are changed, with their inputs
enumerated-again : (h : ℕ × ℕ → ℕ) (n : ℕ) (passes : List ℕ) → enumerate_from n (map h (enumerate_from n passes)) ≡ map (λ (i : ℕ × ℕ). (i.0, h i)) (enumerate_from n passes)
enumerated-again h n [] = refl
enumerated-again h n (p ∷ passes) = ap (λ pairs. (n, h (n, p)) ∷ pairs) (enumerated-again h (n + 1) passes)

passes-moved : (tickets passes : List ℕ) (t : Turn) (w : ℕ) → giver t.visits ≡ Some w
    → enumerate_from 0 (passes_after tickets passes t) ≡ map (moved w (stride_at tickets w) (pass_in passes w) (λ i. visits_input i t.visits)) (enumerate_from 0 passes)
passes-moved tickets passes t w e = search (rules, enumerated-again)

-- what is known where an input won: the row and its place there, and what was visited
record IsWin (tickets : List ℕ) (turns : List Turn) (t : Turn) (taken place : ℕ) (row : List Ranked) (d : Ranked) : Type 0 where
  within : place < length row
  row_is : map (with_pass taken) row ≡ in_rising_order (enumerate_from 0 (passes_of tickets turns))
  visited : map (λ (v : Visit). v.input) t.visits ≡ take (suc place) (map (λ (r : Ranked). r.input) row)
  won : giver t.visits ≡ Some (get_or row place d).input

-- the winner's pass and stride
record IsWinner (tickets : List ℕ) (turns : List Turn) (taken : ℕ) (r : Ranked) : Type 0 where
  has_tickets : r.input < length tickets
  pass : pass_in (passes_of tickets turns) r.input ≡ r.pass + taken

winner : (tickets : List ℕ) (turns : List Turn) (t : Turn) (taken place : ℕ) (row : List Ranked) (d : Ranked) → IsWin tickets turns t taken place row d → IsWinner tickets turns taken (get_or row place d)
winner tickets turns t taken place row d win =
    record {
      has_tickets = let same = passes-length tickets turns in let a = found.1 in let b = found.2 in omega (arith, same, a, b);
      pass = ap (pass_in (passes_of tickets turns)) (sym found.1 ∙ (let same : 0 + found.0 ≡ found.0 = omega arith in same)) ∙ found.3;
    }
  where
    r : Ranked
    r = get_or row place d

    found : (k : ℕ) × (0 + k ≡ r.input) × (k < length (passes_of tickets turns)) × (pass_in (passes_of tickets turns) k ≡ r.pass + taken)
    found =
        enumerated-at 0 (passes_of tickets turns) (with_pass taken r)
        (ordered-in (with_pass taken r) (enumerate_from 0 (passes_of tickets turns)) (subst (In (with_pass taken r)) win.row_is (in-pairs taken place row d win.within)))

won-row : (tickets : List ℕ) (turns : List Turn) (t : Turn) (taken place : ℕ) (row : List Ranked) (d : Ranked) → IsWin tickets turns t taken place row d
    → map (with_pass taken) (after_win (get_or row place d).pass (stride_at tickets (get_or row place d).input) place row) ≡ in_rising_order (enumerate_from 0 (passes_of tickets (t ∷ turns)))
won-row tickets turns t taken place row d win =
    moved-rising change taken r.pass stride place row ranks (subst IsInOrder (sym win.row_is) (rising-is pairs))
    ∙ ap (λ ps. in_rising_order (map change ps)) win.row_is
    ∙ mapped-rising change pairs
    ∙ ap (λ pass. in_rising_order (map (moved r.input stride pass (λ i. visits_input i t.visits)) pairs)) (sym (winner tickets turns t taken place row d win).pass)
    ∙ ap in_rising_order (sym (passes-moved tickets passes t r.input win.won))
  where
    r : Ranked
    r = get_or row place d

    stride : ℕ
    stride = stride_at tickets r.input

    passes : List ℕ
    passes = passes_of tickets turns

    pairs : List (ℕ × ℕ)
    pairs = enumerate_from 0 passes

    change : ℕ × ℕ → ℕ × ℕ
    change = moved r.input stride (r.pass + taken) (λ i. visits_input i t.visits)

    apart : AreApart (λ (o : Ranked). o.input) row
    apart = row-apart tickets turns taken row win.row_is

    inputs : List ℕ
    inputs = take (suc place) (map (λ (o : Ranked). o.input) row)

    seen : (i : ℕ) → visits_input i t.visits ≡ list_any (λ j. j == i) inputs
    seen i = sym (any-map (λ j. j == i) (λ (v : Visit). v.input) t.visits) ∙ ap (list_any (λ j. j == i)) win.visited

    ranks : AreMoved change taken r.pass stride place row
    ranks =
        moved-ranks taken stride r.input place (λ i. visits_input i t.visits) row d (input-at place row d win.within) apart
        (λ i m. seen i ∙ any-in (λ j. j == i) i inputs (let same : (i == i) ≡ true = grind (arith, nat_tests) in same) m)
        (all-weaker (λ (o : Ranked). list_any (λ j. j == o.input) inputs ≡ false) (λ (o : Ranked). visits_input o.input t.visits ≡ false) (drop (suc place) row) (λ o k. seen o.input ∙ k) (apart-none (suc place) row apart))
        r.pass refl

-- After a pull that the input at a place won the row is that of the new passes.
pub passes-won : (tickets : List ℕ) (turns : List Turn) (t : Turn) (p q : Passes) (place : ℕ) (d : Ranked) → HoldsPasses tickets turns p → place < length p.row.items → HasRisingPasses p.row.items
    → map (λ (v : Visit). v.input) t.visits ≡ take (place + 1) (map (λ (r : Ranked). r.input) p.row.items)
    → giver t.visits ≡ slice_get (map (λ (r : Ranked). r.input) p.row.items) place
    → (pass stride : ℕ) → pass ≡ (get_or p.row.items place d).pass → stride ≡ get_or p.strides.items (get_or p.row.items place d).input 0
    → q.row.items ≡ from_least (after_win pass stride place p.row.items) → q.strides.items ≡ p.strides.items
    → HoldsPasses tickets (t ∷ turns) q
passes-won tickets turns t p q place d holds l rises visits gives pass stride pass_is stride_is row same =
    record {
      taken = holds.taken + first_pass won;
      strides_are = same ∙ holds.strides_are;
      row_is = ap (map (with_pass (holds.taken + first_pass won))) row ∙ taken-more holds.taken (first_pass won) won (win-least pass stride place p.row.items rises) ∙ won_is;
    }
  where
    r : Ranked
    r = get_or p.row.items place d

    won : List Ranked
    won = after_win pass stride place p.row.items

    win : IsWin tickets turns t holds.taken place p.row.items d
    win = search (rules, input-at, won)

    stride_at_is : stride ≡ stride_at tickets r.input
    stride_at_is = stride_is ∙ ap (λ xs. get_or xs r.input 0) holds.strides_are ∙ stride-read tickets r.input 0 (winner tickets turns t holds.taken place p.row.items d win).has_tickets

    won_is : map (with_pass holds.taken) won ≡ in_rising_order (enumerate_from 0 (passes_of tickets (t ∷ turns)))
    won_is = ap₂ (λ a b. map (with_pass holds.taken) (after_win a b place p.row.items)) pass_is stride_at_is ∙ won-row tickets turns t holds.taken place p.row.items d win

-- The row is in the order in which a StrideSched asks.
pub order-is : (tickets : List ℕ) (turns : List Turn) (p : Passes) → HoldsPasses tickets turns p → map (λ (r : Ranked). r.input) p.row.items ≡ stride_order tickets turns
order-is tickets turns p holds = firsts p.row.items ∙ ap (map (λ (i : ℕ × ℕ). i.0)) holds.row_is
  where
    firsts : (row : List Ranked) → map (λ (r : Ranked). r.input) row ≡ map (λ (i : ℕ × ℕ). i.0) (map (λ (r : Ranked). (r.input, r.pass + holds.taken)) row)
    firsts [] = refl
    firsts (r ∷ row) = ap (λ xs. r.input ∷ xs) (firsts row)

-- before the first pull
first-pairs : (n : ℕ) (tickets : List ℕ) → map (with_pass 0) (map first_rank (range_with_len n (length tickets))) ≡ enumerate_from n (map (λ _. 0) tickets)
first-pairs n [] = refl
first-pairs n (t ∷ tickets) = ap (λ pairs. (n, 0) ∷ pairs) (first-pairs (n + 1) tickets)

first-order : (n : ℕ) (tickets : List ℕ) → IsInOrder (enumerate_from n (map (λ _. 0) tickets))
first-order n [] = tt
first-order n (t ∷ tickets) = (first n tickets, first-order (n + 1) tickets)
  where
    first : (n : ℕ) (others : List ℕ) → put_in_order (n, 0) (enumerate_from (n + 1) (map (λ _. 0) others)) ≡ (n, 0) ∷ enumerate_from (n + 1) (map (λ _. 0) others)
    first n [] = refl
    first n (o ∷ others) = put-first (n, 0) (n + 1, 0) (enumerate_from (n + 1 + 1) (map (λ _. 0) others)) (grind (arith, nat_tests))

pub passes-first : (tickets : List ℕ) (p : Passes) → p.strides.items ≡ map stride_of tickets → p.row.items ≡ map first_rank (range_with_len 0 (length tickets)) → HoldsPasses tickets [] p
passes-first tickets p strides row = search (rules, first-pairs, rising-same, first-order)

pub first-ranks : (n count inputs : ℕ) → n + count ≤ inputs → AllByRecursion (IsRankOf inputs) (map first_rank (range_with_len n count))
first-ranks n zero inputs l = tt
first-ranks n (suc count) inputs l = ((omega arith, omega arith), first-ranks (n + 1) count inputs (omega arith))

pub first-least : (n count : ℕ) → first_pass (map first_rank (range_with_len n count)) ≡ 0
first-least n count = search rules

pub first-rises : (n count : ℕ) → HasRisingPasses (map first_rank (range_with_len n count))
first-rises n zero = tt
first-rises n (suc count) = grind (arith, common_steps, elements, nat_tests, (first-rises (n + 1) count))

pub strides-bounded : (tickets : List ℕ) → AllByRecursion (λ stride. stride ≤ greatest_stride) (map stride_of tickets)
strides-bounded [] = tt
strides-bounded (t ∷ tickets) = (div-le_self 65536 t, strides-bounded tickets)
