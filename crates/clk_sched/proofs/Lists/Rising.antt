-- Pairs in rising order: the order of the putting makes no difference, and all that are put are there.
use Rattle.std.proofs.Common.{◌≡◌, ℕ, suc, length, ◌==◌, ◌&&◌, ◌||◌, nat_lt, nat_le, if◌then◌else◌, Bool, true, false, List, [], ◌∷◌, map, inl, inr, refl, ap, ◌∙◌, rules}
use Rattle.clk_packet.specs.Lists.{In}
use Rattle.clk_sched.specs.inside.Rising.{put_in_order, in_rising_order}

-- whether a pair stands before another by (pass, index), or is the same
abbrev pub up_to : ℕ × ℕ → ℕ × ℕ → Bool
up_to i j = nat_lt i.1 j.1 || ((i.1 == j.1) && nat_le i.0 j.0)

pub put-first : (i j : ℕ × ℕ) (pairs : List (ℕ × ℕ)) → up_to i j ≡ true → put_in_order i (j ∷ pairs) ≡ i ∷ j ∷ pairs
put-first i j pairs e = ap (λ b. if b then i ∷ j ∷ pairs else j ∷ put_in_order i pairs) e

pub put-later : (i j : ℕ × ℕ) (pairs : List (ℕ × ℕ)) → up_to i j ≡ false → put_in_order i (j ∷ pairs) ≡ j ∷ put_in_order i pairs
put-later i j pairs e = ap (λ b. if b then i ∷ j ∷ pairs else j ∷ put_in_order i pairs) e

-- two that both stand before all others
put-two : (i j : ℕ × ℕ) (pairs : List (ℕ × ℕ)) → put_in_order i pairs ≡ i ∷ pairs → put_in_order j pairs ≡ j ∷ pairs
    → put_in_order i (j ∷ pairs) ≡ put_in_order j (i ∷ pairs)
put-two i j pairs e f = search rules

-- one that stands before the first of others, and one that stands after it
put-apart : (i j k : ℕ × ℕ) (pairs : List (ℕ × ℕ)) → up_to i k ≡ true → up_to j k ≡ false → put_in_order i (put_in_order j (k ∷ pairs)) ≡ put_in_order j (put_in_order i (k ∷ pairs))
put-apart i j k pairs e f = search rules

pub put-put : (i j : ℕ × ℕ) (pairs : List (ℕ × ℕ)) → put_in_order i (put_in_order j pairs) ≡ put_in_order j (put_in_order i pairs)
put-put i j [] = put-two i j [] refl refl
put-put i j (k ∷ pairs) = search (rules, put-first, put-two, put-apart, put-later, (put-put i j pairs))

-- each pair stands in its place before those after it
abbrev pub IsInOrder : List (ℕ × ℕ) → Type 0
IsInOrder [] = Unit {0}
IsInOrder (i ∷ pairs) = (put_in_order i pairs ≡ i ∷ pairs) × IsInOrder pairs

put-stays : (i : ℕ × ℕ) (pairs : List (ℕ × ℕ)) → IsInOrder pairs → IsInOrder (put_in_order i pairs)
put-stays i [] h = (refl, tt)
put-stays i (j ∷ pairs) h = search (rules, put-first, put-put, put-later, (put-stays i pairs h.1))

pub rising-is : (pairs : List (ℕ × ℕ)) → IsInOrder (in_rising_order pairs)
rising-is [] = tt
rising-is (i ∷ pairs) = put-stays i (in_rising_order pairs) (rising-is pairs)

pub rising-same : (pairs : List (ℕ × ℕ)) → IsInOrder pairs → in_rising_order pairs ≡ pairs
rising-same [] h = refl
rising-same (i ∷ pairs) h = ap (put_in_order i) (rising-same pairs h.1) ∙ h.0

put-length : (i : ℕ × ℕ) (pairs : List (ℕ × ℕ)) → length (put_in_order i pairs) ≡ suc (length pairs)
put-length i [] = refl
put-length i (j ∷ pairs) = search (rules, (put-length i pairs))

pub rising-length : (pairs : List (ℕ × ℕ)) → length (in_rising_order pairs) ≡ length pairs
rising-length [] = refl
rising-length (i ∷ pairs) = put-length i (in_rising_order pairs) ∙ ap suc (rising-length pairs)

-- pairs that are put in order, changed and put in order again
mapped-put : (f : ℕ × ℕ → ℕ × ℕ) (i : ℕ × ℕ) (pairs : List (ℕ × ℕ)) → in_rising_order (map f (put_in_order i pairs)) ≡ put_in_order (f i) (in_rising_order (map f pairs))
mapped-put f i [] = refl
mapped-put f i (j ∷ pairs) = search (rules, put-put, (mapped-put f i pairs))

pub mapped-rising : (f : ℕ × ℕ → ℕ × ℕ) (pairs : List (ℕ × ℕ)) → in_rising_order (map f (in_rising_order pairs)) ≡ in_rising_order (map f pairs)
mapped-rising f [] = refl
mapped-rising f (i ∷ pairs) = mapped-put f i (in_rising_order pairs) ∙ ap (put_in_order (f i)) (mapped-rising f pairs)

-- putting in order keeps the members
in-put : (i x : ℕ × ℕ) (pairs : List (ℕ × ℕ)) → In x (i ∷ pairs) → In x (put_in_order i pairs)
in-put i x [] m = m
in-put i x (j ∷ pairs) m = search (rules, (in-put i x pairs))

put-in : (i x : ℕ × ℕ) (pairs : List (ℕ × ℕ)) → In x (put_in_order i pairs) → In x (i ∷ pairs)
put-in i x [] m = m
put-in i x (j ∷ pairs) m = search (rules, (put-in i x pairs))

pub in-ordered : (x : ℕ × ℕ) (pairs : List (ℕ × ℕ)) → In x pairs → In x (in_rising_order pairs)
in-ordered x [] m = absurd m
in-ordered x (i ∷ pairs) (inl e) = in-put i x (in_rising_order pairs) (inl e)
in-ordered x (i ∷ pairs) (inr m) = in-put i x (in_rising_order pairs) (inr (in-ordered x pairs m))

pub ordered-in : (x : ℕ × ℕ) (pairs : List (ℕ × ℕ)) → In x (in_rising_order pairs) → In x pairs
ordered-in x [] m = absurd m
ordered-in x (i ∷ pairs) m = search (rules, put-in, (ordered-in x pairs))
