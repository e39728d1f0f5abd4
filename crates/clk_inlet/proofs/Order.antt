-- The order of items: what follows from MayFollow.
use Rattle.std.proofs.Common.{◌≡◌, ℕ, zero, suc, ◌-◌, ◌≤◌, ◌||◌, Bool, ◌++◌, ◌∷◌, [], List, length, take, true, false, refl, sym, ap, ◌∙◌, subst, arith}
use Rattle.std.proofs.lemmas.List.{append_assoc, append-nil, length-append}
use Rattle.rtrb.specs.Fifo.{Allowed}
use Rattle.clk_inlet.specs.Items.{MayFollow, AreShort, has_end, is_end, IsWhole}
use Rattle.clk_inlet.specs.declared.item.Item.{Item}

module _ {T : Type 0} (allows : List T → T → Type 0) where
  -- the second part of a list is allowed after the first
  pub second_part : (before xs ys : List T) → Allowed allows before (xs ++ ys) → Allowed allows (before ++ xs) ys
  second_part before [] ys h = subst (λ l. Allowed allows l ys) (sym (append-nil before)) h
  second_part before (x ∷ xs) ys h = subst (λ l. Allowed allows l ys) (append_assoc before (x ∷ []) xs) (second_part (before ++ x ∷ []) xs ys h.1)

  -- and so is the first part
  pub first_part : (before xs ys : List T) → Allowed allows before (xs ++ ys) → Allowed allows before xs
  first_part before [] ys h = tt
  first_part before (x ∷ xs) ys h = (h.0, first_part (before ++ x ∷ []) xs ys h.1)

  -- two parts that are allowed one after the other are allowed together
  pub both_parts : (before xs ys : List T) → Allowed allows before xs → Allowed allows (before ++ xs) ys → Allowed allows before (xs ++ ys)
  both_parts before [] ys h k = subst (λ l. Allowed allows l ys) (append-nil before) k
  both_parts before (x ∷ xs) ys h k = (h.0, both_parts (before ++ x ∷ []) xs ys h.1 (subst (λ l. Allowed allows l ys) (sym (append_assoc before (x ∷ []) xs)) k))

-- items that may follow what was popped keep all in order
pub still_allowed : (before more now : List Item) → now ≡ before ++ more → Allowed MayFollow before more → Allowed MayFollow [] before → Allowed MayFollow [] now
still_allowed before more now e h k = subst (Allowed MayFollow []) (sym e) (both_parts MayFollow [] before more k h)

pub one_more_allowed : (before now : List Item) (x : Item) → now ≡ before ++ x ∷ [] → MayFollow before x → Allowed MayFollow [] before → Allowed MayFollow [] now
one_more_allowed before now x e h = still_allowed before (x ∷ []) now e (h, tt)

-- items that are allowed are short
pub allowed_short : (before xs : List Item) → Allowed MayFollow before xs → AreShort xs
allowed_short before [] h = tt
allowed_short before (x ∷ xs) h = (h.0.short, allowed_short (before ++ x ∷ []) xs h.1)

-- what has the end is whole
pub whole : (items : List Item) → has_end items ≡ true → IsWhole items
whole items ended [] h = refl
whole items ended (x ∷ more) h = let no : has_end items ≡ false = (second_part MayFollow [] items (x ∷ more) h).0.not_ended in absurd (grind arith)

-- none of the items before one that is allowed is the end
pub none_before : (before ys zs : List Item) (y : Item) → Allowed MayFollow before (ys ++ y ∷ zs) → has_end (before ++ ys) ≡ false
none_before before ys zs y h = (second_part MayFollow before ys (y ∷ zs) h).0.not_ended

-- a front that reaches past the end has it
has_through : (items more : List Item) (n : ℕ) → length items ≤ n → has_end items ≡ true → has_end (take n (items ++ more)) ≡ true
has_through [] more n le h = absurd (grind arith)
has_through (x ∷ items) more zero le h = absurd (omega (arith, le))
has_through (x ∷ items) more (suc n) le h = by_test (is_end x) h (has_through items more n (omega (arith, le)))
  where
    by_test : (b : Bool) → (b || has_end items) ≡ true → (has_end items ≡ true → has_end (take n (items ++ more)) ≡ true) → (b || has_end (take n (items ++ more))) ≡ true
    by_test true e rest = refl
    by_test false e rest = rest e

-- where nothing stands behind the end, what has the end is all
pub all_at_end : (items more all : List Item) → items ++ more ≡ all → has_end (take (length all - 1) all) ≡ false → has_end items ≡ true → items ≡ all
all_at_end items [] all e last ended = sym (append-nil items) ∙ e
all_at_end items (x ∷ more) all e last ended =
    let longer = length-append items (x ∷ more) in
    let many = ap length e in
    let through : has_end (take (length all - 1) (items ++ x ∷ more)) ≡ true = has_through items (x ∷ more) (length all - 1) (omega (arith, longer, many)) ended in
    let no : has_end (take (length all - 1) all) ≡ true = ap (λ (l : List Item). has_end (take (length all - 1) l)) (sym e) ∙ through in
    absurd (grind arith)
