-- What is left of a line that has room for so much, as one piece after another is put behind it.
use Rattle.std.proofs.Common.{◌≡◌, ℕ, zero, suc, ◌+◌, List, [], ◌∷◌, ◌++◌, length, take, refl, ap, ◌∙◌, append_assoc, arith, subst}
use Rattle.std.proofs.Math.Seq.{take-append-add}

-- a line that isn't too long stays whole
pub take-append-room : (n room : ℕ) (line piece : List ℕ) → room + length line ≡ n → take n (line ++ piece) ≡ line ++ take room piece
take-append-room n room line piece e =
    subst (λ (k : ℕ). take k (line ++ piece) ≡ line ++ take room piece) (omega (arith, e)) (take-append-add line piece room)

-- what a full line drops makes no difference to what it drops later
pub take-append-again : (n : ℕ) (line piece : List ℕ) → take n (take n line ++ piece) ≡ take n (line ++ piece)
take-append-again zero line piece = refl
take-append-again (suc n) [] piece = refl
take-append-again (suc n) (x ∷ line) piece = ap (λ (l : List ℕ). x ∷ l) (take-append-again n line piece)

-- two pieces one after another are one piece
pub take-append-two : (n : ℕ) (line a b : List ℕ) → take n (take n (line ++ a) ++ b) ≡ take n (line ++ (a ++ b))
take-append-two n line a b = take-append-again n (line ++ a) b ∙ ap (λ (l : List ℕ). take n l) (append_assoc line a b)

-- three lines, each the one before and a piece behind it: the last has all three pieces
pub lines-three :
    (n : ℕ) (line a b c one two three : List ℕ) → one ≡ take n (line ++ a) → two ≡ take n (one ++ b) → three ≡ take n (two ++ c)
    → three ≡ take n (line ++ (a ++ (b ++ c)))
lines-three n line a b c one two three first second third =
    third
    ∙ ap (λ (l : List ℕ). take n (l ++ c)) (second ∙ ap (λ (l : List ℕ). take n (l ++ b)) first ∙ take-append-two n line a b)
    ∙ take-append-two n line (a ++ b) c
    ∙ ap (λ (l : List ℕ). take n (line ++ l)) (append_assoc a b c)
