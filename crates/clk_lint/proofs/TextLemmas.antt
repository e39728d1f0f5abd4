-- Texts that are written piece by piece.
use Rattle.std.proofs.Common.{◌≡◌, ℕ, List, ◌++◌, append_assoc, ap, ◌∙◌}

pub three-pieces : (text one two new : List ℕ) (first second third : List ℕ) → one ≡ text ++ first → two ≡ one ++ second → new ≡ two ++ third → new ≡ text ++ ((first ++ second) ++ third)
three-pieces text one two new first second third a b c =
    c ∙ (ap (λ t. t ++ third) (b ∙ (ap (λ t. t ++ second) a ∙ append_assoc text first second)) ∙ append_assoc text (first ++ second) third)
