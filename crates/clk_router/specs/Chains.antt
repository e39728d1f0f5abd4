-- Steps one after another.
use Rattle.std.specs.Prelude.{◌≡◌, List, [], ◌∷◌}

-- The new state is reached from the old one by a step for each member of the list, in order.
abbrev pub IsChain : {S X : Type 0} → (S → X → S → Type 0) → S → List X → S → Type 0
IsChain Step old [] new = new ≡ old
IsChain {S} {X} Step old (x ∷ xs) new = (next : S) × Step old x next × IsChain Step next xs new
