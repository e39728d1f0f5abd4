-- Lists in an order.
use Rattle.std.specs.Prelude.{Bool, List, [], ◌∷◌, if◌then◌else◌}

-- an element put into a list right before the first one that it goes before
abbrev pub put_before : {X : Type 0} → (X → X → Bool) → X → List X → List X
put_before goes x [] = x ∷ []
put_before goes x (y ∷ others) = if goes x y then x ∷ y ∷ others else y ∷ put_before goes x others

-- a list in the order in which elements go before one another
abbrev pub sorted : {X : Type 0} → (X → X → Bool) → List X → List X
sorted goes [] = []
sorted goes (x ∷ others) = put_before goes x (sorted goes others)
