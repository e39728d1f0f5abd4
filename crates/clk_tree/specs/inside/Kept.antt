-- Elements whose names and classes are known.
use Rattle.std.specs.Prelude.{ℕ, List, map}
use Rattle.clk_syntax.specs.declared.texts.token.Token.{Token}
use Rattle.clk_syntax.specs.Classes.{Class}
use Rattle.clk_syntax.specs.Source.{letters}
use Rattle.clk_tree.specs.Plan.{Known}

-- an element of this name and class
abbrev pub known_as : List ℕ → Class → Known
known_as name class = record { name = name; class = class }

-- elements of one class, with these names
abbrev pub names_as : List ℕ → Class → List Token → List Known
names_as text class names = map (λ name. known_as (letters text name) class) names
