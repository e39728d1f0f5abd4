-- A text of two bytes, of which all, the first or the second alone is written.
use Rattle.std.specs.Prelude.{ℕ, List, [], ◌∷◌, Result, Ok}
use Rattle.clk_packet.specs.declared.fault.Fault.{Fault}

abbrev pub text : List ℕ
text = 65 ∷ 66 ∷ []

abbrev pub first_byte : List ℕ
first_byte = 65 ∷ []

abbrev pub second_byte : List ℕ
second_byte = 66 ∷ []

-- the result of a write that succeeds
abbrev pub success : Result (Unit {0}) Fault
success = Ok tt
