-- The record of a few events, byte for byte.
use Rattle.std.proofs.Common.{◌≡◌, [], ◌∷◌, ◌++◌, map, codes, decimal, Some, refl, ap, ◌∙◌, arith}
use Rattle.std.proofs.lemmas.Fmt.{decimal_digit, decimal_step}
use Rattle.clk_script.specs.Meaning.{command_of}
use Rattle.clk_script.specs.Record.{record_text}
use Rattle.clk_script.specs.Examples.{pulled_at}

one-text : decimal 1 ≡ 49 ∷ []
one-text = decimal_digit 1 (omega arith)

three-text : decimal 3 ≡ 51 ∷ []
three-text = decimal_digit 3 (omega arith)

four-text : decimal 4 ≡ 52 ∷ []
four-text = decimal_digit 4 (omega arith)

fifty-text : decimal 50 ≡ 53 ∷ 48 ∷ []
fifty-text = decimal_step 50 (omega arith) (omega arith) ∙ ap (λ t. t ++ 48 ∷ []) (decimal_digit 5 (omega arith))

pub lines-are : record_text (map command_of (pulled_at 3)) (Some 4) ≡ codes "send 1 50\npull 3\npull 3 1\ndrain 4\n"
lines-are = rw (one-text, fifty-text, three-text, four-text) refl
