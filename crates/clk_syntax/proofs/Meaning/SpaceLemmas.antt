-- What texts of one byte, over and over, say.
use Rattle.std.proofs.Common.{◌≡◌, ◌≤◌, ◌+◌, ℕ, zero, suc, [], ◌∷◌, length, replicate, map, None, option_map, inr, refl, ap, ◌∙◌, rules}
use Rattle.std.proofs.lemmas.List.{length-replicate}
use Rattle.clk_packet.specs.declared.fault.Fault.TheVariants.{BadText, NoDevice}
use Rattle.clk_syntax.specs.declared.limits.TheConstants.{MAX_TREE_BYTES}
use Rattle.clk_syntax.specs.Tokens.{tokens_from}
use Rattle.clk_syntax.specs.Diagram.{start, wrong_from}
use Rattle.clk_syntax.specs.Grammar.{nothing, bare}
use Rattle.clk_syntax.specs.Faults.{offset_of, bad_text, text_fault}
use Rattle.clk_syntax.specs.Reading.{HasFault}
use Rattle.clk_syntax.specs.Examples.{spaces}
use Rattle.clk_syntax.proofs.Meaning.FaultLemmas.{not-less}

-- of any other it is told where a token is wrong
short : (byte n : ℕ) → n ≤ MAX_TREE_BYTES → text_fault (replicate n byte) ≡ option_map BadText (bad_text (replicate n byte))
short byte n l = search (rules, length-replicate, not-less)

-- spaces are no token
none-shown : (n place : ℕ) → tokens_from place 0 (spaces n) ≡ []
none-shown zero place = refl
none-shown (suc n) place = none-shown n (place + 1)

spaces-right : (n : ℕ) → n ≤ MAX_TREE_BYTES → text_fault (spaces n) ≡ None
spaces-right n l = short 32 n l ∙ ap (λ ts. option_map BadText (option_map (offset_of (length (spaces n))) (wrong_from start ts))) (none-shown n 0)

pub spaces-told : (n : ℕ) → n ≤ MAX_TREE_BYTES → HasFault (spaces n) NoDevice
spaces-told n l = inr (record {
  short_and_right = spaces-right n l;
  statements = nothing ∷ [];
  is_text = record { earlier = []; last = nothing; are = refl; sound = (tt, tt); written_so = ap (λ ts. map bare ts) (none-shown n 0) };
  is = refl;
})
