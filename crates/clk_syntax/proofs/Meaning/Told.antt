-- What a concrete text says is computed: its statements are read from its tokens, one after another.
use Rattle.std.proofs.Common.{◌≡◌, ◌⊎◌, ℕ, List, map, Option, Some, None, inl, inr, sym, ap, subst, ◌∙◌}
use Rattle.std.specs.Option.{option_or}
use Rattle.clk_packet.specs.declared.fault.Fault.{Fault}
use Rattle.clk_syntax.specs.Tokens.{tokens_of}
use Rattle.clk_syntax.specs.Diagram.{start}
use Rattle.clk_syntax.specs.Grammar.{Statement, IsText, bare}
use Rattle.clk_syntax.specs.Faults.{fault_of, text_fault}
use Rattle.clk_syntax.specs.Reading.{elements_of, wires_of, HasFault, IsFaultless}
use Rattle.clk_syntax.proofs.Meaning.ReadLemmas.{read, blank, reading}
use Rattle.clk_syntax.proofs.Meaning.OneFault.{says}

-- the fault of what was read of a text
abbrev of-read : List ℕ → Option (List Statement) → Option Fault
of-read text None = None
of-read text (Some statements) = fault_of (elements_of text statements) (wires_of text statements)

-- the fault of a text, computed
abbrev pub told : List ℕ → Option Fault
told text = option_or (text_fault text) (of-read text (read start blank (map bare (tokens_of text))))

told-as : (text : List ℕ) (statements : List Statement) → text_fault text ≡ None → IsText (tokens_of text) statements → told text ≡ fault_of (elements_of text statements) (wires_of text statements)
told-as text statements right is =
    ap (λ o. option_or o (of-read text (read start blank (map bare (tokens_of text))))) right ∙ ap (of-read text) (reading (tokens_of text) statements is)

-- what a text has is what is computed
pub told-of : (text : List ℕ) (fault : Fault) → HasFault text fault → told text ≡ Some fault
told-of text fault (inl is) = ap (λ o. option_or o (of-read text (read start blank (map bare (tokens_of text))))) is
told-of text fault (inr h) = told-as text h.statements h.short_and_right h.is_text ∙ h.is

-- and what is computed it has
pub has-told : (text : List ℕ) (fault : Fault) → told text ≡ Some fault → HasFault text fault
has-told text fault e = by_meaning (says text)
  where
    by_meaning : (IsFaultless text ⊎ ((other : Fault) × HasFault text other)) → HasFault text fault
    by_meaning (inl f) = let none = sym (told-as text f.statements f.short_and_right f.is_text ∙ f.sound) ∙ e in absurd (cc)
    by_meaning (inr h) =
        let same : Some h.0 ≡ Some fault = sym (told-of text h.0 h.1) ∙ e in
        let is : h.0 ≡ fault = cc in subst (HasFault text) is h.1
