-- What the parts of a text's reading find makes up what is wrong with it.
use Rattle.std.proofs.Common.{◌≡◌, ◌≤◌, ℕ, List, length, false, nat_lt, if◌then◌else◌, Some, None, option_map, sym, ap, ap₂, subst, ◌∙◌, arith}
use Rattle.std.proofs.lemmas.Bool.Decides.{nat_tests}
use Rattle.std.specs.Option.{option_or}
use Rattle.clk_packet.specs.declared.fault.Fault.TheVariants.{BadText, TooLarge}
use Rattle.clk_syntax.specs.declared.node.Node.{Node}
use Rattle.clk_syntax.specs.declared.node.Link.{Link}
use Rattle.clk_syntax.specs.declared.texts.statements.Connection.{Connection}
use Rattle.clk_syntax.specs.declared.texts.token.Token.{Token}
use Rattle.clk_syntax.specs.declared.limits.TheConstants.{MAX_TREE_BYTES}
use Rattle.clk_syntax.specs.Tokens.{tokens_of}
use Rattle.clk_syntax.specs.Diagram.{start, wrong_from}
use Rattle.clk_syntax.specs.Grammar.{IsText}
use Rattle.clk_syntax.specs.Source.{Declared, elements, wires}
use Rattle.clk_syntax.specs.Faults.{offset_of, bad_text, text_fault, nodes_of, links_of, nodes_fault, fault_of}
use Rattle.clk_syntax.specs.Reading.{IsFaultless, IsNamedText}

pub not-less : (m n : ℕ) → n ≤ m → nat_lt m n ≡ false
not-less m n l = grind (arith, nat_tests)

-- a text that isn't too long, and in which no token is wrong, has statements
pub right-text : (text : List ℕ) (tokens : List Token) → length text ≤ MAX_TREE_BYTES → tokens ≡ tokens_of text → wrong_from start tokens ≡ None → text_fault text ≡ None
right-text text tokens few are right =
    ap (λ b. if b then Some TooLarge else option_map BadText (bad_text text)) (not-less MAX_TREE_BYTES (length text) few)
    ∙ ap (λ o. option_map BadText (option_map (offset_of (length text)) o)) (ap (wrong_from start) (sym are) ∙ right)

abbrev pub faultless-by : (text : List ℕ) (tokens : List Token) (declared : List Declared) (connections : List Connection) (nodes : List Node) (links : List Link)
    → IsNamedText text tokens declared connections nodes links → nodes_fault nodes links ≡ None → IsFaultless text
faultless-by text tokens declared connections nodes links h none = record {
  short_and_right = right-text text tokens h.few h.are h.right;
  statements = h.read.0;
  is_text = subst (λ ts. IsText ts h.read.0) h.are h.read.1;
  sound = ap₂ (λ d c. fault_of (elements text d) (wires text c)) (sym h.read.2) (sym h.read.3)
      ∙ ap (λ o. option_or o (nodes_fault (nodes_of (elements text declared)) (links_of (elements text declared) (wires text connections)))) h.named
      ∙ ap₂ nodes_fault (sym h.nodes_are) (sym h.links_are) ∙ none;
}
