-- A text has one fault or none: its statements are the only ones, and what is wrong with them follows.
use Rattle.std.proofs.Common.{◌≡◌, ◌⊎◌, ℕ, List, length, Bool, nat_lt, if◌then◌else◌, Option, Some, None, option_map, inl, inr, refl, ap, rules}
use Rattle.clk_packet.specs.declared.fault.Fault.{Fault}
use Rattle.clk_packet.specs.declared.fault.Fault.TheVariants.{BadText, TooLarge}
use Rattle.clk_syntax.specs.declared.texts.token.Token.{Token}
use Rattle.clk_syntax.specs.declared.limits.TheConstants.{MAX_TREE_BYTES}
use Rattle.clk_syntax.specs.Tokens.{tokens_of}
use Rattle.clk_syntax.specs.Diagram.{start, wrong_from}
use Rattle.clk_syntax.specs.Grammar.{Statement, IsText}
use Rattle.clk_syntax.specs.Faults.{offset_of, fault_of, text_fault}
use Rattle.clk_syntax.specs.Reading.{elements_of, wires_of, HasFault, IsFaultless}
use Rattle.clk_syntax.proofs.Meaning.ReadLemmas.{one-reading}
use Rattle.clk_syntax.proofs.Meaning.Rests.{right-are-texts}

-- what a text says by its statements
abbrev told_by : List ℕ → List Statement → Option Fault
told_by text statements = fault_of (elements_of text statements) (wires_of text statements)

same-told : (text : List ℕ) (statements others : List Statement) → IsText (tokens_of text) statements → IsText (tokens_of text) others → told_by text statements ≡ told_by text others
same-told text statements others is other = ap (told_by text) (one-reading (tokens_of text) statements others is other)

pub one-fault : (text : List ℕ) (fault other : Fault) → HasFault text fault → HasFault text other → fault ≡ other
one-fault text fault other (inl told) m = search (rules, same-told)
one-fault text fault other (inr h) m = search (rules, same-told)

-- a text with a fault isn't without one
pub not-faultless : (text : List ℕ) (fault : Fault) → IsFaultless text → ¬ (HasFault text fault)
not-faultless text fault f k = search (rules, same-told)

-- and the statements that are without one are the only ones
pub same-statements : (text : List ℕ) (f g : IsFaultless text) → f.statements ≡ g.statements
same-statements text f g = one-reading (tokens_of text) f.statements g.statements f.is_text g.is_text

-- a text that isn't too long and breaks no grammar has no wrong token
none-wrong : (long : Bool) (end : ℕ) (wrong : Option (List Token)) → (if long then Some TooLarge else option_map BadText (option_map (offset_of end) wrong)) ≡ None → wrong ≡ None
none-wrong long end wrong e = search rules

-- a text says something
abbrev Says : List ℕ → Type 0
Says text = IsFaultless text ⊎ ((fault : Fault) × HasFault text fault)

says-by : (text : List ℕ) (statements : List Statement) (told : Option Fault) → text_fault text ≡ None → IsText (tokens_of text) statements → told_by text statements ≡ told → Says text
says-by text statements None right is sound = inl (record { short_and_right = right; statements = statements; is_text = is; sound = sound })
says-by text statements (Some fault) right is told = inr (fault, inr (record { short_and_right = right; statements = statements; is_text = is; is = told }))

says-as : (text : List ℕ) (told : Option Fault) → text_fault text ≡ told → Says text
says-as text None right =
    let read = right-are-texts (tokens_of text) (none-wrong (nat_lt MAX_TREE_BYTES (length text)) (length text) (wrong_from start (tokens_of text)) right) in
    says-by text read.0 (told_by text read.0) right read.1 refl
says-as text (Some fault) told = inr (fault, inl told)

pub says : (text : List ℕ) → IsFaultless text ⊎ ((fault : Fault) × HasFault text fault)
says text = says-as text (text_fault text) refl
