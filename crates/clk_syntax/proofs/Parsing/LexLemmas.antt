-- The tokens of a text, one piece after another.
use Rattle.std.proofs.Common.{◌≡◌, ℕ, zero, suc, ◌+◌, ◌-◌, ◌≤◌, Bool, true, List, [], ◌∷◌, ◌++◌, length, take, drop, get_or, None, refl, sym, ap, subst, ◌∙◌, append_assoc, arith, rules}
use Rattle.std.proofs.lemmas.List.{length-drop, drop-drop, take_all}
use Rattle.clk_packet.proofs.Callers.Lists.{all-append}
use Rattle.clk_syntax.specs.declared.texts.token.Token.{Token}
use Rattle.clk_syntax.specs.declared.texts.lexer.Piece.{Piece}
use Rattle.clk_syntax.specs.Tokens.{comment_end, piece_at, piece_len, shown, tokens_from}
use Rattle.clk_syntax.specs.Within.{IsWithin, AreWithin}
use Rattle.clk_syntax.specs.inside.Lex.{LexedTo}

-- the first byte of a text, and the rest
pub first-rest : (l : List ℕ) (d : ℕ) → 1 ≤ length l → l ≡ get_or l 0 d ∷ take (length l - 1) (drop 1 l)
first-rest l d h = search (rules, take_all)

-- the tokens after the bytes of a piece
pub tokens-after : (place n : ℕ) (l : List ℕ) → tokens_from place n l ≡ tokens_from (place + n) 0 (drop n l)
tokens-after place zero l = ap (λ p. tokens_from p 0 l) (omega arith)
tokens-after place (suc n) [] = refl
tokens-after place (suc n) (b ∷ l) = tokens-after (place + 1) n l ∙ ap (λ p. tokens_from p 0 (drop n l)) (omega arith)

-- where no comment ends, none ends later
none-tail : (b : ℕ) (l : List ℕ) → comment_end (b ∷ l) ≡ None → comment_end l ≡ None
none-tail b l h = search rules

none-drop : (n : ℕ) (l : List ℕ) → comment_end l ≡ None → comment_end (drop n l) ≡ None
none-drop zero l h = h
none-drop (suc n) [] h = refl
none-drop (suc n) (b ∷ l) h = none-drop n l (none-tail b l h)

shown-within : (end place : ℕ) (p : Piece) → place + piece_len p ≤ end → AreWithin end (shown place p)
shown-within end place p h = search rules

-- one piece more
pub lexed-more : {text left rest after : List ℕ} {old new : List Token} {place byte n : ℕ} {p : Piece} {unclosed still : Bool} → LexedTo text old place left unclosed → left ≡ byte ∷ rest → p ≡ piece_at byte rest → 1 ≤ piece_len p
    → piece_len p ≤ length left → (still ≡ true → comment_end (drop 1 rest) ≡ None) → new ≡ old ++ shown place p → n ≡ piece_len p → after ≡ drop n left → LexedTo text new (place + n) after still
lexed-more {text} {left} {rest} {after} {old} {new} {place} {byte} {n} {p} {unclosed} {still} h first is some inside none keeps len rest_is =
    record {
      are = h.are
          ∙ ap (λ l. old ++ tokens_from place 0 l) first
          ∙ ap (λ q. old ++ (shown place q ++ tokens_from (place + 1) (piece_len q - 1) rest)) (sym is)
          ∙ ap (λ l. old ++ (shown place p ++ l)) (tokens-after (place + 1) (piece_len p - 1) rest)
          ∙ ap (λ k. old ++ (shown place p ++ tokens_from k 0 (drop (piece_len p - 1) rest))) there
          ∙ ap (λ l. old ++ (shown place p ++ tokens_from (place + n) 0 l)) (sym left_is)
          ∙ sym (append_assoc old (shown place p) (tokens_from (place + n) 0 after))
          ∙ ap (λ l. l ++ tokens_from (place + n) 0 after) (sym keeps);
      fits = omega (arith, h.fits, ap length rest_is, length-drop n left);
      within = subst (AreWithin (length text)) (sym keeps) (all-append (IsWithin (length text)) old (shown place p) h.within (shown-within (length text) place p (omega (arith, h.fits))));
      none_closed = λ e. ap (λ l. comment_end (drop 1 l)) left_is ∙ ap comment_end (drop-drop 1 (piece_len p - 1) rest ∙ ap (λ k. drop k rest) swaps ∙ sym (drop-drop (piece_len p - 1) 1 rest)) ∙ none-drop (piece_len p - 1) (drop 1 rest) (none e);
    }
  where
    there : place + 1 + (piece_len p - 1) ≡ place + n
    there = omega arith

    swaps : piece_len p - 1 + 1 ≡ 1 + (piece_len p - 1)
    swaps = omega arith

    more : n ≡ suc (piece_len p - 1)
    more = omega arith

    left_is : after ≡ drop (piece_len p - 1) rest
    left_is = rest_is ∙ ap (drop n) first ∙ ap (λ k. drop k (byte ∷ rest)) more
