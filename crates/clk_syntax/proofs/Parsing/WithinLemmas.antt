-- What a text declares and connects lies within it, since its tokens do.
use Rattle.std.proofs.Common.{◌≡◌, ℕ, List, [], ◌∷◌, ◌++◌, map, Bool, true, false, Option, Some, None, IfSome, refl, sym, ap, subst, ◌∙◌, if◌then◌else◌, arith}
use Rattle.std.specs.List.{flat_map, AllByRecursion}
use Rattle.std.proofs.lemmas.List.Concat.{flat_map-append}
use Rattle.clk_packet.proofs.Callers.Lists.{all-append}
use Rattle.clk_syntax.specs.declared.texts.token.Symbol.{Symbol}
use Rattle.clk_syntax.specs.declared.texts.token.Symbol.TheVariants.{Declares, LeadsTo}
use Rattle.clk_syntax.specs.declared.texts.token.Token.{Token}
use Rattle.clk_syntax.specs.declared.texts.statements.Connection.{Connection}
use Rattle.clk_syntax.specs.Grammar.{Hop, Statement, nothing, declaration, chain, mark, is_word, bare, after_comma, listed, written_arguments, written_port, written_hop, written, ended, IsText}
use Rattle.clk_syntax.specs.Source.{Declared, given, declared_in, connected_in, hops_from}
use Rattle.clk_syntax.specs.Within.{IsWithin, AreWithin, IsDeclaredWithin, IsConnectedWithin}

pub all-first : {X : Type 0} (P : X → Type 0) (xs ys : List X) → AllByRecursion P (xs ++ ys) → AllByRecursion P xs
all-first P [] ys h = tt
all-first P (x ∷ xs) ys h = (h.0, all-first P xs ys h.1)

pub all-last : {X : Type 0} (P : X → Type 0) (xs ys : List X) → AllByRecursion P (xs ++ ys) → AllByRecursion P ys
all-last P [] ys h = h
all-last P (x ∷ xs) ys h = all-last P xs ys h.1

abbrev pub HoldsDeclared : (Token → Type 0) → Declared → Type 0
HoldsDeclared P d = AllByRecursion P d.names × P d.class × AllByRecursion P d.arguments

abbrev pub HoldsConnected : (Token → Type 0) → Connection → Type 0
HoldsConnected P c = P c.from × IfSome c.output P × IfSome c.input P × P c.to

-- What holds of the tokens of a text, and of each mark, holds of what it declares and connects.
module _ (P : Token → Type 0) (marks : (symbol : Symbol) → is_word symbol ≡ false → P (mark symbol)) where
  bare-holds : (t : Token) → P t → P (bare t)
  bare-holds t h = by_test (is_word t.symbol) refl
    where
      by_test : (b : Bool) → is_word t.symbol ≡ b → P (if b then t else mark t.symbol)
      by_test true e = h
      by_test false e = marks t.symbol e

  all-bare : (ts : List Token) → AllByRecursion P ts → AllByRecursion P (map bare ts)
  all-bare [] h = tt
  all-bare (t ∷ ts) h = (bare-holds t h.0, all-bare ts h.1)

  commas-hold : (ws : List Token) → AllByRecursion P (flat_map after_comma ws) → AllByRecursion P ws
  commas-hold [] h = tt
  commas-hold (w ∷ ws) h = (h.1.0, commas-hold ws h.1.1)

  listed-hold : (ws : List Token) → AllByRecursion P (listed ws) → AllByRecursion P ws
  listed-hold [] h = tt
  listed-hold (w ∷ ws) h = (h.0, commas-hold ws h.1)

  arguments-hold : (ws : Option (List Token)) → AllByRecursion P (written_arguments ws) → AllByRecursion P (given ws)
  arguments-hold None h = tt
  arguments-hold (Some ws) h = listed-hold ws (all-first P (listed ws) _ h.1)

  port-holds : (p : Option Token) → AllByRecursion P (written_port p) → IfSome p P
  port-holds None h = tt
  port-holds (Some n) h = h.1.0

  hop-holds : (from : Token) (h : Hop) → P from → AllByRecursion P (written_hop h) → HoldsConnected P (record { from = from; output = h.output; input = h.input; to = h.name })
  hop-holds from h f w =
      let ports = all-first P (written_port h.output ++ mark LeadsTo ∷ written_port h.input) (h.name ∷ []) w in
      let input = all-last P (written_port h.output) (mark LeadsTo ∷ written_port h.input) ports in (
        f,
        port-holds h.output (all-first P (written_port h.output) (mark LeadsTo ∷ written_port h.input) ports),
        port-holds h.input input.1,
        (all-last P (written_port h.output ++ mark LeadsTo ∷ written_port h.input) (h.name ∷ []) w).0,
      )

  hops-hold : (from : Token) (hops : List Hop) → P from → AllByRecursion P (flat_map written_hop hops) → AllByRecursion (HoldsConnected P) (hops_from from hops)
  hops-hold from [] f w = tt
  hops-hold from (h ∷ hops) f w =
      let here = hop-holds from h f (all-first P (written_hop h) (flat_map written_hop hops) w) in
      (here, hops-hold h.name hops here.3 (all-last P (written_hop h) (flat_map written_hop hops) w))

  statement-declares : (s : Statement) → AllByRecursion P (written s) → AllByRecursion (HoldsDeclared P) (declared_in s)
  statement-declares nothing w = tt
  statement-declares (chain first hop more) w = tt
  statement-declares (declaration first more class arguments) w =
      let names = all-first P (listed (first ∷ more)) (mark Declares ∷ class ∷ written_arguments arguments) w in
      let rest = all-last P (listed (first ∷ more)) (mark Declares ∷ class ∷ written_arguments arguments) w in
      ((listed-hold (first ∷ more) names, rest.1.0, arguments-hold arguments rest.1.1), tt)

  statement-connects : (s : Statement) → AllByRecursion P (written s) → AllByRecursion (HoldsConnected P) (connected_in s)
  statement-connects nothing w = tt
  statement-connects (declaration first more class arguments) w = tt
  statement-connects (chain first hop more) w = hops-hold first (hop ∷ more) w.0 w.1

  module _ {X : Type 0} (Q : X → Type 0) (of : Statement → List X) (each : (s : Statement) → AllByRecursion P (written s) → AllByRecursion Q (of s)) where
    ended-hold : (ss : List Statement) → AllByRecursion P (flat_map ended ss) → AllByRecursion Q (flat_map of ss)
    ended-hold [] w = tt
    ended-hold (s ∷ ss) w =
        all-append Q (of s) (flat_map of ss)
        (each s (all-first P (written s) _ (all-first P (ended s) (flat_map ended ss) w)))
        (ended-hold ss (all-last P (ended s) (flat_map ended ss) w))

    text-holds : (ts : List Token) (ss : List Statement) → IsText ts ss → AllByRecursion P ts → AllByRecursion Q (flat_map of ss)
    text-holds ts ss text w =
        let these = subst (AllByRecursion P) text.written_so (all-bare ts w) in
        let earlier = ended-hold text.earlier (all-first P (flat_map ended text.earlier) (written text.last) these) in
        let last = each text.last (all-last P (flat_map ended text.earlier) (written text.last) these) in
        subst (AllByRecursion Q) (sym (ap (flat_map of) text.are ∙ flat_map-append of text.earlier (text.last ∷ [])))
        (all-append Q (flat_map of text.earlier) (flat_map of (text.last ∷ [])) earlier (all-append Q (of text.last) [] last tt))

  pub declared-hold : (ts : List Token) (ss : List Statement) → IsText ts ss → AllByRecursion P ts → AllByRecursion (HoldsDeclared P) (flat_map declared_in ss)
  declared-hold ts ss text w = text-holds (HoldsDeclared P) declared_in statement-declares ts ss text w

  pub connected-hold : (ts : List Token) (ss : List Statement) → IsText ts ss → AllByRecursion P ts → AllByRecursion (HoldsConnected P) (flat_map connected_in ss)
  connected-hold ts ss text w = text-holds (HoldsConnected P) connected_in statement-connects ts ss text w

mark-within : (end : ℕ) (symbol : Symbol) → is_word symbol ≡ false → IsWithin end (mark symbol)
mark-within end symbol other = omega arith

pub declared-within : (end : ℕ) (ts : List Token) (ss : List Statement) → IsText ts ss → AreWithin end ts → AllByRecursion (IsDeclaredWithin end) (flat_map declared_in ss)
declared-within end ts ss text w = declared-hold (IsWithin end) (mark-within end) ts ss text w

pub connected-within : (end : ℕ) (ts : List Token) (ss : List Statement) → IsText ts ss → AreWithin end ts → AllByRecursion (IsConnectedWithin end) (flat_map connected_in ss)
connected-within end ts ss text w = connected-hold (IsWithin end) (mark-within end) ts ss text w
