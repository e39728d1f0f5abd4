-- The tokens before a wrong one begin some text, and with it none.
use Rattle.std.proofs.Common.{◌≡◌, List, [], ◌∷◌, ◌++◌, false, Option, Some, None, refl, sym, ap, ◌∙◌, rules}
use Rattle.std.proofs.lemmas.List.{append-nil}
use Rattle.clk_syntax.specs.declared.texts.token.Symbol.TheVariants.{Name, Number, Declares, LeadsTo, ClosePort, CloseArguments}
use Rattle.clk_syntax.specs.declared.texts.token.Token.{Token}
use Rattle.clk_syntax.specs.Diagram.{Place, start, first_name, comma, further_name, declares, class, opened, argument, argument_comma, closed, output_opened, output_number, output_closed, leads_to, input_opened, input_number, input_closed, next_name, after, may_end, wrong_from}
use Rattle.clk_syntax.specs.Grammar.{mark}
use Rattle.clk_syntax.specs.Laws.{CanGoOn, CannotGoOn}
use Rattle.clk_syntax.proofs.Meaning.ReadLemmas.{can-be-read}
use Rattle.clk_syntax.proofs.Meaning.Rests.{right-are-texts}

-- tokens that end a statement from a place on
abbrev finish : Place → List Token
finish first_name = mark Declares ∷ mark Name ∷ []
finish comma = mark Name ∷ mark Declares ∷ mark Name ∷ []
finish further_name = mark Declares ∷ mark Name ∷ []
finish declares = mark Name ∷ []
finish opened = mark CloseArguments ∷ []
finish argument = mark CloseArguments ∷ []
finish argument_comma = mark Name ∷ mark CloseArguments ∷ []
finish output_opened = mark Number ∷ mark ClosePort ∷ mark LeadsTo ∷ mark Name ∷ []
finish output_number = mark ClosePort ∷ mark LeadsTo ∷ mark Name ∷ []
finish output_closed = mark LeadsTo ∷ mark Name ∷ []
finish leads_to = mark Name ∷ []
finish input_opened = mark Number ∷ mark ClosePort ∷ mark Name ∷ []
finish input_number = mark ClosePort ∷ mark Name ∷ []
finish input_closed = mark Name ∷ []
finish p = []

finishes : (p : Place) → wrong_from p (finish p) ≡ None
finishes start = refl
finishes first_name = refl
finishes comma = refl
finishes further_name = refl
finishes declares = refl
finishes class = refl
finishes opened = refl
finishes argument = refl
finishes argument_comma = refl
finishes closed = refl
finishes output_opened = refl
finishes output_number = refl
finishes output_closed = refl
finishes leads_to = refl
finishes input_opened = refl
finishes input_number = refl
finishes input_closed = refl
finishes next_name = refl

-- no text goes on so from a place
abbrev Fails : Place → List Token → Type 0
Fails p [] = may_end p ≡ false
Fails p (t ∷ rest) = after p t.symbol ≡ None

-- the tokens before the wrong ones, and the place that they lead to
record Before (p : Place) (tokens wrong : List Token) : Type 0 where
  before : List Token
  are : tokens ≡ before ++ wrong
  place : Place
  leads : (rest : List Token) → wrong_from p (before ++ rest) ≡ wrong_from place rest
  fails : Fails place wrong

before-more : (p q : Place) (t : Token) (ts wrong : List Token) → after p t.symbol ≡ Some q → Before q ts wrong → Before p (t ∷ ts) wrong
before-more p q t ts wrong e h =
    record {
      before = t ∷ h.before;
      are = ap (λ l. t ∷ l) h.are;
      place = h.place;
      leads = λ rest. one (h.before ++ rest) ∙ h.leads rest;
      fails = h.fails;
    }
  where
    one : (rest : List Token) → wrong_from p (t ∷ rest) ≡ wrong_from q rest
    one rest = rw e refl

before-none : (p : Place) (wrong : List Token) → Fails p wrong → Before p wrong wrong
before-none p wrong f = record { before = []; are = refl; place = p; leads = λ rest. refl; fails = f }

split : (p : Place) (tokens wrong : List Token) → wrong_from p tokens ≡ Some wrong → Before p tokens wrong
split p [] wrong e = search (rules, before-none, before-more)
split p (t ∷ ts) wrong e = by_place (after p t.symbol) refl (λ q k. split q ts wrong k)
  where
    by_place : (o : Option Place) → after p t.symbol ≡ o → ((q : Place) → wrong_from q ts ≡ Some wrong → Before q ts wrong) → Before p (t ∷ ts) wrong
    by_place o f more = search (rules, before-none, before-more)

can-go-on : (tokens wrong : List Token) (h : Before start tokens wrong) → CanGoOn h.before
can-go-on tokens wrong h =
    let text = right-are-texts (h.before ++ finish h.place) (h.leads (finish h.place) ∙ finishes h.place) in
    (finish h.place, text.0, text.1)

cannot-go-on : (before wrong : List Token) (place : Place) → ((rest : List Token) → wrong_from start (before ++ rest) ≡ wrong_from place rest) → Fails place wrong → CannotGoOn before wrong
cannot-go-on before [] place leads fails = λ statements text.
    let clean : wrong_from place [] ≡ None = sym (leads []) ∙ ap (wrong_from start) (append-nil before) ∙ can-be-read before statements text in
    let k = rw fails at clean in
    absurd (cc)
cannot-go-on before (t ∷ rest) place leads fails = λ more statements text.
    let clean : wrong_from place (t ∷ more) ≡ None = sym (leads (t ∷ more)) ∙ can-be-read (before ++ t ∷ more) statements text in
    let k = rw fails at clean in
    absurd (cc)

pub cannot-be-mended : (tokens wrong : List Token) → wrong_from start tokens ≡ Some wrong → (before : List Token) × (tokens ≡ before ++ wrong) × CanGoOn before × CannotGoOn before wrong
cannot-be-mended tokens wrong e =
    let h = split start tokens wrong e in
    (h.before, h.are, can-go-on tokens wrong h, cannot-go-on h.before wrong h.place h.leads h.fails)
