-- The statements that tokens are read as, from one place of the diagram to the next: a text is read as what it is made of.
use Rattle.std.proofs.Common.{◌≡◌, List, [], ◌∷◌, ◌++◌, map, true, Option, Some, None, refl, sym, ap, ap₂, ◌∙◌, append_assoc, rules}
use Rattle.std.proofs.lemmas.List.{append-nil}
use Rattle.std.specs.Bool.{if◌then◌else◌}
use Rattle.std.specs.Option.{option_map}
use Rattle.std.specs.List.{flat_map, AllByRecursion}
use Rattle.clk_syntax.specs.declared.texts.token.Symbol.TheVariants.{Name, Number, OtherWord, Declares, LeadsTo, OpenPort, OpenArguments, CloseArguments, Comma, Semicolon, Nothing}
use Rattle.clk_syntax.specs.declared.texts.token.Token.{Token}
use Rattle.clk_syntax.specs.Diagram.{Place, start, first_name, comma, further_name, declares, class, opened, argument, closed, output_opened, output_number, leads_to, input_number, next_name, after, may_end, wrong_from}
use Rattle.clk_syntax.specs.Grammar.{Hop, Statement, nothing, declaration, chain, mark, bare, after_comma, listed, written_arguments, written_port, written_hop, written, ended, IsName, IsWord, IsHop, IsStatement, IsText}
use Rattle.clk_syntax.proofs.Parsing.WithinLemmas.{all-first, all-last}

-- what was read of a statement
pub record SoFar : Type 0 where
  pub first : Token
  pub more : List Token
  pub kind : Token
  pub words : List Token
  pub hops : List Hop
  pub output : Option Token
  pub input : Option Token

abbrev pub blank : SoFar
blank = record { first = mark Nothing; more = []; kind = mark Nothing; words = []; hops = []; output = None; input = None }

-- one token more, which leads to this place
abbrev pub put : Place → Token → SoFar → SoFar
put start t s = blank
put first_name t s = record s { first = t }
put further_name t s = record s { more = s.more ++ t ∷ [] }
put class t s = record s { kind = t }
put argument t s = record s { words = s.words ++ t ∷ [] }
put output_number t s = record s { output = Some t }
put input_number t s = record s { input = Some t }
put next_name t s = record s { hops = s.hops ++ record { output = s.output; input = s.input; name = t } ∷ []; output = None; input = None }
put p t s = s

abbrev pub chained : Token → List Hop → Statement
chained first [] = nothing
chained first (hop ∷ hops) = chain first hop hops

-- the statement that ends at a place
abbrev pub statement_at : Place → SoFar → Statement
statement_at class s = declaration s.first s.more s.kind None
statement_at closed s = declaration s.first s.more s.kind (Some s.words)
statement_at next_name s = chained s.first s.hops
statement_at p s = nothing

-- a token that leads to the start ends a statement
abbrev pub emit : Place → Statement → Option (List Statement) → Option (List Statement)
emit start statement more = option_map (λ l. statement ∷ l) more
emit p statement more = more

abbrev pub read_or : Option Place → Token → Place → SoFar → (Place → SoFar → Option (List Statement)) → Option (List Statement)
read_or None t p s more = None
read_or (Some q) t p s more = emit q (statement_at p s) (more q (put q t s))

-- the statements that tokens are, from a place on
abbrev pub read : Place → SoFar → List Token → Option (List Statement)
read p s [] = if may_end p then Some (statement_at p s ∷ []) else None
read p s (t ∷ ts) = read_or (after p t.symbol) t p s (λ q r. read q r ts)

-- what is read is right
read-clean : (p : Place) (s : SoFar) (ts : List Token) (ss : List Statement) → read p s ts ≡ Some ss → wrong_from p ts ≡ None
read-clean p s [] ss e = search rules
read-clean p s (t ∷ ts) ss e = by_place (after p t.symbol) refl (λ q l k. read-clean q (put q t s) ts l k)
  where
    inner : (q : Place) (statement : Statement) (more : Option (List Statement)) → emit q statement more ≡ Some ss → (l : List Statement) × (more ≡ Some l)
    inner start statement None h = absurd (cc)
    inner q statement None h = absurd (cc)
    inner q statement (Some l) h = (l, refl)

    by_place : (o : Option Place) → after p t.symbol ≡ o → ((q : Place) (l : List Statement) → read q (put q t s) ts ≡ Some l → wrong_from q ts ≡ None) → wrong_from p (t ∷ ts) ≡ None
    by_place None f later = let k = rw f at e in absurd (cc)
    by_place (Some q) f later =
        let k = rw f at e in
        let i = inner q (statement_at p s) (read q (put q t s) ts) k in
        rw f (later q i.0 i.1)

-- tokens that lead from one place to another, whatever follows them
record Runs (p : Place) (s : SoFar) (ts : List Token) (q : Place) (r : SoFar) : Type 0 where
  runs : (rest : List Token) → read p s (ts ++ rest) ≡ read q r rest

runs-then : {p q o : Place} {s r u : SoFar} {xs ys : List Token} → Runs p s xs q r → Runs q r ys o u → Runs p s (xs ++ ys) o u
runs-then {p} {s = s} {xs = xs} {ys = ys} a b = record { runs = λ rest. ap (read p s) (append_assoc xs ys rest) ∙ a.runs (ys ++ rest) ∙ b.runs rest }

runs-none : {p : Place} {s r : SoFar} → s ≡ r → Runs p s [] p r
runs-none {p} e = record { runs = λ rest. ap (λ x. read p x rest) e }

runs-to : {p q : Place} {s r u : SoFar} {ts : List Token} → r ≡ u → Runs p s ts q r → Runs p s ts q u
runs-to {q = q} e a = record { runs = λ rest. a.runs rest ∙ ap (λ x. read q x rest) e }

runs-as : {p q : Place} {s r : SoFar} {xs ys : List Token} → xs ≡ ys → Runs p s xs q r → Runs p s ys q r
runs-as {p} {s = s} e a = record { runs = λ rest. ap (λ l. read p s (l ++ rest)) (sym e) ∙ a.runs rest }

-- one token, before others
step : (p q : Place) (s : SoFar) (t : Token) (rest : List Token) → after p t.symbol ≡ Some q → read p s (t ∷ rest) ≡ emit q (statement_at p s) (read q (put q t s) rest)
step p q s t rest e = rw e refl

runs-one : (p q : Place) (s : SoFar) (t : Token) → after p t.symbol ≡ Some q → ((x : Statement) (o : Option (List Statement)) → emit q x o ≡ o) → Runs p s (t ∷ []) q (put q t s)
runs-one p q s t e same = record { runs = λ rest. step p q s t rest e ∙ same (statement_at p s) (read q (put q t s) rest) }

runs-name : (p q : Place) (s : SoFar) (t : Token) → IsName t → after p Name ≡ Some q → ((x : Statement) (o : Option (List Statement)) → emit q x o ≡ o) → Runs p s (t ∷ []) q (put q t s)
runs-name p q s t name e same = runs-one p q s t (ap (after p) name ∙ e) same

-- further names
runs-names : (s : SoFar) (more : List Token) → AllByRecursion IsName more → Runs further_name s (flat_map after_comma more) further_name (record s { more = s.more ++ more })
runs-names s [] names = runs-none (ap (λ (l : List Token). record s { more = l }) (sym (append-nil s.more)))
runs-names s (n ∷ more) names = search (rules, runs-none, append-nil, runs-then, runs-one, runs-name, runs-to, append_assoc, (runs-names (record s { more = s.more ++ n ∷ [] }) more names.1))

-- all names of a declaration and the mark after them
runs-declares : (s : SoFar) (more : List Token) → AllByRecursion IsName more → Runs first_name s (flat_map after_comma more ++ mark Declares ∷ []) declares (record s { more = s.more ++ more })
runs-declares s [] names = runs-to (ap (λ (l : List Token). record s { more = l }) (sym (append-nil s.more))) (runs-one first_name declares s (mark Declares) refl (λ x o. refl))
runs-declares s (n ∷ more) names =
    let here = runs-then (runs-one first_name comma s (mark Comma) refl (λ x o. refl)) (runs-name comma further_name s n names.0 refl (λ x o. refl)) in
    let all = runs-to (ap (λ (l : List Token). record s { more = l }) (append_assoc s.more (n ∷ []) more)) (runs-then here (runs-names (record s { more = s.more ++ n ∷ [] }) more names.1)) in
    runs-then all (runs-one further_name declares (record s { more = s.more ++ n ∷ more }) (mark Declares) refl (λ x o. refl))

-- words
after-word : (p : Place) (t : Token) → IsWord t → after p Name ≡ Some argument → after p Number ≡ Some argument → after p OtherWord ≡ Some argument → after p t.symbol ≡ Some argument
after-word p t word a b c = search rules

runs-words : (s : SoFar) (words : List Token) → AllByRecursion IsWord words → Runs argument s (flat_map after_comma words) argument (record s { words = s.words ++ words })
runs-words s [] words = runs-none (ap (λ (l : List Token). record s { words = l }) (sym (append-nil s.words)))
runs-words s (w ∷ ws) words = search (rules, runs-none, append-nil, runs-then, runs-one, after-word, runs-to, append_assoc, (runs-words (record s { words = s.words ++ w ∷ [] }) ws words.1))

runs-listed : (s : SoFar) (words : List Token) → AllByRecursion IsWord words → Runs opened s (listed words ++ mark CloseArguments ∷ []) closed (record s { words = s.words ++ words })
runs-listed s [] words = runs-to (ap (λ (l : List Token). record s { words = l }) (sym (append-nil s.words))) (runs-one opened closed s (mark CloseArguments) refl (λ x o. refl))
runs-listed s (w ∷ ws) words =
    let here = runs-one opened argument s w (after-word opened w words.0 refl refl refl) (λ x o. refl) in
    let all = runs-to (ap (λ (l : List Token). record s { words = l }) (append_assoc s.words (w ∷ []) ws)) (runs-then here (runs-words (record s { words = s.words ++ w ∷ [] }) ws words.1)) in
    runs-then all (runs-one argument closed (record s { words = s.words ++ w ∷ ws }) (mark CloseArguments) refl (λ x o. refl))

-- a hop, from a name
hop-written : (h : Hop) → (written_port h.output ++ mark LeadsTo ∷ []) ++ (written_port h.input ++ h.name ∷ []) ≡ written_hop h
hop-written h = search rules

runs-hop : (p : Place) (s : SoFar) (h : Hop) → after p OpenPort ≡ Some output_opened → after p LeadsTo ≡ Some leads_to → IsHop h → s.output ≡ None → s.input ≡ None
    → Runs p s (written_hop h) next_name (record s { hops = s.hops ++ h ∷ []; output = None; input = None })
runs-hop p s h opens leads hop o i = search (rules, runs-then, runs-as, hop-written)

runs-hops : (s : SoFar) (hops : List Hop) → AllByRecursion IsHop hops → s.output ≡ None → s.input ≡ None → Runs next_name s (flat_map written_hop hops) next_name (record s { hops = s.hops ++ hops })
runs-hops s [] all o i = runs-none (ap (λ (l : List Hop). record s { hops = l }) (sym (append-nil s.hops)))
runs-hops s (h ∷ hops) all o i =
    let clear : record s { hops = s.hops ++ h ∷ hops; output = None; input = None } ≡ record s { hops = s.hops ++ h ∷ hops } = ap₂ (λ (x y : Option Token). record s { hops = s.hops ++ h ∷ hops; output = x; input = y }) (sym o) (sym i) in
    runs-to (ap (λ (l : List Hop). record s { hops = l; output = None; input = None }) (append_assoc s.hops (h ∷ []) hops) ∙ clear)
    (runs-then (runs-hop next_name s h refl refl all.0 o i) (runs-hops (record s { hops = s.hops ++ h ∷ []; output = None; input = None }) hops all.1 refl refl))

-- a statement, up to a place where it may end
record Run (statement : Statement) : Type 0 where
  place : Place
  so_far : SoFar
  runs : Runs start blank (written statement) place so_far
  is : statement_at place so_far ≡ statement
  ends : may_end place ≡ true
  marks : after place Semicolon ≡ Some start

run : (s : Statement) → IsStatement s → Run s
run nothing sound = record { place = start; so_far = blank; runs = runs-none refl; is = refl; ends = refl; marks = refl }
run (chain first hop more) sound =
    let named = record blank { first = first } in
    let hopped = record blank { first = first; hops = hop ∷ [] } in
    record {
      place = next_name;
      so_far = record blank { first = first; hops = hop ∷ more };
      runs = runs-then (runs-name start first_name blank first sound.0 refl (λ x o. refl)) (runs-then (runs-hop first_name named hop refl refl sound.1 refl refl) (runs-hops hopped more sound.2 refl refl));
      is = refl;
      ends = refl;
      marks = refl;
    }
run (declaration first more kind None) sound =
    let named = record blank { first = first } in
    let all = record blank { first = first; more = more } in
    record {
      place = class;
      so_far = record blank { first = first; more = more; kind = kind };
      runs = runs-as (ap (λ l. first ∷ l) (append_assoc (flat_map after_comma more) (mark Declares ∷ []) (kind ∷ [])))
          (runs-then (runs-name start first_name blank first sound.0 refl (λ x o. refl)) (runs-then (runs-declares named more sound.1) (runs-name declares class all kind sound.2 refl (λ x o. refl))));
      is = refl;
      ends = refl;
      marks = refl;
    }
run (declaration first more kind (Some words)) sound =
    let named = record blank { first = first } in
    let all = record blank { first = first; more = more } in
    let classed = record blank { first = first; more = more; kind = kind } in
    let arguments = runs-then (runs-one class opened classed (mark OpenArguments) refl (λ x o. refl)) (runs-listed classed words sound.3) in
    record {
      place = closed;
      so_far = record blank { first = first; more = more; kind = kind; words = words };
      runs = runs-as (ap (λ l. first ∷ l) (append_assoc (flat_map after_comma more) (mark Declares ∷ []) (kind ∷ written_arguments (Some words))))
          (runs-then (runs-name start first_name blank first sound.0 refl (λ x o. refl))
          (runs-then (runs-declares named more sound.1) (runs-then (runs-name declares class all kind sound.2 refl (λ x o. refl)) arguments)));
      is = refl;
      ends = refl;
      marks = refl;
    }

-- a text
read-text : (earlier : List Statement) (last : Statement) → AllByRecursion IsStatement earlier → IsStatement last → read start blank (flat_map ended earlier ++ written last) ≡ Some (earlier ++ last ∷ [])
read-text [] last sound is =
    let r = run last is in
    ap (read start blank) (sym (append-nil (written last))) ∙ r.runs.runs [] ∙ rw r.ends (ap (λ (s : Statement). Some (s ∷ [])) r.is)
read-text (s ∷ earlier) last sound is =
    let r = run s sound.0 in
    ap (read start blank) (append_assoc (ended s) (flat_map ended earlier) (written last) ∙ append_assoc (written s) (mark Semicolon ∷ []) (flat_map ended earlier ++ written last))
    ∙ r.runs.runs (mark Semicolon ∷ (flat_map ended earlier ++ written last))
    ∙ step r.place start r.so_far (mark Semicolon) (flat_map ended earlier ++ written last) r.marks
    ∙ ap (option_map (λ (l : List Statement). statement_at r.place r.so_far ∷ l)) (read-text earlier last sound.1 is)
    ∙ ap (λ (t : Statement). Some (t ∷ (earlier ++ last ∷ []))) r.is

pub reading : (tokens : List Token) (statements : List Statement) → IsText tokens statements → read start blank (map bare tokens) ≡ Some statements
reading tokens statements text = search (rules, read-text, all-first, all-last)

-- a token is as right as the grammar sees it
bare-symbol : (t : Token) → (bare t).symbol ≡ t.symbol
bare-symbol t = search rules

clean-bare : (p : Place) (ts : List Token) → wrong_from p (map bare ts) ≡ None → wrong_from p ts ≡ None
clean-bare p [] e = e
clean-bare p (t ∷ ts) e = by_place (after p t.symbol) refl (ap (after p) (bare-symbol t)) (λ q k. clean-bare q ts k)
  where
    by_place : (o : Option Place) → after p t.symbol ≡ o → after p (bare t).symbol ≡ after p t.symbol → ((q : Place) → wrong_from q (map bare ts) ≡ None → wrong_from q ts ≡ None) → wrong_from p (t ∷ ts) ≡ None
    by_place o f same later = search (rules, bare-symbol)

pub can-be-read : (tokens : List Token) (statements : List Statement) → IsText tokens statements → wrong_from start tokens ≡ None
can-be-read tokens statements text = clean-bare start tokens (read-clean start blank (map bare tokens) statements (reading tokens statements text))

pub one-reading : (tokens : List Token) (statements others : List Statement) → IsText tokens statements → IsText tokens others → statements ≡ others
one-reading tokens statements others text other =
    let same : Some statements ≡ Some others = sym (reading tokens statements text) ∙ reading tokens others other in
    cc
