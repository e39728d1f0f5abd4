-- Tokens none of which is wrong are those of a text: what follows a place of the diagram is the rest of a statement.
use Rattle.std.proofs.Common.{◌≡◌, ◌≢◌, ◌⊎◌, inl, inr, List, [], ◌∷◌, ◌++◌, map, true, false, Option, Some, None, IfSome, refl, sym, ap, ap₂, subst, ◌∙◌, append_assoc, rules}
use Rattle.std.proofs.lemmas.List.{append-nil}
use Rattle.std.specs.List.{flat_map, AllByRecursion}
use Rattle.clk_packet.proofs.Callers.Lists.{all-append}
use Rattle.clk_syntax.specs.declared.texts.token.Symbol.{Symbol}
use Rattle.clk_syntax.specs.declared.texts.token.Symbol.TheVariants.{Name, Number, OtherWord, Declares, LeadsTo, OpenPort, ClosePort, OpenArguments, CloseArguments, Comma, Semicolon}
use Rattle.clk_syntax.specs.declared.texts.token.Token.{Token}
use Rattle.clk_syntax.specs.Diagram.{Place, start, first_name, comma, further_name, declares, class, opened, argument, argument_comma, closed, output_opened, output_number, output_closed, leads_to, input_opened, input_number, input_closed, next_name, after, may_end, wrong_from}
use Rattle.clk_syntax.specs.Grammar.{Hop, Statement, nothing, declaration, chain, mark, is_word, bare, after_comma, listed, written_arguments, written_port, written_hop, written, ended, IsName, IsWord, IsPort, IsHop, IsStatement, IsText}

-- a text, as the grammar sees its tokens
record TextOf (l : List Token) : Type 0 where
  earlier : List Statement
  last : Statement
  sound : AllByRecursion IsStatement earlier
  is : IsStatement last
  are : l ≡ flat_map ended earlier ++ written last

-- what follows a statement
data After : List Token → Type 0 where
  over : After []
  next : {l : List Token} → TextOf l → After (mark Semicolon ∷ l)

-- a token, and then more
record Then (IsOne : Token → Type 0) (Rest : List Token → Type 0) (l : List Token) : Type 0 where
  token : Token
  rest : List Token
  are : l ≡ token ∷ rest
  is : IsOne token
  later : Rest rest

abbrev IsNumber : Token → Type 0
IsNumber t = t.symbol ≡ Number

abbrev IsMark : Symbol → Token → Type 0
IsMark s t = t ≡ mark s

-- arguments, or none
record ArgumentsRest (l : List Token) : Type 0 where
  arguments : Option (List Token)
  end : List Token
  words : IfSome arguments (AllByRecursion IsWord)
  later : After end
  are : l ≡ written_arguments arguments ++ end

-- further arguments
record WordsRest (l : List Token) : Type 0 where
  words : List Token
  end : List Token
  sound : AllByRecursion IsWord words
  later : After end
  are : l ≡ flat_map after_comma words ++ (mark CloseArguments ∷ end)

-- further names, the class and the arguments
record NamesRest (l : List Token) : Type 0 where
  more : List Token
  names : AllByRecursion IsName more
  rest : List Token
  kind : Then IsName ArgumentsRest rest
  are : l ≡ flat_map after_comma more ++ (mark Declares ∷ rest)

-- hops
record HopsRest (l : List Token) : Type 0 where
  hops : List Hop
  end : List Token
  sound : AllByRecursion IsHop hops
  later : After end
  are : l ≡ flat_map written_hop hops ++ end

-- an input port, or none, a name and hops
record LeadsRest (l : List Token) : Type 0 where
  input : Option Token
  port : IsPort input
  rest : List Token
  name : Then IsName HopsRest rest
  are : l ≡ written_port input ++ rest

-- a hop, and more hops
record HopRest (l : List Token) : Type 0 where
  output : Option Token
  port : IsPort output
  rest : List Token
  leads : LeadsRest rest
  are : l ≡ written_port output ++ (mark LeadsTo ∷ rest)

-- words, and the parenthesis that closes them
record OpenedRest (l : List Token) : Type 0 where
  words : List Token
  end : List Token
  sound : AllByRecursion IsWord words
  later : After end
  are : l ≡ listed words ++ (mark CloseArguments ∷ end)

-- what follows a place
abbrev Rest : Place → List Token → Type 0
Rest start l = TextOf l
Rest first_name l = NamesRest l ⊎ HopRest l
Rest comma l = Then IsName NamesRest l
Rest further_name l = NamesRest l
Rest declares l = Then IsName ArgumentsRest l
Rest class l = ArgumentsRest l
Rest opened l = OpenedRest l
Rest argument l = WordsRest l
Rest argument_comma l = Then IsWord WordsRest l
Rest closed l = After l
Rest output_opened l = Then IsNumber (Then (IsMark ClosePort) (Then (IsMark LeadsTo) LeadsRest)) l
Rest output_number l = Then (IsMark ClosePort) (Then (IsMark LeadsTo) LeadsRest) l
Rest output_closed l = Then (IsMark LeadsTo) LeadsRest l
Rest leads_to l = LeadsRest l
Rest input_opened l = Then IsNumber (Then (IsMark ClosePort) (Then IsName HopsRest)) l
Rest input_number l = Then (IsMark ClosePort) (Then IsName HopsRest) l
Rest input_closed l = Then IsName HopsRest l
Rest next_name l = HopsRest l

-- a statement, and what follows it
text-of : (s : Statement) {l : List Token} → IsStatement s → After l → TextOf (written s ++ l)
text-of s sound over = record { earlier = []; last = s; sound = tt; is = sound; are = append-nil (written s) }
text-of s sound (next {l} text) =
    record {
      earlier = s ∷ text.earlier;
      last = text.last;
      sound = (sound, text.sound);
      is = text.is;
      are = sym (append_assoc (written s) (mark Semicolon ∷ []) l) ∙ ap (λ m. ended s ++ m) text.are ∙ sym (append_assoc (ended s) (flat_map ended text.earlier) (written text.last));
    }

text-by : {l m : List Token} → l ≡ m → TextOf m → TextOf l
text-by e text = subst TextOf (sym e) text

-- a declaration, from its first name on
names-text : (first : Token) (l : List Token) → IsName first → NamesRest l → TextOf (first ∷ l)
names-text first l name h =
    let k = h.kind in
    let a = k.later in
    text-by
    (ap (λ m. first ∷ m) (h.are ∙ ap (λ m. flat_map after_comma h.more ++ (mark Declares ∷ m)) (k.are ∙ ap (λ m. k.token ∷ m) a.are)
    ∙ sym (append_assoc (flat_map after_comma h.more) (mark Declares ∷ k.token ∷ written_arguments a.arguments) a.end)))
    (text-of (declaration first h.more k.token a.arguments) (name, h.names, k.is, a.words) a.later)

-- a hop, by its parts
hop-are : (o i : Option Token) (name : Token) (l : List Token) → written_port o ++ (mark LeadsTo ∷ (written_port i ++ (name ∷ l))) ≡ written_hop (record { output = o; input = i; name = name }) ++ l
hop-are o i name l = search rules

hops-of : (l : List Token) → HopRest l → (hop : Hop) × (hops : List Hop) × (end : List Token) × IsHop hop × AllByRecursion IsHop hops × After end × (l ≡ flat_map written_hop (hop ∷ hops) ++ end)
hops-of l h =
    let i = h.leads in
    let n = i.name in
    let r = n.later in
    let hop : Hop = record { output = h.output; input = i.input; name = n.token } in (
      hop,
      r.hops,
      r.end,
      (h.port, i.port, n.is),
      r.sound,
      r.later,
      h.are ∙ ap (λ m. written_port h.output ++ (mark LeadsTo ∷ m)) (i.are ∙ ap (λ m. written_port i.input ++ m) (n.are ∙ ap (λ m. n.token ∷ m) r.are))
          ∙ hop-are h.output i.input n.token (flat_map written_hop r.hops ++ r.end)
          ∙ sym (append_assoc (written_hop hop) (flat_map written_hop r.hops) r.end),
    )

hop-text : (first : Token) (l : List Token) → IsName first → HopRest l → TextOf (first ∷ l)
hop-text first l name h =
    let x = hops-of l h in
    text-by (ap (λ m. first ∷ m) x.6) (text-of (chain first x.0 x.1) (name, x.3, x.4) x.5)

hop-more : (l : List Token) → HopRest l → HopsRest l
hop-more l h =
    let x = hops-of l h in
    record { hops = x.0 ∷ x.1; end = x.2; sound = (x.3, x.4); later = x.5; are = x.6 }

hop-led : {l : List Token} → LeadsRest l → HopRest (mark LeadsTo ∷ l)
hop-led {l} h = record { output = None; port = tt; rest = l; leads = h; are = refl }

hop-opened : {l : List Token} → Then IsNumber (Then (IsMark ClosePort) (Then (IsMark LeadsTo) LeadsRest)) l → HopRest (mark OpenPort ∷ l)
hop-opened n =
    let c = n.later in
    let t = c.later in
    record {
      output = Some n.token;
      port = n.is;
      rest = t.rest;
      leads = t.later;
      are = ap (λ m. mark OpenPort ∷ m) (n.are ∙ ap (λ m. n.token ∷ m) (c.are ∙ ap₂ (λ (x : Token) m. x ∷ m) c.is (t.are ∙ ap (λ x. x ∷ t.rest) t.is)));
    }

names-more : {l : List Token} → Then IsName NamesRest l → NamesRest (mark Comma ∷ l)
names-more n =
    let r = n.later in
    record {
      more = n.token ∷ r.more;
      names = (n.is, r.names);
      rest = r.rest;
      kind = r.kind;
      are = ap (λ m. mark Comma ∷ m) (n.are ∙ ap (λ m. n.token ∷ m) r.are);
    }

names-end : {l : List Token} → Then IsName ArgumentsRest l → NamesRest (mark Declares ∷ l)
names-end {l} k = record { more = []; names = tt; rest = l; kind = k; are = refl }

-- a name or a word, and then more
then-one : (IsOne : Token → Type 0) (R : List Token → Type 0) (t : Token) (l : List Token) → IsOne t → R l → Then IsOne R (t ∷ l)
then-one IsOne R t l is later = record { token = t; rest = l; are = refl; is = is; later = later }

arguments-none : {l : List Token} → TextOf l → ArgumentsRest (mark Semicolon ∷ l)
arguments-none {l} text = record { arguments = None; end = mark Semicolon ∷ l; words = tt; later = next text; are = refl }

arguments-some : {l : List Token} → OpenedRest l → ArgumentsRest (mark OpenArguments ∷ l)
arguments-some h =
    record {
      arguments = Some h.words;
      end = h.end;
      words = h.sound;
      later = h.later;
      are = ap (λ m. mark OpenArguments ∷ m) (h.are ∙ sym (append_assoc (listed h.words) (mark CloseArguments ∷ []) h.end));
    }

words-more : {l : List Token} → Then IsWord WordsRest l → WordsRest (mark Comma ∷ l)
words-more n =
    let r = n.later in
    record { words = n.token ∷ r.words; end = r.end; sound = (n.is, r.sound); later = r.later; are = ap (λ m. mark Comma ∷ m) (n.are ∙ ap (λ m. n.token ∷ m) r.are) }

words-end : {l : List Token} → After l → WordsRest (mark CloseArguments ∷ l)
words-end {l} h = record { words = []; end = l; sound = tt; later = h; are = refl }

opened-word : (t : Token) (l : List Token) → IsWord t → WordsRest l → OpenedRest (t ∷ l)
opened-word t l word h = record { words = t ∷ h.words; end = h.end; sound = (word, h.sound); later = h.later; are = ap (λ m. t ∷ m) h.are }

opened-end : {l : List Token} → After l → OpenedRest (mark CloseArguments ∷ l)
opened-end {l} h = record { words = []; end = l; sound = tt; later = h; are = refl }

leads-opened : {l : List Token} → Then IsNumber (Then (IsMark ClosePort) (Then IsName HopsRest)) l → LeadsRest (mark OpenPort ∷ l)
leads-opened n =
    let c = n.later in
    record {
      input = Some n.token;
      port = n.is;
      rest = c.rest;
      name = c.later;
      are = ap (λ m. mark OpenPort ∷ m) (n.are ∙ ap (λ m. n.token ∷ m) (c.are ∙ ap (λ x. x ∷ c.rest) c.is));
    }

leads-name : (t : Token) (l : List Token) → IsName t → HopsRest l → LeadsRest (t ∷ l)
leads-name t l name h = record { input = None; port = tt; rest = t ∷ l; name = then-one IsName HopsRest t l name h; are = refl }

hops-end : {l : List Token} → TextOf l → HopsRest (mark Semicolon ∷ l)
hops-end {l} text = record { hops = []; end = mark Semicolon ∷ l; sound = tt; later = next text; are = refl }

-- a mark, and a word, before what follows them
marked : (R : List Token → Type 0) (t : Token) (l : List Token) (s : Symbol) → t.symbol ≡ s → is_word s ≡ false → R (mark s ∷ l) → R (bare t ∷ l)
marked R t l s e none h = search rules

worded : (R : List Token → Type 0) (t : Token) (l : List Token) → is_word t.symbol ≡ true → R (t ∷ l) → R (bare t ∷ l)
worded R t l e h = search rules

-- one token more, from each place on
prepend : (p : Place) (s : Symbol) (t : Token) (l : List Token) → t.symbol ≡ s → after p s ≢ None → ((q : Place) → after p s ≡ Some q → Rest q l) → Rest p (bare t ∷ l)
prepend start Name t l e ok rest = worded TextOf t l (ap is_word e) (by_kind (rest first_name refl))
  where
    by_kind : NamesRest l ⊎ HopRest l → TextOf (t ∷ l)
    by_kind k = search (rules, worded, names-text, hop-text, marked, text-of, names-more, names-end, hop-opened, hop-led, then-one, arguments-some, arguments-none, opened-word, opened-end, words-more, words-end, leads-opened, leads-name, hop-more, hops-end)
prepend start Semicolon t l e ok rest = marked TextOf t l Semicolon e refl (text-of nothing tt (next (rest start refl)))
prepend first_name Comma t l e ok rest = inl (marked NamesRest t l Comma e refl (names-more (rest comma refl)))
prepend first_name Declares t l e ok rest = inl (marked NamesRest t l Declares e refl (names-end (rest declares refl)))
prepend first_name OpenPort t l e ok rest = inr (marked HopRest t l OpenPort e refl (hop-opened (rest output_opened refl)))
prepend first_name LeadsTo t l e ok rest = inr (marked HopRest t l LeadsTo e refl (hop-led (rest leads_to refl)))
prepend comma Name t l e ok rest = worded (Then IsName NamesRest) t l (ap is_word e) (then-one IsName NamesRest t l e (rest further_name refl))
prepend further_name Comma t l e ok rest = marked NamesRest t l Comma e refl (names-more (rest comma refl))
prepend further_name Declares t l e ok rest = marked NamesRest t l Declares e refl (names-end (rest declares refl))
prepend declares Name t l e ok rest = worded (Then IsName ArgumentsRest) t l (ap is_word e) (then-one IsName ArgumentsRest t l e (rest class refl))
prepend class OpenArguments t l e ok rest = marked ArgumentsRest t l OpenArguments e refl (arguments-some (rest opened refl))
prepend class Semicolon t l e ok rest = marked ArgumentsRest t l Semicolon e refl (arguments-none (rest start refl))
prepend opened Name t l e ok rest = worded OpenedRest t l (ap is_word e) (opened-word t l (ap is_word e) (rest argument refl))
prepend opened Number t l e ok rest = worded OpenedRest t l (ap is_word e) (opened-word t l (ap is_word e) (rest argument refl))
prepend opened OtherWord t l e ok rest = worded OpenedRest t l (ap is_word e) (opened-word t l (ap is_word e) (rest argument refl))
prepend opened CloseArguments t l e ok rest = marked OpenedRest t l CloseArguments e refl (opened-end (rest closed refl))
prepend argument Comma t l e ok rest = marked WordsRest t l Comma e refl (words-more (rest argument_comma refl))
prepend argument CloseArguments t l e ok rest = marked WordsRest t l CloseArguments e refl (words-end (rest closed refl))
prepend argument_comma Name t l e ok rest = worded (Then IsWord WordsRest) t l (ap is_word e) (then-one IsWord WordsRest t l (ap is_word e) (rest argument refl))
prepend argument_comma Number t l e ok rest = worded (Then IsWord WordsRest) t l (ap is_word e) (then-one IsWord WordsRest t l (ap is_word e) (rest argument refl))
prepend argument_comma OtherWord t l e ok rest = worded (Then IsWord WordsRest) t l (ap is_word e) (then-one IsWord WordsRest t l (ap is_word e) (rest argument refl))
prepend closed Semicolon t l e ok rest = marked After t l Semicolon e refl (next (rest start refl))
prepend output_opened Number t l e ok rest = worded (Rest output_opened) t l (ap is_word e) (then-one IsNumber (Rest output_number) t l e (rest output_number refl))
prepend output_number ClosePort t l e ok rest = marked (Rest output_number) t l ClosePort e refl (then-one (IsMark ClosePort) (Rest output_closed) (mark ClosePort) l refl (rest output_closed refl))
prepend output_closed LeadsTo t l e ok rest = marked (Rest output_closed) t l LeadsTo e refl (then-one (IsMark LeadsTo) LeadsRest (mark LeadsTo) l refl (rest leads_to refl))
prepend leads_to OpenPort t l e ok rest = marked LeadsRest t l OpenPort e refl (leads-opened (rest input_opened refl))
prepend leads_to Name t l e ok rest = worded LeadsRest t l (ap is_word e) (leads-name t l e (rest next_name refl))
prepend input_opened Number t l e ok rest = worded (Rest input_opened) t l (ap is_word e) (then-one IsNumber (Rest input_number) t l e (rest input_number refl))
prepend input_number ClosePort t l e ok rest = marked (Rest input_number) t l ClosePort e refl (then-one (IsMark ClosePort) (Rest input_closed) (mark ClosePort) l refl (rest input_closed refl))
prepend input_closed Name t l e ok rest = worded (Rest input_closed) t l (ap is_word e) (then-one IsName HopsRest t l e (rest next_name refl))
prepend next_name OpenPort t l e ok rest = marked HopsRest t l OpenPort e refl (hop-more (mark OpenPort ∷ l) (hop-opened (rest output_opened refl)))
prepend next_name LeadsTo t l e ok rest = marked HopsRest t l LeadsTo e refl (hop-more (mark LeadsTo ∷ l) (hop-led (rest leads_to refl)))
prepend next_name Semicolon t l e ok rest = marked HopsRest t l Semicolon e refl (hops-end (rest start refl))
prepend p s t l e ok rest = absurd (ok refl)

-- the end of the text
at-end : (p : Place) → may_end p ≡ true → Rest p []
at-end start e = text-of nothing tt over
at-end class e = record { arguments = None; end = []; words = tt; later = over; are = refl }
at-end closed e = over
at-end next_name e = record { hops = []; end = []; sound = tt; later = over; are = refl }
at-end p e = absurd (cc)

rest-of : (p : Place) (ts : List Token) → wrong_from p ts ≡ None → Rest p (map bare ts)
rest-of p [] e = search (rules, at-end, prepend)
rest-of p (t ∷ ts) e = prepend p t.symbol t (map bare ts) refl some (λ q f. later q f (λ k. rest-of q ts k))
  where
    some : after p t.symbol ≢ None
    some f = let k = rw f at e in absurd (cc)

    later : (q : Place) → after p t.symbol ≡ Some q → (wrong_from q ts ≡ None → Rest q (map bare ts)) → Rest q (map bare ts)
    later q f more = more (rw f at e)

pub right-are-texts : (tokens : List Token) → wrong_from start tokens ≡ None → (statements : List Statement) × IsText tokens statements
right-are-texts tokens e =
    let text = rest-of start tokens e in (
      text.earlier ++ text.last ∷ [],
      record {
        earlier = text.earlier;
        last = text.last;
        are = refl;
        sound = all-append IsStatement text.earlier (text.last ∷ []) text.sound (text.is, tt);
        written_so = text.are;
      },
    )
