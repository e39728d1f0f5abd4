-- How what the parser reads goes together.
use Rattle.std.proofs.Common.{true, false, length, arith, ◌≡◌, List, [], ◌∷◌, ◌++◌, map, Option, Some, refl, sym, ap, ◌∙◌, append_assoc, rules}
use Rattle.std.proofs.lemmas.List.{append-nil, map-append}
use Rattle.std.specs.List.{flat_map, AllByRecursion}
use Rattle.std.proofs.lemmas.List.Concat.{flat_map-append}
use Rattle.clk_packet.proofs.Callers.Lists.{all-append}
use Rattle.clk_syntax.specs.declared.texts.token.Symbol.{Symbol}
use Rattle.clk_syntax.specs.declared.texts.token.Symbol.TheVariants.{Name, LeadsTo, OpenArguments, CloseArguments, Semicolon}
use Rattle.clk_syntax.specs.declared.texts.token.Token.{Token}
use Rattle.clk_syntax.specs.declared.texts.statements.Connection.{Connection}
use Rattle.clk_syntax.specs.declared.texts.statements.Declaration.{Declaration}
use Rattle.clk_syntax.specs.declared.texts.statements.Statements.{Statements}
use Rattle.clk_syntax.specs.Diagram.{Place, start, first_name, further_name, opened, closed, next_name, after, wrong_from}
use Rattle.clk_syntax.specs.Grammar.{Hop, nothing, declaration, chain, mark, is_word, bare, listed, written_port, written_hop, IsName, IsWord}
use Rattle.clk_syntax.specs.Source.{Declared, kept, hops_from}
use Rattle.clk_syntax.specs.inside.Parse.{goes_on, IsPast, Reads, ArgumentsRead, DeclarationRead, HopRead, HopsRead, StatementRead, EndRead, at_end, at_mark, EndedRead, last_name}

-- one after another
pub reads-then : {p q r : Place} {ts xs us ys vs : List Token} → Reads p ts xs q us → Reads q us ys r vs → Reads p ts (xs ++ ys) r vs
reads-then {xs = xs} {ys = ys} {vs = vs} a b = search (rules, append_assoc)

-- the same tokens, written in another way
pub reads-as : {p q : Place} {ts xs ys us : List Token} → xs ≡ ys → Reads p ts xs q us → Reads p ts ys q us
reads-as {us = us} e a = record { written = a.written ∙ ap (λ l. l ++ map bare us) e; stands = a.stands }

-- a hop, by its parts
pub hop-written : (o i : Option Token) (name : Token) → (written_port o ++ mark LeadsTo ∷ []) ++ (written_port i ++ name ∷ []) ≡ written_hop (record { output = o; input = i; name = name })
hop-written o i name = search rules

hops-connect : (first : Token) (hops : List Hop) (h : Hop) → hops_from first (hops ++ h ∷ []) ≡ hops_from first hops ++ record { from = last_name first hops; output = h.output; input = h.input; to = h.name } ∷ []
hops-connect first [] h = refl
hops-connect first (hop ∷ hops) h = ap (λ (l : List Connection). record { from = first; output = hop.output; input = hop.input; to = hop.name } ∷ l) (hops-connect hop.name hops h)

hops-last : (first : Token) (hops : List Hop) (h : Hop) → last_name first (hops ++ h ∷ []) ≡ h.name
hops-last first [] h = refl
hops-last first (hop ∷ hops) h = hops-last hop.name hops h

-- no hops yet, and one more
pub hops-none : (first : Token) (ts : List Token) (old : List Connection) → (x : HopsRead first ts old old next_name ts) × (last_name first x.hops ≡ first)
hops-none first ts old = (record { hops = []; sound = tt; connects = sym (append-nil old); reads = record { written = refl; stands = refl } }, refl)

pub hops-more : {first from to : Token} {ts us vs : List Token} {old mid new : List Connection} → (x : HopsRead first ts old mid next_name us) → last_name first x.hops ≡ from → HopRead from us mid new to vs
    → (y : HopsRead first ts old new next_name vs) × (last_name first y.hops ≡ to)
hops-more {first} {from} {old = old} x e h = (
  record {
    hops = x.hops ++ h.hop ∷ [];
    sound = all-append _ x.hops (h.hop ∷ []) x.sound (h.sound, tt);
    connects = h.connects
        ∙ ap (λ l. l ++ record { from = from; output = h.hop.output; input = h.hop.input; to = h.hop.name } ∷ []) x.connects
        ∙ append_assoc old (hops_from first x.hops) (record { from = from; output = h.hop.output; input = h.hop.input; to = h.hop.name } ∷ [])
        ∙ ap (λ n. old ++ (hops_from first x.hops ++ record { from = n; output = h.hop.output; input = h.hop.input; to = h.hop.name } ∷ [])) (sym e)
        ∙ ap (λ l. old ++ l) (sym (hops-connect first x.hops h.hop));
    reads = reads-as (ap (λ l. flat_map written_hop x.hops ++ l) (sym (append-nil (written_hop h.hop))) ∙ sym (flat_map-append written_hop x.hops (h.hop ∷ []))) (reads-then x.reads h.reads);
  },
  hops-last first x.hops h.hop ∙ h.name,
)

pub bare-word : (t : Token) → is_word t.symbol ≡ true → bare t ≡ t
bare-word t e = rw e refl

-- a mark
pub reads-mark : {p q : Place} {ts rest : List Token} (t : Token) (s : Symbol) → ts ≡ t ∷ rest → t.symbol ≡ s → is_word s ≡ false → after p s ≡ Some q → Reads p ts (mark s ∷ []) q rest
reads-mark {rest = rest} t s are e none next = search rules

-- a name
pub reads-name : {p q : Place} {ts rest : List Token} (t : Token) → ts ≡ t ∷ rest → IsName t → after p Name ≡ Some q → Reads p ts (t ∷ []) q rest
reads-name {rest = rest} t are e next = search (rules, bare-word)

pub arguments-read : {ts us vs ws : List Token} → IsPast OpenArguments ts us → AllByRecursion IsWord ws → Reads opened us (listed ws ++ mark CloseArguments ∷ []) closed vs → ArgumentsRead ts ws vs
arguments-read {ws = ws} past words reads =
    record { those = Some ws; are = refl; sound = words; reads = reads-then (reads-mark past.first OpenArguments past.are past.is refl refl) reads }

pub end-none : (ts : List Token) → length ts ≡ 0 → EndRead ts ts
end-none [] e = at_end
end-none (t ∷ ts) e = absurd (omega arith)

pub end-mark : {ts us : List Token} (t : Token) → ts ≡ t ∷ us → t.symbol ≡ Semicolon → EndRead ts us
end-mark t are e = at_mark (reads-mark t Semicolon are e refl refl)

-- a semicolon ends a statement that is none
pub ended-none : {ts us : List Token} {old : Statements} → IsPast Semicolon ts us → EndedRead ts old old us
ended-none {ts} {us} {old} past =
    record {
      middle = ts;
      read = record {
        statement = nothing;
        sound = tt;
        adds = record { declares = sym (append-nil (map kept old.declarations.items)); connects = sym (append-nil old.connections.items) };
        reads = record { written = refl; stands = same past.first past.are past.is };
      };
      last = end-mark past.first past.are past.is;
    }
  where
    same : (t : Token) → ts ≡ t ∷ us → t.symbol ≡ Semicolon → wrong_from start ts ≡ wrong_from closed ts
    same t are e = search (rules, append-nil, end-mark)

-- what follows the first name of a chain, and of a declaration
first-hop : (ts : List Token) → goes_on ts ≡ true → wrong_from first_name ts ≡ wrong_from next_name ts
first-hop ts e = search rules

first-other : (ts : List Token) → goes_on ts ≡ false → wrong_from first_name ts ≡ wrong_from further_name ts
first-other ts e = search rules

-- a chain
pub chain-read : {first to : Token} {ts us vs : List Token} {old new : Statements} (mid : List Connection) → IsName first → goes_on ts ≡ true → HopRead first ts old.connections.items mid to us
    → HopsRead to us mid new.connections.items closed vs → new.declarations.items ≡ old.declarations.items → StatementRead (first ∷ ts) old new vs
chain-read {first} {to} {ts} {us} {vs} {old} {new} mid name goes h hs same =
    record {
      statement = chain first h.hop hs.hops;
      sound = (name, h.sound, hs.sound);
      adds = record {
        declares = ap (map kept) same ∙ sym (append-nil (map kept old.declarations.items));
        connects = hs.connects
            ∙ ap (λ l. l ++ hops_from to hs.hops) h.connects
            ∙ append_assoc old.connections.items (this ∷ []) (hops_from to hs.hops)
            ∙ ap (λ (n : Token). old.connections.items ++ (this ∷ hops_from n hs.hops)) (sym h.name)
            ∙ ap (λ l. old.connections.items ++ l) (sym (append-nil (hops_from first (h.hop ∷ hs.hops))));
      };
      reads = reads-then (reads-name first refl name refl) (reads-then (record { written = h.reads.written; stands = first-hop ts goes ∙ h.reads.stands }) hs.reads);
    }
  where
    this : Connection
    this = record { from = first; output = h.hop.output; input = h.hop.input; to = h.hop.name }

-- a declaration
pub declaration-read : {first : Token} {ts us : List Token} {old new : Statements} (d : Declaration) → IsName first → goes_on ts ≡ false → DeclarationRead first ts (kept d) us → new.declarations.items ≡ old.declarations.items ++ d ∷ []
    → new.connections.items ≡ old.connections.items → StatementRead (first ∷ ts) old new us
declaration-read {first} {ts} {us} {old} {new} d name goes h adds same =
    record {
      statement = declaration first h.more d.class h.arguments;
      sound = (name, h.names, h.class_is, h.words);
      adds = record {
        declares = ap (map kept) adds ∙ map-append kept old.declarations.items (d ∷ []) ∙ ap (λ (e : Declared). map kept old.declarations.items ++ e ∷ []) h.are;
        connects = same ∙ sym (append-nil old.connections.items);
      };
      reads = reads-then (reads-name first refl name refl) (record { written = h.reads.written; stands = first-other ts goes ∙ h.reads.stands });
    }
