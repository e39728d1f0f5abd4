-- The statements of a text, one after another.
use Rattle.std.proofs.Common.{◌≡◌, ◌<◌, List, [], ◌∷◌, ◌++◌, map, length, refl, sym, ap, subst, ◌∙◌, ◌+◌, arith}
use Rattle.std.proofs.lemmas.List.{append-nil, length-append, length-map, nil_from_length}
use Rattle.std.specs.List.{flat_map}
use Rattle.std.proofs.lemmas.List.Concat.{flat_map-append}
use Rattle.clk_packet.proofs.Callers.Lists.{all-append}
use Rattle.clk_syntax.specs.declared.texts.token.Symbol.TheVariants.{Semicolon}
use Rattle.clk_syntax.specs.declared.texts.token.Token.{Token}
use Rattle.clk_syntax.specs.declared.texts.statements.Statements.{Statements}
use Rattle.clk_syntax.specs.Diagram.{Place, start, closed}
use Rattle.clk_syntax.specs.Grammar.{Statement, nothing, mark, bare, written, ended, IsStatement}
use Rattle.clk_syntax.specs.Source.{kept, declared_in, connected_in}
use Rattle.clk_syntax.specs.inside.Parse.{Reads, Adds, StatementRead, EndRead, at_end, at_mark, EndedRead, EarlierRead, TextRead, ReadSoFar, earlier_read, text_read}
use Rattle.clk_syntax.proofs.Parsing.ParseLemmas.{reads-then, reads-as}

-- no statement yet
pub none-read : (ts : List Token) (now : Statements) → now.declarations.items ≡ [] → now.connections.items ≡ [] → ReadSoFar ts now ts
none-read ts now d c = earlier_read (record { earlier = []; sound = tt; declares = ap (map kept) d; connects = c; reads = record { written = refl; stands = refl } })

-- what one more statement declares and connects
more-declared : {old new : Statements} (earlier : List Statement) (s : Statement) → map kept old.declarations.items ≡ flat_map declared_in earlier → Adds old new (s ∷ [])
    → map kept new.declarations.items ≡ flat_map declared_in (earlier ++ s ∷ [])
more-declared earlier s e adds = adds.declares ∙ ap (λ l. l ++ flat_map declared_in (s ∷ [])) e ∙ sym (flat_map-append declared_in earlier (s ∷ []))

more-connected : {old new : Statements} (earlier : List Statement) (s : Statement) → old.connections.items ≡ flat_map connected_in earlier → Adds old new (s ∷ [])
    → new.connections.items ≡ flat_map connected_in (earlier ++ s ∷ [])
more-connected earlier s e adds = adds.connects ∙ ap (λ l. l ++ flat_map connected_in (s ∷ [])) e ∙ sym (flat_map-append connected_in earlier (s ∷ []))

earlier-more : {ts left mid us : List Token} {old new : Statements} → EarlierRead ts old left → StatementRead left old new mid → Reads closed mid (mark Semicolon ∷ []) start us → EarlierRead ts new us
earlier-more before read last =
    record {
      earlier = before.earlier ++ read.statement ∷ [];
      sound = all-append IsStatement before.earlier (read.statement ∷ []) before.sound (read.sound, tt);
      declares = more-declared before.earlier read.statement before.declares read.adds;
      connects = more-connected before.earlier read.statement before.connects read.adds;
      reads = reads-as (ap (λ l. flat_map ended before.earlier ++ l) (sym (append-nil (ended read.statement))) ∙ sym (flat_map-append ended before.earlier (read.statement ∷ []))) (reads-then before.reads (reads-then read.reads last));
    }

text-last : {ts left : List Token} {old new : Statements} → EarlierRead ts old left → StatementRead left old new [] → TextRead ts new
text-last before read =
    record {
      statements = before.earlier ++ read.statement ∷ [];
      text = record {
        earlier = before.earlier;
        last = read.statement;
        are = refl;
        sound = all-append IsStatement before.earlier (read.statement ∷ []) before.sound (read.sound, tt);
        written_so = before.reads.written ∙ ap (λ l. flat_map ended before.earlier ++ l) (read.reads.written ∙ append-nil (written read.statement));
      };
      declares = more-declared before.earlier read.statement before.declares read.adds;
      connects = more-connected before.earlier read.statement before.connects read.adds;
      stands = before.reads.stands ∙ read.reads.stands;
    }

text-end : {ts : List Token} {now : Statements} → EarlierRead ts now [] → TextRead ts now
text-end {now = now} before =
    text-last before (record {
      statement = nothing;
      sound = tt;
      adds = record { declares = sym (append-nil (map kept now.declarations.items)); connects = sym (append-nil now.connections.items) };
      reads = record { written = refl; stands = refl };
    })

-- one more statement
more-by_end : {ts left mid us : List Token} {old new : Statements} → EarlierRead ts old left → StatementRead left old new mid → EndRead mid us → ReadSoFar ts new us
more-by_end h statement at_end = text_read (text-last h statement)
more-by_end h statement (at_mark last) = earlier_read (earlier-more h statement last)

pub more-read : {ts left us : List Token} {old new : Statements} → ReadSoFar ts old left → 0 < length left → EndedRead left old new us → ReadSoFar ts new us
more-read (text_read h) some read = absurd (omega arith)
more-read (earlier_read h) some read = more-by_end h read.read read.last

-- all statements
pub all-read : {ts left : List Token} {now : Statements} → ReadSoFar ts now left → length left ≡ 0 → TextRead ts now
all-read (text_read h) e = h
all-read {ts} {left} {now} (earlier_read h) e = text-end (subst (λ l. EarlierRead ts now l) (nil_from_length left e) h)

-- tokens that are read leave fewer
reads-length : {p q : Place} {ts those us : List Token} → Reads p ts those q us → length ts ≡ length those + length us
reads-length {ts = ts} {those} {us} h = sym (length-map ts bare) ∙ ap length h.written ∙ length-append those (map bare us) ∙ ap (λ n. length those + n) (length-map us bare)

shorter-by_end : {ts mid us : List Token} {old new : Statements} → 0 < length ts → StatementRead ts old new mid → EndRead mid us → length us < length ts
shorter-by_end some statement at_end = some
shorter-by_end some statement (at_mark last) = omega (arith, reads-length statement.reads, reads-length last)

pub ended-shorter : {ts us : List Token} {old new : Statements} → 0 < length ts → EndedRead ts old new us → length us < length ts
ended-shorter some read = shorter-by_end some read.read read.last
