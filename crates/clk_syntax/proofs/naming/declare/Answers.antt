use Rattle.std.proofs.Common.{◌≡◌, ◌+◌, ◌++◌, ◌<◌, ◌∷◌, ◌∙◌, Bool, true, false, not, length, map, drop, slice_index_or, Some, inr, sym, ap, subst, arith, rules}
use Rattle.std.specs.Map.{update}
use Rattle.std.specs.Option.{option_map, is_some}
use Rattle.std.specs.Str.{bytes_eq}
use Rattle.std.proofs.lemmas.List.{drop_more}
use Rattle.clk_packet.specs.declared.fault.Fault.TheVariants.{NameTwice}
use Rattle.clk_syntax.specs.declared.texts.token.Token.{Token}
use Rattle.clk_syntax.specs.declared.texts.token.Symbol.TheVariants.{Name}
use Rattle.clk_syntax.specs.Source.{element}
use Rattle.clk_syntax.specs.inside.Naming.{Declares, place_in}
use Rattle.clk_syntax.specs.Within.{AreWithin}
use Rattle.clk_syntax.proofs.Elements.NameLemmas.{Declares-twice, Declares-more}
use Rattle.clk_syntax.proofs.naming.declare.Goals as goal

not_is : (a b c : Bool) → a ≡ not b → a ≡ c → b ≡ not c
not_is a b c e f = search rules

pub returns-then-not-branch-clause-declared : goal.returns-then-not-branch-clause-declared
returns-then-not-branch-clause-declared c =
    let d = c.args.declaration.now in
    let i = c.loop-name.name-index in
    let none : Token = record { symbol = Name; place = 0; length = 0 } in
    let items = c.as_slice-name-items.ensures in
    let token = slice_index_or c.as_slice-name-items.result.now i none in
    let inside : i < length d.names.items = rw items at c.loop-name-test.true in
    let next : drop i d.names.items ≡ token ∷ drop (i + 1) d.names.items = drop_more d.names.items i none inside ∙ ap (λ xs. slice_index_or xs i none ∷ drop (i + 1) d.names.items) (sym items) in
    let one = element c.args.text.now d.class d.arguments.items in
    let again : is_some (place_in c.loop-name.names (one token).name.letters) ≡ true = ap (λ name. is_some (place_in c.loop-name.names name)) (sym c.letters.ensures) ∙ not_is _ _ _ c.in_ok-declare.ensures.first c.if-not-branch.true in
    λ all more h. inr (ap (option_map NameTwice)
    (Declares-twice all (map one (drop (i + 1) d.names.items) ++ more) c.loop-name.names (one token) again
    (subst (λ xs. Declares all (map one xs ++ more) c.loop-name.names) next (c.loop-name.invariant.declares all more h))))

pub loop-name-preserved : goal.loop-name-preserved
loop-name-preserved c =
    let d = c.args.declaration.now in
    let i = c.loop-name.name-index in
    let none : Token = record { symbol = Name; place = 0; length = 0 } in
    let items = c.as_slice-name-items.ensures in
    let token = slice_index_or c.as_slice-name-items.result.now i none in
    let inside : i < length d.names.items = rw items at c.loop-name-test.true in
    let next : drop i d.names.items ≡ token ∷ drop (i + 1) d.names.items = drop_more d.names.items i none inside ∙ ap (λ xs. slice_index_or xs i none ∷ drop (i + 1) d.names.items) (sym items) in
    let one = element c.args.text.now d.class d.arguments.items in
    let fresh : is_some (place_in c.loop-name.names (one token).name.letters) ≡ false = ap (λ name. is_some (place_in c.loop-name.names name)) (sym c.letters.ensures) ∙ not_is _ _ _ c.in_ok-declare.ensures.first c.if-not-branch.false in
    let counted = c.in_ok-declare.ensures.counted in
    let count = c.loop-name.invariant.count in
    record {
      count = omega (arith, counted, count);
      slots = c.in_ok-declare.ensures.slots;
      within = (subst (AreWithin (length c.args.text.now)) next c.loop-name.invariant.within).1;
      declares = λ all more h.
          Declares-more all (map one (drop (i + 1) d.names.items) ++ more) c.loop-name.names c.declare.new.self (one token) fresh
          (λ name. c.in_ok-declare.ensures.placed name ∙ ap (λ l. update bytes_eq (place_in c.loop-name.names) l (Some c.loop-name.names.count) name) c.letters.ensures) counted
          (subst (λ xs. Declares all (map one xs ++ more) c.loop-name.names) next (c.loop-name.invariant.declares all more h));
    }
