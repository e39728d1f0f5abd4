use Rattle.std.proofs.Common.{◌≡◌, ◌+◌, ◌∙◌, true, false, length, map, drop, sym, ap, subst}
use Rattle.std.specs.Option.{option_map}
use Rattle.std.specs.List.{AllByRecursion}
use Rattle.clk_packet.specs.declared.fault.Fault.TheVariants.{UnknownClass}
use Rattle.clk_syntax.specs.Classes.{class_named}
use Rattle.clk_syntax.specs.Source.{kept, elements, letters}
use Rattle.clk_syntax.specs.Declarations.{is_missing}
use Rattle.clk_syntax.specs.Within.{IsDeclaredWithin, IsNamed}
use Rattle.clk_syntax.proofs.Callers.Lists.{drop-item}
use Rattle.clk_syntax.proofs.Elements.UnknownLemmas.{unknown_in, unknown_class-in, unknown-passed, unknown-found}
use Rattle.clk_syntax.proofs.naming.check_classes.Goals as goal

pub loop-declaration-init : goal.loop-declaration-init
loop-declaration-init c = record { within = c.requires.within; named = c.requires.named; unknown = unknown_class-in (elements c.args.text.now (map kept c.args.declarations.now)) }

pub returns-in-None : goal.returns-in-None
returns-in-None c =
    let text = c.args.text.now in
    let ds = c.args.declarations.now in
    let i = c.loop-declaration.declaration-index in
    let d = c.declaration-item.result in
    let next = drop-item ds i d c.loop-declaration-test.true c.declaration-item.is in
    let missing : is_missing (class_named (letters text d.class)) ≡ true = ap (λ l. is_missing (class_named l)) (sym c.letters.ensures) ∙ ap is_missing (sym c.in-None.ensures) in
    let named = (subst (λ xs. AllByRecursion IsNamed (map kept xs)) next c.loop-declaration.invariant.named).0 in
    ap (option_map UnknownClass)
    (c.loop-declaration.invariant.unknown ∙ ap (λ xs. unknown_in (elements text (map kept xs))) next
    ∙ unknown-found text d.class d.arguments.items d.names.items (elements text (map kept (drop (i + 1) ds))) missing named)

pub loop-declaration-preserved : goal.loop-declaration-preserved
loop-declaration-preserved c =
    let text = c.args.text.now in
    let ds = c.args.declarations.now in
    let i = c.loop-declaration.declaration-index in
    let d = c.declaration-item.result in
    let next = drop-item ds i d c.loop-declaration-test.true c.declaration-item.is in
    let there : is_missing (class_named (letters text d.class)) ≡ false = ap (λ l. is_missing (class_named l)) (sym c.letters.ensures) ∙ ap is_missing (sym c.in-Some.ensures) in
    record {
      within = (subst (λ xs. AllByRecursion (IsDeclaredWithin (length text)) (map kept xs)) next c.loop-declaration.invariant.within).1;
      named = (subst (λ xs. AllByRecursion IsNamed (map kept xs)) next c.loop-declaration.invariant.named).1;
      unknown = c.loop-declaration.invariant.unknown ∙ ap (λ xs. unknown_in (elements text (map kept xs))) next
          ∙ unknown-passed text d.class d.arguments.items d.names.items (elements text (map kept (drop (i + 1) ds))) there;
    }
