use Rattle.std.proofs.Common.{◌∙◌, map, length, sym, ap, subst}
use Rattle.std.specs.List.{AllByRecursion}
use Rattle.clk_syntax.specs.Source.{kept, elements}
use Rattle.clk_syntax.specs.inside.Naming.{IsTable, IsLinkBelow}
use Rattle.clk_syntax.proofs.naming.name_all.Goals as goal

pub returns-clause-within : goal.returns-clause-within
returns-clause-within c =
    let text = c.args.text.now in
    let all = elements text (map kept c.args.statements.now.declarations.items) in
    let table = subst (λ ds. IsTable (elements text (map kept ds)) c.in_ok-names.names) c.deref.ensures.value c.in_ok-names.ensures.1 in
    let count = c.in_ok-judged.ensures.3 ∙ ap (λ ds. length (elements text (map kept ds))) c.deref-3.ensures.value in
    subst (λ n. AllByRecursion (IsLinkBelow n) c.in_ok-links.links.items) (sym count) (c.in_ok-links.ensures all table).2
