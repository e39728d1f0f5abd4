use Rattle.std.specs.Prelude.{map, length, option_map}
use Rattle.std.proofs.Common.{refl, ap, ◌∙◌}
use Rattle.std.proofs.lemmas.Option.{slice_get-map, slice_get_read}
use Rattle.clk_tree.specs.Elements.{planned}
use Rattle.clk_lint.proofs.LoadLemmas.{longest-there}
use Rattle.clk_lint.proofs.load.+below.Goals as goal

pub longest_at-returns-in-Some : goal.longest_at-returns-in-Some
longest_at-returns-in-Some t c =
    let elements = c.args.elements.now in
    let element = c.in-Some.element.now in
    let lookup = c.in-Some.ensures.lookup in
    let there = slice_get-map planned elements c.args.place ∙ ap (option_map planned) (slice_get_read elements (length elements) c.args.place element refl lookup.3.0 lookup.1) in
    let below = rw c.deref.ensures.value at c.longest_from.ensures in
    longest-there (map planned elements) c.args.sent.now c.args.levels c.args.place (planned element) c.sent_at-own.result c.longest_from.result c.max.result
    c.if-levels-eq0.false there c.sent_at-own.ensures below c.max.ensures
