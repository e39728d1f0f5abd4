use Rattle.std.proofs.Common.{map, sym, ap, subst, length, ◌+◌, ◌≤◌, ◌∙◌}
use Rattle.clk_syntax.specs.declared.texts.statements.Declaration.{Declaration}
use Rattle.clk_syntax.specs.Source.{kept}
use Rattle.clk_tree.proofs.Building.BuildLemmas.{built-read, can-add-read}
use Rattle.clk_tree.proofs.plan.build.elements_of.Goals as goal

pub push_declared-requires-clause-numbers : goal.push_declared-requires-clause-numbers
push_declared-requires-clause-numbers c =
    (can-add-read c.args.graph.now c.args.text.now (map kept c.args.declarations.now) c.args.declarations.now c.args.classes.now c.loop-place.place c.index-declarations-place.result c.index-classes-place.result
    c.loop-place.elements.items c.loop-place.invariant c.loop-place-test.true c.index-declarations-place.is c.index-classes-place.is c.requires.words).numbers

pub push_declared-requires-clause-room : goal.push_declared-requires-clause-room
push_declared-requires-clause-room c =
    subst (λ n. length c.loop-place.elements.items + n ≤ length c.args.graph.now.nodes.now) (sym (ap length (c.deref.ensures ∙ ap (λ (x : Declaration). x.names.items) (sym c.index-declarations-place.is))))
    (can-add-read c.args.graph.now c.args.text.now (map kept c.args.declarations.now) c.args.declarations.now c.args.classes.now c.loop-place.place c.index-declarations-place.result c.index-classes-place.result
    c.loop-place.elements.items c.loop-place.invariant c.loop-place-test.true c.index-declarations-place.is c.index-classes-place.is c.requires.words).room

pub loop-place-preserved : goal.loop-place-preserved
loop-place-preserved c =
    built-read c.args.graph.now c.args.text.now (map kept c.args.declarations.now) c.args.declarations.now c.args.classes.now c.loop-place.place c.index-declarations-place.result c.index-classes-place.result
    c.deref.result.now c.loop-place.elements.items c.push_declared.new.elements.items c.loop-place.invariant c.loop-place-test.true c.index-declarations-place.is c.index-classes-place.is
    (c.deref.ensures ∙ ap (λ (x : Declaration). x.names.items) (sym c.index-declarations-place.is))
    c.in_ok-push_declared.ensures.added c.in_ok-push_declared.ensures.count
