use Rattle.std.proofs.Common.{◌≡◌, ◌∙◌, sym, length}
use Rattle.std.proofs.lemmas.Result.{IfOk-weaker}
use Rattle.std.proofs.lemmas.Slice.Eq.{bytes_eq-Decides}
use Rattle.clk_syntax.specs.inside.Checks.{IsComposed, IsFollowed}
use Rattle.clk_syntax.proofs.Graphs.PathLemmas.{leads-on, composed-of, halfway-odd, halfway-even, halfway-still}
use Rattle.clk_syntax.proofs.checks.paths.ends_of.Goals.{then-left-eq1+in_ok-ends-2, else-left-eq1}
use Rattle.clk_syntax.proofs.checks.paths.ends_of.Goals as goal

pub composed-requires : goal.composed-requires
composed-requires c =
    let half = c.loop-left.invariant in
    leads-on c.args.graph.now.nodes.now c.args.graph.now.links.now half.long half.long c.loop-left.step.items c.loop-left.step.items _ _ c.requires.within half.ahead half.ahead c.deref.ensures.value
    c.deref-in-loop-left.ensures.value

pub composed-requires-then-eq : goal.composed-requires-then-eq
composed-requires-then-eq c =
    let half = c.loop-left.invariant in
    leads-on c.args.graph.now.nodes.now c.args.graph.now.links.now half.made half.long c.loop-left.ends.items c.loop-left.step.items _ _ c.requires.within half.behind half.ahead c.deref-then-eq.ensures.value
    c.deref-then-eq-2.ensures.value

pub composed-requires-then-left-eq1 : goal.composed-requires-then-left-eq1
composed-requires-then-left-eq1 c =
    let half = c.loop-left.invariant in
    leads-on c.args.graph.now.nodes.now c.args.graph.now.links.now half.made half.long c.loop-left.ends.items c.loop-left.step.items _ _ c.requires.within half.behind half.ahead
    c.deref-then-left-eq1.ensures.value c.deref-then-left-eq1-2.ensures.value

pub returns-then-eq-clause-made : goal.returns-then-eq-clause-made
returns-then-eq-clause-made c =
    let nodes = c.args.graph.now.nodes.now in
    let links = c.args.graph.now.links.now in
    let step = c.loop-left.step.items in
    let twice = c.in_ok-twice.twice.items in
    let double = composed-of step step _ _ twice c.deref.ensures.value c.deref-in-loop-left.ensures.value c.in_ok-twice.ensures.made in
    let same : twice ≡ step = (bytes_eq-Decides twice step).0 (sym c.eq.ensures ∙ c.if-eq.true) in
    IfOk-weaker c.composed-then-eq.result (λ table. IsComposed c.deref-then-eq.result.now c.deref-then-eq-2.result.now table.items) (λ table. IsFollowed (length nodes) links (length nodes) table.items)
    (λ table made.
    halfway-still nodes links c.loop-left.left c.loop-left.ends.items step twice table.items c.requires.within c.loop-left-test.true double same
    (composed-of c.loop-left.ends.items step _ _ table.items c.deref-then-eq.ensures.value c.deref-then-eq-2.ensures.value made) c.loop-left.invariant)
    c.composed-then-eq.ensures.made

pub loop-left-preserved : goal.loop-left-preserved
loop-left-preserved c =
    let nodes = c.args.graph.now.nodes.now in
    let links = c.args.graph.now.links.now in
    let step = c.loop-left.step.items in
    let twice = c.in_ok-twice.twice.items in
    let double = composed-of step step _ _ twice c.deref.ensures.value c.deref-in-loop-left.ensures.value c.in_ok-twice.ensures.made in
    elim c.if-left-eq1.branch [
      | then-left-eq1+in_ok-ends-2 w ↦
          let further = composed-of c.loop-left.ends.items step _ _ w.in_ok-ends-2.ends.items w.deref-then-left-eq1.ensures.value w.deref-then-left-eq1-2.ensures.value w.in_ok-ends-2.ensures.made in
          rw w.ends-is (halfway-odd nodes links c.loop-left.left c.loop-left.ends.items step w.in_ok-ends-2.ends.items twice c.requires.within w.if-left-eq1.true further double c.loop-left.invariant)
      | else-left-eq1 w ↦ rw w.ends-is (halfway-even nodes links c.loop-left.left c.loop-left.ends.items step twice c.requires.within w.if-left-eq1.false double c.loop-left.invariant)
    ]
