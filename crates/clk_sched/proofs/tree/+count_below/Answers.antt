use Rattle.std.proofs.Common.{◌≡◌, sym, ap, ◌∙◌, subst, arith}
use Rattle.clk_sched.specs.Tree.{queue}
use Rattle.clk_sched.specs.Built.{row}
use Rattle.clk_sched.specs.inside.Kept.{kept}
use Rattle.clk_sched.specs.inside.Drrs.{IsCounted}
use Rattle.clk_sched.proofs.Trees.TreeLemmas.{rest, first-rest, elements-row}
use Rattle.clk_sched.proofs.Trees.Drrs.{CanCount, can-first, can-later, leaf-place, counted-cons}
use Rattle.clk_sched.proofs.tree.+count_below.Goals as goal

pub Tree::count_below-bounds-counts-from : goal.Tree::count_below-bounds-counts-from
Tree::count_below-bounds-counts-from t c =
    let is : c.args.self.now ≡ queue c.from.result = sym c.self.view_is ∙ ap kept c.in-Leaf.is ∙ ap queue (sym c.from.ensures) in
    leaf-place c.from.result c.args.self.now c.args.counts.now is c.requires.places

pub drrs::count_below-count_below-requires : goal.drrs::count_below-count_below-requires
drrs::count_below-count_below-requires t c =
    let more = rest c.args.trees.now in
    let is = first-rest c.args.trees.now c.first-item.result (omega arith) c.first-item.is in
    let all : CanCount c.args.above c.args.counts.now (row c.args.trees.now) = record { places = c.requires.places; distinct = c.requires.distinct; low = c.requires.low } in
    let can = can-first c.args.above c.first-item.result more c.args.counts.now (subst (λ trees. CanCount c.args.above c.args.counts.now (row trees)) is all) in
    (omega (arith, elements-row c.args.trees.now c.first-item.result (omega arith) c.first-item.is, c.decreases), (can.places, (can.distinct, can.low)))

pub drrs::count_below-count_below-requires-2 : goal.drrs::count_below-count_below-requires-2
drrs::count_below-count_below-requires-2 t c =
    let more = rest c.args.trees.now in
    let is = first-rest c.args.trees.now c.first-item.result (omega arith) c.first-item.is in
    let all : CanCount c.args.above c.args.counts.now (row c.args.trees.now) = record { places = c.requires.places; distinct = c.requires.distinct; low = c.requires.low } in
    let can = can-later c.args.above c.first-item.result more c.args.counts.now c.count_below.new.counts c.count_below.ensures.long (subst (λ trees. CanCount c.args.above c.args.counts.now (row trees)) is all) in
    (omega (arith, elements-row c.args.trees.now c.first-item.result (omega arith) c.first-item.is, c.decreases), (can.places, (can.distinct, can.low)))

pub drrs::count_below-returns : goal.drrs::count_below-returns
drrs::count_below-returns t c =
    let more = rest c.args.trees.now in
    let is = first-rest c.args.trees.now c.first-item.result (omega arith) c.first-item.is in
    let all : CanCount c.args.above c.args.counts.now (row c.args.trees.now) = record { places = c.requires.places; distinct = c.requires.distinct; low = c.requires.low } in
    let whole = subst (λ trees. CanCount c.args.above c.args.counts.now (row trees)) is all in
    subst (λ trees. IsCounted c.args.above (row trees) c.args.counts.now c.count_below-2.new.counts) (sym is)
    (counted-cons c.args.above c.first-item.result more c.args.counts.now c.count_below.new.counts c.count_below-2.new.counts whole.distinct c.count_below.ensures c.count_below-2.ensures)
