use Rattle.std.proofs.Common.{◌-◌, length, arith}
use Rattle.clk_syntax.specs.declared.limits.TheConstants.{MAX_TREE_BYTES}
use Rattle.clk_syntax.specs.declared.node.Link.{Link}
use Rattle.clk_syntax.proofs.Graphs.FailureLemmas.{all-at}
use Rattle.clk_syntax.specs.Within.{IsLinkWithin}
use Rattle.clk_syntax.proofs.Graphs.TableLemmas.{count-read, before-within, input-before}
use Rattle.clk_syntax.proofs.checks.tables.inputs_of.Goals as goal

pub overflow_add-used : goal.overflow_add-used
overflow_add-used c =
    let none : Link = record { from = 0; output = 0; input = 0; to = 0; from_place = 0; to_place = 0 } in
    let inside = all-at (IsLinkWithin c.args.nodes.now) c.args.links.now (c.loop-place.place - 1) none (omega arith) c.requires.within in
    let few = count-read (length c.args.nodes.now) MAX_TREE_BYTES c.loop-place.place _ c.args.links.now c.loop-place.inputs.items c.index-used.result.now c.loop-place.invariant inside.1 c.index-used.ensures c.requires.few in
    omega (arith, few)

pub index-used-requires : goal.index-used-requires
index-used-requires c =
    let inside = before-within c.args.nodes.now c.args.links.now c.loop-place.place (record { from = 0; output = 0; input = 0; to = 0; from_place = 0; to_place = 0 }) c.loop-place-test.true c.loop-place.auto.place c.requires.within in
    let len = c.loop-place.invariant.len in let there = inside.1 in omega (arith, len, there)

pub index_mut-requires : goal.index_mut-requires
index_mut-requires c =
    let inside = before-within c.args.nodes.now c.args.links.now c.loop-place.place (record { from = 0; output = 0; input = 0; to = 0; from_place = 0; to_place = 0 }) c.loop-place-test.true c.loop-place.auto.place c.requires.within in
    let len = c.loop-place.invariant.len in let there = inside.1 in omega (arith, len, there)

pub loop-place-preserved : goal.loop-place-preserved
loop-place-preserved c =
    input-before c.args.nodes.now c.args.links.now c.loop-place.place (record { from = 0; output = 0; input = 0; to = 0; from_place = 0; to_place = 0 }) c.loop-place.inputs.items c.index-used.result.now c.max.result c.loop-place-test.true c.loop-place.auto.place
    c.requires.within c.index-used.ensures c.max.ensures c.loop-place.invariant
