use Rattle.std.proofs.Common.{arith}
use Rattle.clk_syntax.proofs.Graphs.TableLemmas.{before-within, target-before}
use Rattle.clk_syntax.proofs.checks.tables.targets_of.Goals as goal

pub index_mut-requires : goal.index_mut-requires
index_mut-requires c =
    let inside = before-within c.args.nodes.now c.args.links.now c.loop-place.place (record { from = 0; output = 0; input = 0; to = 0; from_place = 0; to_place = 0 }) c.loop-place-test.true c.loop-place.auto.place c.requires in
    let len = c.loop-place.invariant.len in let there = inside.0 in omega (arith, len, there)

pub loop-place-preserved : goal.loop-place-preserved
loop-place-preserved c =
    target-before c.args.nodes.now c.args.links.now c.loop-place.place (record { from = 0; output = 0; input = 0; to = 0; from_place = 0; to_place = 0 }) c.loop-place.targets.items c.loop-place-test.true c.loop-place.auto.place c.requires c.loop-place.invariant
