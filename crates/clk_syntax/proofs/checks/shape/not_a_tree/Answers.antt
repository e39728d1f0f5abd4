use Rattle.std.proofs.Common.{◌<◌, length, arith}
use Rattle.std.proofs.lemmas.List.{get_or_read}
use Rattle.clk_syntax.proofs.Graphs.PathLemmas.{table-within}
use Rattle.clk_syntax.proofs.checks.shape.not_a_tree.Goals as goal

pub role-requires : goal.role-requires
role-requires c =
    let table = c.in_ok-ends.ends.items in
    let made = c.in_ok-ends.ensures.made in
    let len = made.len in
    let inside : c.loop-place.place < length table = omega arith in
    let read = get_or_read table c.loop-place.place c.index.result.now inside c.index.ensures 0 in
    let small = table-within c.args.graph.now.nodes.now c.args.graph.now.links.now _ table c.requires.within made c.loop-place.place inside in
    omega arith
