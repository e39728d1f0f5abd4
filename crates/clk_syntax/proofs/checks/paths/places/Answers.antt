use Rattle.std.proofs.Common.{◌≡◌, length, subst, arith}
use Rattle.clk_syntax.specs.inside.Checks.{IsFollowed}
use Rattle.clk_syntax.proofs.Graphs.TableLemmas.{one-filled}
use Rattle.clk_syntax.proofs.checks.paths.places.Goals as goal

pub overflow_cast-place : goal.overflow_cast-place
overflow_cast-place c = let few = c.requires.few in omega (arith, few)

pub loop-place-preserved : goal.loop-place-preserved
loop-place-preserved c =
    let before = c.loop-place.invariant in
    let more = c.in_ok-push.ensures.len in
    let len = before.len in
    record {
      len = omega (arith, more, len);
      each = one-filled (λ i. i) c.loop-place.place c.loop-place.table.items c.push.new.self.items c.in_ok-push.ensures.items before.len before.each;
    }

pub returns-clause-made : goal.returns-clause-made
returns-clause-made c =
    let whole : c.loop-place.place ≡ length c.args.graph.now.nodes.now = omega arith in
    subst (λ n. IsFollowed n c.args.graph.now.links.now 0 c.loop-place.table.items) whole (record { len = c.loop-place.invariant.len; each = c.loop-place.invariant.each })
