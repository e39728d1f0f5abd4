use Rattle.std.proofs.Common.{◌≡◌, ◌<◌, ◌∙◌, length, ap, sym, subst, arith}
use Rattle.clk_syntax.specs.Ports.{is_scheduler, next}
use Rattle.clk_syntax.proofs.Graphs.LevelLemmas.{counting, counted, counts-one, counts-on, counts-end, next-some, next-none, next-within}
use Rattle.clk_syntax.proofs.checks.shape.levels.Goals as goal

pub loop-left-preserved-in-Some : goal.loop-left-preserved-in-Some
loop-left-preserved-in-Some c =
    let nodes = c.args.graph.now.nodes.now in
    let links = c.args.graph.now.links.now in
    let here : c.level-level.result ≡ counted nodes c.loop-left.at = c.level-level.ensures ∙ ap (λ r. counting (is_scheduler r)) c.role.ensures in
    let leads : next links c.loop-left.at ≡ c.in-Some.target = next-some c.loop-left.at c.in-Some.target links (sym c.target.ensures ∙ c.in-Some.is) in
    let few = counts-one nodes c.loop-left.at c.level-level.result here in
    record {
      within = subst (λ i. i < length nodes) leads (next-within c.loop-left.at nodes links c.requires.tabled.within c.loop-left.invariant.within);
      few = let before = c.loop-left.invariant.few in omega arith;
      same = counts-on nodes links c.loop-left.count c.loop-left.left c.loop-left.at c.in-Some.target c.level-level.result _ c.loop-left-test.true leads here c.loop-left.invariant.same;
    }

pub returns-in-None : goal.returns-in-None
returns-in-None c =
    let nodes = c.args.graph.now.nodes.now in
    let links = c.args.graph.now.links.now in
    let here : c.level-level.result ≡ counted nodes c.loop-left.at = c.level-level.ensures ∙ ap (λ r. counting (is_scheduler r)) c.role.ensures in
    let stays : next links c.loop-left.at ≡ c.loop-left.at = next-none c.loop-left.at links (sym c.target.ensures ∙ c.in-None.is) in
    counts-end nodes links c.loop-left.count c.loop-left.left c.loop-left.at c.level-level.result _ stays here c.if-level-eq0.true c.loop-left.invariant.same

pub loop-left-preserved : goal.loop-left-preserved
loop-left-preserved c =
    let nodes = c.args.graph.now.nodes.now in
    let links = c.args.graph.now.links.now in
    let here : c.level-level.result ≡ counted nodes c.loop-left.at = c.level-level.ensures ∙ ap (λ r. counting (is_scheduler r)) c.role.ensures in
    let stays : next links c.loop-left.at ≡ c.loop-left.at = next-none c.loop-left.at links (sym c.target.ensures ∙ c.in-None.is) in
    let few = counts-one nodes c.loop-left.at c.level-level.result here in
    record {
      within = c.loop-left.invariant.within;
      few = let before = c.loop-left.invariant.few in omega arith;
      same = counts-on nodes links c.loop-left.count c.loop-left.left c.loop-left.at c.loop-left.at c.level-level.result _ c.loop-left-test.true stays here c.loop-left.invariant.same;
    }
