use Rattle.std.proofs.Common.{◌≡◌, ◌∙◌, ◌∷◌, ◌+◌, false, ℕ, Option, None, get_or, drop, sym, subst, rules}
use Rattle.std.specs.Option.{is_some}
use Rattle.std.proofs.lemmas.List.{drop_more}
use Rattle.clk_syntax.specs.declared.node.Link.{Link}
use Rattle.clk_syntax.specs.Within.{IsLinkWithin}
use Rattle.clk_syntax.specs.inside.Used.{is_used}
use Rattle.clk_syntax.proofs.Graphs.FailureLemmas.{all-at}
use Rattle.clk_syntax.proofs.Graphs.PortLemmas.{HasSeen, seen-again, seen-more}
use Rattle.clk_syntax.proofs.checks.ports.port_twice.Goals as goal

none-there : (o : Option ℕ) → is_some o ≡ false → o ≡ None
none-there o e = search rules

pub loop-link-preserved : goal.loop-link-preserved
loop-link-preserved c =
    let nodes = c.args.graph.now.nodes.now in
    let links = c.args.graph.now.links.now in
    let i = c.loop-link.link-index in
    let none : Link = record { from = 0; output = 0; input = 0; to = 0; from_place = 0; to_place = 0 } in
    let link = get_or links i none in
    let outputs = c.loop-link.outputs.items in
    let inside = all-at (IsLinkWithin nodes) links i none c.loop-link-test.true c.requires.within in
    let next : drop i links ≡ link ∷ drop (i + 1) links = drop_more links i none c.loop-link-test.true in
    let seen = subst (λ left. HasSeen nodes links left outputs (is_used c.loop-link.inputs)) next c.loop-link.invariant.seen in
    let quiet : c.in_ok-place.place ≡ None = none-there c.in_ok-place.place (sym c.is_some.ensures ∙ c.if-is_some.false) in
    record {
      size = c.mark_ports.ensures.size ∙ c.loop-link.invariant.size;
      seen = subst (λ marked. HasSeen nodes links (drop (i + 1) links) marked (is_used c.mark_ports.new.inputs)) (sym (c.in_ok-place.ensures.outputs quiet))
          (seen-more nodes links link (drop (i + 1) links) outputs (is_used c.loop-link.inputs) (is_used c.mark_ports.new.inputs) inside.0 (sym c.in_ok-place.ensures.place ∙ quiet)
          (c.in_ok-place.ensures.inputs quiet) seen);
    }

pub returns-then-is_some : goal.returns-then-is_some
returns-then-is_some c =
    let nodes = c.args.graph.now.nodes.now in
    let links = c.args.graph.now.links.now in
    let i = c.loop-link.link-index in
    let none : Link = record { from = 0; output = 0; input = 0; to = 0; from_place = 0; to_place = 0 } in
    let link = get_or links i none in
    let outputs = c.loop-link.outputs.items in
    let inside = all-at (IsLinkWithin nodes) links i none c.loop-link-test.true c.requires.within in
    let next : drop i links ≡ link ∷ drop (i + 1) links = drop_more links i none c.loop-link-test.true in
    let seen = subst (λ left. HasSeen nodes links left outputs (is_used c.loop-link.inputs)) next c.loop-link.invariant.seen in
    record {
      place = seen-again nodes links link (drop (i + 1) links) outputs (is_used c.loop-link.inputs) c.in_ok-place.place inside.0 seen c.in_ok-place.ensures.place (sym c.is_some.ensures ∙ c.if-is_some.true);
      fault = tt;
    }
