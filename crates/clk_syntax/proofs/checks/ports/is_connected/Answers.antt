use Rattle.std.proofs.Common.{◌≡◌, ◌&&◌, ◌∙◌, true, false, ap, sym}
use Rattle.std.proofs.lemmas.Bool.{and_left}
use Rattle.clk_syntax.specs.Ports.{output_connected, all_connected, inputs_of}
use Rattle.clk_syntax.specs.inside.Checks.{leads_on, has_inputs}
use Rattle.clk_syntax.proofs.Graphs.CountLemmas.{inputs-counted, leads-on}
use Rattle.clk_syntax.proofs.checks.ports.is_connected.Goals as goal

pub returns-then-not-leads_on : goal.returns-then-not-leads_on
returns-then-not-leads_on c =
    let r = c.args.role in
    let links = c.args.graph.now.links.now in
    let out : output_connected c.args.place r links ≡ false = sym (leads-on c.args.place r links) ∙ ap (leads_on r) (sym c.target.ensures) ∙ sym c.leads_on.ensures ∙ c.if-not-leads_on.true in
    sym (and_left (output_connected c.args.place r links) (all_connected c.args.place (inputs_of c.args.place r links) links) out)

pub returns : goal.returns
returns c =
    let r = c.args.role in
    let links = c.args.graph.now.links.now in
    let out : output_connected c.args.place r links ≡ true = sym (leads-on c.args.place r links) ∙ ap (leads_on r) (sym c.target.ensures) ∙ sym c.leads_on.ensures ∙ c.if-not-leads_on.false in
    let all = inputs-counted c.args.graph.now.nodes.now c.args.place r links c.requires.role c.requires.there c.requires.once in
    c.has_inputs.ensures ∙ ap (has_inputs r) c.inputs.ensures ∙ all ∙ ap (λ b. b && all_connected c.args.place (inputs_of c.args.place r links) links) (sym out)
