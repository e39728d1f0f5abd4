use Rattle.std.proofs.Common.{◌<◌, ◌∙◌, sym, subst}
use Rattle.std.proofs.lemmas.List.{get_or_read}
use Rattle.clk_syntax.proofs.checks.tables.Graph.inputs.Goals as goal

pub returns : goal.returns
returns c =
    let tabled = c.requires.tabled.inputs in
    let inside = subst (λ n. c.args.place < n) (sym tabled.len) c.requires.place in
    get_or_read c.args.self.now.inputs.items c.args.place c.index.result.now inside c.index.ensures (record { count = 0; end = 0 }) ∙ tabled.each c.args.place c.requires.place
