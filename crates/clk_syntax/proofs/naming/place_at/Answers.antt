use Rattle.std.proofs.Common.{◌∙◌, sym, ap}
use Rattle.clk_syntax.specs.Source.{letters}
use Rattle.clk_syntax.specs.inside.Naming.{place_in}
use Rattle.clk_syntax.proofs.Elements.LinkLemmas.{found}
use Rattle.clk_syntax.proofs.naming.place_at.Goals as goal

pub returns-in-Some : goal.returns-in-Some
returns-in-Some c =
    let name = letters c.args.text.now c.args.name.now in
    λ all table. found all name c.args.name.now.place c.in-Some.place (sym (table name) ∙ ap (place_in c.args.names.now) (sym c.letters.ensures) ∙ sym c.in-Some.ensures)
