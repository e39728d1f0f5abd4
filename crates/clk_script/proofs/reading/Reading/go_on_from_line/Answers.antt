use Rattle.std.proofs.Common.{◌++◌, [], sym, ap₂, ◌∙◌, subst}
use Rattle.clk_script.specs.inside.ScriptRouter.{named_by}
use Rattle.clk_script.specs.inside.Reading.{HasCome}
use Rattle.clk_script.proofs.Texts.ReadingLemmas.{come-lines}
use Rattle.clk_script.proofs.reading.Reading.go_on_from_line.Goals as goal

pub returns-clause-come : goal.returns-clause-come
returns-clause-come c text h =
    let names = named_by c.args.numbers.now c.args.devices in
    let piece = c.args.piece.now in
    let sound = sym c.is_some.ensures ∙ c.if-is_some.false in
    let rest = c.in_ok-extend_from_slice-2.ensures.items ∙ ap₂ (λ a b. a ++ b) c.requires.none c.split_at.ensures.back in
    subst (HasCome names (text ++ piece) c.read_lines.new.self) (sym rest)
    (come-lines names text [] piece _ c.in-Some.last c.args.self.now c.read_lines.new.self sound c.in-Some.ensures.0.high c.in-Some.ensures.1 c.split_at.ensures.front h c.in_ok-read_lines.ensures.read)
