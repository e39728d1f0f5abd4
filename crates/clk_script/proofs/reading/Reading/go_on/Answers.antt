use Rattle.std.proofs.Common.{◌+◌, ◌++◌, take, sym, ap, ◌∙◌, subst, append_assoc}
use Rattle.std.proofs.lemmas.List.{take-append-drop}
use Rattle.clk_script.specs.inside.ScriptRouter.{named_by}
use Rattle.clk_script.specs.inside.Reading.{HasCome}
use Rattle.clk_script.proofs.Texts.ReadingLemmas.{come-line}
use Rattle.clk_script.proofs.reading.Reading.go_on.Goals as goal

pub go_on_from_line-requires-clause-come : goal.go_on_from_line-requires-clause-come
go_on_from_line-requires-clause-come c =
    let names = named_by c.args.numbers.now c.args.devices in
    let held = c.args.held.now.items in
    let piece = c.args.piece.now in
    let first = c.in-Some.first in
    let sound = sym c.is_some.ensures ∙ c.if-is_some.false in
    let whole = c.deref.ensures.value ∙ c.in_ok-extend_from_slice-2.ensures.items ∙ ap (λ l. held ++ l) c.split_at.ensures.front in (
      c.requires.come.0 ++ take (first + 1) piece,
      come-line names c.requires.come.0 held piece _ first c.args.self.now c.read_lines.new.self sound c.in-Some.ensures.0.high c.in-Some.ensures.1 whole c.requires.come.1 c.in_ok-read_lines.ensures.read,
    )

pub returns-clause-come : goal.returns-clause-come
returns-clause-come c text h =
    let names = named_by c.args.numbers.now c.args.devices in
    let held = c.args.held.now.items in
    let piece = c.args.piece.now in
    let first = c.in-Some.first in
    let sound = sym c.is_some.ensures ∙ c.if-is_some.false in
    let whole = c.deref.ensures.value ∙ c.in_ok-extend_from_slice-2.ensures.items ∙ ap (λ l. held ++ l) c.split_at.ensures.front in
    let line = come-line names text held piece _ first c.args.self.now c.read_lines.new.self sound c.in-Some.ensures.0.high c.in-Some.ensures.1 whole h c.in_ok-read_lines.ensures.read in
    let rest = ap (λ l. take (first + 1) piece ++ l) c.split_at.ensures.back ∙ take-append-drop (first + 1) piece in
    subst (λ all. HasCome names all c.go_on_from_line.new.self c.go_on_from_line.new.held.items) (append_assoc text (take (first + 1) piece) c.split_at.result.1.now ∙ ap (λ l. text ++ l) rest)
    (c.in_ok-go_on_from_line.ensures.come (text ++ take (first + 1) piece) line)
