use Rattle.std.proofs.Common.{◌∷◌, ◌++◌, [], ◌∙◌, sym, subst, append_assoc}
use Rattle.clk_script.specs.Script.{lines_of}
use Rattle.clk_script.specs.inside.ScriptRouter.{named_by}
use Rattle.clk_script.specs.inside.Reading.{AreRead, IsReading}
use Rattle.clk_script.proofs.Meanings.ScriptLemmas.{readable-first}
use Rattle.clk_script.proofs.Texts.ReadingLemmas.{reading-wrong, reading-sound, none-wrong, lines-whole, lines-left}
use Rattle.clk_script.proofs.reading.Reading.read_lines.Goals as goal

pub read_line-requires-clause-readable : goal.read_line-requires-clause-readable
read_line-requires-clause-readable c = readable-first c.loop-rest.rest.now c.next-line.result.0 (lines_of c.next-line.result.1.now) c.next-line.ensures.line

pub returns-then-is_some-clause-read : goal.returns-then-is_some-clause-read
returns-then-is_some-clause-read c lines h =
    let names = named_by c.args.numbers.now c.args.devices in
    let so_far = c.loop-rest.invariant.lines in
    let l = c.next-line.result.0 in
    let after = c.next-line.result.1.now in
    let now = c.in_ok-read_line.ensures.read (lines ++ so_far.0) (so_far.2 lines h) in
    subst (λ ls. IsReading names ls c.read_line.new.self) (lines-whole lines so_far.0 l c.args.text.now c.loop-rest.rest.now after c.next-line.ensures.line so_far.1)
    (reading-wrong names ((lines ++ so_far.0) ++ l ∷ []) (lines_of after) c.read_line.new.self (sym c.is_some.ensures ∙ c.if-is_some.true) now)

pub loop-rest-preserved : goal.loop-rest-preserved
loop-rest-preserved c =
    let names = named_by c.args.numbers.now c.args.devices in
    let so_far = c.loop-rest.invariant.lines in
    let l = c.next-line.result.0 in
    let none = none-wrong c.read_line.new.self.fault (sym c.is_some.ensures ∙ c.if-is_some.false) in
    record {
      none = none;
      lines = (
        so_far.0 ++ l ∷ [],
        lines-left so_far.0 l c.args.text.now c.loop-rest.rest.now c.next-line.result.1.now c.next-line.ensures.line so_far.1,
        λ lines h. subst (λ ls. AreRead names ls c.read_line.new.self) (append_assoc lines so_far.0 (l ∷ [])) (reading-sound names ((lines ++ so_far.0) ++ l ∷ []) c.read_line.new.self none (c.in_ok-read_line.ensures.read (lines ++ so_far.0) (so_far.2 lines h))),
      );
    }
