use Rattle.std.proofs.Common.{◌≡◌, ◌+◌, None, Some, refl, sym, subst, append-nil, rules}
use Rattle.std.specs.Option.{option_or}
use Rattle.clk_script.specs.declared.script.ScriptLine.TheVariants.{Drain}
use Rattle.clk_script.specs.Script.{fault_at, drain_in}
use Rattle.clk_script.specs.inside.ScriptRouter.{named_by}
use Rattle.clk_script.proofs.Texts.ReadingLemmas.{reading-row, undrained-command, undrained-other, drained-first}
use Rattle.clk_script.proofs.reading.Reading.read_line.Goals as goal

pub returns-in_ok-push-in-Ok-Some-clause-read : goal.returns-in_ok-push-in-Ok-Some-clause-read
returns-in_ok-push-in-Ok-Some-clause-read c read h = search (rules, reading-row, undrained-command)

pub returns-in-Drain-clause-read : goal.returns-in-Drain-clause-read
returns-in-Drain-clause-read c read h =
    let names = named_by c.args.numbers.now c.args.devices in
    let fits = rw c.in-Ok-None.field-0-is at c.in-Ok-None.ensures in
    let o = c.args.self.now.script.closing in
    let n = c.args.self.now.lines + 1 in
    let first = drained-first names o n c.in-Drain.moment (subst (λ b. fault_at names b n (Drain c.in-Drain.moment) ≡ None) c.is_some.ensures (rw c.in-Drain.is at fits.0)) in
    reading-row names read c.args.self.now _ c.args.line None c.is_some.result h c.requires.none c.requires.readable c.is_some.ensures fits refl refl (sym (append-nil c.args.self.now.script.rows.items))
    (subst (λ l. Some c.in-Drain.moment ≡ option_or o (drain_in l)) (sym c.in-Drain.is) first)

pub returns-in_default : goal.returns-in_default
returns-in_default c =
    let names = named_by c.args.numbers.now c.args.devices in
    record {
      read = λ read h.
          let fits = rw c.in-Ok-None.field-0-is at c.in-Ok-None.ensures in
          reading-row names read c.args.self.now _ c.args.line None c.is_some.result h c.requires.none c.requires.readable c.is_some.ensures fits refl refl (sym (append-nil c.args.self.now.script.rows.items))
          (undrained-other c.args.self.now.script.closing c.args.line c.in_default.not-Drain);
      fault = tt;
    }
