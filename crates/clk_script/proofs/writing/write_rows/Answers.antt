use Rattle.std.proofs.Common.{◌+◌, ◌∙◌, drop, ap₂, sym, ◌++◌, arith}
use Rattle.std.proofs.lemmas.Result.{err_from_is_err_and}
use Rattle.clk_script.specs.inside.Rows.{row_text, rows_text}
use Rattle.clk_script.proofs.Texts.PassLemmas.{HasPassed-more, HasPassed-cut, line-alone}
use Rattle.clk_script.proofs.Carrying.RowLemmas.{rows-left}
use Rattle.clk_script.proofs.writing.write_rows.Goals as goal

pub returns-in_err-add : goal.returns-in_err-add
returns-in_err-add g c =
    let p = err_from_is_err_and c.from_residual.result c.from_residual.ensures.1 in
    let given = c.loop-row.given.now in
    let fronts = c.loop-row.fronts.now in
    let line = line-alone c.put_row.result.0 c.put_row.new.line c.loop-row.line (row_text c.args.several c.row-item.result given fronts) c.loop-row.invariant.room (c.put_row.auto.line ∙ c.loop-row.invariant.room) c.put_row.ensures.piece in
    let left = rows-left c.args.several c.args.rows.now c.loop-row.row-index c.row-item.result given fronts (omega arith) c.row-item.is in
    let failed = rw line at c.in_err-add.ensures in
    rw (p.1, p.2) (HasPassed-cut _ _ _ _ _ _ _ _ _ _ _ _ _ _ c.loop-row.invariant.passed failed left)

pub loop-row-preserved : goal.loop-row-preserved
loop-row-preserved g c =
    let given = c.loop-row.given.now in
    let fronts = c.loop-row.fronts.now in
    let rows = c.args.rows.now in
    let i = c.loop-row.row-index in
    let row = c.row-item.result in
    let line = line-alone c.put_row.result.0 c.put_row.new.line c.loop-row.line (row_text c.args.several row given fronts) c.loop-row.invariant.room (c.put_row.auto.line ∙ c.loop-row.invariant.room) c.put_row.ensures.piece in
    let left = rows-left c.args.several rows i row given fronts (omega arith) c.row-item.is ∙ ap₂ (λ g f. row_text c.args.several row given fronts ++ rows_text c.args.several (drop (i + 1) rows) g f) (sym c.put_row.ensures.given) (sym c.put_row.ensures.fronts) in
    let passed = rw line at c.in_ok-add.ensures in
    record { passed = HasPassed-more _ _ _ _ _ _ _ _ _ _ _ _ _ _ c.loop-row.invariant.passed passed left; room = c.put_row.auto.line ∙ c.loop-row.invariant.room }
