use Rattle.std.proofs.Common.{[], ◌++◌, sym, append_assoc, append-nil}
use Rattle.std.proofs.lemmas.Result.{err_from_is_err_and}
use Rattle.clk_packet.proofs.Callers.Bytes.{Wrote-then, Wrote-cut}
use Rattle.std.specs.List.{flat_map}
use Rattle.clk_report.specs.Devices.{lists_of}
use Rattle.clk_script.specs.AccountLines.{account_line}
use Rattle.clk_script.specs.Meaning.{has_several}
use Rattle.clk_script.specs.inside.Rows.{given_of, rows_text, closings_text, closings_of, ending_of}
use Rattle.clk_script.proofs.Texts.PassLemmas.{PassesOn-then, Wrote-passed, Wrote-front}
use Rattle.clk_script.proofs.writing.write_answer.Goals as goal

pub returns-in_err-write_rows : goal.returns-in_err-write_rows
returns-in_err-write_rows g c =
    let answer = c.args.answer.now in
    let done = answer.script_router in
    let p = err_from_is_err_and c.from_residual.result c.from_residual.ensures.1 in
    let failed = rw (c.new-lines.ensures, c.deref.ensures.value, c.deref-2.ensures.value, c.given_of.ensures, c.devices-several.ensures.count) at c.in_err-write_rows.ensures in
    rw (p.1, p.2) (Wrote-front _ _ _ _ _ (rows_text (has_several done.router.setup) answer.rows.items (given_of done) done.evicted.items) (ending_of done (closings_of answer.closing)) _ failed)

pub returns-in_default : goal.returns-in_default
returns-in_default g c =
    let answer = c.args.answer.now in
    let done = answer.script_router in
    let rows = rows_text (has_several done.router.setup) answer.rows.items (given_of done) done.evicted.items in
    let passed = rw (c.new-lines.ensures, c.deref.ensures.value, c.deref-2.ensures.value, c.given_of.ensures, c.devices-several.ensures.count) at c.in_ok-write_rows.ensures in
    rw (c.in_default.is, append-nil rows) (Wrote-passed _ _ _ _ _ _ _ _ [] rows _ passed c.write.ensures.wrote)

pub returns-in_err-write_closings : goal.returns-in_err-write_closings
returns-in_err-write_closings g c =
    let answer = c.args.answer.now in
    let done = answer.script_router in
    let rows = rows_text (has_several done.router.setup) answer.rows.items (given_of done) done.evicted.items in
    let closings = closings_text (has_several done.router.setup) 0 (lists_of c.in-Some.closings.items) in
    let report = flat_map account_line done.accounts.items in
    let p = err_from_is_err_and c.from_residual-in_err-write_closings.result c.from_residual-in_err-write_closings.ensures.1 in
    let passed = rw (c.new-lines.ensures, c.deref.ensures.value, c.deref-2.ensures.value, c.given_of.ensures, c.devices-several.ensures.count) at c.in_ok-write_rows.ensures in
    let failed = rw (c.deref-3.ensures.value, c.devices-several.ensures.count) at c.in_err-write_closings.ensures in
    let all = PassesOn-then _ _ _ _ _ _ _ _ _ rows _ closings _ passed failed in
    rw (p.1, p.2, c.in-Some.is, sym (append_assoc rows closings report)) (Wrote-front _ _ _ _ _ (rows ++ closings) report _ all)

pub returns-in_err-write : goal.returns-in_err-write
returns-in_err-write g c =
    let answer = c.args.answer.now in
    let done = answer.script_router in
    let rows = rows_text (has_several done.router.setup) answer.rows.items (given_of done) done.evicted.items in
    let closings = closings_text (has_several done.router.setup) 0 (lists_of c.in-Some.closings.items) in
    let report = flat_map account_line done.accounts.items in
    let p = err_from_is_err_and c.from_residual-in_err-write.result c.from_residual-in_err-write.ensures.1 in
    let passed = rw (c.new-lines.ensures, c.deref.ensures.value, c.deref-2.ensures.value, c.given_of.ensures, c.devices-several.ensures.count) at c.in_ok-write_rows.ensures in
    let more = rw (c.deref-3.ensures.value, c.devices-several.ensures.count) at c.in_ok-write_closings.ensures in
    let all = PassesOn-then _ _ _ _ _ _ _ _ _ rows _ closings _ passed more in
    rw (p.1, p.2, c.in-Some.is, sym (append_assoc rows closings report)) (Wrote-cut _ _ _ _ _ (rows ++ closings) report (Wrote-passed _ _ _ _ _ _ _ _ [] (rows ++ closings) _ all c.in_err-write.ensures.wrote))

pub returns : goal.returns
returns g c =
    let answer = c.args.answer.now in
    let done = answer.script_router in
    let rows = rows_text (has_several done.router.setup) answer.rows.items (given_of done) done.evicted.items in
    let closings = closings_text (has_several done.router.setup) 0 (lists_of c.in-Some.closings.items) in
    let report = flat_map account_line done.accounts.items in
    let passed = rw (c.new-lines.ensures, c.deref.ensures.value, c.deref-2.ensures.value, c.given_of.ensures, c.devices-several.ensures.count) at c.in_ok-write_rows.ensures in
    let more = rw (c.deref-3.ensures.value, c.devices-several.ensures.count) at c.in_ok-write_closings.ensures in
    let all = PassesOn-then _ _ _ _ _ _ _ _ _ rows _ closings _ passed more in
    let reported = rw c.deref-4.ensures.value at c.write_accounts.ensures in
    rw (c.in-Some.is, sym (append_assoc rows closings report)) (Wrote-then _ _ _ _ _ _ _ _ (rows ++ closings) report (Wrote-passed _ _ _ _ _ _ _ _ [] (rows ++ closings) _ all c.in_ok-write.ensures.wrote) reported)
