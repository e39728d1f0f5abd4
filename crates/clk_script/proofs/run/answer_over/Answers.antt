use Rattle.std.proofs.Common.{◌≡◌, ◌≤◌, length, true, None, Ok, Err, Result, IfOk, IfSome, subst, ◌∙◌}
use Rattle.std.proofs.lemmas.Result.{err_from_is_err_and}
use Rattle.clk_packet.specs.declared.fault.Fault.{Fault}
use Rattle.clk_router.specs.Events.{Setup}
use Rattle.clk_script.specs.Script.{script_fault}
use Rattle.clk_script.specs.declared.limits.TheConstants.{MAX_LINES}
use Rattle.clk_script.specs.Meaning.{Explains}
use Rattle.clk_script.specs.declared.answer.Answer.{Answer}
use Rattle.clk_script.specs.inside.ScriptRouter.{names_in, Starts}
use Rattle.clk_script.specs.inside.Rows.{asked_by, Answers, CanBeRun}
use Rattle.clk_script.specs.inside.Replay.{IsAnswerOver}
use Rattle.clk_script.proofs.Meanings.RefusalLemmas.{not-read-why, names-told, names-opened, answer-over}
use Rattle.clk_script.proofs.Texts.SourceLemmas.{source-sound}
use Rattle.clk_script.proofs.run.answer_over.Goals as goal

pub answer_script-requires-clause-sound : goal.answer_script-requires-clause-sound
answer_script-requires-clause-sound g c =
    let names = names-told c.args.plan.now _ _ _ _ _ c.senders.ensures.senders c.in_ok-senders.ensures.made c.deref.ensures.value c.from-devices.ensures c.devices.ensures.count ∙ names-opened c.args.plan.now _ c.in_ok-script_router.script_router c.in_ok-script_router.ensures.opened in
    subst (λ names. CanBeRun names c.in_ok-script.script) names c.in_ok-script.ensures.read.to_end.runs

-- why the script isn't read
pub returns-in_err-script-clause-not_write : goal.returns-in_err-script-clause-not_write
returns-in_err-script-clause-not_write g c =
    let p = err_from_is_err_and c.from_residual-in_err-script.result c.from_residual-in_err-script.ensures.1 in
    let refusal = not-read-why _ (g.R.Source.remaining c.args.reader.now) c.in_err-script.field-0.0 c.in_err-script.ensures.read in
    rw (p.1, p.2) refusal.not_write

pub returns-in_err-script-clause-fault : goal.returns-in_err-script-clause-fault
returns-in_err-script-clause-fault g c =
    let p = err_from_is_err_and c.from_residual-in_err-script.result c.from_residual-in_err-script.ensures.1 in
    let names = names-told c.args.plan.now _ _ _ _ _ c.senders.ensures.senders c.in_ok-senders.ensures.made c.deref.ensures.value c.from-devices.ensures c.devices.ensures.count in
    let refusal = not-read-why _ (g.R.Source.remaining c.args.reader.now) c.in_err-script.field-0.0 c.in_err-script.ensures.read in
    rw (p.1, p.2) (subst (λ names. Explains names (g.R.Source.remaining c.args.reader.now) c.in_err-script.field-0.0) names refusal.explains)

pub returns-clause-answer : goal.returns-clause-answer
returns-clause-answer g c =
    let names = names-told c.args.plan.now _ _ _ _ _ c.senders.ensures.senders c.in_ok-senders.ensures.made c.deref.ensures.value c.from-devices.ensures c.devices.ensures.count ∙ names-opened c.args.plan.now _ c.in_ok-script_router.script_router c.in_ok-script_router.ensures.opened in
    let sound = subst (λ names. script_fault names c.in_ok-script.ensures.read.text ≡ None) names (source-sound _ _ _ c.in_ok-script.ensures.read) in
    by_result sound c.answer_script.result c.answer_script.ensures.answers c.answer_script.ensures.drain c.answer_script.ensures.packets c.answer_script.ensures.rows c.answer_script.ensures.closings
  where
    by_result : script_fault (names_in c.in_ok-script_router.script_router) c.in_ok-script.ensures.read.text ≡ None → (r : Result Answer Fault)
        → IfOk r (λ answer. (setup : Setup) → Starts setup c.in_ok-script_router.script_router → Answers setup (asked_by c.in_ok-script.script.rows.items) c.in_ok-script.script.closing answer)
        → IfOk r (λ answer. answer.drain ≡ c.in_ok-script.script.closing) → IfOk r (λ answer. answer.script_router.router.keeps.packets ≡ true) → IfOk r (λ answer. length answer.rows.items ≤ MAX_LINES)
        → IfOk r (λ answer. IfSome answer.closing (λ closings. length closings.items ≡ length c.in_ok-script_router.script_router.router.setup.trees)) → IfOk r (IsAnswerOver c.args.plan.now (g.R.Source.remaining c.args.reader.now))
    by_result sound (Ok answer) answers drain packets few closings =
        let read = c.in_ok-script.ensures.read in
        answer-over c.args.plan.now _ (g.R.Source.remaining c.args.reader.now) read.text c.in_ok-script_router.script_router c.in_ok-script.script answer c.in_ok-script_router.ensures.opened c.in_ok-script_router.ensures.starts read.is_text sound
        read.to_end.holds.rows read.to_end.holds.closing answers drain packets few closings
    by_result sound (Err fault) answers drain packets few closings = tt
