use Rattle.std.proofs.lemmas.Grind.{common_steps}
use Rattle.std.proofs.Common.{rules, ◌≡◌, ◌≤◌, length, sym, subst}
use Rattle.std.specs.List.{AllByRecursion}
use Rattle.std.specs.Vec.{with_items}
use Rattle.std.proofs.lemmas.List.{with_items_is}
use Rattle.clk_script.specs.declared.limits.TheConstants.{MAX_LINES}
use Rattle.clk_script.specs.inside.ScriptRouter.{names_in}
use Rattle.clk_script.specs.inside.Rows.{asked_by, Answers, IsToDo}
use Rattle.clk_script.proofs.Carrying.AnswerLemmas.{IsReady-answered, Answers-all, closings-kept}
use Rattle.clk_script.proofs.answer.answer_script.Goals as goal

pub close-requires-clause-ready : goal.close-requires-clause-ready
close-requires-clause-ready c =
    let rows = c.deref_mut.ensures.value in
    let to_do = subst (AllByRecursion (IsToDo (names_in c.args.script_router))) (sym rows) c.requires.sound.to_do in
    let few = subst (λ l. length l ≤ MAX_LINES) (sym rows) c.requires.sound.few in
    (IsReady-answered c.requires.fresh.0 c.args.script_router c.carry_out.new.script_router c.deref_mut.result.now c.carry_out.new.rows c.requires.fresh.1 to_do few c.in_ok-carry_out.ensures.done).0

pub returns-clause-answers : goal.returns-clause-answers
returns-clause-answers c =
    let many : length c.carry_out.new.rows ≡ c.args.script.rows.len = search rules in
    let rows = with_items c.args.script.rows c.carry_out.new.rows in
    λ setup starts. subst (λ asked. Answers setup (asked_by asked) c.args.script.closing (record { rows = rows; drain = c.args.script.closing; closing = c.in_ok-closing.closing; script_router = c.close.new.script_router })) c.deref_mut.ensures.value
    (Answers-all setup c.args.script_router c.carry_out.new.script_router c.deref_mut.result.now c.carry_out.new.rows starts c.in_ok-carry_out.ensures.done c.close.new.script_router c.accounts_tell.ensures rows
    (with_items_is c.args.script.rows c.carry_out.new.rows many) c.args.script.closing c.in_ok-closing.closing c.in_ok-closing.ensures.closed)

pub returns-clause-closings : goal.returns-clause-closings
returns-clause-closings c = search (rules, common_steps, closings-kept)
