use Rattle.std.proofs.Common.{[], max, refl, sym, ap, subst, ◌∙◌, rules}
use Rattle.std.proofs.lemmas.Result.{err_from_is_err_and}
use Rattle.clk_packet.specs.Lists.{AreRising}
use Rattle.clk_router.specs.Course.{Course}
use Rattle.clk_router.specs.Events.{Setup, sender_numbers}
use Rattle.clk_script.proofs.Carrying.CarriedLemmas.{few-rows, none-left, carried-then, carried-elsewhere}
use Rattle.clk_script.proofs.Carrying.ReplayLemmas.{rows-written, left-asked, none-drained, all-drained}
use Rattle.clk_script.proofs.replay.replay_commands.Goals as goal

pub returns-in_err-replay_rows-clause-visits : goal.returns-in_err-replay_rows-clause-visits
returns-in_err-replay_rows-clause-visits g c =
    let p = err_from_is_err_and c.from_residual.result c.from_residual.ensures.1 in
    let rising = subst AreRising c.senders.ensures.numbers c.senders.ensures.rising in
    let failed = rw c.deref.ensures.value at c.in_err-replay_rows.ensures in
    rw (p.1, p.2)
    (rows-written c.args.answer.now c.args.again.now c.args.device c.args.column c.requires.can rising c.requires.fresh c.requires.there c.has_happened.ensures _ _ _ _ _ _ failed
    (left-asked c.args.answer.now c.args.again.now c.args.device c.args.column c.requires.can rising c.requires.fresh c.requires.there c.has_happened.ensures) tt)

pub returns-in_err-replay_rows-clause-later : goal.returns-in_err-replay_rows-clause-later
returns-in_err-replay_rows-clause-later g c = search (rules, carried-elsewhere)

pub returns-in_default-clause-visits : goal.returns-in_default-clause-visits
returns-in_default-clause-visits g c =
    let rising = subst AreRising c.senders.ensures.numbers c.senders.ensures.rising in
    let rows = rw c.deref.ensures.value at c.in_ok-replay_rows.ensures in
    rows-written c.args.answer.now c.args.again.now c.args.device c.args.column c.requires.can rising c.requires.fresh c.requires.there c.has_happened.ensures _ _ [] _ _ _ rows
    (none-drained c.args.answer.now c.args.again.now c.args.device c.args.column c.requires.can rising c.requires.fresh c.requires.there c.has_happened.ensures c.in_default.is) refl

pub returns-in_default-clause-later : goal.returns-in_default-clause-later
returns-in_default-clause-later g c = search (rules, carried-elsewhere)

pub replay_drain-requires-clause-few : goal.replay_drain-requires-clause-few
replay_drain-requires-clause-few g c =
    let rows = rw c.deref.ensures.value at c.in_ok-replay_rows.ensures in
    few-rows _ _ _ _ _ _ rows c.requires.fresh c.requires.can.few

pub returns-clause-visits : goal.returns-clause-visits
returns-clause-visits g c =
    let rising = subst AreRising c.senders.ensures.numbers c.senders.ensures.rising in
    let rows = rw c.deref.ensures.value at c.in_ok-replay_rows.ensures in
    rows-written c.args.answer.now c.args.again.now c.args.device c.args.column c.requires.can rising c.requires.fresh c.requires.there c.has_happened.ensures _ _ [] _ _ _
    (carried-then _ _ _ _ _ _ _ tt _ _ _ _ rows c.replay_drain.ensures)
    (all-drained c.args.answer.now c.args.again.now c.args.device c.args.column c.requires.can rising c.requires.fresh c.requires.there c.has_happened.ensures c.in-Some.moment c.in-Some.is _ _ _ rows _ _
    (c.max-start.ensures ∙ ap (λ n. max n c.in-Some.moment) c.moment.ensures.moment) c.moment-end.ensures.moment) (none-left c.replay_drain.result)

pub returns-clause-later : goal.returns-clause-later
returns-clause-later g c =
    let rising = subst AreRising c.senders.ensures.numbers c.senders.ensures.rising in
    let same = ap (λ (s : Setup). s) (sym (ap (λ (k : Course). k.setup) c.in_ok-replay_rows.ensures.goes_on)) in
    λ k other. carried-elsewhere _ _ _ _ _ _ (subst (λ s. AreRising (sender_numbers s)) same rising) c.replay_drain.ensures k other ∙ carried-elsewhere _ _ _ _ _ _ rising c.in_ok-replay_rows.ensures k other
