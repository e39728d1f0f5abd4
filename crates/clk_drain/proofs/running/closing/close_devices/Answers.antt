use Rattle.std.proofs.Common.{[], ◌∷◌, ◌++◌, rules, refl, inl, sym, ap, ◌∙◌, subst}
use Rattle.std.specs.Vec.Iter.{into_iter_items}
use Rattle.std.proofs.lemmas.List.{nil_from_length}
use Rattle.std.proofs.lemmas.List.Sorted.{IsNonDecreasingBy-from_sort_by_key}
use Rattle.std.proofs.lemmas.Result.{err_from_is_err_and}
use Rattle.clk_packet.specs.declared.tally.Tally.{Tally}
use Rattle.clk_sched.specs.Session.{progress_of}
use Rattle.clk_drain.specs.inside.Threads.{Feed}
use Rattle.clk_drain.proofs.Drains.ClosingSteps.{AreClosing, closing-more, next-ready, next-fault, all-closed}
use Rattle.clk_drain.proofs.running.closing.close_devices.Goals as goal

pub returns-in_err-with_capacity-clause-fault : goal.returns-in_err-with_capacity-clause-fault
returns-in_err-with_capacity-clause-fault g c =
    let p = err_from_is_err_and c.from_residual.result c.from_residual.ensures.1 in
    rw p.1 (inl p.2)

pub returns-in_err-with_capacity-2-clause-fault : goal.returns-in_err-with_capacity-2-clause-fault
returns-in_err-with_capacity-2-clause-fault g c =
    let p = err_from_is_err_and c.from_residual-in_err-with_capacity-2.result c.from_residual-in_err-with_capacity-2.ensures.1 in
    rw p.1 (inl p.2)

pub close-requires-clause-lines : goal.close-requires-clause-lines
close-requires-clause-lines g c =
    let f : Feed = record { session = progress_of c.session.inside.session; keeps = c.session.inside.session.keeps; lines = c.session.inside.lines.items } in
    let rest = into_iter_items c.next.new.self in
    let ready = next-ready c.args.terms.now c.args.closings.items c.loop-session.yielded rest (into_iter_items c.loop-session.session-iterator) f c.loop-session.outcome (c.in-Some.ensures.steps.0 ∙ ap (λ x. x ∷ rest) (sym c.session.view_is)) c.loop-session.invariant c.requires.ready in
    ready.own

pub close-requires-clause-moment : goal.close-requires-clause-moment
close-requires-clause-moment g c =
    let f : Feed = record { session = progress_of c.session.inside.session; keeps = c.session.inside.session.keeps; lines = c.session.inside.lines.items } in
    let rest = into_iter_items c.next.new.self in
    let ready = next-ready c.args.terms.now c.args.closings.items c.loop-session.yielded rest (into_iter_items c.loop-session.session-iterator) f c.loop-session.outcome (c.in-Some.ensures.steps.0 ∙ ap (λ x. x ∷ rest) (sym c.session.view_is)) c.loop-session.invariant c.requires.ready in
    search rules

pub returns-in_err-drained-clause-fault : goal.returns-in_err-drained-clause-fault
returns-in_err-drained-clause-fault g c =
    let f : Feed = record { session = progress_of c.session.inside.session; keeps = c.session.inside.session.keeps; lines = c.session.inside.lines.items } in
    let rest = into_iter_items c.next.new.self in
    let p = err_from_is_err_and c.from_residual-in_err-drained.result c.from_residual-in_err-drained.ensures.1 in
    rw (p.1, p.2) (next-fault c.args.terms.now c.args.closings.items c.loop-session.yielded rest (into_iter_items c.loop-session.session-iterator) f c.loop-session.outcome c.in_err-drained.field-0.0 (c.in-Some.ensures.steps.0 ∙ ap (λ x. x ∷ rest) (sym c.session.view_is)) c.loop-session.invariant c.in_err-drained.ensures.fault)

pub loop-session-preserved : goal.loop-session-preserved
loop-session-preserved g c =
    let those = c.args.terms.now in
    let all = c.args.closings.items in
    let done = c.loop-session.yielded in
    let before = into_iter_items c.loop-session.session-iterator in
    let f : Feed = record { session = progress_of c.session.inside.session; keeps = c.session.inside.session.keeps; lines = c.session.inside.lines.items } in
    let rest = into_iter_items c.next.new.self in
    let next = c.in-Some.ensures.steps.0 ∙ ap (λ x. x ∷ rest) (sym c.session.view_is) in
    let ready = next-ready those all done rest before f c.loop-session.outcome next c.loop-session.invariant c.requires.ready in
    subst (λ (d : Feed). AreClosing those all (done ++ d ∷ []) rest c.note.new.outcome) c.session.view_is
    (closing-more those all done rest before f c.in_ok-drained.drained c.loop-session.outcome c.note.new.outcome next ready (c.in_ok-drained.ensures.drained c.session.invariant) c.in_ok-drained.ensures.reached
    (record { logs = c.in_ok-note.ensures.logs; emitted = c.in_ok-note.ensures.emitted; tallies = c.in_ok-note.ensures.tallies }) c.loop-session.invariant)

pub returns-in_err-note-clause-fault : goal.returns-in_err-note-clause-fault
returns-in_err-note-clause-fault g c =
    let p = err_from_is_err_and c.from_residual-in_err-note.result c.from_residual-in_err-note.ensures.1 in
    rw (p.1, p.2) (inl c.in_err-note.ensures.fault)

pub returns-clause-settled : goal.returns-clause-settled
returns-clause-settled g c =
    all-closed c.args.terms.now c.args.closings.items c.loop-session.yielded (into_iter_items c.loop-session.session-iterator) c.loop-session.outcome
    (record { emitted = c.loop-session.outcome.emitted; logs = c.loop-session.outcome.logs; tallies = c.sort_unstable_by_key.new.self })
    (nil_from_length (into_iter_items c.loop-session.session-iterator) (sym c.loop-session.session-iterator.rest.ok.0 ∙ c.in-None.ensures.steps.0)) refl refl
    (record {
      same = c.sort_unstable_by_key.ensures.permutation;
      order = IsNonDecreasingBy-from_sort_by_key (λ (t : Tally). t.sender) _ c.sort_unstable_by_key.ensures.sorted (λ a r q k. search rules);
    })
    c.requires.apart c.loop-session.invariant
