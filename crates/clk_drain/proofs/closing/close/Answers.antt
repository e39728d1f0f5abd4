use Rattle.std.proofs.Common.{drop, refl, sym, ap, ◌∙◌, subst, arith}
use Rattle.std.proofs.lemmas.Result.{err_from_is_err_and}
use Rattle.clk_sched.specs.Keeps.{keeps_emitted, keeps_visits}
use Rattle.clk_sched.specs.Results.{emitted}
use Rattle.clk_sched.specs.Session.{progress_of}
use Rattle.clk_drain.specs.Line.{AreLinesOf}
use Rattle.clk_drain.specs.Closing.{accepted_over, left_over}
use Rattle.clk_drain.proofs.Leaves.Still.{still-accepted, gathered-lines}
use Rattle.clk_drain.proofs.Drains.Left.{fault-unsettled, drained-reached}
use Rattle.clk_drain.proofs.Drains.Closed.{drained-over, emitted-told}
use Rattle.clk_drain.proofs.closing.close.Goals as goal

pub left-left-requires-clause-lines : goal.left-left-requires-clause-lines
left-left-requires-clause-lines g c =
    subst (AreLinesOf (progress_of c.args.session)) (sym c.deref.ensures.value) (gathered-lines (progress_of c.args.session) c.args.lines.items c.gathered-lines.result.items c.gathered-lines.ensures c.requires.lines)

pub left-left-requires-clause-few : goal.left-left-requires-clause-few
left-left-requires-clause-few g c = let same = ap accepted_over c.deref.ensures.value ∙ still-accepted c.args.lines.items c.gathered-lines.result.items c.gathered-lines.ensures.still in omega (arith, same, c.requires.few)

pub drain-requires-clause-lines : goal.drain-requires-clause-lines
drain-requires-clause-lines g c = gathered-lines (progress_of c.args.session) c.args.lines.items c.gathered-lines.result.items c.gathered-lines.ensures c.requires.lines

pub drain-requires-clause-few : goal.drain-requires-clause-few
drain-requires-clause-few g c =
    let same = ap accepted_over c.deref.ensures.value ∙ still-accepted c.args.lines.items c.gathered-lines.result.items c.gathered-lines.ensures.still in
    let over = c.left-left.ensures.over in omega (arith, over, same, c.requires.few)

pub returns-in_err-tallies-clause-fault : goal.returns-in_err-tallies-clause-fault
returns-in_err-tallies-clause-fault g c =
    let p = err_from_is_err_and c.from_residual-in_err-tallies.result c.from_residual-in_err-tallies.ensures.1 in
    rw (p.1, p.2) (fault-unsettled (progress_of c.args.session) (progress_of c.in_ok-session.session) c.args.lines.items c.gathered-lines.result.items c.in_ok-session.lines.items c.args.moment c.left-left.result c.in_err-tallies.field-0.0 c.gathered-lines.ensures c.in_ok-session.ensures.drained c.in_err-tallies.ensures.fault)

pub returns-clause-drained : goal.returns-clause-drained
returns-clause-drained g c = λ none.
    let keeps = c.in_ok-session.ensures.keeps in
    let gone = c.in_ok-session.ensures.gone ∙ none in record {
      log = c.in_ok-session.session.log;
      emitted = emitted c.in_ok-session.session.log;
      kept = λ visits. c.in_ok-log.ensures.log (ap keeps_visits keeps ∙ visits) ∙ ap (λ n. drop n c.in_ok-session.session.log) gone;
      told = λ tells. emitted-told c.in_ok-session.session.keeps c.in_ok-session.session.gone _ _ gone c.in_ok-log.ensures.emitted c.in_ok-log.ensures.told (ap keeps_emitted keeps ∙ tells);
      is =
          drained-over (progress_of c.args.session) (progress_of c.in_ok-session.session) c.args.lines.items c.gathered-lines.result.items c.in_ok-session.lines.items c.args.moment c.left-left.result _ _ c.runs_conserve_packets.ensures.loses_nothing c.runs_conserve_packets.ensures.counts c.runs_conserve_packets.ensures.makes_nothing
          record { own = c.requires.senders; leaves_some = record { gathers = c.gathered-lines.ensures; left_is = c.left-left.ensures.over ∙ ap (left_over (progress_of c.args.session)) c.deref.ensures.value }; drained = c.in_ok-session.ensures.drained; distinct = c.log.ensures.distinct; settled = c.in_ok-tallies.ensures.settled }
          c.in_ok-tallies.ensures.tallies refl;
    }

pub returns-clause-reached : goal.returns-clause-reached
returns-clause-reached g c =
    drained-reached (progress_of c.args.session) (progress_of c.in_ok-session.session) c.args.lines.items c.gathered-lines.result.items c.in_ok-session.lines.items c.args.moment c.left-left.result c.gathered-lines.ensures c.in_ok-session.ensures.drained c.in_ok-tallies.ensures.settled
