use Rattle.std.proofs.Common.{ap, ◌∙◌, arith, rules}
use Rattle.std.proofs.lemmas.Result.{err_from_is_err_and}
use Rattle.clk_script.proofs.Carrying.CarriedLemmas.{carried-none, can-pull-on, pulled-on, pulls-all, pulls-failed}
use Rattle.clk_script.proofs.replay.replay_drain.Goals as goal

pub loop-moment-init : goal.loop-moment-init
loop-moment-init g c = search (rules, carried-none)

pub replay_pull-requires : goal.replay_pull-requires
replay_pull-requires g c =
    let end = c.requires.end in
    let test = c.loop-moment-test.true in
    record {
      can = can-pull-on _ _ _ _ _ _ _ _ c.loop-moment.invariant.carried c.requires.there c.requires.few (omega (arith, end, test));
      keeps = ap (λ k. k.keeps) c.loop-moment.invariant.carried.goes_on ∙ c.requires.keeps;
    }

pub returns-in_err-replay_pull : goal.returns-in_err-replay_pull
returns-in_err-replay_pull g c =
    let p = err_from_is_err_and c.from_residual.result c.from_residual.ensures.1 in
    let test = c.loop-moment-test.true in
    let pulled = c.in_err-replay_pull.ensures.pulled in
    let from = c.loop-moment.invariant.after_start in
    rw (p.1, p.2) (pulls-failed _ _ _ _ _ _ _ _ (omega (arith, test, from)) (pulled-on _ _ _ _ _ _ _ pulled.0 _ _ _ _ c.loop-moment.invariant.carried from pulled.1 pulled.2 pulled.3))

pub loop-moment-preserved : goal.loop-moment-preserved
loop-moment-preserved g c = search (rules, pulled-on)

pub returns : goal.returns
returns g c = search (rules, pulls-all)
