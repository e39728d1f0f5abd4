use Rattle.std.proofs.Common.{List, subst, Vec}
use Rattle.std.specs.declared.alloc.Global.{Global}
use Rattle.std.proofs.lemmas.List.Folds.{flat_map-map}
use Rattle.std.proofs.lemmas.Result.{IfOk-weaker}
use Rattle.clk_packet.specs.Dealt.{AccountFor}
use Rattle.clk_packet.specs.declared.packet.Packet.{Packet}
use Rattle.clk_drain.specs.Run.{IsRunOutcome}
use Rattle.clk_drain_tests.proofs.calling.laws.run_by_the_laws.Goals as goal

pub returns-clause-laws : goal.returns-clause-laws
returns-clause-laws g c =
    IfOk-weaker c.run.result (IsRunOutcome c.args.plan.now c.args.traces.now 1 1000) _
    (λ outcome run. (
      run,
      c.runs_hold_nothing.ensures c.args.traces.now 1 1000 _ _ _ run,
      subst (λ emitted. AccountFor emitted outcome.tallies.items) (flat_map-map (λ (packets : List Packet). packets) (λ (packets : Vec Packet Global). packets.items) outcome.emitted.items)
          (c.runs_account_for_emitted.ensures c.args.traces.now 1 1000 _ _ _ run),
    ))
    c.run.ensures.outcome
