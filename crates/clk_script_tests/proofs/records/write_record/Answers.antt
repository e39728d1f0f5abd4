use Rattle.std.proofs.Common.{arith}
use Rattle.std.proofs.lemmas.List.{take_more, take_all}
use Rattle.std.proofs.lemmas.Result.{on_ok_weaker}
use Rattle.clk_script.specs.declared.script.Command.TheVariants.{Send}
use Rattle.clk_script_tests.proofs.records.write_record.Goals as goal

pub loop-command-preserved : goal.loop-command-preserved
loop-command-preserved g c =
    let recorded = c.in_ok-record.ensures.records _ _ c.loop-command.invariant.records in
    record { records = rw (take_more c.args.commands.now c.loop-command.command-index (Send 0 0) (omega arith)) recorded }

pub returns : goal.returns
returns g c =
    let all = take_all c.loop-command.command-index c.args.commands.now (omega arith) in
    let its = rw all at c.loop-command.invariant.records in
    record { whole = on_ok_weaker c.finish_by_drain.result (λ whole. whole _ _ its) c.finish_by_drain.ensures.whole }
