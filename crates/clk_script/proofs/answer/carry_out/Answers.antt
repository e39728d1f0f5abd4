use Rattle.clk_script.proofs.Carrying.AnswerLemmas.{IsCarriedTo-ready, IsCarriedTo-more}
use Rattle.clk_script.proofs.answer.carry_out.Goals as goal

pub carry_out_one-requires-clause-ready : goal.carry_out_one-requires-clause-ready
carry_out_one-requires-clause-ready c =
    (IsCarriedTo-ready c.requires.fresh.0 c.args.script_router.now c.loop-i.script_router c.args.rows.now c.loop-i.rows c.loop-i.i c.index-rows-i.result c.requires.fresh.1 c.requires.to_do c.requires.few c.loop-i.invariant
    c.loop-i-test.true c.index-rows-i.is).0

pub loop-i-preserved : goal.loop-i-preserved
loop-i-preserved c =
    IsCarriedTo-more c.args.script_router.now c.loop-i.script_router c.carry_out_one.new.script_router c.args.rows.now c.loop-i.rows c.loop-i.i c.index-rows-i.result c.in_ok-rows.field-0 c.loop-i.invariant c.loop-i-test.true c.index-rows-i.is
    c.in_ok-rows.ensures.done
