use Rattle.std.proofs.Common.{sym, subst}
use Rattle.clk_router.specs.Course.{CanPull}
use Rattle.clk_script.specs.inside.ScriptRouter.{names_in}
use Rattle.clk_script.specs.inside.Rows.{IsToDo}
use Rattle.clk_script.proofs.Carrying.ScriptRouterLemmas.{can-pull}
use Rattle.clk_script.proofs.answer.carry_out_one.Goals as goal

pub pull-requires : goal.pull-requires
pull-requires c =
    let to_do = subst (IsToDo (names_in c.args.script_router.now)) c.in-Pull.is c.requires.to_do in
    let can = can-pull c.args.script_router.now c.requires.ready c.in-Pull.device c.in-Pull.moment to_do.0 to_do.1 in
    record { alike = c.requires.ready.alike; can = subst (CanPull c.args.script_router.now.router c.in-Pull.device) (sym c.ticks.ensures) can }
