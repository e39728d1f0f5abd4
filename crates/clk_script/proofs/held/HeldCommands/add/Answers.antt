use Rattle.std.proofs.lemmas.Grind.{common_steps}
use Rattle.std.proofs.Common.{rules, ◌≡◌, ◌<◌, List, length, set, take, append-nil}
use Rattle.std.specs.List.{flat_map}
use Rattle.std.proofs.lemmas.Result.{err_from_is_err_and}
use Rattle.clk_script.specs.declared.script.Command.{Command}
use Rattle.clk_script.specs.Record.{command_text}
use Rattle.clk_script.proofs.Texts.PassLemmas.{PassesOn-failed}
use Rattle.clk_script.proofs.held.HeldCommands.add.Goals as goal

-- the line of a command that is held alone
alone : (commands : List Command) (command : Command) → 0 < length commands → flat_map command_text (take 1 (set commands 0 command)) ≡ command_text command
alone commands command l = search (rules, common_steps, append-nil)

pub returns-in_err-write : goal.returns-in_err-write
returns-in_err-write g c =
    let p = err_from_is_err_and c.from_residual.result c.from_residual.ensures.1 in
    rw (p.1, p.2) (PassesOn-failed _ _ _ _ _ c.args.self.now (command_text c.args.command) _ c.in_err-write.ensures.wrote)

pub returns : goal.returns
returns g c = search (rules, alone)
