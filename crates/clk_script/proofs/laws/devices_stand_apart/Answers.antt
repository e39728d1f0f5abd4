use Rattle.clk_script.proofs.Meanings.Apart.{devices-apart}
use Rattle.clk_script.proofs.laws.devices_stand_apart.Goals as goal

pub returns : goal.returns
returns c = λ setup wired apart.
    devices-apart setup wired apart c.histories_leave_no_choice.ensures c.runs_leave_no_choice.ensures.pulls (λ tree. (c.runs_go_on.ensures tree).start)
