use Rattle.std.proofs.Common.{◌≡◌, ◌≤◌, ◌-◌, length, replicate, None}
use Rattle.clk_script.specs.declared.script.Command.TheVariants.{Pull}
use Rattle.clk_script.specs.Record.{record_text}
use Rattle.clickpull_c.specs.Recording.{IsAdded}
use Rattle.clickpull_c.proofs.recording.clk_raw_record_pulls.Given as goal

abbrev pub invariant-loop-made : goal.invariant-loop-made
invariant-loop-made l =
    IsAdded (record_text (replicate l.made (Pull l.device l.moment)) None) l.initial.text l.text l.used l.end × (length l.text ≡ length l.initial.text) × (l.made ≤ l.pulls)

abbrev pub decreases-loop-made : goal.decreases-loop-made
decreases-loop-made l = l.pulls - l.made
