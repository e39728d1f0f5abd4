use Rattle.std.proofs.Common.{◌≡◌, ◌*◌, ◌≤◌, drop, length}
use Rattle.std.specs.List.{flat_map}
use Rattle.clk_script.specs.Record.{command_text}
use Rattle.clk_script.proofs.held.put_lines.Given as goal

abbrev pub invariant-loop-left : goal.invariant-loop-left
invariant-loop-left l = record {
  few : l.left ≤ length l.commands;
  within : (l.left * 48 ≤ l.start) × (l.start ≤ 49152);
  lines : drop l.start l.room ≡ flat_map command_text (drop l.left l.commands);
}

abbrev pub decreases-loop-left : goal.decreases-loop-left
decreases-loop-left l = l.left
