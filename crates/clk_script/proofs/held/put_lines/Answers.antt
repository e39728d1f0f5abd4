use Rattle.std.proofs.Common.{length, sym, ap, ◌∙◌, arith}
use Rattle.std.proofs.Math.ListN.{drop_of_length-le}
use Rattle.std.specs.List.{flat_map}
use Rattle.clk_script.specs.Record.{command_text}
use Rattle.clk_script.proofs.held.put_lines.Goals as goal

pub loop-left-init : goal.loop-left-init
loop-left-init c =
    let few = c.requires.few in
    let long = c.told-room in
    record {
      few = omega arith;
      within = (omega (arith, few), omega arith);
      lines = drop_of_length-le c.args.room.now {i = 49152} (omega (arith, long)) ∙ sym (ap (flat_map command_text) (drop_of_length-le c.args.commands.now {i = length c.args.commands.now} (omega arith)));
    }
