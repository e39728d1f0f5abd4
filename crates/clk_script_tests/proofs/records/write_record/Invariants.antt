use Rattle.std.proofs.Common.{take}
use Rattle.clk_script.specs.Records.{Records}
use Rattle.clk_script_tests.proofs.records.write_record.Given as goal

-- the commands before this place are recorded
abbrev pub invariant-loop-command : goal.invariant-loop-command
invariant-loop-command g l = record { records : Records (g.W.Sink.taken l.fn.sink) (g.W.Sink.taken l.sink) (take l.command-index l.commands) l.writer }
