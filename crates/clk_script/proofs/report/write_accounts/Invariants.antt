use Rattle.std.proofs.Common.{◌≡◌, drop}
use Rattle.std.specs.List.{flat_map}
use Rattle.clk_packet.proofs.Callers.Bytes.{HasWritten}
use Rattle.clk_script.specs.AccountLines.{account_line}
use Rattle.clk_script.proofs.report.write_accounts.Given as goal

abbrev pub invariant-loop-account : goal.invariant-loop-account
invariant-loop-account g l = record {
  front : HasWritten (g.W.Sink.taken l.fn.writer) (g.W.Sink.taken l.writer) (flat_map account_line l.accounts) (flat_map account_line (drop l.account-index l.accounts));
  failures : g.W.Sink.failures l.writer ≡ g.W.Sink.failures l.fn.writer;
}
