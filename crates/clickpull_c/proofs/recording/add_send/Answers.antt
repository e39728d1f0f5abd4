use Rattle.std.proofs.Common.{arith}
use Rattle.clk_script.proofs.Callers.Records.{send-short}
use Rattle.clickpull_c.proofs.recording.add_send.Goals as goal

pub returns-clause-short : goal.returns-clause-short
returns-clause-short c = send-short c.args.sender c.args.size (omega (arith, c.ranges.sender.fits)) (omega (arith, c.ranges.size.fits))
