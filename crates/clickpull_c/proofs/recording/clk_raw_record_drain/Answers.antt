use Rattle.std.proofs.Common.{length, refl, ap, arith}
use Rattle.clk_script.proofs.Callers.Records.{drain-short}
use Rattle.clickpull_c.proofs.recording.clk_raw_record_drain.Goals as goal

pub returns-in_default-clause-enough : goal.returns-in_default-clause-enough
returns-in_default-clause-enough c =
    let short = drain-short c.args.moment (c.if-not-may_go_on.ensures.yes refl).early in
    let line = ap length c.drain_line.ensures.line in
    let too_long = (c.in_default.ensures.full refl).0 in
    λ room is. omega (arith, room, short, line, too_long)
