use Rattle.std.proofs.Common.{arith}
use Rattle.clk_router.proofs.FilledLemmas.{zeros-from}
use Rattle.clk_router.proofs.filled.zeros_from.Goals as goal

pub returns-clause-zeros : goal.returns-clause-zeros
returns-clause-zeros c k low =
    let least = c.min.ensures in
    zeros-from c.args.word c.args.place k c.ranges.word.fits (omega (arith, least, low))
