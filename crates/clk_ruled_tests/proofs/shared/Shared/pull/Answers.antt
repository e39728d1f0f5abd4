use Rattle.std.proofs.Common.{map}
use Rattle.clk_ruled.specs.Settle.{closing}
use Rattle.clk_ruled_tests.proofs.shared.Shared.pull.Goals as goal

pub invariant_of-self : goal.invariant_of-self
invariant_of-self g c = c.calls_keep_together.ensures.pulled c.self.inside.queue c.self.inside.tap c.pull.new.self c.pull.result (map closing c.self.inside.seats.items) c.pull.ensures.pulled c.self.invariant
