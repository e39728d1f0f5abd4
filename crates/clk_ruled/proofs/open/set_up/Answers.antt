use Rattle.std.proofs.Common.{rules}
use Rattle.clk_ruled.proofs.Begins.{opens}
use Rattle.clk_ruled.proofs.open.set_up.Goals as goal

pub another-spare-requires-clause-rule : goal.another-spare-requires-clause-rule
another-spare-requires-clause-rule g c = opens _ _ _ (search rules) c.requires.blank
