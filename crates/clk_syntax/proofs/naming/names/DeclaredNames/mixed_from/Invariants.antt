use Rattle.std.proofs.Common.{◌≡◌, drop}
use Rattle.clk_syntax.specs.inside.Naming.{mixed_from}
use Rattle.clk_syntax.proofs.naming.names.DeclaredNames.mixed_from.Given as goal

abbrev pub invariant-loop-byte : goal.invariant-loop-byte
invariant-loop-byte l = mixed_from l.mixed (drop l.byte-index l.bytes) ≡ mixed_from l.fn.number l.bytes
