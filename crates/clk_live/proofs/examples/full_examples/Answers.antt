use Rattle.std.proofs.Common.{refl}
use Rattle.clk_packet.specs.declared.packet.Kind.TheVariants.{TailDrop}
use Rattle.clk_live.proofs.examples.full_examples.Goals as goal

pub returns-clause-full : goal.returns-clause-full
returns-clause-full c = record { spec = record { number = 0; queue = 0 }; room = record { kind = TailDrop; capacity = 2; device = 0 }; sender = refl; queue = refl; full = refl }
