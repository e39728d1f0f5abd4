use Rattle.std.proofs.Common.{ap}
use Rattle.std.specs.Option.{option_map}
use Rattle.clk_packet.specs.declared.packet.Packet.{Packet}
use Rattle.clk_sched.proofs.examples.deficit_examples.Goals as goal

pub returns-clause-not_passes_other_head : goal.returns-clause-not_passes_other_head
returns-clause-not_passes_other_head c = λ run. let senders = ap (option_map (λ (p : Packet). p.sender)) run.below.0.0.1.0.follows.0.0.looks in absurd (cc)
