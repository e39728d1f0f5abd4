use Rattle.std.proofs.Common.{ap}
use Rattle.std.specs.Option.{option_map}
use Rattle.clk_packet.specs.declared.packet.Packet.{Packet}
use Rattle.clk_sched.proofs.examples.priority_examples.Goals as goal

pub returns-clause-not_other_result : goal.returns-clause-not_other_result
returns-clause-not_other_result c = λ run. let senders = ap (option_map (λ (p : Packet). p.sender)) run.below.0.1.0.0 in absurd (cc)
