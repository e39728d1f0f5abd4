use Rattle.std.proofs.Common.{ap}
use Rattle.std.specs.Option.{option_map}
use Rattle.clk_packet.specs.declared.packet.Packet.{Packet}
use Rattle.clk_sched.proofs.examples.pull_examples.Goals as goal

pub returns-clause-not_other_result : goal.returns-clause-not_other_result
returns-clause-not_other_result c = λ once. let senders = ap (option_map (λ (p : Packet). p.sender)) once.result in absurd (cc)
