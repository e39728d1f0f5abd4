use Rattle.std.proofs.Common.{[], ◌∷◌, length, map, refl, ap, arith}
use Rattle.std.proofs.lemmas.Bool.{false≢true}
use Rattle.clk_packet.specs.declared.packet.Packet.{Packet}
use Rattle.clk_sched.specs.Examples.Priority.{p0_0}
use Rattle.clk_router.specs.SettledExamples.{p0_1}
use Rattle.clk_packet.proofs.Callers.Dealt.{dealt-none}
use Rattle.clk_router.proofs.examples.settled_examples.Goals as goal

pub returns-clause-not_swapped : goal.returns-clause-not_swapped
returns-clause-not_swapped c = λ s. let numbers = ap (map (λ (p : Packet). p.number)) (dealt-none (p0_0 ∷ p0_1 ∷ []) (p0_1 ∷ p0_0 ∷ []) s.senders.0.tally.accepted_are) in absurd (cc)

pub returns-clause-not_stranger_emitted : goal.returns-clause-not_stranger_emitted
returns-clause-not_stranger_emitted c = λ s. absurd (false≢true (s.devices 0).own.0)

pub returns-clause-not_got_not_emitted : goal.returns-clause-not_got_not_emitted
returns-clause-not_got_not_emitted c = λ s. absurd (false≢true (s.devices 0).run.device.0.plain.0.passed)

pub returns-clause-not_stranger_held : goal.returns-clause-not_stranger_held
returns-clause-not_stranger_held c = λ s. let none = (s.devices 0).no_heads in absurd (omega (arith, ap length none))

pub returns-clause-short : goal.returns-clause-short
returns-clause-short c = record { made = []; goes_on = refl; within = λ tree left is all. omega arith; short = omega arith }

pub returns-clause-not_short : goal.returns-clause-not_short
returns-clause-not_short c = λ s. absurd (omega (arith, s.short))
