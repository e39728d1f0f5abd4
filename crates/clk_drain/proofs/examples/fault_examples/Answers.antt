use Rattle.std.proofs.Common.{ℕ, zero, suc, ◌<◌, true, ◌≡◌, ◌∷◌, [], length, refl, lit≤, arith}
use Rattle.clk_packet.specs.Trace.{sent_by}
use Rattle.clk_packet.specs.Lists.{stands_in}
use Rattle.clk_gate.proofs.Callers.Unknown.{known-none}
use Rattle.clk_drain.specs.RunExamples.{traces}
use Rattle.clk_drain.proofs.examples.fault_examples.Goals as goal

known : (s : ℕ) → 0 < length (sent_by traces s) → stands_in s (0 ∷ 1 ∷ []) ≡ true
known zero sends = refl
known (suc zero) sends = refl
known (suc (suc s)) sends = absurd (omega (arith, sends))

pub returns-clause-is_refused_early : goal.returns-clause-is_refused_early
returns-clause-is_refused_early c = (known-none (0 ∷ 1 ∷ []) traces (λ s below sends. known s sends), record { capacity_is = refl; below = lit≤ tt; refused = λ _. lit≤ tt; evicted = λ e. absurd (cc) })

pub returns-clause-is_evicted_early : goal.returns-clause-is_evicted_early
returns-clause-is_evicted_early c = (known-none (0 ∷ 1 ∷ []) traces (λ s below sends. known s sends), record { capacity_is = refl; below = lit≤ tt; refused = λ e. absurd (cc); evicted = λ _. (lit≤ tt, refl) })
