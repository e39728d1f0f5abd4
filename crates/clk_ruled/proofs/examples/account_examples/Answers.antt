use Rattle.std.proofs.Common.{refl, lit≤, inl, inr, ⊎_elim, ap, arith, length}
use Rattle.std.proofs.lemmas.Bool.{false≢true}
use Rattle.clk_packet.specs.declared.packet.Packet.{Packet}
use Rattle.clk_ruled.specs.Examples.{p0_0, p0_1, p1_0, p1_1, p2_0}
use Rattle.clk_ruled.proofs.Worked.{front-account, not-last}
use Rattle.clk_ruled.proofs.examples.account_examples.Goals as goal

pub returns-clause-is_account : goal.returns-clause-is_account
returns-clause-is_account c = front-account 2 (lit≤ tt)

pub returns-clause-not_one_lost : goal.returns-clause-not_one_lost
returns-clause-not_one_lost c = λ a. let counts = ap length (a.balances 1) in absurd (omega (arith, counts))

pub returns-clause-not_newest_out : goal.returns-clause-not_newest_out
returns-clause-not_newest_out c = λ a. absurd (not-last p1_0 p1_1 refl refl (a.is_last 1).0 (a.is_last 1).1)

pub returns-clause-not_turned : goal.returns-clause-not_turned
returns-clause-not_turned c = λ a. absurd (omega (arith, (a.rises 0).0.0))

pub returns-clause-not_never_taken : goal.returns-clause-not_never_taken
returns-clause-not_never_taken c = λ a. ⊎_elim (λ e. let numbers = ap (λ (p : Packet). p.number) e in absurd (omega (arith, numbers))) (λ none. absurd none) (a.was_taken p0_0 (inl refl))

pub returns-clause-not_stranger_pulled : goal.returns-clause-not_stranger_pulled
returns-clause-not_stranger_pulled c = λ a. absurd (false≢true (a.gives_known p0_1 (inl refl)))

pub returns-clause-not_stranger_held : goal.returns-clause-not_stranger_held
returns-clause-not_stranger_held c = λ a. absurd (false≢true (a.holds_known p2_0 (inr (inl refl))))

pub returns-clause-not_of_a_queue : goal.returns-clause-not_of_a_queue
returns-clause-not_of_a_queue c = λ a. let counts = ap length (a.tail_drop refl 1) in absurd (omega (arith, counts))
