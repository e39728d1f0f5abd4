use Rattle.std.proofs.Common.{◌≡◌, inl, inr, [], ◌∷◌, append-nil, length, map, refl, sym, ap, ◌∙◌, subst, arith, rules}
use Rattle.clk_packet.specs.declared.packet.Packet.{Packet}
use Rattle.clk_packet.specs.Dealt.{IsDealt}
use Rattle.clk_sched.specs.Examples.Priority.{p0_0, p1_0}
use Rattle.clk_router.specs.SettledExamples.{p0_1, p1_1}
use Rattle.clk_packet.proofs.Callers.Dealt.{dealt-none}
use Rattle.clk_router.proofs.Settled.Numbers.{times-dealt, of_number}
use Rattle.clk_router.proofs.examples.accounted_examples.Goals as goal

pub returns-clause-head_held : goal.returns-clause-head_held
returns-clause-head_held c = (
  record {
    gone = p0_0 ∷ [];
    given = p0_0 ∷ [];
    offered_are = inl (p0_1 ∷ [], refl, inl ([], refl, (refl, refl)));
    accepted_are = refl;
    gone_are = inr ([], refl, (refl, refl));
    given_are = refl;
    elsewhere = λ d other. rw other refl;
    counted = refl;
    tail_drop = λ _. refl;
    front_drop = λ _. refl;
  },
  tt,
)

pub returns-clause-not_emitted_elsewhere : goal.returns-clause-not_emitted_elsewhere
returns-clause-not_emitted_elsewhere c = λ a. let none = a.0.elsewhere 1 refl in absurd (omega (arith, ap length none))

pub returns-clause-not_never_offered : goal.returns-clause-not_never_offered
returns-clause-not_never_offered c = search rules

pub returns-clause-not_swapped : goal.returns-clause-not_swapped
returns-clause-not_swapped c =
    λ a. let gone : a.0.gone ≡ p0_0 ∷ p0_1 ∷ [] = sym (append-nil a.0.gone) ∙ sym a.0.accepted_are in
    let given : a.0.given ≡ p0_1 ∷ p0_0 ∷ [] = a.0.given_are in
    let dealt : IsDealt (p0_0 ∷ p0_1 ∷ []) [] (p0_1 ∷ p0_0 ∷ []) = subst (λ l. IsDealt l [] (p0_1 ∷ p0_0 ∷ [])) gone (subst (λ l. IsDealt a.0.gone [] l) given a.0.gone_are) in
    let numbers = ap (map (λ (p : Packet). p.number)) (dealt-none (p0_0 ∷ p0_1 ∷ []) (p0_1 ∷ p0_0 ∷ []) dealt) in
    absurd (cc)

pub returns-clause-not_two_in_a_pull : goal.returns-clause-not_two_in_a_pull
returns-clause-not_two_in_a_pull c = λ a. let count = ap length a.0.counted in absurd (omega (arith, count))

pub returns-clause-not_evicted_emitted : goal.returns-clause-not_evicted_emitted
returns-clause-not_evicted_emitted c =
    λ a. let gone : a.1.0.gone ≡ p1_0 ∷ p1_1 ∷ [] = sym (append-nil a.1.0.gone) ∙ sym a.1.0.accepted_are in
    let count = times-dealt 0 a.1.0.gone (p1_0 ∷ []) a.1.0.given a.1.0.gone_are in
    let both = ap (of_number 0) gone in
    let out = ap (of_number 0) a.1.0.given_are in
    absurd (omega (arith, count, both, out))

pub returns-clause-not_queue_evicts : goal.returns-clause-not_queue_evicts
returns-clause-not_queue_evicts c = λ a. let none = a.0.tail_drop refl in absurd (omega (arith, ap length none))

pub returns-clause-not_front_drop_refuses : goal.returns-clause-not_front_drop_refuses
returns-clause-not_front_drop_refuses c = λ a. let none = a.1.0.front_drop refl in absurd (omega (arith, ap length none))
