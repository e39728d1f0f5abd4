use Rattle.std.proofs.Common.{◌≡◌, ◌<◌, [], ◌∷◌, refl, ap, subst, lit≤, inl, ⊎_elim, arith}
use Rattle.std.specs.List.{AllByRecursion}
use Rattle.clk_ruled.specs.Account.{IsAccount}
use Rattle.clk_ruled.specs.Settle.{accepted_of, evicted_of, accepted_count, lost_count}
use Rattle.clk_sched.specs.Examples.Priority.{p0_0}
use Rattle.clk_drain.specs.Lost.{SeatedQueue, HasReached}
use Rattle.clk_drain.specs.LostExamples.{refusing, evicting, none_lost, evicting_another}
use Rattle.clk_drain.proofs.Runs.WorkedLost.{refusing-lost, evicting-lost, named-alone, of-two, told}
use Rattle.clk_drain.proofs.examples.lost_examples.Goals as goal

pub returns-clause-is_alone : goal.returns-clause-is_alone
returns-clause-is_alone c = λ id. record { earlier = []; first = refusing 3 id; later = []; all = refl; reached = tt; taken = []; below = refusing-lost id; fault_is = refl }

pub returns-clause-is_behind_a_full_one : goal.returns-clause-is_behind_a_full_one
returns-clause-is_behind_a_full_one c =
    λ id. record { earlier = refusing 1 id ∷ []; first = evicting 3 id; later = []; all = refl; reached = (λ _. lit≤ tt, tt); taken = []; below = evicting-lost id; fault_is = refl }

pub returns-clause-not_behind_another : goal.returns-clause-not_behind_another
returns-clause-not_behind_another c =
    λ id names. ⊎_elim
    (λ (first : (names.earlier ≡ []) × (names.first ≡ refusing 3 id)). let is = (told _ _ 1 2 3 refl names).0 in let leaf = ap (λ (q : SeatedQueue). q.queue.leaf) first.1 in absurd (omega (arith, is, leaf)))
    (λ (second : (names.earlier ≡ refusing 3 id ∷ []) × (names.first ≡ evicting 3 id)). let reached = (subst (AllByRecursion HasReached) second.0 names.reached).0 (lit≤ tt) in absurd (omega (arith, reached)))
    (of-two (refusing 3 id) (evicting 3 id) names.first names.earlier names.later names.all)

pub returns-clause-not_full : goal.returns-clause-not_full
returns-clause-not_full c =
    λ id names. let below = subst (λ (q : SeatedQueue). accepted_count q.seats < q.queue.capacity) (named-alone (refusing 1 id) _ names) names.below.below in absurd (omega (arith, below))

pub returns-clause-not_none_lost : goal.returns-clause-not_none_lost
returns-clause-not_none_lost c = λ id names. let lost = subst (λ (q : SeatedQueue). 0 < lost_count q.seats) (named-alone (none_lost id) _ names) names.below.lost in absurd (omega (arith, lost))

pub returns-clause-not_evicting_another : goal.returns-clause-not_evicting_another
returns-clause-not_evicting_another c =
    λ id names.
    let account = subst (λ (q : SeatedQueue). IsAccount q.queue.kind q.queue.capacity q.queue.senders (accepted_of q.seats) (evicted_of q.seats) names.taken names.below.held) (named-alone (evicting_another id) _ names) names.below.account in
    absurd (account.was_taken p0_0 (inl refl))

pub returns-clause-not_other_leaf : goal.returns-clause-not_other_leaf
returns-clause-not_other_leaf c =
    λ id names. let is = (told _ _ 1 1 3 refl names).0 in let leaf = ap (λ (q : SeatedQueue). q.queue.leaf) (named-alone (refusing 3 id) _ names) in absurd (omega (arith, is, leaf))

pub returns-clause-not_other_count : goal.returns-clause-not_other_count
returns-clause-not_other_count c =
    λ id names. let is = (told _ _ 0 0 3 refl names).1 in let count = ap (λ (q : SeatedQueue). accepted_count q.seats) (named-alone (refusing 3 id) _ names) in absurd (omega (arith, is, count))

pub returns-clause-not_other_capacity : goal.returns-clause-not_other_capacity
returns-clause-not_other_capacity c =
    λ id names. let is = (told _ _ 0 1 4 refl names).2 in let capacity = ap (λ (q : SeatedQueue). q.queue.capacity) (named-alone (refusing 3 id) _ names) in absurd (omega (arith, is, capacity))
