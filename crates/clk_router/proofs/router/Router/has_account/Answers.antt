use Rattle.std.proofs.Common.{◌<◌, ◌^◌, length, subst, rules}
use Rattle.std.specs.List.{AllByRecursion}
use Rattle.clk_router.specs.Course.{Course}
use Rattle.clk_router.specs.Events.{sender_numbers}
use Rattle.clk_router.specs.Settled.{offered_of, IsCourseSettled, AreAllOut, IsDrained}
use Rattle.clk_router.proofs.AccountLemmas.{parts-few}
use Rattle.clk_router.proofs.Settled.OutOrInside.{are-out_or_inside}
use Rattle.clk_router.proofs.Settled.NoneLeft.{course-accounted, course-settled, are-out_once, are-all_out}
use Rattle.clk_router.proofs.router.Router.has_account.Goals as goal

pub returns-clause-accounted : goal.returns-clause-accounted
returns-clause-accounted c = search (rules, course-accounted)

pub returns-clause-few : goal.returns-clause-few
returns-clause-few c =
    let past = c.self.inside.past in
    subst (λ (k : Course). AllByRecursion (λ s. length (offered_of k.events s) < 2 ^ 32) (sender_numbers k.setup)) c.self.view_is (parts-few past.setup past.events c.self.inside.parts c.self.invariant.at)

pub returns-clause-once : goal.returns-clause-once
returns-clause-once c = search (rules, are-out_once)

pub returns-clause-out_or_inside : goal.returns-clause-out_or_inside
returns-clause-out_or_inside c = search (rules, are-out_or_inside)

pub returns-clause-settled : goal.returns-clause-settled
returns-clause-settled c =
    let past = c.self.inside.past in
    let stand = c.self.invariant in
    let law = c.runs_conserve_packets.ensures in
    subst (λ (k : Course). IsDrained k → IsCourseSettled k.setup k.events) c.self.view_is
    (λ drained. course-settled law.loses_nothing law.makes_nothing past.setup stand.whole stand.closable past.events stand.at.can_happen (λ tree. (c.runs_go_on.ensures tree).start) law.counts drained.none_left)

pub returns-clause-all_out : goal.returns-clause-all_out
returns-clause-all_out c =
    let past = c.self.inside.past in
    let stand = c.self.invariant in
    let law = c.runs_conserve_packets.ensures in
    subst (λ (k : Course). IsDrained k → AreAllOut k.setup k.events) c.self.view_is
    (λ drained. are-all_out law.loses_nothing law.makes_nothing past.setup stand.whole stand.closable past.events stand.at.can_happen (λ tree. (c.runs_go_on.ensures tree).start) law.counts drained.none_left)
