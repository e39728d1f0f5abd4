use Rattle.std.proofs.Common.{◌≡◌, ◌<◌, length, Some, slice_get, get_or, sym, ap, subst, arith}
use Rattle.std.proofs.lemmas.Bool.Decides.{nat_tests}
use Rattle.std.proofs.lemmas.List.{length-map}
use Rattle.clk_inlet.specs.Halves.{taken}
use Rattle.clk_tree.specs.declared.plan.parts.SenderSpec.{SenderSpec}
use Rattle.clk_router.specs.Course.{Course}
use Rattle.clk_live.specs.State.{LiveState}
use Rattle.clk_live.specs.Taking.{IsQueueFull}
use Rattle.clk_live.proofs.Steps.{no_account, account-queue, sends-within}
use Rattle.clk_live.proofs.Lists.{member}
use Rattle.clk_live.proofs.Fitting.{is-full, all-held}
use Rattle.clk_live.proofs.live.Live.is_full.Goals.{After-accounts}
use Rattle.clk_live.proofs.live.Live.is_full.Goals as goal

-- the sender at the place, whose account tells its queue
sender : (c : After-accounts)
    → (x : SenderSpec) × (slice_get c.self.inside.router.setup.senders c.args.place ≡ Some x) × ((get_or c.accounts.result.now c.args.place no_account).queue ≡ x.queue)
sender c =
    let i = c.self.inside in
    let there : c.args.place < length i.outlets.items = rw (← c.self.view_is) at c.requires.there in
    let x = member i.router.setup.senders c.args.place (let many = length-map i.outlets.items taken in omega (arith, there, many, c.self.invariant.places)) in
    (x.0, x.1, account-queue i.router.events i.router.setup.senders c.accounts.result.now c.args.place x.0 no_account c.accounts.ensures x.1)

pub queue-state-requires : goal.queue-state-requires
queue-state-requires c =
    let i = c.self.inside in
    let x = sender (goal.at.queue-state-requires c).After-accounts in
    let same = x.2 in
    let within = sends-within (length i.router.setup.queues) i.router.setup.senders c.args.place x.0 c.self.invariant.wired x.1 in
    let all = ap (λ (k : Course). length k.setup.queues) c.deref.ensures in
    omega (arith, same, within, all)

pub returns-clause-full : goal.returns-clause-full
returns-clause-full c =
    let x = sender (goal.at.returns-clause-full c).After-accounts in
    let q = c.queue-state.result in
    λ yes.
    (let all : q.held ≡ q.capacity = grind (arith, nat_tests) in
    subst (λ (l : LiveState). IsQueueFull l.course c.args.place) c.self.view_is (is-full c.self.inside.router c.args.place x.0 x.1 _ q x.2 (rw c.deref.ensures at c.queue-state.ensures.state) all))

pub returns-clause-not_full : goal.returns-clause-not_full
returns-clause-not_full c =
    let x = sender (goal.at.returns-clause-not_full c).After-accounts in
    let q = c.queue-state.result in
    λ no is.
    (let full = subst (λ (l : LiveState). IsQueueFull l.course c.args.place) (sym c.self.view_is) is in
    let all : q.held ≡ q.capacity = all-held c.self.inside.router c.args.place x.0 x.1 _ q x.2 (rw c.deref.ensures at c.queue-state.ensures.state) full in
    absurd (grind (arith, nat_tests)))
