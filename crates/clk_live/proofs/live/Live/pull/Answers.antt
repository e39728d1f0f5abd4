use Rattle.std.proofs.Common.{◌≡◌, map, Some, refl, ap, get_or, ◌∙◌, subst, arith}
use Rattle.clk_inlet.specs.Halves.{taken}
use Rattle.clk_live.specs.State.{LiveState, seen}
use Rattle.clk_live.specs.Pulling.{IsPulledLive}
use Rattle.clk_live.proofs.Steps.{PullsOnce, FoundSender, no_account, pulled-none, sender-found, account-there, tokens-there, token-there, token-is, pulled-some}
use Rattle.clk_live.proofs.live.Live.pull.Goals.{After-has_happened-2, After-accounts, After-from-2}
use Rattle.clk_live.proofs.live.Live.pull.Goals as goal

-- the device was pulled once
pulls : (c : After-has_happened-2) → PullsOnce c.self.inside.router c.pull-packet.new.self (map taken c.self.inside.outlets.items) c.self.inside.tokens.items c.args.device c.args.moment c.pull-packet.result
pulls c = record {
  stand = record { kept = c.self.invariant; law = rw c.deref.ensures at c.queues_go_on.ensures; rising = rw (c.senders.ensures.numbers, c.deref-3.ensures) at c.senders.ensures.rising; can = rw c.deref-2.ensures at c.has_happened.ensures };
  pull = c.pull-packet.ensures.pulled;
  can_new = rw c.deref-4.ensures at c.has_happened-2.ensures;
}

-- the sender of the packet was found
finds : (c : After-accounts) → FoundSender c.pull-packet.new.self c.pull-packet.result c.in_ok-packet.packet c.unwrap-place.result c.accounts.result.now
finds c = record { gave = c.in_ok-packet.was; at = rw (c.unwrap-place.ensures, c.deref-5.ensures) at c.place_of.ensures.found; are = c.accounts.ensures }

-- its account tells its queue
its-queue : (c : After-from-2) → c.from-2.result ≡ (get_or c.accounts.result.now c.unwrap-place.result no_account).queue
its-queue c = c.from-2.ensures ∙ ap (λ n. (get_or c.accounts.result.now n no_account).queue) c.from.ensures

pub invariant_of-self : goal.invariant_of-self
invariant_of-self c = pulled-none (pulls (goal.at.invariant_of-self c).After-has_happened-2) c.in_err-packet.was

pub unwrap-place-requires : goal.unwrap-place-requires
unwrap-place-requires c = sender-found (pulls (goal.at.unwrap-place-requires c).After-has_happened-2) c.in_ok-packet.packet c.in_ok-packet.was c.place_of.result (rw c.deref-5.ensures at c.place_of.ensures.missing)

pub bounds-accounts-from : goal.bounds-accounts-from
bounds-accounts-from c =
    let h = pulls (goal.at.bounds-accounts-from c).After-has_happened-2 in
    let f = finds (goal.at.bounds-accounts-from c).After-accounts in
    let low = account-there h f in
    let same = c.from.ensures in
    omega (arith, low, same)

pub index_mut-requires : goal.index_mut-requires
index_mut-requires c =
    let h = pulls (goal.at.index_mut-requires c).After-has_happened-2 in
    let f = finds (goal.at.index_mut-requires c).After-accounts in
    let told = its-queue (goal.at.index_mut-requires c).After-from-2 in
    let low = tokens-there h f c.from-2.result told in
    omega (arith, low)

pub unwrap-token-requires : goal.unwrap-token-requires
unwrap-token-requires c =
    let h = pulls (goal.at.unwrap-token-requires c).After-has_happened-2 in
    let f = finds (goal.at.unwrap-token-requires c).After-accounts in
    let told = its-queue (goal.at.unwrap-token-requires c).After-from-2 in
    token-there h f c.from-2.result told c.index_mut.result.now c.index_mut.ensures.value c.pop_front.result c.pop_front.ensures.value

pub invariant_of-self-2 : goal.invariant_of-self-2
invariant_of-self-2 c =
    let h = pulls (goal.at.invariant_of-self-2 c).After-has_happened-2 in
    let f = finds (goal.at.invariant_of-self-2 c).After-accounts in
    let told = its-queue (goal.at.invariant_of-self-2 c).After-from-2 in
    pulled-some h f c.from-2.result told c.index_mut.result.now c.index_mut.ensures.value c.pop_front.new.self c.pop_front.ensures.items

pub returns : goal.returns
returns c =
    let i = c.self.inside in
    let h = pulls (goal.at.returns c).After-has_happened-2 in
    let f = finds (goal.at.returns c).After-accounts in
    let told = its-queue (goal.at.returns c).After-from-2 in
    let its =
    token-is h f c.from-2.result told c.index_mut.result.now c.index_mut.ensures.value c.pop_front.result c.unwrap-token.result c.pop_front.ensures.value c.unwrap-token.ensures
    in
    let got = c.pull-packet.ensures.pulled in
    record {
      pulled =
          subst (λ (l : LiveState). IsPulledLive c.args.device c.args.moment (seen l) (Some (record { packet = c.in_ok-packet.packet; token = c.unwrap-token.result })) (record { course = c.pull-packet.new.self; items = map taken i.outlets.items })) c.self.view_is
          (record { pulled = record { visits = got.visits; result = got.result ∙ c.in_ok-packet.was; goes_on = got.goes_on }; token = its; items = refl });
      unchanged = subst (λ (l : LiveState). (i.outlets.items ≡ l.outlets) × (i.turn ≡ l.turn)) c.self.view_is (refl, refl);
    }
