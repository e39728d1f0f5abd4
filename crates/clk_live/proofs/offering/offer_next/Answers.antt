use Rattle.std.proofs.Common.{◌++◌, ◌∷◌, [], List, length, set, ap, ◌∙◌, subst, arith}
use Rattle.clk_packet.specs.declared.packet.Offered.{Offered}
use Rattle.clk_inlet.specs.declared.item.Item.{Item}
use Rattle.clk_router.specs.Course.{Course, after}
use Rattle.clk_router.specs.Events.{offered, CanHappen}
use Rattle.clk_live.specs.State.{Seen}
use Rattle.clk_live.specs.inside.Runs.{CanRun}
use Rattle.clk_live.proofs.AfterOffer.{ReadsTokens, OffersNext, number-is, items-are, account-there, queue-there, tokens-there, can-note-it, evicted-token, outcome-is, token-is, has-token, kept-taken}
use Rattle.clk_live.proofs.Counts.{can-offer}
use Rattle.clk_live.proofs.Fitting.{stay-full}
use Rattle.clk_live.proofs.offering.offer_next.Goals.{After-accounts, After-index_mut-its_tokens}
use Rattle.clk_live.proofs.offering.offer_next.Goals as goal

-- the packet was offered, whichever packets were taken before
offers : (c : After-accounts) (items : List (List Item)) (before : List Item) → CanRun c.args.router.now c.args.tokens.now.items items c.args.place before 1
    → OffersNext c.args.router.now c.offer-outcome.new.self items c.args.tokens.now.items c.args.place before c.args.item c.offer-outcome.result.0 c.offer-outcome.result.1
offers c items before can = record {
  stand = record { kept = can.kept; law = rw c.deref.ensures at c.queues_go_on.ensures; rising = rw (c.senders.ensures.numbers, c.deref-3.ensures) at c.senders.ensures.rising; can = rw c.deref-2.ensures at c.has_happened.ensures };
  took = record {
    its = can.its;
    few = (let few = can.few in omega (arith, few));
    sender = c.offer-outcome.ensures.sender;
    bytes = c.offer-outcome.ensures.length ∙ c.bytes.ensures;
    more = subst (λ (k : Course). CanHappen k.setup k.events) c.offer-outcome.ensures.goes_on (rw c.deref-4.ensures at c.has_happened-2.ensures);
  };
  goes = c.offer-outcome.ensures.goes_on;
}

its-offer : (c : After-accounts) → OffersNext c.args.router.now c.offer-outcome.new.self c.requires.can.0 c.args.tokens.now.items c.args.place c.requires.can.1 c.args.item c.offer-outcome.result.0 c.offer-outcome.result.1
its-offer c = offers c c.requires.can.0 c.requires.can.1 c.requires.can.2

-- the tokens of its queue were read
reads : (c : After-index_mut-its_tokens) → ReadsTokens c.offer-outcome.new.self c.args.tokens.now.items c.args.place c.accounts.result.now c.from.result c.queue-capacity.result c.index_mut-its_tokens.result.now
reads c = record { are = c.accounts.ensures; told = c.from.ensures; declared = rw c.deref-5.ensures at c.queue-capacity.ensures.state; is = c.index_mut-its_tokens.ensures.value }

pub offer-outcome-requires-clause-can : goal.offer-outcome-requires-clause-can
offer-outcome-requires-clause-can c =
    let can = c.requires.can.2 in
    let few = can.few in
    can-offer c.args.router.now c.requires.can.0 c.args.tokens.now.items can.kept (rw c.deref-2.ensures at c.has_happened.ensures) c.args.place c.requires.can.1 can.its (omega (arith, few))

pub bounds-accounts-place : goal.bounds-accounts-place
bounds-accounts-place c = account-there (its-offer c) c.accounts.result.now c.accounts.ensures

pub offset_bounds-accounts-place : goal.offset_bounds-accounts-place
offset_bounds-accounts-place c = let low = account-there (its-offer c) c.accounts.result.now c.accounts.ensures in let size = c.accounts.type_inv.1 in omega (arith, low, size)

pub queue-capacity-requires : goal.queue-capacity-requires
queue-capacity-requires c =
    let there = queue-there (its-offer (goal.at.queue-capacity-requires c).After-accounts) c.accounts.result.now c.accounts.ensures in
    let all = ap (λ (k : Course). length k.setup.queues) c.deref-5.ensures in
    omega (arith, there, all)

pub index_mut-its_tokens-requires : goal.index_mut-its_tokens-requires
index_mut-its_tokens-requires c =
    let low = tokens-there (its-offer (goal.at.index_mut-its_tokens-requires c).After-accounts) c.accounts.result.now c.accounts.ensures c.from.result c.from.ensures in
    omega (arith, low)

pub note_offer-outcome-requires : goal.note_offer-outcome-requires
note_offer-outcome-requires c = can-note-it (its-offer (goal.at.note_offer-outcome-requires c).After-accounts) (reads (goal.at.note_offer-outcome-requires c).After-index_mut-its_tokens)

pub returns-clause-offered : goal.returns-clause-offered
returns-clause-offered c =
    let r = reads (goal.at.returns-clause-offered c).After-index_mut-its_tokens in
    let noted = c.note_offer-outcome in
    λ items before can.
    (let h = offers (goal.at.returns-clause-offered c).After-accounts items before can in
    let new : Seen = record { course = c.offer-outcome.new.self; items = set items c.args.place (before ++ c.args.item ∷ []) } in
    record {
      kept = kept-taken h r noted.result noted.new.tokens noted.ensures;
      taken = record {
        before = before;
        was = can.its;
        items = items-are h;
        sender = c.offer-outcome.ensures.sender;
        number = number-is h;
        goes_on = c.offer-outcome.ensures.goes_on ∙ ap (λ (f : Offered). after c.args.router.now (offered c.offer-outcome.result.0 f ∷ [])) (outcome-is h r noted.result noted.new.tokens noted.ensures);
        evicted = has-token new noted.result (evicted-token h r noted.result noted.new.tokens noted.ensures);
      };
      token = token-is h;
    })

pub returns-clause-full : goal.returns-clause-full
returns-clause-full c = stay-full c.args.router.now c.offer-outcome.new.self c.offer-outcome.result.0 c.offer-outcome.result.1 (rw c.deref-4.ensures at c.has_happened-2.ensures) c.offer-outcome.ensures.goes_on
