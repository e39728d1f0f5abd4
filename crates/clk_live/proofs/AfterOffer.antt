-- What a live router keeps after it took a packet, in the words of the calls that did it.
use Rattle.std.proofs.Common.{◌≡◌, ℕ, ◌<◌, ◌++◌, ◌∷◌, [], List, length, map, set, Some, slice_get, get_or, sym, ap, ◌∙◌, subst, arith}
use Rattle.std.proofs.lemmas.List.{length-map}
use Rattle.std.proofs.lemmas.Option.{slice_get_within}
use Rattle.circular_buffer.specs.Buffer.{Buffer}
use Rattle.clk_packet.specs.declared.packet.Packet.{Packet}
use Rattle.clk_packet.specs.declared.packet.Offered.{Offered}
use Rattle.clk_packet.specs.declared.packet.Offered.TheVariants as offer
use Rattle.clk_sched.proofs.Callers.Lists.{all-split}
use Rattle.clk_inlet.specs.Items.{packet_item}
use Rattle.clk_inlet.specs.declared.item.Item.{Item}
use Rattle.clk_router.specs.declared.accounts.Account.{Account}
use Rattle.clk_router.specs.declared.queue_state.QueueState.{QueueState}
use Rattle.clk_router.specs.Accounts.{account_after}
use Rattle.clk_router.specs.Course.{Course, after, IsQueueState}
use Rattle.clk_router.specs.Events.{Room, offered, NamesItsOffer}
use Rattle.clk_live.specs.declared.taking.OfferOutcome.{OfferOutcome}
use Rattle.clk_live.specs.declared.taking.OfferOutcome.TheVariants.{Accepted, Refused, Evicted}
use Rattle.clk_live.specs.State.{Seen, IsTokenOf}
use Rattle.clk_live.specs.Taking.{offer_outcome, HasToken}
use Rattle.clk_live.specs.inside.Kept.{IsKept}
use Rattle.clk_live.specs.inside.Noted.{CanNote, IsNoted}
use Rattle.clk_live.proofs.QueueTokens.{EvictedHas}
use Rattle.clk_live.proofs.Steps.{Stands, TookNext, ItsQueue, its-queue, no_account, account-queue, read-is, number, is-item, its-token, room-for, evicted-has, kept-offered}

-- what was noted is what became of the offer
noted-outcome : (p : Packet) (b : Buffer ℕ) (capacity token : ℕ) (outcome : Offered) (noted : OfferOutcome) (left : Buffer ℕ) → IsNoted b capacity token outcome noted left → NamesItsOffer (offered p outcome) → outcome ≡ offer_outcome p noted
noted-outcome p b capacity token offer.Accepted noted left h names = sym (ap (offer_outcome p) h.0)
noted-outcome p b capacity token (offer.Refused r) noted left h names = ap offer.Refused names ∙ sym (ap (offer_outcome p) h.0)
noted-outcome p b capacity token (offer.Evicted front) noted left h names = sym (ap (offer_outcome p) h.1)

-- the token of an evicted packet, as contracts say it
pub has-token : (l : Seen) (noted : OfferOutcome) → EvictedHas (IsTokenOf l.course.setup l.items) noted → HasToken l noted
has-token l Accepted h = tt
has-token l Refused h = tt
has-token l (Evicted front token) h = h

-- The tokens of the queue of the sender at this place were read, after its account told which queue that is.
pub record ReadsTokens (new : Course) (buffers : List (Buffer ℕ)) (place : ℕ) (accounts : List Account) (n : ℕ) (state : QueueState) (read : Buffer ℕ) : Type 0 where
  pub are : accounts ≡ map (account_after new.events) new.setup.senders
  pub told : n ≡ (get_or accounts place no_account).queue
  pub declared : IsQueueState new (get_or accounts place no_account).queue state
  pub is : read ≡ get_or buffers n read

-- The packet that comes next from the inlet at a place was offered, which made the course of the router this one.
pub record OffersNext (old new : Course) (items : List (List Item)) (buffers : List (Buffer ℕ)) (place : ℕ) (before : List Item) (x : Item) (p : Packet) (outcome : Offered) : Type 0 where
  pub stand : Stands old items buffers
  pub took : TookNext old items place before x p outcome
  pub goes : new ≡ after old (offered p outcome ∷ [])

module _ {old new : Course} {items : List (List Item)} {buffers : List (Buffer ℕ)} {place : ℕ} {before : List Item} {x : Item} {p : Packet} {outcome : Offered} (h : OffersNext old new items buffers place before x p outcome) where
  queue : ItsQueue h.stand place p.sender
  queue = its-queue h.stand place p.sender h.took.sender

  pub number-is : p.number ≡ length before
  number-is = number h.stand h.took

  -- the packets that were taken from this sender are one more
  pub items-are : set items place (before ++ x ∷ []) ≡ set items place (before ++ packet_item p.length x.token ∷ [])
  items-are = ap (λ (y : Item). set items place (before ++ y ∷ [])) (is-item h.stand h.took)

  pub token-is : IsTokenOf new.setup (set items place (before ++ x ∷ [])) p x.token
  token-is =
      subst (λ (c : Course). IsTokenOf c.setup (set items place (before ++ x ∷ [])) p x.token) (sym h.goes) (its-token h.stand h.took)

  module _ (accounts : List Account) (are : accounts ≡ map (account_after new.events) new.setup.senders) where
    queue-is : (get_or accounts place no_account).queue ≡ queue.spec.queue
    queue-is = account-queue new.events old.setup.senders accounts place queue.spec no_account (are ∙ ap (λ (c : Course). map (account_after new.events) c.setup.senders) h.goes) queue.at

    pub account-there : place < length accounts
    account-there =
        let within = slice_get_within old.setup.senders place queue.spec queue.at in
        let many = ap length (are ∙ ap (λ (c : Course). map (account_after new.events) c.setup.senders) h.goes) ∙ length-map old.setup.senders (account_after new.events) in
        omega (arith, within, many)

    pub queue-there : (get_or accounts place no_account).queue < length new.setup.queues
    queue-there =
        let within = slice_get_within old.setup.queues queue.spec.queue queue.room queue.queue in
        let same = ap (λ (c : Course). length c.setup.queues) h.goes in
        omega (arith, within, same, queue-is)

    module _ (n : ℕ) (told : n ≡ (get_or accounts place no_account).queue) where
      n-is : n ≡ queue.spec.queue
      n-is = told ∙ queue-is

      pub tokens-there : n < length buffers
      tokens-there = let within = slice_get_within buffers queue.spec.queue queue.b queue.tokens in omega (arith, within, n-is)

  -- the tokens of its queue were read
  module _ {accounts : List Account} {n : ℕ} {state : QueueState} {read : Buffer ℕ} (r : ReadsTokens new buffers place accounts n state read) where
    own : read ≡ queue.b
    own = read-is buffers n queue.spec.queue queue.b read (n-is accounts r.are n r.told) queue.tokens r.is

    capacity-is : queue.room.capacity ≡ state.capacity
    capacity-is =
        let same : Some queue.room ≡ Some (record { kind = state.kind; capacity = state.capacity; device = state.device }) =
        sym queue.queue ∙ ap (slice_get old.setup.queues) (sym (queue-is accounts r.are)) ∙ ap (λ (c : Course). slice_get c.setup.queues (get_or accounts place no_account).queue) (sym h.goes) ∙ r.declared.declared
        in
        let room : queue.room ≡ record { kind = state.kind; capacity = state.capacity; device = state.device } = cc same in
        ap (λ (r : Room). r.capacity) room

    -- there is room for its token
    pub can-note-it : CanNote read state.capacity outcome
    can-note-it =
        subst (λ (b : Buffer ℕ). CanNote b state.capacity outcome) (sym own)
        (subst (λ k. CanNote queue.b k outcome) capacity-is (room-for h.stand h.took queue))

    module _ (noted : OfferOutcome) (left : Buffer ℕ) (notes : IsNoted read state.capacity x.token outcome noted left) where
      its-notes : IsNoted queue.b queue.room.capacity x.token outcome noted left
      its-notes = subst (λ k. IsNoted queue.b k x.token outcome noted left) (sym capacity-is) (subst (λ (b : Buffer ℕ). IsNoted b state.capacity x.token outcome noted left) own notes)

      pub evicted-token : EvictedHas (IsTokenOf new.setup (set items place (before ++ x ∷ []))) noted
      evicted-token =
          subst (λ (c : Course). EvictedHas (IsTokenOf c.setup (set items place (before ++ x ∷ []))) noted) (sym h.goes)
          (evicted-has h.stand h.took queue noted left its-notes)

      pub outcome-is : outcome ≡ offer_outcome p noted
      outcome-is = noted-outcome p queue.b queue.room.capacity x.token outcome noted left its-notes ((all-split NamesItsOffer old.events (offered p outcome ∷ []) h.took.more.refusals).1.0)

      pub kept-taken : IsKept new (set items place (before ++ x ∷ [])) (set buffers n left)
      kept-taken =
          subst (λ k. IsKept new (set items place (before ++ x ∷ [])) (set buffers k left)) (sym (n-is accounts r.are n r.told))
          (subst (λ (c : Course). IsKept c (set items place (before ++ x ∷ [])) (set buffers queue.spec.queue left)) (sym h.goes)
          (kept-offered h.stand h.took queue noted left its-notes))
