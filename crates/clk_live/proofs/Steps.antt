-- What a live router keeps, as packets are offered and devices pulled.
use Rattle.std.proofs.Common.{◌≡◌, ℕ, zero, suc, ◌<◌, ◌==◌, ◌&&◌, ◌||◌, ◌⊎◌, inl, inr, Bool, true, false, if◌then◌else◌, List, [], ◌∷◌, ◌++◌, length, map, set, drop, filter, Option, Some, None, MatchOption, slice_get, get_or, refl, sym, ap, ◌∙◌, subst, arith}
use Rattle.std.specs.Bool.{⊤}
use Rattle.std.specs.List.{cons_option, list_any, AllByRecursion, AllZip}
use Rattle.std.specs.Option.{option_map, IsSome}
use Rattle.std.proofs.lemmas.Bool.{false≢true, eqb-true, or_right}
use Rattle.std.proofs.lemmas.Bool.Decides.{nat_tests}
use Rattle.std.proofs.lemmas.List.{map-append, length-append, length-map, length-set}
use Rattle.std.proofs.lemmas.Option.{slice_get-map, slice_get_within, get_or_from_slice_get}
use Rattle.circular_buffer.specs.Buffer.{Buffer, buffer}
use Rattle.clk_packet.specs.declared.packet.Packet.{Packet}
use Rattle.clk_packet.specs.declared.packet.Offered.{Offered}
use Rattle.clk_packet.specs.Lists.{AreRising}
use Rattle.clk_sched.specs.declared.visit.Visit.{Visit}
use Rattle.clk_sched.specs.Log.{visits_of, result_of}
use Rattle.clk_tree.specs.declared.plan.parts.SenderSpec.{SenderSpec}
use Rattle.clk_tree.specs.PlanParts.{SendsWithin, number_of}
use Rattle.clk_inlet.specs.Items.{packet_item}
use Rattle.clk_inlet.specs.declared.limits.TheConstants.{MAX_PACKETS}
use Rattle.clk_inlet.specs.declared.item.Item.{Item}
use Rattle.clk_packet.specs.declared.counts.Total.{Total}
use Rattle.clk_router.specs.declared.accounts.Account.{Account}
use Rattle.clk_router.specs.Accounts.{account_after}
use Rattle.clk_router.specs.Course.{Course, after, sender_at, IsPulled}
use Rattle.clk_router.specs.Events.{Room, Setup, Event, offered, pulled, sender_numbers, sends_to, CanHappen}
use Rattle.clk_router.specs.InsideQueues.{is_of_queue, inside_of, emitted_from, QueuesGoOn}
use Rattle.clk_router.specs.Settled.{offered_of}
use Rattle.clk_router.proofs.Callers.Apart.{one-queue}
use Rattle.clk_live.specs.declared.taking.OfferOutcome.{OfferOutcome}
use Rattle.clk_live.specs.State.{IsTokenOf}
use Rattle.clk_live.specs.Outcome.{item_length, packet_length}
use Rattle.clk_live.specs.inside.Kept.{AreOffered, AreTokens, IsKept}
use Rattle.clk_live.specs.inside.Noted.{CanNote, IsNoted}
use Rattle.clk_live.proofs.Lists.{member, set-cases, zip-widened}
use Rattle.clk_live.proofs.Outlets.{token-stays, token-comes}
use Rattle.clk_live.proofs.Counts.{offers-one, offers-other, offers-pull, number-is, taken-many}
use Rattle.clk_live.proofs.QueueTokens.{EvictedHas, Notes, can-note, notes, inside-same, inside-pulled}

-- the sender at a place
pub spec-at : (senders : List SenderSpec) (i s : ℕ) → slice_get (map number_of senders) i ≡ Some s → (x : SenderSpec) × (slice_get senders i ≡ Some x) × (x.number ≡ s)
spec-at [] i s e = absurd (cc)
spec-at (x ∷ senders) zero s e = (x, refl, cc)
spec-at (x ∷ senders) (suc i) s e = spec-at senders i s e

-- what a read of an account gives where none is
abbrev pub no_account : Account
no_account =
    let zero : Total ℕ = record { packets = 0; bytes = 0 } in
    record { queue = 0; counts = record { sender = 0; accepted = zero; refused = zero; evicted = zero; emitted = zero } }

-- its account tells its queue
pub account-queue : (events : List Event) (senders : List SenderSpec) (accounts : List Account) (i : ℕ) (x : SenderSpec) (d : Account) → accounts ≡ map (account_after events) senders → slice_get senders i ≡ Some x → (get_or accounts i d).queue ≡ x.queue
account-queue events senders accounts i x d are at =
    let here : slice_get accounts i ≡ Some (account_after events x) = ap (λ l. slice_get l i) are ∙ slice_get-map (account_after events) senders i ∙ ap (option_map (account_after events)) at in
    ap (λ (a : Account). a.queue) (get_or_from_slice_get accounts i (account_after events x) d here)

-- it sends to its queue, which is there
pub sends-own : (senders : List SenderSpec) (i : ℕ) (x : SenderSpec) → slice_get senders i ≡ Some x → sends_to senders x.number x.queue ≡ true
sends-own [] i x e = absurd (cc)
sends-own (y ∷ senders) zero x e =
    let same : y ≡ x = cc in
    subst (λ (z : SenderSpec). sends_to (y ∷ senders) z.number z.queue ≡ true) same
    (let n : (y.number == y.number) ≡ true = grind (arith, nat_tests) in let q : (y.queue == y.queue) ≡ true = grind (arith, nat_tests) in rw (n, q) refl)
sends-own (y ∷ senders) (suc i) x e = or_right ((y.number == x.number) && (y.queue == x.queue)) (sends_to senders x.number x.queue) (sends-own senders i x e)

pub sends-within : (n : ℕ) (senders : List SenderSpec) (i : ℕ) (x : SenderSpec) → AllByRecursion (SendsWithin n) senders → slice_get senders i ≡ Some x → x.queue < n
sends-within n [] i x h e = absurd (cc)
sends-within n (y ∷ senders) zero x h e = let same : y ≡ x = cc in subst (λ (z : SenderSpec). z.queue < n) same h.0
sends-within n (y ∷ senders) (suc i) x h e = sends-within n senders i x h.1 e

-- numbers that rise stand at one place each
above-at : (ns : List ℕ) (n i a : ℕ) → AllByRecursion (λ m. n < m) ns → slice_get ns i ≡ Some a → n < a
above-at [] n i a h e = absurd (cc)
above-at (m ∷ ns) n zero a h e = let same : m ≡ a = cc in subst (λ k. n < k) same h.0
above-at (m ∷ ns) n (suc i) a h e = above-at ns n i a h.1 e

pub one-place : (ns : List ℕ) (i k a : ℕ) → AreRising ns → slice_get ns i ≡ Some a → slice_get ns k ≡ Some a → k ≡ i
one-place [] i k a rising e f = absurd (cc)
one-place (n ∷ ns) zero zero a rising e f = refl
one-place (n ∷ ns) zero (suc k) a rising e f = let same : n ≡ a = cc in let above = above-at ns n k a rising.0 f in absurd (omega (arith, same, above))
one-place (n ∷ ns) (suc i) zero a rising e f = let same : n ≡ a = cc in let above = above-at ns n i a rising.0 e in absurd (omega (arith, same, above))
one-place (n ∷ ns) (suc i) (suc k) a rising e f = ap suc (one-place ns i k a rising.1 e f)

-- a packet of a sender of one queue is of no other
pub other-queue : (senders : List SenderSpec) (s q k : ℕ) → AreRising (map number_of senders) → sends_to senders s q ≡ true → (k == q) ≡ false → sends_to senders s k ≡ false
other-queue senders s q k rising own other = by_test (sends_to senders s k) refl
  where
    by_test : (b : Bool) → sends_to senders s k ≡ b → b ≡ false
    by_test false e = refl
    by_test true e = let same = one-queue senders s k q rising e own in absurd (grind (arith, nat_tests))

-- the first members of lists side by side
zip-first : {X Y : Type 0} (R : X → Y → Type 0) (x : X) (xs : List X) (ys : List Y) → AllZip R (x ∷ xs) ys → (y : Y) × (slice_get ys 0 ≡ Some y) × R x y × AllZip R xs (drop 1 ys)
zip-first R x xs [] h = absurd h
zip-first R x xs (y ∷ ys) h = (y, refl, h.0, h.1)

-- What is known of the parts of a live router before an offer or a pull.
pub record Stands (old : Course) (items : List (List Item)) (buffers : List (Buffer ℕ)) : Type 0 where
  pub kept : IsKept old items buffers
  pub law : QueuesGoOn old.setup
  pub rising : AreRising (sender_numbers old.setup)
  pub can : CanHappen old.setup old.events

-- The packet that comes next after those from the inlet at a place was offered.
pub record TookNext (old : Course) (items : List (List Item)) (place : ℕ) (before : List Item) (x : Item) (p : Packet) (outcome : Offered) : Type 0 where
  pub its : slice_get items place ≡ Some before
  pub few : length before < MAX_PACKETS
  pub sender : sender_at old.setup place ≡ Some p.sender
  pub bytes : p.length ≡ x.length
  pub more : CanHappen old.setup (old.events ++ offered p outcome ∷ [])

module _ {old : Course} {items : List (List Item)} {buffers : List (Buffer ℕ)} (stand : Stands old items buffers) where
  -- the queue of the sender at a place
  pub record ItsQueue (place s : ℕ) : Type 0 where
    pub spec : SenderSpec
    pub at : slice_get old.setup.senders place ≡ Some spec
    pub number : spec.number ≡ s
    pub room : Room
    pub queue : slice_get old.setup.queues spec.queue ≡ Some room
    pub own : sends_to old.setup.senders s spec.queue ≡ true
    pub b : Buffer ℕ
    pub tokens : slice_get buffers spec.queue ≡ Some b

  pub its-queue : (place s : ℕ) → sender_at old.setup place ≡ Some s → ItsQueue place s
  its-queue place s sender =
      let x = spec-at old.setup.senders place s sender in
      let within = sends-within (length old.setup.queues) old.setup.senders place x.0 stand.kept.wired x.1 in
      let room = member old.setup.queues x.0.queue within in
      let b = member buffers x.0.queue (omega (arith, within, stand.kept.queues)) in
      record {
        spec = x.0;
        at = x.1;
        number = x.2;
        room = room.0;
        queue = room.1;
        own = subst (λ n. sends_to old.setup.senders n x.0.queue ≡ true) x.2 (sends-own old.setup.senders place x.0 x.1);
        b = b.0;
        tokens = b.1;
      }

  module _ (d m : ℕ) (visits : List Visit) (more : CanHappen old.setup (old.events ++ pulled d m visits ∷ [])) where
    events : List Event
    events = old.events ++ pulled d m visits ∷ []

    with_buffers : (new : List (Buffer ℕ)) → length new ≡ length buffers
        → ((q : ℕ) (room : Room) (b : Buffer ℕ) → slice_get old.setup.queues q ≡ Some room → slice_get new q ≡ Some b → AreTokens old.setup (old.events ++ pulled d m visits ∷ []) items q room b)
        → IsKept (after old (pulled d m visits ∷ [])) items new
    with_buffers new same tokens = record {
      places = stand.kept.places;
      few_places = stand.kept.few_places;
      wired = stand.kept.wired;
      offers = λ place its s here at.
          (let h = stand.kept.offers place its s here at in
          record { lengths = h.lengths ∙ ap (map packet_length) (sym (offers-pull old.events d m visits s)); few = h.few });
      queues = same ∙ stand.kept.queues;
      tokens = tokens;
    }

    -- the tokens of a queue of which nothing was emitted
    stay : (q : ℕ) (room : Room) (b : Buffer ℕ) → slice_get old.setup.queues q ≡ Some room → slice_get buffers q ≡ Some b → emitted_from old.setup q (pulled d m visits) ≡ [] → AreTokens old.setup (old.events ++ pulled d m visits ∷ []) items q room b
    stay q room b is at none =
        let h = stand.kept.tokens q room b is at in
        let same : inside_of old.setup room.device q old.events ≡ inside_of old.setup room.device q (old.events ++ pulled d m visits ∷ []) = inside-pulled old.setup stand.law q room is old.events stand.can d m visits more ∙ ap (λ l. l ++ inside_of old.setup room.device q (old.events ++ pulled d m visits ∷ [])) none in
        record { tokens = subst (λ l. AllZip (IsTokenOf old.setup items) l b.items) same h.tokens; capacity = h.capacity }

    pub kept-none : result_of (visits_of 0 visits) ≡ None → IsKept (after old (pulled d m visits ∷ [])) items buffers
    kept-none none = with_buffers buffers refl (λ q room b is at. stay q room b is at (ap (λ o. filter (is_of_queue old.setup q) (cons_option o [])) none))

    pub record Popped (p : Packet) (q : ℕ) (b : Buffer ℕ) : Type 0 where
      pub token : ℕ
      pub first : slice_get b.items 0 ≡ Some token
      pub its : IsTokenOf old.setup items p token
      pub goes_on : (new : Buffer ℕ) → new ≡ buffer (drop 1 b.items) b.capacity → IsKept (after old (pulled d m visits ∷ [])) items (set buffers q new)

    pub kept-some : (p : Packet) (place : ℕ) (i : ItsQueue place p.sender) → result_of (visits_of 0 visits) ≡ Some p → Popped p i.spec.queue i.b
    kept-some p place i got =
        let q = i.spec.queue in
        let h = stand.kept.tokens q i.room i.b i.queue i.tokens in
        let emits : emitted_from old.setup q (pulled d m visits) ≡ p ∷ [] = ap (λ o. filter (is_of_queue old.setup q) (cons_option o [])) got ∙ ap (λ t. if t then p ∷ [] else []) i.own in
        let first : inside_of old.setup i.room.device q old.events ≡ p ∷ inside_of old.setup i.room.device q (old.events ++ pulled d m visits ∷ []) =
        inside-pulled old.setup stand.law q i.room i.queue old.events stand.can d m visits more ∙ ap (λ l. l ++ inside_of old.setup i.room.device q (old.events ++ pulled d m visits ∷ [])) emits
        in
        let z = zip-first (IsTokenOf old.setup items) p (inside_of old.setup i.room.device q (old.events ++ pulled d m visits ∷ [])) i.b.items (subst (λ l. AllZip (IsTokenOf old.setup items) l i.b.items) first h.tokens) in
        record {
          token = z.0;
          first = z.1;
          its = z.2;
          goes_on = λ new is. with_buffers (set buffers q new) (length-set buffers q new) (λ k room b at here. by_queue new is z.3 k room b at (set-cases buffers q k new b here));
        }
      where
        by_queue : (new : Buffer ℕ) → new ≡ buffer (drop 1 i.b.items) i.b.capacity → AllZip (IsTokenOf old.setup items) (inside_of old.setup i.room.device i.spec.queue (old.events ++ pulled d m visits ∷ [])) (drop 1 i.b.items)
            → (k : ℕ) (room : Room) (b : Buffer ℕ) → slice_get old.setup.queues k ≡ Some room → ((k ≡ i.spec.queue) × (new ≡ b)) ⊎ (((k == i.spec.queue) ≡ false) × (slice_get buffers k ≡ Some b))
            → AreTokens old.setup (old.events ++ pulled d m visits ∷ []) items k room b
        by_queue new is rest k room b at (inl (same, new_is)) =
            let one : Some i.room ≡ Some room = sym i.queue ∙ ap (slice_get old.setup.queues) (sym same) ∙ at in
            let its : i.room ≡ room = cc one in
            subst (λ n. AreTokens old.setup (old.events ++ pulled d m visits ∷ []) items n room b) (sym same)
            (subst (λ (r : Room). AreTokens old.setup (old.events ++ pulled d m visits ∷ []) items i.spec.queue r b) its
            (subst (AreTokens old.setup (old.events ++ pulled d m visits ∷ []) items i.spec.queue i.room) (sym is ∙ new_is)
            (record { tokens = rest; capacity = (stand.kept.tokens i.spec.queue i.room i.b i.queue i.tokens).capacity })))
        by_queue new is rest k room b at (inr (other, here)) =
            let none : sends_to old.setup.senders p.sender k ≡ false = other-queue old.setup.senders p.sender i.spec.queue k stand.rising i.own other in
            stay k room b at here (ap (λ o. filter (is_of_queue old.setup k) (cons_option o [])) got ∙ ap (λ t. if t then p ∷ [] else []) none)

  module _ {place : ℕ} {before : List Item} {x : Item} {p : Packet} {outcome : Offered} (took : TookNext old items place before x p outcome) where
    pub number : p.number ≡ length before
    number = number-is old.setup old.events p outcome took.more ∙ taken-many old items buffers stand.kept stand.can place p.sender before took.its took.sender

    pub is-item : x ≡ packet_item p.length x.token
    is-item = λ k. record { token = x.token; length = sym took.bytes k }

    pub its-token : IsTokenOf old.setup (set items place (before ++ x ∷ [])) p x.token
    its-token = token-comes old.setup items place before (before ++ x ∷ []) took.its p x.token took.sender (ap (λ (y : Item). before ++ y ∷ []) is-item) number

    stays : (r : Packet) (token : ℕ) → IsTokenOf old.setup items r token → IsTokenOf old.setup (set items place (before ++ x ∷ [])) r token
    stays = token-stays old.setup items place before (before ++ x ∷ []) took.its (x ∷ []) refl

    offers-more : (k : ℕ) (u : List Item) (s : ℕ) → slice_get (set items place (before ++ x ∷ [])) k ≡ Some u → sender_at old.setup k ≡ Some s → AreOffered (old.events ++ offered p outcome ∷ []) s u
    offers-more k u s here at = by_place (set-cases items place k (before ++ x ∷ []) u here)
      where
        by_place : ((k ≡ place) × (before ++ x ∷ [] ≡ u)) ⊎ (((k == place) ≡ false) × (slice_get items k ≡ Some u)) → AreOffered (old.events ++ offered p outcome ∷ []) s u
        by_place (inl (same, is)) =
            let numbers : Some p.sender ≡ Some s = sym took.sender ∙ ap (sender_at old.setup) (sym same) ∙ at in
            let named : p.sender ≡ s = cc numbers in
            let own : (p.sender == s) ≡ true = grind (arith, nat_tests, named) in
            let h = stand.kept.offers place before s took.its (ap (sender_at old.setup) (sym same) ∙ at) in
            let longer = length-append before (x ∷ []) in
            subst (AreOffered (old.events ++ offered p outcome ∷ []) s) is
            (record {
              lengths = map-append item_length before (x ∷ []) ∙ ap (λ l. l ++ x.length ∷ []) h.lengths ∙ ap (λ n. map packet_length (offered_of old.events s) ++ n ∷ []) (sym took.bytes)
                  ∙ sym (map-append packet_length (offered_of old.events s) (p ∷ [])) ∙ ap (map packet_length) (sym (offers-one old.events p outcome s own));
              few = omega (arith, longer, took.few);
            })
        by_place (inr (other, there)) =
            let h = stand.kept.offers k u s there at in
            let not_its : (p.sender == s) ≡ false = not-its (p.sender == s) refl in
            record { lengths = h.lengths ∙ ap (map packet_length) (sym (offers-other old.events p outcome s not_its)); few = h.few }
          where
            not-its : (b : Bool) → (p.sender == s) ≡ b → b ≡ false
            not-its false e = refl
            not-its true e =
                let named : p.sender ≡ s = eqb-true p.sender s e in
                let same = one-place (sender_numbers old.setup) place k s stand.rising (took.sender ∙ ap Some named) at in
                absurd (grind (arith, nat_tests))

    module _ (i : ItsQueue place p.sender) where
      q : ℕ
      q = i.spec.queue

      was : AreTokens old.setup old.events items i.spec.queue i.room i.b
      was = stand.kept.tokens i.spec.queue i.room i.b i.queue i.tokens

      tokens : AllZip (IsTokenOf old.setup (set items place (before ++ x ∷ []))) (inside_of old.setup i.room.device i.spec.queue old.events) i.b.items
      tokens = zip-widened (IsTokenOf old.setup items) (IsTokenOf old.setup (set items place (before ++ x ∷ []))) stays (inside_of old.setup i.room.device i.spec.queue old.events) i.b.items was.tokens

      -- there is room for the token
      pub room-for : CanNote i.b i.room.capacity outcome
      room-for = can-note old.setup stand.law i.spec.queue i.room i.queue (IsTokenOf old.setup (set items place (before ++ x ∷ []))) old.events stand.can p i.own i.b tokens was.capacity outcome took.more

      module _ (noted : OfferOutcome) (new : Buffer ℕ) (is : IsNoted i.b i.room.capacity x.token outcome noted new) where
        after-offer : Notes (IsTokenOf old.setup (set items place (before ++ x ∷ []))) (inside_of old.setup i.room.device i.spec.queue (old.events ++ offered p outcome ∷ [])) i.b.capacity noted new
        after-offer = notes old.setup stand.law i.spec.queue i.room i.queue (IsTokenOf old.setup (set items place (before ++ x ∷ []))) old.events stand.can p i.own i.b tokens was.capacity x.token its-token outcome noted new took.more is

        pub evicted-has : EvictedHas (IsTokenOf old.setup (set items place (before ++ x ∷ []))) noted
        evicted-has = after-offer.evicted

        by_queue : (k : ℕ) (room : Room) (b : Buffer ℕ) → slice_get old.setup.queues k ≡ Some room → ((k ≡ i.spec.queue) × (new ≡ b)) ⊎ (((k == i.spec.queue) ≡ false) × (slice_get buffers k ≡ Some b))
            → AreTokens old.setup (old.events ++ offered p outcome ∷ []) (set items place (before ++ x ∷ [])) k room b
        by_queue k room b at (inl (same, new_is)) =
            let one : Some i.room ≡ Some room = sym i.queue ∙ ap (slice_get old.setup.queues) (sym same) ∙ at in
            let its_room : i.room ≡ room = cc one in
            subst (λ n. AreTokens old.setup (old.events ++ offered p outcome ∷ []) (set items place (before ++ x ∷ [])) n room b) (sym same)
            (subst (λ (r : Room). AreTokens old.setup (old.events ++ offered p outcome ∷ []) (set items place (before ++ x ∷ [])) i.spec.queue r b) its_room
            (subst (AreTokens old.setup (old.events ++ offered p outcome ∷ []) (set items place (before ++ x ∷ [])) i.spec.queue i.room) new_is
            (record { tokens = after-offer.tokens; capacity = after-offer.same ∙ was.capacity })))
        by_queue k room b at (inr (other, here)) =
            let h = stand.kept.tokens k room b at here in
            let none : sends_to old.setup.senders p.sender k ≡ false = other-queue old.setup.senders p.sender i.spec.queue k stand.rising i.own other in
            let same = inside-same old.setup stand.law k room at old.events stand.can p outcome none in
            record {
              tokens = subst (λ l. AllZip (IsTokenOf old.setup (set items place (before ++ x ∷ []))) l b.items) (sym same) (zip-widened (IsTokenOf old.setup items) (IsTokenOf old.setup (set items place (before ++ x ∷ []))) stays (inside_of old.setup room.device k old.events) b.items h.tokens);
              capacity = h.capacity;
            }

        pub kept-offered : IsKept (after old (offered p outcome ∷ [])) (set items place (before ++ x ∷ [])) (set buffers i.spec.queue new)
        kept-offered = record {
          places = length-set items place (before ++ x ∷ []) ∙ stand.kept.places;
          few_places = (let same = length-set items place (before ++ x ∷ []) in omega (arith, same, stand.kept.few_places));
          wired = stand.kept.wired;
          offers = offers-more;
          queues = length-set buffers i.spec.queue new ∙ stand.kept.queues;
          tokens = λ k room b at here. by_queue k room b at (set-cases buffers i.spec.queue k new b here);
        }

-- a number that stands in a list stands at a place
pub stands-at : (ns : List ℕ) (s : ℕ) → list_any (λ n. n == s) ns ≡ true → (i : ℕ) × (slice_get ns i ≡ Some s)
stands-at [] s e = absurd (false≢true e)
stands-at (n ∷ ns) s e = by_test (n == s) refl e (stands-at ns s)
  where
    by_test : (b : Bool) → (n == s) ≡ b → (b || list_any (λ k. k == s) ns) ≡ true → (list_any (λ k. k == s) ns ≡ true → (i : ℕ) × (slice_get ns i ≡ Some s)) → (i : ℕ) × (slice_get (n ∷ ns) i ≡ Some s)
    by_test true f e rest = (0, ap Some (eqb-true n s f))
    by_test false f e rest = let at = rest e in (suc at.0, at.1)

-- a search that misses nothing finds what is there
found : (setup : Setup) (s : ℕ) (o : Option ℕ) → (o ≡ None → (place : ℕ) → sender_at setup place ≡ Some s → ⊥) → (i : ℕ) × (sender_at setup i ≡ Some s) → IsSome o
found setup s None missing at = absurd (missing refl at.0 at.1)
found setup s (Some place) missing at = search

-- what a read at a place gave is what stands there
pub read-is : (buffers : List (Buffer ℕ)) (n q : ℕ) (b read : Buffer ℕ) → n ≡ q → slice_get buffers q ≡ Some b → read ≡ get_or buffers n read → read ≡ b
read-is buffers n q b read same at is = is ∙ ap (λ k. get_or buffers k read) same ∙ get_or_from_slice_get buffers q b read at

-- The sender of the packet that was emitted stands at this place, and these are the accounts of all senders.
pub record FoundSender (new : Course) (got : Option Packet) (p : Packet) (place : ℕ) (accounts : List Account) : Type 0 where
  pub gave : got ≡ Some p
  pub at : sender_at new.setup place ≡ Some p.sender
  pub are : accounts ≡ map (account_after new.events) new.setup.senders

-- A device was pulled once.
pub record PullsOnce (old new : Course) (items : List (List Item)) (buffers : List (Buffer ℕ)) (d m : ℕ) (got : Option Packet) : Type 0 where
  pub stand : Stands old items buffers
  pub pull : IsPulled old new d m got
  pub can_new : CanHappen new.setup new.events

module _ {old new : Course} {items : List (List Item)} {buffers : List (Buffer ℕ)} {d m : ℕ} {got : Option Packet} (h : PullsOnce old new items buffers d m got) where
  goes : CanHappen old.setup (old.events ++ pulled d m h.pull.visits ∷ [])
  goes = subst (λ (c : Course). CanHappen c.setup c.events) h.pull.goes_on h.can_new

  pub pulled-none : got ≡ None → IsKept new items buffers
  pulled-none none = subst (λ (c : Course). IsKept c items buffers) (sym h.pull.goes_on) (kept-none h.stand d m h.pull.visits goes (h.pull.result ∙ none))

  module _ (p : Packet) (gave : got ≡ Some p) where
    known : (i : ℕ) × (sender_at new.setup i ≡ Some p.sender)
    known =
        subst (λ (c : Course). (i : ℕ) × (sender_at c.setup i ≡ Some p.sender)) (sym h.pull.goes_on)
        (stands-at (sender_numbers old.setup) p.sender
        (subst (λ o. MatchOption o ⊤ (λ (r : Packet). list_any (λ n. n == r.sender) (sender_numbers old.setup) ≡ true)) (h.pull.result ∙ gave) (h.stand.law.of_senders old.events d m h.pull.visits goes)))

    -- the sender of the packet is found
    pub sender-found : (o : Option ℕ) → (o ≡ None → (place : ℕ) → sender_at new.setup place ≡ Some p.sender → ⊥) → IsSome o
    sender-found o missing = found new.setup p.sender o missing known

  -- its sender was found
  module _ {p : Packet} {place : ℕ} {accounts : List Account} (f : FoundSender new got p place accounts) where
    queue : ItsQueue h.stand place p.sender
    queue = its-queue h.stand place p.sender (subst (λ (c : Course). sender_at c.setup place ≡ Some p.sender) h.pull.goes_on f.at)

    same_accounts : accounts ≡ map (account_after new.events) old.setup.senders
    same_accounts = f.are ∙ ap (λ (c : Course). map (account_after new.events) c.setup.senders) h.pull.goes_on

    pub account-there : place < length accounts
    account-there =
        let within = slice_get_within old.setup.senders place queue.spec queue.at in
        let many = ap length same_accounts ∙ length-map old.setup.senders (account_after new.events) in
        omega (arith, within, many)

    module _ (n : ℕ) (told : n ≡ (get_or accounts place no_account).queue) where
      queue-is : n ≡ queue.spec.queue
      queue-is = told ∙ account-queue new.events old.setup.senders accounts place queue.spec no_account same_accounts queue.at

      pub tokens-there : n < length buffers
      tokens-there = let within = slice_get_within buffers queue.spec.queue queue.b queue.tokens in omega (arith, within, queue-is)

      module _ (read : Buffer ℕ) (is : read ≡ get_or buffers n read) where
        own : read ≡ queue.b
        own = read-is buffers n queue.spec.queue queue.b read queue-is queue.tokens is

        popped : Popped h.stand d m h.pull.visits goes p queue.spec.queue queue.b
        popped = kept-some h.stand d m h.pull.visits goes p place queue (h.pull.result ∙ f.gave)

        first : slice_get read.items 0 ≡ Some popped.token
        first = ap (λ (b : Buffer ℕ). slice_get b.items 0) own ∙ popped.first

        pub token-there : (o : Option ℕ) → o ≡ slice_get read.items 0 → IsSome o
        token-there o e = subst IsSome (sym (e ∙ first)) search

        pub token-is : (o : Option ℕ) (token : ℕ) → o ≡ slice_get read.items 0 → o ≡ Some token → IsTokenOf old.setup items p token
        token-is o token e some = let same : Some popped.token ≡ Some token = sym first ∙ sym e ∙ some in let one : popped.token ≡ token = cc same in subst (IsTokenOf old.setup items p) one popped.its

        pub pulled-some : (left : Buffer ℕ) → left ≡ buffer (drop 1 read.items) read.capacity → IsKept new items (set buffers n left)
        pulled-some left e =
            subst (λ k. IsKept new items (set buffers k left)) (sym queue-is)
            (subst (λ (c : Course). IsKept c items (set buffers queue.spec.queue left)) (sym h.pull.goes_on)
            (popped.goes_on left (e ∙ ap (λ (b : Buffer ℕ). buffer (drop 1 b.items) b.capacity) own)))
