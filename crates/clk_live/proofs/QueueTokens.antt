-- The tokens of one queue, as a packet is offered or a device pulled.
use Rattle.std.proofs.Common.{◌≡◌, ℕ, ◌+◌, ◌-◌, ◌≤◌, true, false, List, [], ◌∷◌, ◌++◌, length, length-append, append_assoc, take, drop, Some, slice_get, sym, ap, ◌∙◌, subst, arith}
use Rattle.std.specs.List.{AllZip}
use Rattle.circular_buffer.specs.Buffer.{Buffer}
use Rattle.clk_packet.specs.declared.packet.Packet.{Packet}
use Rattle.clk_packet.specs.declared.packet.Offered.{Offered}
use Rattle.clk_packet.specs.declared.packet.Offered.TheVariants as offer
use Rattle.clk_ring.specs.QueueHistory.{held}
use Rattle.clk_sched.specs.declared.visit.Visit.{Visit}
use Rattle.clk_sched.specs.Tree.{Tree, root}
use Rattle.clk_sched.specs.FewHeads.{drrs_above}
use Rattle.clk_router.specs.Events.{Room, Setup, Event, offered, pulled, history, CanHappen}
use Rattle.clk_router.specs.InsideQueues.{is_of_queue, heads_of, inside_of, emitted_from, QueueGoesOn, QueuesGoOn}
use Rattle.clk_live.specs.declared.taking.OfferOutcome.{OfferOutcome}
use Rattle.clk_live.specs.declared.taking.OfferOutcome.TheVariants.{Evicted}
use Rattle.clk_live.specs.inside.Kept.{drrs_in, most_inside}
use Rattle.clk_live.specs.inside.Noted.{CanNote, IsNoted}
use Rattle.clk_live.proofs.Lists.{there, zip-length, zip-push, zip-out}

-- the token of the packet that was evicted, if one was
abbrev pub EvictedHas : (Packet → ℕ → Type 0) → OfferOutcome → Type 0
EvictedHas R (Evicted front token) = R front token
EvictedHas R outcome = Unit

-- the tokens of a queue after an offer to it
pub record Notes (R : Packet → ℕ → Type 0) (inside : List Packet) (capacity : ℕ) (outcome : OfferOutcome) (b : Buffer ℕ) : Type 0 where
  pub tokens : AllZip R inside b.items
  pub same : b.capacity ≡ capacity
  pub evicted : EvictedHas R outcome

module _ (setup : Setup) (law : QueuesGoOn setup) (q : ℕ) (room : Room) (is : slice_get setup.queues q ≡ Some room) where
  goes-on : (events : List Event) → CanHappen setup events → (tree : Tree) × (slice_get setup.trees room.device ≡ Some tree) × QueueGoesOn setup events q room tree
  goes-on events can = there (QueueGoesOn setup events q room) (slice_get setup.trees room.device) (law.each events q room can is)

  -- no more packets are inside than there is room for
  pub fits : (events : List Event) → CanHappen setup events → length (inside_of setup room.device q events) ≤ most_inside setup q room
  fits events can =
      let g = goes-on events can in
      let most : drrs_in (slice_get setup.trees room.device) q ≡ drrs_above q (root g.0) = ap (λ o. drrs_in o q) g.1 in
      let le = g.2.fits in
      omega (arith, most, le)

  -- what is inside a queue is as it was after an offer to another
  pub inside-same : (events : List Event) → CanHappen setup events → (p : Packet) (outcome : Offered) → is_of_queue setup q p ≡ false → inside_of setup room.device q (events ++ offered p outcome ∷ []) ≡ inside_of setup room.device q events
  inside-same events can p outcome other = (goes-on events can).2.other p outcome other

  -- a pull gives the first that is inside, or none
  pub inside-pulled : (events : List Event) → CanHappen setup events → (c m : ℕ) (visits : List Visit) → CanHappen setup (events ++ pulled c m visits ∷ [])
      → inside_of setup room.device q events ≡ emitted_from setup q (pulled c m visits) ++ inside_of setup room.device q (events ++ pulled c m visits ∷ [])
  inside-pulled events can c m visits more = (goes-on events can).2.pulled_on c m visits more

  module _ (R : Packet → ℕ → Type 0) (events : List Event) (can : CanHappen setup events) (p : Packet) (sends : is_of_queue setup q p ≡ true) (b : Buffer ℕ) (tokens : AllZip R (inside_of setup room.device q events) b.items)
      (capacity : b.capacity ≡ most_inside setup q room) where
    abbrev inside : List Packet
    inside = inside_of setup room.device q events

    many : length (inside_of setup room.device q events) ≡ length b.items
    many = zip-length R (inside_of setup room.device q events) b.items tokens

    -- the packets inside a full queue are its heads and as many as it holds
    full-many : (front : Packet) → CanHappen setup (events ++ offered p (offer.Evicted front) ∷ []) → (1 ≤ room.capacity) × (length b.items ≡ length (heads_of setup room.device q events) + room.capacity)
    full-many front more =
        let g = goes-on events can in
        let full = g.2.full p (offer.Evicted front) sends more (λ e. cc) in
        let out = g.2.evicted p front sends more in
        let held_many = ap length out.held_are in
        let both = length-append (heads_of setup room.device q events) (held (history setup q events)) in
        (omega (arith, full, held_many), omega (arith, both, full, many))

    -- there is room for the token of an offered packet
    pub can-note : (outcome : Offered) → CanHappen setup (events ++ offered p outcome ∷ []) → CanNote b room.capacity outcome
    can-note offer.Accepted more =
        let one = ap length ((goes-on events can).2.accepted p sends) in
        let longer = length-append (inside_of setup room.device q events) (p ∷ []) in
        let le = fits (events ++ offered p offer.Accepted ∷ []) more in
        omega (arith, one, longer, le, many, capacity)
    can-note (offer.Refused r) more = tt
    can-note (offer.Evicted front) more =
        let f = full-many front more in
        let le = fits events can in
        (f.0, omega (arith, f.1), omega (arith, le, many, capacity))

    -- the tokens are again those of the packets inside
    pub notes : (token : ℕ) → R p token → (outcome : Offered) (noted : OfferOutcome) (new : Buffer ℕ) → CanHappen setup (events ++ offered p outcome ∷ []) → IsNoted b room.capacity token outcome noted new
        → Notes R (inside_of setup room.device q (events ++ offered p outcome ∷ [])) b.capacity noted new
    notes token its offer.Accepted noted new more (is_accepted, is_new) = record {
      tokens = subst (λ (x : Buffer ℕ). AllZip R (inside_of setup room.device q (events ++ offered p offer.Accepted ∷ [])) x.items) (sym is_new)
          (subst (λ l. AllZip R l (b.items ++ token ∷ [])) (sym ((goes-on events can).2.accepted p sends)) (zip-push R inside b.items p token tokens its));
      same = ap (λ (x : Buffer ℕ). x.capacity) is_new;
      evicted = subst (EvictedHas R) (sym is_accepted) tt;
    }
    notes token its (offer.Refused r) noted new more (is_refused, is_new) = record {
      tokens = subst (λ (x : Buffer ℕ). AllZip R (inside_of setup room.device q (events ++ offered p (offer.Refused r) ∷ [])) x.items) (sym is_new)
          (subst (λ l. AllZip R l b.items) (sym ((goes-on events can).2.refused p r sends)) tokens);
      same = ap (λ (x : Buffer ℕ). x.capacity) is_new;
      evicted = subst (EvictedHas R) (sym is_refused) tt;
    }
    notes token its (offer.Evicted front) noted new more (evicted, is_evicted, at, is_new) =
        let out = (goes-on events can).2.evicted p front sends more in
        let heads = heads_of setup room.device q events in
        let f = full-many front more in
        let place : length b.items - room.capacity ≡ length heads = omega (arith, f.1) in
        let apart = zip-out R heads out.rest front b.items evicted (subst (λ l. AllZip R l b.items) out.before tokens) (ap (slice_get b.items) (sym place) ∙ at) in
        let left : List ℕ = take (length b.items - room.capacity) b.items ++ drop (length b.items - room.capacity + 1) b.items in
        let rest : AllZip R (heads ++ out.rest) (take (length b.items - room.capacity) b.items ++ drop (length b.items - room.capacity + 1) b.items) = subst (λ n. AllZip R (heads ++ out.rest) (take n b.items ++ drop (n + 1) b.items)) (sym place) apart.1 in
        record {
          tokens = subst (λ (x : Buffer ℕ). AllZip R (inside_of setup room.device q (events ++ offered p (offer.Evicted front) ∷ [])) x.items) (sym is_new)
              (subst (λ l. AllZip R l (take (length b.items - room.capacity) b.items ++ drop (length b.items - room.capacity + 1) b.items ++ token ∷ [])) (append_assoc heads out.rest (p ∷ []) ∙ sym out.after)
              (zip-push R (heads ++ out.rest) (take (length b.items - room.capacity) b.items ++ drop (length b.items - room.capacity + 1) b.items) p token rest its));
          same = ap (λ (x : Buffer ℕ). x.capacity) is_new;
          evicted = subst (EvictedHas R) (sym is_evicted) apart.0;
        }
