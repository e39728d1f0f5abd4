-- How a history goes on, and what it holds.
use Rattle.std.proofs.Common.{◌≡◌, ℕ, ◌≤◌, List, [], ◌∷◌, ◌++◌, length, drop, refl, sym, ap, ◌∙◌, subst}
use Rattle.std.proofs.lemmas.List.{append_assoc, append-nil, drop_at}
use Rattle.clk_packet.specs.declared.packet.Packet.{Packet}
use Rattle.clk_packet.specs.declared.packet.Kind.{Kind}
use Rattle.clk_ring.specs.QueueHistory.{QueueEvent, accept, refuse, evict, give, empty, accepted, gone, held, IsInOrder, IsFollowedUp, EachStands}

pub accepted-append : (xs ys : List QueueEvent) → accepted (xs ++ ys) ≡ accepted xs ++ accepted ys
accepted-append [] ys = refl
accepted-append (accept p ∷ xs) ys = ap (λ l. p ∷ l) (accepted-append xs ys)
accepted-append (refuse p ∷ xs) ys = accepted-append xs ys
accepted-append (evict p ∷ xs) ys = accepted-append xs ys
accepted-append (give p ∷ xs) ys = accepted-append xs ys
accepted-append (empty ∷ xs) ys = accepted-append xs ys

pub gone-append : (xs ys : List QueueEvent) → gone (xs ++ ys) ≡ gone xs ++ gone ys
gone-append [] ys = refl
gone-append (accept p ∷ xs) ys = gone-append xs ys
gone-append (refuse p ∷ xs) ys = gone-append xs ys
gone-append (evict p ∷ xs) ys = ap (λ l. p ∷ l) (gone-append xs ys)
gone-append (give p ∷ xs) ys = ap (λ l. p ∷ l) (gone-append xs ys)
gone-append (empty ∷ xs) ys = gone-append xs ys

-- what was accepted is what is gone, and then these packets
abbrev pub Holds : List QueueEvent → List Packet → Type 0
Holds events packets = accepted events ≡ gone events ++ packets

-- behind what is held comes what is accepted, and in front stands what goes
pub holds-more : (events next : List QueueEvent) (before after : List Packet) → Holds events before → before ++ accepted next ≡ gone next ++ after → Holds (events ++ next) after
holds-more events next before after h moves =
    accepted-append events next ∙ ap (λ l. l ++ accepted next) h ∙ append_assoc (gone events) before (accepted next)
    ∙ ap (λ l. gone events ++ l) moves ∙ sym (append_assoc (gone events) (gone next) after) ∙ ap (λ l. l ++ after) (sym (gone-append events next))

pub held-is : (events : List QueueEvent) (packets : List Packet) → Holds events packets → held events ≡ packets
held-is events packets h = ap (drop (length (gone events))) h ∙ drop_at (gone events) packets _ refl

pub in-order : (capacity : ℕ) (events : List QueueEvent) (packets : List Packet) → Holds events packets → length packets ≤ capacity → IsInOrder capacity events
in-order capacity events packets h fits =
    let is = sym (held-is events packets h) in
    record { order = h ∙ ap (λ l. gone events ++ l) is; fits = subst (λ (l : List Packet). length l ≤ capacity) is fits }

IsFollowedUp-append : (event : QueueEvent) (after more : List QueueEvent) → IsFollowedUp event after → IsFollowedUp event (after ++ more)
IsFollowedUp-append (accept p) after more h = tt
IsFollowedUp-append (refuse p) after more h = tt
IsFollowedUp-append (evict p) [] more h = absurd h
IsFollowedUp-append (evict p) (accept q ∷ after) more h = tt
IsFollowedUp-append (evict p) (refuse q ∷ after) more h = absurd h
IsFollowedUp-append (evict p) (evict q ∷ after) more h = absurd h
IsFollowedUp-append (evict p) (give q ∷ after) more h = absurd h
IsFollowedUp-append (evict p) (empty ∷ after) more h = absurd h
IsFollowedUp-append (give p) after more h = tt
IsFollowedUp-append empty after more h = tt

pub stands-join : (kind : Kind) (capacity : ℕ) (before after more : List QueueEvent) → EachStands kind capacity before after → EachStands kind capacity (before ++ after) more
    → EachStands kind capacity before (after ++ more)
stands-join kind capacity before [] more h k = rw append-nil at k
stands-join kind capacity before (event ∷ after) more h k = (
  h.0,
  h.1,
  IsFollowedUp-append event after more h.2,
  stands-join kind capacity (before ++ event ∷ []) after more h.3 (rw append_assoc k),
)

pub stands-after : (kind : Kind) (capacity : ℕ) (before after more : List QueueEvent) → EachStands kind capacity before (after ++ more) → EachStands kind capacity (before ++ after) more
stands-after kind capacity before [] more h = rw append-nil h
stands-after kind capacity before (event ∷ after) more h = rw append_assoc at (stands-after kind capacity (before ++ event ∷ []) after more h.3)

-- things are in order at the beginning of a part of a history, and at its end
pub in-order-begin : (kind : Kind) (capacity : ℕ) (before after : List QueueEvent) → EachStands kind capacity before after → IsInOrder capacity before
in-order-begin kind capacity before [] h = h
in-order-begin kind capacity before (event ∷ after) h = h.0

pub in-order-end : (kind : Kind) (capacity : ℕ) (before after : List QueueEvent) → EachStands kind capacity before after → IsInOrder capacity (before ++ after)
in-order-end kind capacity before [] h = rw append-nil h
in-order-end kind capacity before (event ∷ after) h = rw append_assoc at (in-order-end kind capacity (before ++ event ∷ []) after h.3)
