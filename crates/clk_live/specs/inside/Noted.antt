-- What happens to a token when its packet is offered.
use Rattle.std.specs.Prelude.{◌≡◌, ℕ, ◌+◌, ◌-◌, ◌<◌, ◌≤◌, [], ◌∷◌, ◌++◌, length, take, drop, ⊤, Some, slice_get}
use Rattle.circular_buffer.specs.Buffer.{Buffer, buffer}
use Rattle.clk_packet.specs.declared.packet.Offered.{Offered}
use Rattle.clk_packet.specs.declared.packet.Offered.TheVariants as offer
use Rattle.clk_live.specs.declared.taking.OfferOutcome.{OfferOutcome}
use Rattle.clk_live.specs.declared.taking.OfferOutcome.TheVariants.{Accepted, Refused, Evicted}

-- there is room for the token of a packet with this outcome, whose queue holds `capacity` packets at most
abbrev pub CanNote : Buffer ℕ → ℕ → Offered → Type 0
CanNote b capacity offer.Accepted = length b.items < b.capacity
CanNote b capacity (offer.Refused p) = ⊤
CanNote b capacity (offer.Evicted front) = (1 ≤ capacity) × (capacity ≤ length b.items) × (length b.items ≤ b.capacity)

-- The tokens of the packets inside a queue, after a packet with this token was offered to it.
abbrev pub IsNoted : Buffer ℕ → (capacity token : ℕ) → Offered → OfferOutcome → Buffer ℕ → Type 0
IsNoted old capacity token offer.Accepted outcome new = (outcome ≡ Accepted) × (new ≡ buffer (old.items ++ token ∷ []) old.capacity)
IsNoted old capacity token (offer.Refused p) outcome new = (outcome ≡ Refused) × (new ≡ old)
IsNoted old capacity token (offer.Evicted front) outcome new =
    (evicted : ℕ) × (outcome ≡ Evicted front evicted) × (slice_get old.items (length old.items - capacity) ≡ Some evicted)
    × (new ≡ buffer (take (length old.items - capacity) old.items ++ drop (length old.items - capacity + 1) old.items ++ token ∷ []) old.capacity)
