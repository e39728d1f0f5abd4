-- What pulls of a live router do.
use Rattle.std.specs.Prelude.{◌≡◌, ℕ, ◌<◌, ◌≤◌, List, length, take, drop, ⊤, Option, Some, None, MatchOption}
use Rattle.std.specs.Option.{option_map}
use Rattle.clk_packet.specs.declared.packet.Packet.{Packet}
use Rattle.clk_router.specs.Chains.{IsChain}
use Rattle.clk_router.specs.Course.{CanPull, IsPulled}
use Rattle.clk_live.specs.declared.pulling.Emitted.{Emitted}
use Rattle.clk_live.specs.State.{Seen, IsTokenOf}

-- the packet that was emitted, without its token
abbrev pub packet_of : Emitted → Packet
packet_of e = e.packet

-- A device was pulled once. If it emitted a packet, the token came with that packet.
pub record IsPulledLive (device moment : ℕ) (old : Seen) (got : Option Emitted) (new : Seen) : Type 0 where
  pub pulled : IsPulled old.course new.course device moment (option_map packet_of got)
  pub token : MatchOption got ⊤ (λ e. IsTokenOf old.course.setup old.items e.packet e.token)
  pub items : new.items ≡ old.items

-- a pull at a moment emitted this packet
abbrev pub Emits : (device moment : ℕ) → Seen → Emitted → Seen → Type 0
Emits device moment old e new = IsPulledLive device moment old (Some e) new

-- Pulls at a moment ended: all places are filled; or the last pull emitted none; or at least one packet was emitted, and no more pulls can
-- be made.
pub data EndsPulls (device moment count : ℕ) (last new : Seen) (given : ℕ) : Type 0 where
  full : given ≡ count → new ≡ last → EndsPulls device moment count last new given
  gave_none : given < count → IsPulledLive device moment last None new → EndsPulls device moment count last new given
  at_end : 1 ≤ given → (CanPull new.course device moment → ⊥) → new ≡ last → EndsPulls device moment count last new given

-- A device was pulled again and again at a moment. `given` packets were emitted, and filled in. The other places are unchanged.
pub record ArePulled (device moment : ℕ) (old new : Seen) (before filled : List Emitted) (given : ℕ) : Type 0 where
  pub last : Seen
  pub within : given ≤ length before
  pub gave : IsChain (Emits device moment) old (take given filled) last
  pub others : drop given filled ≡ drop given before
  pub ends : EndsPulls device moment (length before) last new given
