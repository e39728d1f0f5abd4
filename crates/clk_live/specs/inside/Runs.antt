-- Packets that come next from an inlet, when they are offered.
use Rattle.std.specs.Prelude.{◌≡◌, ℕ, ◌+◌, ◌≤◌, ◌++◌, ◌∷◌, [], List, length, slice_set as set, Some, slice_get}
use Rattle.circular_buffer.specs.Buffer.{Buffer}
use Rattle.clk_inlet.specs.declared.limits.TheConstants.{MAX_PACKETS}
use Rattle.clk_inlet.specs.declared.item.Item.{Item}
use Rattle.clk_router.specs.Course.{Course}
use Rattle.clk_live.specs.declared.taking.Taken.{Taken}
use Rattle.clk_live.specs.State.{Seen, IsTokenOf}
use Rattle.clk_live.specs.Taking.{IsTaken}
use Rattle.clk_live.specs.inside.Kept.{IsKept}

-- The packets `items` were taken from the inlets, by place, those at `place` being `before`. The sender there can offer `many` more.
pub record CanRun (c : Course) (buffers : List (Buffer ℕ)) (items : List (List Item)) (place : ℕ) (before : List Item) (many : ℕ) : Type 0 where
  pub kept : IsKept c items buffers
  pub its : slice_get items place ≡ Some before
  pub few : length before + many ≤ MAX_PACKETS

-- The packet `item`, which followed those from the inlet at a place, was offered, and its token noted.
pub record IsOffered (place : ℕ) (old : Seen) (before : List Item) (item : Item) (t : Taken) (new : Course) (buffers : List (Buffer ℕ)) : Type 0 where
  pub kept : IsKept new (set old.items place (before ++ item ∷ [])) buffers
  pub taken : IsTaken place old t (record { course = new; items = set old.items place (before ++ item ∷ []) })
  pub token : IsTokenOf new.setup (set old.items place (before ++ item ∷ [])) t.packet t.token
