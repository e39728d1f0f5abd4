-- What calls on an inlet do.
use Rattle.std.specs.Prelude.{◌≡◌, ℕ, ◌≤◌, true, false, List, [], ◌∷◌, ◌++◌, length, take, Some, slice_get}
use Rattle.clk_inlet.specs.declared.inlet.Inlet.{Inlet}
use Rattle.clk_inlet.specs.declared.item.Item.{Item}
use Rattle.clk_inlet.specs.Items.{packet_item}
use Rattle.clk_inlet.specs.Halves.{pushed, offered, next_number, fits, at_end}
use Rattle.clickpull_c.specs.declared.statuses.TheConstants.{OK, BAD_LENGTH, AT_END, FULL}
use Rattle.clickpull_c.specs.Answers.{IsLength}

-- The inlet accepted a packet of this length, with this token, as the packet of this number.
pub record Accepts (old new : Inlet) (length token number : ℕ) : Type 0 where
  pub has_length : IsLength length
  pub numbered : number ≡ next_number old
  pub pushes : pushed new ≡ pushed old ++ packet_item length token ∷ []
  pub offers : offered new ≡ offered old ++ packet_item length token ∷ []

-- The inlet refuses a packet: its length is out of range; or else the inlet accepts no more packets; or else none is sure to fit now.
pub data RefusesPacket (i : Inlet) (length status : ℕ) : Type 0 where
  bad_length : status ≡ BAD_LENGTH → (IsLength length → ⊥) → RefusesPacket i length status
  ended : status ≡ AT_END → IsLength length → at_end i ≡ true → RefusesPacket i length status
  full : status ≡ FULL → IsLength length → at_end i ≡ false → fits i ≡ 0 → RefusesPacket i length status

-- The inlet accepted the first `done` of these items, in order.
pub record AcceptsMany (old new : Inlet) (items : List Item) (done : ℕ) : Type 0 where
  pub within : done ≤ length items
  pub pushes : pushed new ≡ pushed old ++ take done items
  pub offers : offered new ≡ offered old ++ take done items

-- All of these items were accepted; or some were, and the next one is refused.
pub data EndsBatch (now : Inlet) (items : List Item) (done status : ℕ) : Type 0 where
  all : status ≡ OK → done ≡ length items → EndsBatch now items done status
  refused : (item : Item) → slice_get items done ≡ Some item → RefusesPacket now item.length status → EndsBatch now items done status
