-- What is written to a vector as a slice.
use Rattle.std.proofs.Common.{◌≡◌, List, length, sym, ◌∙◌}
use Rattle.std.specs.Global.{Vec}
use Rattle.std.specs.Vec.{with_items}
use Rattle.std.proofs.lemmas.List.{with_items_is}

-- as many items as it had are its items then
pub items-written : {T : Type 0} (row : Vec T) (items : List T) → length items ≡ length row.items → (with_items row items).items ≡ items
items-written row items long = with_items_is row items (long ∙ sym row.ok.0)
