use Rattle.std.proofs.Common.{◌≡◌, ◌-◌, List, length, take, false, sym, subst}
use Rattle.rtrb.specs.Ring.{sent, received, known_items}
use Rattle.clk_inlet.specs.Items.{has_end}
use Rattle.clk_inlet.specs.declared.item.Item.{Item}
use Rattle.clk_inlet.proofs.Order.{all_at_end}
use Rattle.clk_inlet.proofs.outlet.Outlet.beside.Goals as goal

pub returns-clause-at_end : goal.returns-clause-at_end
returns-clause-at_end c =
    let last = subst (λ (l : List Item). has_end (take (length l - 1) l) ≡ false) (sym c.slots_beside.ensures.producer.1) c.args.inlet.now.end_is_last in
    all_at_end (received c.slots_beside.new.self) (known_items c.slots_beside.new.self) (sent c.slots_beside.new.producer) c.slots_beside.ensures.fifo last
