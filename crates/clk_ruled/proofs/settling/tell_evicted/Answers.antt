use Rattle.std.proofs.Common.{◌≡◌, set, get_or, filter, sym, ap, ◌∙◌, arith, rules}
use Rattle.std.proofs.lemmas.List.Edits.{map_over_more}
use Rattle.clk_packet.specs.declared.tally.Tally.{Tally}
use Rattle.clk_ruled.specs.inside.Marks.{is_marked, telling}
use Rattle.clk_ruled.proofs.settling.tell_evicted.Goals as goal

pub loop-tally-preserved : goal.loop-tally-preserved
loop-tally-preserved c =
    let items = c.loop-tally.tally-items in
    let i = c.loop-tally.tally-index in
    let tally : Tally = c.tally-item.result in
    let marked = is_marked c.args.marks.now in
    let evicted : c.from.result ≡ filter marked (get_or items i tally).accepted =
    search rules in
    ap (λ e. set items i (record { sender = (get_or items i tally).sender; accepted = (get_or items i tally).accepted; refused = (get_or items i tally).refused; evicted = e })) evicted
    ∙ ap (λ t. set items i (telling marked t)) (sym c.tally-item.is)
    ∙ map_over_more (telling marked) c.args.tallies.now.items items i tally (omega arith) c.loop-tally.invariant c.tally-item.is
