use Rattle.std.proofs.Common.{◌<◌, ◌++◌, ◌∷◌, ◌∙◌, [], List, ap, sym, subst, set}
use Rattle.std.proofs.lemmas.Result.{on_ok_weaker, on_err_weaker}
use Rattle.clk_packet.specs.declared.packet.Packet.{Packet}
use Rattle.clk_packet.specs.Trace.{packets_in}
use Rattle.clk_packet.specs.declared.limits.TheConstants.{MAX_RECORDS}
use Rattle.clk_packet.specs.inside.Lengths.{IsAdded, packets_by}
use Rattle.clk_packet.proofs.LengthLemmas.{IsAdded-more, get_or-there, set-few, wider-few}
use Rattle.clk_packet.proofs.traces.Traces.add.Goals as goal

pub invariant_of-self : goal.invariant_of-self
invariant_of-self c = wider-few c.self.inside.senders.items c.widen.new.senders.items MAX_RECORDS c.widen.ensures.same c.self.invariant

pub invariant_of-self-2 : goal.invariant_of-self-2
invariant_of-self-2 c =
    let table = c.widen.new.senders.items in
    let here = get_or-there table c.from-place.result c.index_mut.result.now [] c.in_ok-widen.ensures.there c.index_mut.ensures.value in
    let few : packets_in (packets_by 0 c.self.inside.senders.items) < MAX_RECORDS = subst (λ (t : List (List Packet)). packets_in t < MAX_RECORDS) (sym c.self.view_is) c.requires.room in
    set-few c.self.inside.senders.items table c.from-place.result c.push.new.self c.args.length c.push.result c.widen.ensures.same c.in_ok-widen.ensures.there
    (on_ok_weaker c.push.result (λ added. added ∙ ap (λ ls. ls ++ c.args.length ∷ []) here) c.push.ensures.added) (on_err_weaker c.push.result (λ same. same ∙ here) c.push.ensures.unchanged) few

pub returns-clause-added : goal.returns-clause-added
returns-clause-added c =
    let table = c.widen.new.senders.items in
    let here = get_or-there table c.from-place.result c.index_mut.result.now [] c.in_ok-widen.ensures.there c.index_mut.ensures.value in
    on_ok_weaker c.push.result (λ added.
    subst (λ s. IsAdded c.args.self.now s c.args.length.bytes (packets_by 0 (set table c.from-place.result c.push.new.self))) c.from-place.ensures
    (subst (λ (t : List (List Packet)). IsAdded t c.from-place.result c.args.length.bytes (packets_by 0 (set table c.from-place.result c.push.new.self))) c.self.view_is
    (IsAdded-more c.self.inside.senders.items table c.from-place.result c.push.new.self c.args.length c.widen.ensures.same c.in_ok-widen.ensures.there (added ∙ ap (λ ls. ls ++ c.args.length ∷ []) here))))
    c.push.ensures.added
