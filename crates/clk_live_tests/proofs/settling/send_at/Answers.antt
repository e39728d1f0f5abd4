use Rattle.std.proofs.Common.{get_or}
use Rattle.std.proofs.lemmas.Option.{slice_get-get_or}
use Rattle.clk_live.proofs.Callers.Halves.{one_goes_on}
use Rattle.clk_live_tests.proofs.settling.send_at.Goals as goal

pub returns : goal.returns
returns g c =
    let inlets = c.args.inlets.now in
    let place = c.args.place in
    let default = c.index-inlets-place.result in
    record { halves = one_goes_on inlets c.args.live.now.outlets place (get_or inlets place default) c.send.new.inlet (slice_get-get_or inlets place default c.requires.there) c.send.ensures.halves c.requires.halves }
