use Rattle.std.proofs.Common.{◌≡◌, ◌<◌, ◌∙◌, length, Some, slice_get, get_or, refl, sym, arith}
use Rattle.std.proofs.lemmas.List.{length-set}
use Rattle.std.proofs.lemmas.Option.{slice_get-get_or, slice_get_read, slice_get_within}
use Rattle.clk_inlet.specs.Halves.{pushed, popped, AreHalves}
use Rattle.clk_live.specs.inside.Met.{HaveMet}
use Rattle.clk_live.proofs.Lists.{zip-length, zip-read, zip-both, zip-at, map-kept}
use Rattle.clk_live.proofs.Meetings.{met-more}
use Rattle.clk_live.proofs.settling.look_beside.Goals.{After-index_mut, After-index-inlets-place}
use Rattle.clk_live.proofs.settling.look_beside.Goals as goal

pub loop-place-init : goal.loop-place-init
loop-place-init c = (c.requires.halves, refl, refl, (λ k i o low at here. absurd (omega (arith, low))), zip-length AreHalves c.args.inlets.now c.args.outlets.now.items c.requires.halves)

-- the halves at the place
its-outlet : (c : After-index_mut) → slice_get c.loop-place.outlets.items c.loop-place.place ≡ Some c.index_mut.result.now
its-outlet c =
    let l = c.loop-place in
    let low : l.place < length l.outlets.items = (let test = c.loop-place-test.true in let many = c.len.ensures in omega (arith, test, many)) in
    slice_get_read l.outlets.items _ l.place c.index_mut.result.now refl low c.index_mut.ensures.value

its-inlet : (c : After-index-inlets-place) → slice_get c.loop-place.inlets c.loop-place.place ≡ Some (get_or c.loop-place.inlets c.loop-place.place c.index-inlets-place.result)
its-inlet c =
    let l = c.loop-place in
    slice_get-get_or l.inlets l.place c.index-inlets-place.result (let test = c.loop-place-test.true in let many = c.len.ensures in let same = l.invariant.4 in omega (arith, test, many, same))

pub beside-requires : goal.beside-requires
beside-requires c =
    let l = c.loop-place in
    let outlets = l.outlets.items in
    let o = c.index_mut.result.now in
    let at_o = its-outlet (goal.at.beside-requires c).After-index_mut in
    let i = get_or l.inlets l.place c.index-inlets-place.result in
    let at_i = its-inlet (goal.at.beside-requires c).After-index-inlets-place in
    record { halves = zip-read AreHalves l.inlets outlets l.place i o l.invariant.0 at_i at_o }

pub loop-place-preserved : goal.loop-place-preserved
loop-place-preserved c =
    let l = c.loop-place in
    let outlets = l.outlets.items in
    let o = c.index_mut.result.now in
    let at_o = its-outlet (goal.at.loop-place-preserved c).After-index_mut in
    let i = get_or l.inlets l.place c.index-inlets-place.result in
    let at_i = its-inlet (goal.at.loop-place-preserved c).After-index-inlets-place in
    let j = c.beside.new.inlet in
    let p = c.beside.new.self in (
      zip-both AreHalves l.inlets outlets l.place j p l.invariant.0 c.beside.ensures.halves,
      map-kept popped outlets l.place o p at_o c.beside.ensures.popped ∙ l.invariant.1,
      map-kept pushed l.inlets l.place i j at_i c.beside.ensures.inlet.0 ∙ l.invariant.2,
      met-more l.place l.inlets outlets j p l.invariant.3 (record { all = c.beside.ensures.at_end }),
      length-set l.inlets l.place j ∙ l.invariant.4 ∙ sym (length-set outlets l.place p),
    )

pub returns-clause-met : goal.returns-clause-met
returns-clause-met c =
    let l = c.loop-place in
    zip-at HaveMet l.inlets l.outlets.items l.invariant.4
    (λ k i o at here. let within = slice_get_within l.outlets.items k o here in let all = c.loop-place-test.false in let many = c.len.ensures in l.invariant.3 k i o (omega (arith, within, all, many)) at here)
