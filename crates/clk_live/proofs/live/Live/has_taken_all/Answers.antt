use Rattle.std.proofs.Common.{◌≡◌, List, map, refl, sym, ap, subst}
use Rattle.clk_inlet.specs.Halves.{taken}
use Rattle.clk_inlet.specs.declared.item.Item.{Item}
use Rattle.clk_live.specs.State.{LiveState, seen}
use Rattle.clk_live.specs.inside.Kept.{IsKept}
use Rattle.clk_live.specs.Outcome.{AreAllEnded}
use Rattle.clk_live.proofs.Meetings.{all-same, ended-same, taken-same}
use Rattle.clk_live.proofs.live.Live.has_taken_all.Goals as goal

pub invariant_of-self : goal.invariant_of-self
invariant_of-self c =
    let i = c.self.inside in
    let same = taken-same i.outlets.items c.look_beside.new.outlets.items c.look_beside.ensures.popped in
    subst (λ (items : List (List Item)). IsKept i.router items i.tokens.items) (sym same) c.self.invariant

pub returns-clause-ended : goal.returns-clause-ended
returns-clause-ended c =
    let i = c.self.inside in
    let ended = subst (λ (l : LiveState). AreAllEnded l.outlets) (sym c.self.view_is) (c.if-not-is_ended.ensures.ended refl) in
    λ all. ended-same i.outlets.items c.look_beside.new.outlets.items c.look_beside.ensures.popped ended

pub returns-clause-taken : goal.returns-clause-taken
returns-clause-taken c = λ all. sym (all-same c.look_beside.new.inlets c.look_beside.new.outlets.items c.look_beside.ensures.met (returns-clause-ended c all))

pub returns-clause-unchanged : goal.returns-clause-unchanged
returns-clause-unchanged c =
    let i = c.self.inside in
    let same = taken-same i.outlets.items c.look_beside.new.outlets.items c.look_beside.ensures.popped in (
      subst (λ (l : LiveState). record { course = i.router; items = map taken c.look_beside.new.outlets.items } ≡ seen l) c.self.view_is (ap (λ (items : List (List Item)). record { course = i.router; items = items }) same),
      subst (λ (l : LiveState). i.turn ≡ l.turn) c.self.view_is refl,
      c.look_beside.ensures.pushed,
    )
