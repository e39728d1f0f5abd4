use Rattle.std.proofs.Common.{◌≡◌, ◌<◌, ◌++◌, ◌∷◌, [], List, length, map, set, Some, slice_get, refl, sym, ap, ◌∙◌, subst, arith}
use Rattle.std.proofs.lemmas.Option.{slice_get_read}
use Rattle.clk_inlet.specs.Halves.{popped, taken, seen as waiting}
use Rattle.clk_inlet.specs.Items.{has_end}
use Rattle.clk_inlet.specs.declared.item.Item.{Item}
use Rattle.clk_inlet.specs.declared.outlet.Outlet.{Outlet}
use Rattle.clk_live.specs.State.{LiveState, seen, IsTokenOf, GoesOn, AllGoOn}
use Rattle.clk_live.specs.Taking.{IsTaken, HasNone}
use Rattle.clk_live.specs.inside.Kept.{IsKept}
use Rattle.clk_live.specs.inside.Runs.{IsOffered}
use Rattle.clk_live.proofs.Lists.{set-here, map-kept}
use Rattle.clk_live.proofs.Outlets.{one-goes}
use Rattle.clk_live.proofs.Runs.{can-run, taken-after}
use Rattle.clk_live.proofs.live.Live.take.Goals.{After-index_mut, After-offer_next}
use Rattle.clk_live.proofs.live.Live.take.Goals as goal

-- the outlet at the place
its : (c : After-index_mut) → slice_get c.self.inside.outlets.items c.args.place ≡ Some c.index_mut.result.now
its c =
    let i = c.self.inside in
    let there : c.args.place < length i.outlets.items = rw (← c.self.view_is) at c.requires.there in
    slice_get_read i.outlets.items _ c.args.place c.index_mut.result.now refl there c.index_mut.ensures.value

pub invariant_of-self : goal.invariant_of-self
invariant_of-self c =
    let i = c.self.inside in
    let o = c.index_mut.result.now in
    let at = its (goal.at.invariant_of-self c).After-index_mut in
    subst (λ (items : List (List Item)). IsKept i.router items i.tokens.items) (sym (map-kept taken i.outlets.items c.args.place o c.take.new.self at (c.take.ensures.none c.in_err-item.was))) c.self.invariant

pub returns-in_err-item-clause-none : goal.returns-in_err-item-clause-none
returns-in_err-item-clause-none c =
    let i = c.self.inside in
    let o = c.index_mut.result.now in
    let at = its (goal.at.returns-in_err-item-clause-none c).After-index_mut in
    λ none.
    subst (λ (l : LiveState). record { course = i.router; items = map taken (set i.outlets.items c.args.place c.take.new.self) } ≡ seen l) c.self.view_is
    (ap (λ (items : List (List Item)). record { course = i.router; items = items }) (map-kept taken i.outlets.items c.args.place o c.take.new.self at (c.take.ensures.none c.in_err-item.was)))

pub returns-in_err-item-clause-none_waits : goal.returns-in_err-item-clause-none_waits
returns-in_err-item-clause-none_waits c =
    let i = c.self.inside in
    let o = c.index_mut.result.now in
    let at = its (goal.at.returns-in_err-item-clause-none_waits c).After-index_mut in
    λ none.
    subst (λ (l : LiveState). HasNone l.outlets (set i.outlets.items c.args.place c.take.new.self) c.args.place) c.self.view_is
    (λ a b here now not_ended.
    let was : Some a ≡ Some o = sym here ∙ at in
    let is : Some b ≡ Some c.take.new.self = sym now ∙ set-here i.outlets.items c.args.place o c.take.new.self at in
    let old : a ≡ o = cc was in
    let new : b ≡ c.take.new.self = cc is in
    ap waiting old ∙ c.take.ensures.none_seen c.in_err-item.was (ap (λ (u : Outlet). has_end (popped u)) (sym new) ∙ not_ended))

pub returns-in_err-item-clause-outlets : goal.returns-in_err-item-clause-outlets
returns-in_err-item-clause-outlets c =
    let i = c.self.inside in
    let o = c.index_mut.result.now in
    let at = its (goal.at.returns-in_err-item-clause-outlets c).After-index_mut in
    let goes : GoesOn o c.take.new.self = record { halves = λ inlet. c.take.ensures.halves inlet; in_order = c.take.ensures.allowed; keeps = c.take.ensures.keeps; grows = c.take.ensures.grows } in
    subst (λ (l : LiveState). AllGoOn l.outlets (set i.outlets.items c.args.place c.take.new.self)) c.self.view_is (one-goes i.outlets.items c.args.place o c.take.new.self at goes)

pub offer_next-requires-clause-can : goal.offer_next-requires-clause-can
offer_next-requires-clause-can c =
    let i = c.self.inside in
    let o = c.index_mut.result.now in
    let at = its (goal.at.offer_next-requires-clause-can c).After-index_mut in
    let may = c.in_ok-item.ensures.packet in
    let few = may.1.numbered may.0 in
    (map taken i.outlets.items, taken o, can-run i.router i.outlets.items i.tokens.items c.args.place o c.self.invariant at 1 (omega (arith, few)))

-- the packet was offered
offered : (c : After-offer_next) → IsOffered c.args.place (record { course = c.self.inside.router; items = map taken c.self.inside.outlets.items }) (taken c.index_mut.result.now) c.in_ok-item.item c.offer_next.result c.offer_next.new.router c.offer_next.new.tokens.items
offered c =
    let i = c.self.inside in
    let o = c.index_mut.result.now in
    let there : c.args.place < length i.outlets.items = rw (← c.self.view_is) at c.requires.there in
    let at = slice_get_read i.outlets.items _ c.args.place c.index_mut.result.now refl there c.index_mut.ensures.value in
    let may = c.in_ok-item.ensures.packet in
    let few = may.1.numbered may.0 in
    c.offer_next.ensures.offered (map taken i.outlets.items) (taken o) (can-run i.router i.outlets.items i.tokens.items c.args.place o c.self.invariant at 1 (omega (arith, few)))

-- the packets that were taken are more by it
items-are : (c : After-offer_next) → set (map taken c.self.inside.outlets.items) c.args.place (taken c.index_mut.result.now ++ c.in_ok-item.item ∷ []) ≡ map taken (set c.self.inside.outlets.items c.args.place c.take.new.self)
items-are c = taken-after c.self.inside.outlets.items c.args.place c.index_mut.result.now c.take.new.self (c.in_ok-item.item ∷ []) c.in_ok-item.ensures.taken

pub invariant_of-self-2 : goal.invariant_of-self-2
invariant_of-self-2 c =
    let at = (goal.at.invariant_of-self-2 c).After-offer_next in
    subst (λ (items : List (List Item)). IsKept c.offer_next.new.router items c.offer_next.new.tokens.items) (items-are at) (offered at).kept

pub returns-clause-taken : goal.returns-clause-taken
returns-clause-taken c =
    let i = c.self.inside in
    let at = (goal.at.returns-clause-taken c).After-offer_next in
    subst (λ (l : LiveState). IsTaken c.args.place (seen l) c.offer_next.result (record { course = c.offer_next.new.router; items = map taken (set i.outlets.items c.args.place c.take.new.self) })) c.self.view_is
    (subst (λ (items : List (List Item)). IsTaken c.args.place (record { course = i.router; items = map taken i.outlets.items }) c.offer_next.result (record { course = c.offer_next.new.router; items = items })) (items-are at) (offered at).taken)

pub returns-clause-token : goal.returns-clause-token
returns-clause-token c =
    let at = (goal.at.returns-clause-token c).After-offer_next in
    subst (λ (items : List (List Item)). IsTokenOf c.offer_next.new.router.setup items c.offer_next.result.packet c.offer_next.result.token) (items-are at) (offered at).token

pub returns-clause-outlets : goal.returns-clause-outlets
returns-clause-outlets c =
    let i = c.self.inside in
    let o = c.index_mut.result.now in
    let at = its (goal.at.returns-clause-outlets c).After-index_mut in
    let goes : GoesOn o c.take.new.self = record { halves = λ inlet. c.take.ensures.halves inlet; in_order = c.take.ensures.allowed; keeps = c.take.ensures.keeps; grows = c.take.ensures.grows } in
    subst (λ (l : LiveState). AllGoOn l.outlets (set i.outlets.items c.args.place c.take.new.self)) c.self.view_is (one-goes i.outlets.items c.args.place o c.take.new.self at goes)
