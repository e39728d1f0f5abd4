use Rattle.std.proofs.Common.{◌≡◌, ◌+◌, ◌<◌, ◌++◌, List, length, map, take, set, Some, slice_get, refl, sym, ap, ◌∙◌, subst, arith}
use Rattle.std.proofs.lemmas.Option.{slice_get_read}
use Rattle.rtrb.specs.Fifo.{Allowed}
use Rattle.clk_inlet.specs.Halves.{popped, taken}
use Rattle.clk_inlet.specs.Items.{has_end, MayFollow}
use Rattle.clk_inlet.specs.declared.item.Item.{Item}
use Rattle.clk_live.specs.State.{LiveState, seen, GoesOn, AllGoOn}
use Rattle.clk_live.specs.Taking.{AreTaken, GaveAll}
use Rattle.clk_live.specs.inside.Kept.{IsKept}
use Rattle.clk_live.specs.inside.Runs.{CanRun}
use Rattle.clk_live.proofs.Outlets.{one-goes, gave-run}
use Rattle.clk_live.proofs.Runs.{can-follow, taken-after}
use Rattle.clk_live.proofs.live.Live.take_run.Goals.{After-index_mut, After-split_at}
use Rattle.clk_live.proofs.live.Live.take_run.Goals as goal

-- the outlet at the place
its : (c : After-index_mut) → slice_get c.self.inside.outlets.items c.args.place ≡ Some c.index_mut.result.now
its c =
    let i = c.self.inside in
    let there : c.args.place < length i.outlets.items = rw (← c.self.view_is) at c.requires.there in
    slice_get_read i.outlets.items _ c.args.place c.index_mut.result.now refl there c.index_mut.ensures.value

-- the packets of the run
run-is : (c : After-split_at) → c.split_at.result.0.now ≡ take c.take_many-count.result c.take_many-count.new.items
run-is c = c.split_at.ensures.front

grows : (c : After-split_at) → taken c.take_many-count.new.self ≡ taken c.index_mut.result.now ++ c.split_at.result.0.now
grows c = c.take_many-count.ensures.taken ∙ ap (λ (xs : List Item). taken c.index_mut.result.now ++ xs) (sym (run-is c))

-- they can be offered
can : (c : After-split_at) → slice_get c.self.inside.outlets.items c.args.place ≡ Some c.index_mut.result.now → CanRun c.self.inside.router c.self.inside.tokens.items (map taken c.self.inside.outlets.items) c.args.place (taken c.index_mut.result.now) (length c.split_at.result.0.now)
can c at =
    let i = c.self.inside in
    let o = c.index_mut.result.now in
    let got = c.take_many-count.ensures in
    can-follow i.router i.outlets.items i.tokens.items c.args.place o c.self.invariant at c.split_at.result.0.now (subst (Allowed MayFollow (popped o)) (sym (run-is c)) got.may_follow) (ap has_end (run-is c) ∙ got.packets)

pub offer_run-requires-clause-can : goal.offer_run-requires-clause-can
offer_run-requires-clause-can c =
    let at = its (goal.at.offer_run-requires-clause-can c).After-index_mut in
    (map taken c.self.inside.outlets.items, taken c.index_mut.result.now, can (goal.at.offer_run-requires-clause-can c).After-split_at at)

pub invariant_of-self : goal.invariant_of-self
invariant_of-self c =
    let i = c.self.inside in
    let o = c.index_mut.result.now in
    let at = its (goal.at.invariant_of-self c).After-index_mut in
    let got = (goal.at.invariant_of-self c).After-split_at in
    subst (λ (items : List (List Item)). IsKept c.offer_run.new.router items c.offer_run.new.tokens.items) (taken-after i.outlets.items c.args.place o c.take_many-count.new.self c.split_at.result.0.now (grows got)) (c.offer_run.ensures.kept (map taken i.outlets.items) (taken o) (can got at))

pub returns-clause-taken : goal.returns-clause-taken
returns-clause-taken c =
    let i = c.self.inside in
    let o = c.index_mut.result.now in
    let at = its (goal.at.returns-clause-taken c).After-index_mut in
    let got = (goal.at.returns-clause-taken c).After-split_at in
    let many : length c.split_at.result.0.now ≡ c.take_many-count.result = c.split_at.ensures.front_len in
    λ old before h.
    subst (λ n. AreTaken old (record { course = c.offer_run.new.router; items = map taken (set i.outlets.items c.args.place c.take_many-count.new.self) }) before c.offer_run.new.taken (c.args.from + n)) many
    (subst (λ (items : List (List Item)). AreTaken old (record { course = c.offer_run.new.router; items = items }) before c.offer_run.new.taken (c.args.from + length c.split_at.result.0.now)) (taken-after i.outlets.items c.args.place o c.take_many-count.new.self c.split_at.result.0.now (grows got))
    (c.offer_run.ensures.taken (map taken i.outlets.items) (taken o) (can got at) old before (subst (λ (l : LiveState). AreTaken old (seen l) before c.args.taken.now c.args.from) (sym c.self.view_is) h)))

pub returns-clause-gave_all : goal.returns-clause-gave_all
returns-clause-gave_all c =
    let i = c.self.inside in
    let o = c.index_mut.result.now in
    let u = c.take_many-count.new.self in
    let at = its (goal.at.returns-clause-gave_all c).After-index_mut in
    let got = c.take_many-count.ensures in
    let size = c.split_at_mut-wanted.ensures.front_len in
    λ fewer.
    subst (λ (l : LiveState). GaveAll l.outlets (set i.outlets.items c.args.place u) c.args.place) c.self.view_is
    (gave-run i.outlets.items c.args.place o u (take c.take_many-count.result c.take_many-count.new.items) at (got.all_seen (omega (arith, fewer, size))) got.packets_popped)

pub returns-clause-outlets : goal.returns-clause-outlets
returns-clause-outlets c =
    let i = c.self.inside in
    let o = c.index_mut.result.now in
    let at = its (goal.at.returns-clause-outlets c).After-index_mut in
    let got = c.take_many-count in
    let goes : GoesOn o got.new.self = record { halves = λ inlet. got.ensures.halves inlet; in_order = got.ensures.allowed; keeps = got.ensures.keeps; grows = got.ensures.grows } in
    subst (λ (l : LiveState). AllGoOn l.outlets (set i.outlets.items c.args.place got.new.self)) c.self.view_is (one-goes i.outlets.items c.args.place o got.new.self at goes)
