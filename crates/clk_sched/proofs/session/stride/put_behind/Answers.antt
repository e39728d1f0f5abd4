use Rattle.std.proofs.Common.{◌≡◌, ◌+◌, ◌-◌, ◌∷◌, ◌++◌, ◌∙◌, ℕ, ap, sym, subst, set, take, drop, get_or, arith}
use Rattle.std.proofs.Math.Seq.{paste}
use Rattle.std.proofs.lemmas.List.{get_or_default, length-drop}
use Rattle.std.proofs.lemmas.List.Edits.{paste_more}
use Rattle.clk_sched.specs.inside.Ranks.{Ranked, put_rank}
use Rattle.clk_sched.proofs.Classes.RankLemmas.{StandBefore, read-at, next-moved, before-next, before-found, before-all, put-moved}
use Rattle.clk_sched.proofs.session.stride.put_behind.Goals as goal
use Rattle.clk_sched.proofs.session.stride.put_behind.Goals.{then-loop-place-test+else-not-is_up_to, else-loop-place-test}

pub loop-place-preserved : goal.loop-place-preserved
loop-place-preserved c =
    let row = c.args.row.now in
    let from = c.args.from in
    let place = c.loop-place.place in
    let so_far = c.loop-place.invariant in
    let blank : Ranked = record { pass = 0; input = 0 } in
    let k : ℕ = place - from in
    let within = so_far.within in
    let all = length-drop (from + 1) row in
    let here : from + k ≡ place = omega (arith, within) in
    let after : from + k + 1 ≡ place + 1 = omega (arith, within) in
    let next : k + 1 ≡ place + 1 - from = omega (arith, within) in
    let read = (λ j. get_or (so_far.moved j) (sym after j) blank) ∙ next-moved row from k blank (omega (arith, within)) in
    let moved = read-at c.loop-place.row (place + 1) c.index-row-place-in-loop-place.result blank c.loop-place-test.true c.index-row-place-in-loop-place.is ∙ read in
    record {
      within = (omega (arith, within), omega arith);
      moved =
          (λ j. set (so_far.moved j) (sym here j) (moved j)) ∙ paste_more row from (drop (from + 1) row) k blank (omega (arith, within)) (omega (arith, within, all))
          ∙ ap (paste row from (drop (from + 1) row)) next;
      before =
          subst (StandBefore c.args.rank (drop (from + 1) row)) next
          (before-next c.args.rank (drop (from + 1) row) k blank _ (omega (arith, within, all)) (get_or_default c.loop-place.row (place + 1) c.index-row-place.result blank c.loop-place-test.true ∙ read) (sym c.is_up_to.ensures ∙ c.if-not-is_up_to.true) so_far.before);
    }

pub returns : goal.returns
returns c =
    let row = c.args.row.now in
    let from = c.args.from in
    let place = c.loop-place.place in
    let so_far = c.loop-place.invariant in
    let blank : Ranked = record { pass = 0; input = 0 } in
    let k : ℕ = place - from in
    let within = so_far.within in
    let all = length-drop (from + 1) row in
    let here : from + k ≡ place = omega (arith, within) in
    let after : from + k + 1 ≡ place + 1 = omega (arith, within) in
    let put : put_rank c.args.rank (drop (from + 1) row) ≡ take k (drop (from + 1) row) ++ c.args.rank ∷ drop k (drop (from + 1) row) =
    elim c.loop-place-test.branch [
      | then-loop-place-test+else-not-is_up_to w ↦
          before-found c.args.rank (drop (from + 1) row) k blank _ (omega (arith, within, all))
          (get_or_default c.loop-place.row (place + 1) w.index-row-place.result blank w.loop-place-test.true ∙ (λ j. get_or (so_far.moved j) (sym after j) blank) ∙ next-moved row from k blank (omega (arith, within))) (sym w.is_up_to.ensures ∙ w.if-not-is_up_to.false) so_far.before
      | else-loop-place-test w ↦
          before-all c.args.rank (drop (from + 1) row) k (omega (arith, within, all)) so_far.before
    ]
    in
    (λ j. set (so_far.moved j) (sym here j) c.args.rank) ∙ put-moved c.args.rank row from k c.requires (omega (arith, within, all)) put
