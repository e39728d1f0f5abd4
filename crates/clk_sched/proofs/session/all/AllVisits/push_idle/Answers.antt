use Rattle.std.proofs.Common.{◌≡◌, ℕ, ◌+◌, ◌-◌, ◌++◌, List, [], ◌∷◌, None, sym, ap₂, ◌∙◌, append-nil, arith}
use Rattle.clk_sched.specs.declared.visit.Visit.{Visit}
use Rattle.clk_sched.specs.declared.session.all.AllVisits.{AllVisits}
use Rattle.clk_sched.specs.Log.{asking}
use Rattle.clk_sched.proofs.Lists.Ranges.{range-next}
use Rattle.clk_sched.proofs.session.all.AllVisits.push_idle.Goals as goal

-- these visits, with room for so many more
abbrev with : AllVisits → List Visit → ℕ → AllVisits
with all items spare = record { items = items; spare = spare; gone = all.gone; start = all.start }

pub loop-place-init : goal.loop-place-init
loop-place-init c =
    let all = c.args.self.now in
    let none : all.spare - 0 ≡ all.spare = omega arith in
    sym (ap₂ (with all) (append-nil all.items) none)

pub loop-place-preserved : goal.loop-place-preserved
loop-place-preserved c =
    let all = c.args.self.now in
    let idle = c.args.idle.now in
    let k = c.loop-place.place in
    let less : all.spare - k - 1 ≡ all.spare - (k + 1) = omega arith in
    c.push.ensures ∙ ap₂ (λ (s : AllVisits) (v : Visit). with s (s.items ++ v ∷ []) (s.spare - 1)) c.loop-place.invariant c.visit.ensures
    ∙ ap₂ (with all) (range-next (λ i. asking idle.pull idle.moment idle.node i None) all.items idle.first k) less
