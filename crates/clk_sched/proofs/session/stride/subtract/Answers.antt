use Rattle.std.proofs.Common.{◌≡◌, ◌≤◌, ◌+◌, ◌++◌, ◌∙◌, ap, sym, subst, suc, map, take, drop, set, get_or, arith}
use Rattle.clk_sched.specs.inside.Ranks.{Ranked, less}
use Rattle.clk_sched.proofs.Classes.RankLemmas.{less-none, changed-read, changed-more}
use Rattle.clk_sched.proofs.session.stride.subtract.Goals as goal

pub returns-then-least-eq0 : goal.returns-then-least-eq0
returns-then-least-eq0 c = sym (ap (λ n. map (less n) c.args.ranks.now) c.if-least-eq0.true ∙ less-none c.args.ranks.now)

pub less-requires : goal.less-requires
less-requires c =
    let f = less c.args.least in
    let i = c.loop-rank.rank-index in
    let d = c.rank-item.result in
    subst (λ (r : Ranked). c.args.least ≤ r.pass) (sym (ap (λ xs. get_or xs i d) c.loop-rank.invariant ∙ changed-read f i c.args.ranks.now d)) (c.requires i d c.loop-rank-test.true)

pub loop-rank-preserved : goal.loop-rank-preserved
loop-rank-preserved c =
    let blank = c.rank-item.result in
    let f = less c.args.least in
    let i = c.loop-rank.rank-index in
    let next : suc i ≡ i + 1 = omega arith in
    ap (λ r. set c.loop-rank.ranks i r) c.less.ensures ∙ ap (λ xs. set xs i (f (get_or xs i blank))) c.loop-rank.invariant
    ∙ ap (λ r. set (map f (take i c.args.ranks.now) ++ drop i c.args.ranks.now) i (f r)) (changed-read f i c.args.ranks.now blank)
    ∙ changed-more f i c.args.ranks.now blank c.loop-rank-test.true
    ∙ ap (λ n. map f (take n c.args.ranks.now) ++ drop n c.args.ranks.now) next
