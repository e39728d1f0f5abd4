use Rattle.std.proofs.lemmas.Bool.Decides.{nat_tests}
use Rattle.std.proofs.Common.{◌≡◌, ℕ, ◌+◌, ◌-◌, ◌∙◌, suc, length, sym, ap, arith}
use Rattle.clk_sched.specs.inside.Ranks.{Ranked}
use Rattle.clk_sched.proofs.Classes.RankLemmas.{read-at, ends-follow}
use Rattle.clk_sched.proofs.session.stride.follow_one_another.Goals as goal

pub returns-then-pass : goal.returns-then-pass
returns-then-pass c far =
    let row = c.args.ranks.now in
    let k : ℕ = length row - 1 in
    let first = c.first-item.result in
    let last = c.index-ranks-ranks.result in
    let some = c.in-len1-up.len_at_least in
    let size : length row ≡ suc k = omega (arith, some) in
    let first_is = sym c.first-item.is in
    let last_is = sym (read-at row k last first (omega (arith, some)) c.index-ranks-ranks.is) in
    let apart : c.from.result ≡ c.from-then-pass.result + k = grind (arith, nat_tests) in
    ends-follow row first k c.requires size (ap (λ (r : Ranked). r.pass) first_is ∙ sym c.pass.ensures ∙ c.if-pass.true ∙ c.pass-in-len1-up.ensures ∙ ap (λ (r : Ranked). r.pass) (sym last_is))
    (ap (λ (r : Ranked). r.input) last_is ∙ sym c.input.ensures ∙ sym c.from.ensures ∙ apart
    ∙ ap (λ n. n + k) (c.from-then-pass.ensures ∙ c.input-then-pass.ensures ∙ ap (λ (r : Ranked). r.input) (sym first_is)))
