use Rattle.std.proofs.Common.{refl, ap, map, sym, ◌∙◌}
use Rattle.clk_router.specs.Accounts.{account_sender}
use Rattle.clk_router.specs.inside.Accounts.{put_out}
use Rattle.clk_router.proofs.AccountLemmas.{noted, accounts-offered, taken_in-at, turned_away-at, taken_in-senders, evicted-both}
use Rattle.clk_router.proofs.accounts.count_offered.Goals as goal

pub count_evicted-requires-clause-alike : goal.count_evicted-requires-clause-alike
count_evicted-requires-clause-alike c =
    let old = c.args.accounts.now.items in
    let p = c.args.packet in
    let taken = taken_in-at old c.args.numbers.now p c.args.place c.requires.alike c.requires.here c.args.place c.index_mut.result.now c.requires.rising refl c.index_mut.ensures.value c.add-in-Evicted.new.total c.add-in-Evicted.ensures in
    ap (map account_sender) taken ∙ taken_in-senders p old ∙ c.requires.alike

pub returns-in-Accepted : goal.returns-in-Accepted
returns-in-Accepted c =
    let old = c.args.accounts.now.items in
    let p = c.args.packet in
    let counted =
    taken_in-at old c.args.numbers.now p c.args.place c.requires.alike c.requires.here c.args.place c.index_mut.result.now c.requires.rising refl c.index_mut.ensures.value c.add.new.total c.add.ensures
    ∙ ap (λ o. map (noted p o) old) (sym c.in-Accepted.is)
    in
    λ events specs few are. counted ∙ ap (map (noted p c.args.outcome)) are ∙ accounts-offered events p c.args.outcome specs few

pub returns-in-Refused : goal.returns-in-Refused
returns-in-Refused c =
    let old = c.args.accounts.now.items in
    let p = c.args.packet in
    let counted =
    turned_away-at old c.args.numbers.now p c.args.place c.requires.alike c.requires.here c.args.place c.index_mut.result.now c.requires.rising refl c.index_mut.ensures.value c.add-in-Refused.new.total c.add-in-Refused.ensures
    ∙ ap (λ o. map (noted p o) old) (sym c.in-Refused.is)
    in
    λ events specs few are. counted ∙ ap (map (noted p c.args.outcome)) are ∙ accounts-offered events p c.args.outcome specs few

pub returns-in-Evicted : goal.returns-in-Evicted
returns-in-Evicted c =
    let old = c.args.accounts.now.items in
    let p = c.args.packet in
    let taken = taken_in-at old c.args.numbers.now p c.args.place c.requires.alike c.requires.here c.args.place c.index_mut.result.now c.requires.rising refl c.index_mut.ensures.value c.add-in-Evicted.new.total c.add-in-Evicted.ensures in
    let counted = c.count_evicted.ensures ∙ ap (map (put_out c.in-Evicted.front)) taken ∙ evicted-both p c.in-Evicted.front old ∙ ap (λ o. map (noted p o) old) (sym c.in-Evicted.is) in
    λ events specs few are. counted ∙ ap (map (noted p c.args.outcome)) are ∙ accounts-offered events p c.args.outcome specs few
