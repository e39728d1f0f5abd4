use Rattle.std.proofs.Common.{◌≡◌, Some, slice_get, inl, refl, subst}
use Rattle.std.proofs.lemmas.Option.{slice_get_read}
use Rattle.clk_router.specs.Course.{Course}
use Rattle.clickpull_c.specs.Tells.{TellsAccount}
use Rattle.clickpull_c.proofs.AccountsTold.{account-told}
use Rattle.clickpull_c.proofs.telling.clk_router_account.Goals as goal

pub returns-in-Some-clause-answer : goal.returns-in-Some-clause-answer
returns-in-Some-clause-answer c =
    let here : slice_get c.accounts.result.now c.args.place ≡ Some c.in-Some.found.now =
    slice_get_read c.accounts.result.now _ c.args.place c.in-Some.found.now refl c.in-Some.ensures.lookup.3.0 c.in-Some.ensures.lookup.1
    in
    inl (subst (λ (k : Course). TellsAccount k c.args.place c.account_for_c.result 0) c.get_mut.ensures.value
    (account-told c.get_mut.result.now c.accounts.result.now c.args.place c.in-Some.found.now c.account_for_c.result c.accounts.ensures here c.account_for_c.ensures))
