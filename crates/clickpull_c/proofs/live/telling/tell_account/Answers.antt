use Rattle.std.proofs.Common.{◌≡◌, ◌≤◌, length, Some, slice_get, refl, ap, subst, arith}
use Rattle.std.proofs.lemmas.List.{length-map}
use Rattle.std.proofs.lemmas.Option.{slice_get_read}
use Rattle.clk_router.specs.Accounts.{account_after}
use Rattle.clk_router.specs.Course.{Course}
use Rattle.clickpull_c.specs.Answers.{HasNoPlace}
use Rattle.clickpull_c.specs.Tells.{TellsAccount}
use Rattle.clickpull_c.proofs.AccountsTold.{account-told}
use Rattle.clickpull_c.proofs.LiveSteps.{told, untold}
use Rattle.clickpull_c.proofs.live.telling.tell_account.Goals as goal

pub returns-in-Some-get : goal.returns-in-Some-get
returns-in-Some-get c =
    let here : slice_get c.accounts.result.now c.args.place ≡ Some c.in-Some-get.found.now =
    slice_get_read c.accounts.result.now _ c.args.place c.in-Some-get.found.now refl c.in-Some-get.ensures.lookup.3.0 c.in-Some-get.ensures.lookup.1
    in
    told c.args.router.now c.in-Some.live 0 (λ s. TellsAccount s.course c.args.place c.account_for_c.result 0) (λ s. HasNoPlace s.course c.args.place 0) (c.account_for_c.result ≡ c.args.account.now) c.in-Some.is
    (subst (λ (k : Course). TellsAccount k c.args.place c.account_for_c.result 0) c.router.ensures.course
    (account-told c.router.result.now c.accounts.result.now c.args.place c.in-Some-get.found.now c.account_for_c.result c.accounts.ensures here c.account_for_c.ensures))

pub returns-in-None : goal.returns-in-None
returns-in-None c =
    let past : length c.accounts.result.now ≤ c.args.place = grind arith in
    let many = length-map c.router.result.now.setup.senders (account_after c.router.result.now.events) in
    let same = ap length c.accounts.ensures in
    untold c.args.router.now c.in-Some.live 4 (λ s. TellsAccount s.course c.args.place c.args.account.now 4) (λ s. HasNoPlace s.course c.args.place 4) (c.args.account.now ≡ c.args.account.now) c.in-Some.is
    (subst (λ (k : Course). HasNoPlace k c.args.place 4) c.router.ensures.course (record { answers = refl; missing = omega (arith, past, many, same) })) refl
