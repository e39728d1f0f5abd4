-- What an account at a place tells.
use Rattle.std.proofs.Common.{◌≡◌, ℕ, zero, suc, List, [], ◌∷◌, map, Some, slice_get, refl, sym, ap, ◌∙◌}
use Rattle.clk_router.specs.Accounts.{account_after}
use Rattle.clk_router.specs.Course.{Course}
use Rattle.clk_router.specs.Events.{Event}
use Rattle.clk_router.specs.declared.accounts.Account.{Account}
use Rattle.clk_tree.specs.declared.plan.parts.SenderSpec.{SenderSpec}
use Rattle.clickpull_c.specs.declared.values.CAccount.{CAccount}
use Rattle.clickpull_c.specs.Tells.{TellsAccount}
use Rattle.clickpull_c.specs.Values.{account_in_c}

-- the sender at a place, and what its account is
record IsSenderAt (events : List Event) (senders : List SenderSpec) (place : ℕ) (account : Account) : Type 0 where
  sender : SenderSpec
  here : slice_get senders place ≡ Some sender
  its : account_after events sender ≡ account

sender-at : (events : List Event) (senders : List SenderSpec) (place : ℕ) (account : Account) → slice_get (map (account_after events) senders) place ≡ Some account → IsSenderAt events senders place account
sender-at events [] place account is = absurd (cc)
sender-at events (s ∷ senders) zero account is = record { sender = s; here = refl; its = cc }
sender-at events (s ∷ senders) (suc place) account is =
    let rest = sender-at events senders place account is in
    record { sender = rest.sender; here = rest.here; its = rest.its }

pub account-told : (c : Course) (accounts : List Account) (place : ℕ) (account : Account) (filled : CAccount) → accounts ≡ map (account_after c.events) c.setup.senders → slice_get accounts place ≡ Some account
    → filled ≡ account_in_c account → TellsAccount c place filled 0
account-told c accounts place account filled are is fills =
    let at = sender-at c.events c.setup.senders place account (ap (λ l. slice_get l place) (sym are) ∙ is) in
    record { answers = refl; sender = at.sender; is = at.here; filled_is = fills ∙ ap account_in_c (sym at.its) }
