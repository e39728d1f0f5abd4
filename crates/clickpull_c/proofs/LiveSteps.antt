-- What a call answers over a live router that is there.
use Rattle.std.proofs.Common.{◌≡◌, ℕ, List, Some, refl, subst}
use Rattle.clk_live.specs.declared.taking.Taken.{Taken}
use Rattle.clk_live.specs.State.{LiveState}
use Rattle.clickpull_c.specs.declared.live.router.LiveRouter.{LiveRouter}
use Rattle.clickpull_c.specs.live.State.{Goes, IsUnchanged, Answers, done, refused}
use Rattle.clickpull_c.specs.live.Tells.{AnswersTold}

-- the router with another state
abbrev pub with_state : LiveRouter → LiveState → LiveRouter
with_state l s = record l { live = Some s }

pub goes : (l : LiveRouter) (s next : LiveState) → l.live ≡ Some s → Goes l (with_state l next) s next
goes l s next is = record { was = is; is = refl; inlets = refl; reclaimed = refl }

-- with others in its slots too
pub goes-taking : (l : LiveRouter) (slots : List Taken) (s next : LiveState) → l.live ≡ Some s → Goes l (record (with_state l next) { slots = slots }) s next
goes-taking l slots s next is = record { was = is; is = refl; inlets = refl; reclaimed = refl }

pub stays : (l : LiveRouter) → IsUnchanged l l
stays l = record { live = refl; inlets = refl; reclaimed = refl }

-- what was borrowed and put back as it was
pub stays-with : (l : LiveRouter) (s : LiveState) → l.live ≡ Some s → IsUnchanged l (with_state l s)
stays-with l s is = record { live = cc; inlets = refl; reclaimed = refl }

module _ (l : LiveRouter) (s : LiveState) (status : ℕ) (Told Refused : LiveState → Type 0) (Unfilled : Type 0) (is : l.live ≡ Some s) where
  pub told : Told s → AnswersTold l l status Told Refused Unfilled
  told it = done s s (record { was = is; is = is; inlets = refl; reclaimed = refl }) (refl, it)

  pub untold : Refused s → Unfilled → AnswersTold l l status Told Refused Unfilled
  untold why unfilled = refused s is why (stays l) unfilled

-- what a call answers over a router it answers over one that is the same
pub moved : {old same new : LiveRouter} {status : ℕ} {Step : LiveState → LiveState → Type 0} {Refused : LiveState → Type 0} {Unfilled : Type 0} → old ≡ same → Answers old new status Step Refused Unfilled → Answers same new status Step Refused Unfilled
moved {new = new} {status = status} {Step = Step} {Refused = Refused} {Unfilled = Unfilled} e h = subst (λ (r : LiveRouter). Answers r new status Step Refused Unfilled) e h
