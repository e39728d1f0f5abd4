-- How inlets are handed out.
use Rattle.std.specs.Prelude.{◌≡◌, ℕ, ◌⊎◌, Option, Some, None, slice_get, slice_set as set}
use Rattle.clk_inlet.specs.declared.inlet.Inlet.{Inlet}
use Rattle.clk_live.specs.State.{LiveState}
use Rattle.clk_router.specs.Course.{sender_at}
use Rattle.clickpull_c.specs.declared.live.router.LiveRouter.{LiveRouter}
use Rattle.clickpull_c.specs.declared.statuses.TheConstants.{OK, UNKNOWN_SENDER, HANDED_OUT, RECLAIMED}
use Rattle.clickpull_c.specs.Answers.{IsUnknown}
use Rattle.clickpull_c.specs.live.State.{inlets_of}

-- The inlet of a sender was handed out, once, and filled in. Nothing else changed.
pub record HandsOut (old new : LiveRouter) (sender : ℕ) (filled : Option Inlet) (status : ℕ) : Type 0 where
  pub answers : status ≡ OK
  pub state : LiveState
  pub is_open : old.live ≡ Some state
  pub place : ℕ
  pub sender_is : sender_at state.course.setup place ≡ Some sender
  pub inlet : Inlet
  pub had : slice_get (inlets_of old) place ≡ Some (Some inlet)
  pub gives : filled ≡ Some inlet
  pub has : inlets_of new ≡ set (inlets_of old) place None
  pub same : (new.live ≡ old.live) × (new.reclaimed ≡ old.reclaimed)

-- No inlet is handed out: the router was reclaimed, the sender is unknown, or its inlet was handed out before.
pub data RefusesInlet (l : LiveRouter) (sender status : ℕ) : Type 0 where
  reclaimed : status ≡ RECLAIMED → l.live ≡ None → RefusesInlet l sender status
  unknown_sender : (state : LiveState) → l.live ≡ Some state → status ≡ UNKNOWN_SENDER → IsUnknown state.course sender → RefusesInlet l sender status
  handed_out : (state : LiveState) → l.live ≡ Some state → status ≡ HANDED_OUT → (place : ℕ) → sender_at state.course.setup place ≡ Some sender → (slice_get (inlets_of l) place ≡ None) ⊎ (slice_get (inlets_of l) place ≡ Some None) → RefusesInlet l sender status
