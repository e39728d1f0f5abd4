-- What takes of packets from inlets do, and what they fill in.
use Rattle.std.specs.Prelude.{◌≡◌, ℕ, ◌-◌, ◌<◌, List, length, map, take, min, Some, slice_get}
use Rattle.clk_router.specs.Course.{Course, sender_at}
use Rattle.clk_live.specs.State.{LiveState, seen, starts_at, AllGoOn}
use Rattle.clk_live.specs.Taking.{AreTaken, AreOf, GaveAll, GaveAllThatFits, AreAtMost, AreSharesOr, AreSharesBefore, StartsNext, AllAccepted}
use Rattle.clk_live.specs.declared.taking.Taken.{Taken}
use Rattle.clickpull_c.specs.declared.live.router.LiveRouter.{LiveRouter}
use Rattle.clickpull_c.specs.declared.live.taking.TheConstants.{MOST_TAKEN}
use Rattle.clickpull_c.specs.declared.live.values.CTaken.{CTaken}
use Rattle.clickpull_c.specs.declared.statuses.TheConstants.{UNKNOWN_SENDER}
use Rattle.clickpull_c.specs.Answers.{IsUnknown}
use Rattle.clickpull_c.specs.Calls.{pulls_status}
use Rattle.clickpull_c.specs.Filled.{IsFilled}
use Rattle.clickpull_c.specs.live.State.{Answers}
use Rattle.clickpull_c.specs.live.Values.{taken_in_c}

-- how many packets one call takes at most, with these places
abbrev pub most_into : List CTaken → ℕ
most_into places = min (length places) MOST_TAKEN

-- `given` packets were taken, and filled in as C sees them.
pub record Takes (old new : LiveState) (before filled : List CTaken) (given : ℕ) (gave : List Taken) : Type 0 where
  pub slots : List Taken
  pub many : length slots ≡ most_into before
  pub are_taken : AreTaken (seen old) (seen new) slots gave given
  pub are_filled : IsFilled before filled (map taken_in_c (take given gave))
  pub outlets : AllGoOn old.outlets new.outlets

-- Packets of one sender were taken: all that were seen in its inlet, unless the call took as many as it may.
pub record TakesOf (sender : ℕ) (old new : LiveState) (before filled : List CTaken) (given : ℕ) : Type 0 where
  pub gave : List Taken
  pub takes : Takes old new before filled given gave
  pub place : ℕ
  pub sender_is : sender_at old.course.setup place ≡ Some sender
  pub of_sender : AreOf old.course.setup place (take given gave)
  pub gave_all : given < most_into before → GaveAll old.outlets new.outlets place
  pub turn : new.turn ≡ old.turn

-- Packets were taken in one round over the senders, at most `each` from each.
pub record TakesRound (each : ℕ) (old new : LiveState) (before filled : List CTaken) (given : ℕ) (gave : List Taken) : Type 0 where
  pub takes : Takes old new before filled given gave
  pub at_most : AreAtMost each (take given gave)
  pub turn : StartsNext old new (most_into before) given (slice_get gave (given - 1))

-- Of each sender `each` packets were taken, or all that were seen in its inlet. If the call took as many as it may, that holds of the senders
-- before the last packet's, from the one on at which the round starts.
pub record TakesIn (each : ℕ) (old new : LiveState) (before filled : List CTaken) (given : ℕ) : Type 0 where
  pub gave : List Taken
  pub round : TakesRound each old new before filled given gave
  pub shares : given < most_into before → AreSharesOr (GaveAll old.outlets new.outlets) old.course.setup each (take given gave)
  pub in_turn : AreSharesBefore (GaveAll old.outlets new.outlets) old.course.setup (starts_at old) (length old.outlets) each (slice_get gave (given - 1)) (take given gave)

-- Each packet was accepted without evicting another. Of each sender `each` packets were taken, or all that were seen in its inlet, or its
-- queue is full now. If the call took as many as it may, that holds of the senders before the last packet's, as for `TakesIn`.
pub record TakesWhatFits (each : ℕ) (old new : LiveState) (before filled : List CTaken) (given : ℕ) : Type 0 where
  pub gave : List Taken
  pub round : TakesRound each old new before filled given gave
  pub accepted : AllAccepted (take given gave)
  pub shares : given < most_into before → AreSharesOr (GaveAllThatFits old new) old.course.setup each (take given gave)
  pub in_turn : AreSharesBefore (GaveAllThatFits old new) old.course.setup (starts_at old) (length old.outlets) each (slice_get gave (given - 1)) (take given gave)

-- A call is refused, since no sender has this number.
pub record HasNoSender (c : Course) (sender status : ℕ) : Type 0 where
  pub answers : status ≡ UNKNOWN_SENDER
  pub missing : IsUnknown c sender

-- A call took packets, or was refused.
abbrev pub AnswersTake : (old new : LiveRouter) (Step : LiveState → LiveState → Type 0) (Refused : LiveState → Type 0) (before filled : List CTaken) (given status : ℕ) → Type 0
AnswersTake old new Step Refused before filled given status =
    Answers old new status (λ a b. Step a b × (status ≡ pulls_status given (length before))) Refused ((filled ≡ before) × (given ≡ 0))
