-- What the threads of a run say to one another.
use Rattle.std.specs.Prelude.{◌≡◌, ℕ, ◌*◌, ◌≤◌, List, [], ◌∷◌, ◌++◌, length, map, max, Vec}
use Rattle.std.specs.List.{AllZip, range_with_len}
use Rattle.std.specs.declared.alloc.Global.{Global}
use Rattle.clk_packet.specs.declared.packet.Packet.{Packet}
use Rattle.clk_packet.specs.Trace.{sent_by}
use Rattle.clk_ruled.specs.Queue.{OpenedQueue, SeatLists, TapLists, ClosedLists, IsSeatOf}
use Rattle.clk_ruled.specs.Closing.{IsClosedOf}
use Rattle.clk_sched.specs.declared.session.keeps.Keeps.{Keeps}
use Rattle.clk_sched.specs.Log.{pulls, moment_of}
use Rattle.clk_sched.specs.Session.{Progress, counted_moment}
use Rattle.clk_drain.specs.Line.{LineLists, pulling_all, AreLinesOf}
use Rattle.clk_drain.specs.Closing.{AreOffered}

-- what is sent, and at which moments devices are pulled: each `step` ticks, at most `limit` times
pub record Terms : Type 0 where
  pub traces : List (List Packet)
  pub step : ℕ
  pub limit : ℕ

-- A seat of a queue before its first offer, with room for all that its sender sends.
pub record IsUnused (terms : Terms) (queue : OpenedQueue) (seat : SeatLists) : Type 0 where
  pub own : IsSeatOf queue seat
  pub offered : AreOffered [] seat
  pub room : seat.room ≡ length (sent_by terms.traces seat.sender)

-- The sender of a seat offered all that it sends, and then closed the seat.
pub record HasSentAll (terms : Terms) (seat : SeatLists) (result : ClosedLists) : Type 0 where
  pub closed : IsClosedOf seat result
  pub sent : AreOffered (sent_by terms.traces seat.sender) result.lists

-- Each sender of a queue offered all that it sends, and then closed its seat, in order.
abbrev pub HaveSentAll : Terms → Vec SeatLists Global → Vec ClosedLists Global → Type 0
HaveSentAll terms seats closed = AllZip (HasSentAll terms) seats.items closed.items

-- a device's session, what it keeps, and the taps of its queues, in order
pub record EndLists : Type 0 where
  pub session : Progress
  pub keeps : Keeps
  pub taps : List TapLists

-- a session with the lines over which it is pulled, and what it keeps
pub record Feed : Type 0 where
  pub session : Progress
  pub keeps : Keeps
  pub lines : List LineLists

-- A session that is to be pulled for the first time.
pub record IsUnpulled (feed : Feed) : Type 0 where
  pub none : feed.session.log ≡ []
  pub own : AreLinesOf feed.session feed.lines

-- The session was pulled once more, at this moment, or at its latest moment if that is later.
pub record IsPulledAt (moment : ℕ) (old new : Feed) : Type 0 where
  pub tree : new.session.tree ≡ old.session.tree
  pub keeps : new.keeps ≡ old.keeps
  pub gave : ℕ → List Packet
  pub lines : new.lines ≡ pulling_all gave old.lines
  pub own : AreLinesOf new.session new.lines
  pub counted : counted_moment new.session ≡ max (counted_moment old.session) moment
  pub moments : map moment_of (pulls new.session.log) ≡ map moment_of (pulls old.session.log) ++ counted_moment new.session ∷ []

-- the moments of so many pulls, once each step: the k-th, counted from 1, is k times `step`
abbrev pub steps : ℕ → ℕ → List ℕ
steps step made = map (λ k. k * step) (range_with_len 1 made)

-- The session was pulled `made` times, once each step.
pub record IsPulledFor (terms : Terms) (made : ℕ) (old new : Feed) : Type 0 where
  pub tree : new.session.tree ≡ old.session.tree
  pub keeps : new.keeps ≡ old.keeps
  pub gave : ℕ → List Packet
  pub lines : new.lines ≡ pulling_all gave old.lines
  pub own : AreLinesOf new.session new.lines
  pub moments : map moment_of (pulls new.session.log) ≡ steps terms.step made
  pub counted : counted_moment new.session ≡ made * terms.step

-- The session was pulled, once each step, at most as often as it may be.
abbrev pub IsPulled : Terms → Feed → Feed → Type 0
IsPulled terms old new = (made : ℕ) × (made ≤ terms.limit) × IsPulledFor terms made old new
