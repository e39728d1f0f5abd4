-- What opening a live router over a text does.
use Rattle.std.specs.Prelude.{◌≡◌, ℕ, List, [], ◌<◌, ◌≤◌, ◌⊎◌, map, Option, Some}
use Rattle.clk_tree.specs.Plan.{Planned, Denotes}
use Rattle.clk_inlet.specs.declared.limits.TheConstants.{MAX_ROOM}
use Rattle.clk_inlet.specs.declared.inlet.Inlet.{Inlet}
use Rattle.clk_live.specs.Opening.{IsLiveOpened}
use Rattle.clk_live.specs.State.{LiveState}
use Rattle.clickpull_c.specs.declared.live.router.LiveRouter.{LiveRouter}
use Rattle.clickpull_c.specs.declared.values.CFault.{CFault}
use Rattle.clickpull_c.specs.declared.statuses.TheConstants.{BAD_ROOM}
use Rattle.clickpull_c.specs.Opens.{IsFaulty}
use Rattle.clickpull_c.specs.live.State.{inlets_of}

-- A live router was opened over the plan that a text denotes. Its inlets have room for `room` packets each, and none was handed out.
pub record OpensLive (text : List ℕ) (room : ℕ) (l : LiveRouter) : Type 0 where
  pub plan : List Planned
  pub denotes : Denotes text plan
  pub state : LiveState
  pub inlets : List Inlet
  pub opened : IsLiveOpened plan room state inlets
  pub live : l.live ≡ Some state
  pub has_inlets : inlets_of l ≡ map Some inlets
  pub reclaimed : l.reclaimed ≡ []

-- A place was given a live router that was opened over this text.
pub record IsGivenLive (text : List ℕ) (room : ℕ) (place : Option LiveRouter) : Type 0 where
  pub router : LiveRouter
  pub has : place ≡ Some router
  pub opens : OpensLive text room router

-- No router was opened: inlets can't have such room, and then no fault is filled in; or an allocation failed, or the text has a fault,
-- which is filled in.
pub data RefusesOpen (text : List ℕ) (room : ℕ) (before filled : CFault) (status : ℕ) : Type 0 where
  bad_room : status ≡ BAD_ROOM → (room ≡ 0) ⊎ (MAX_ROOM < room) → filled ≡ before → RefusesOpen text room before filled status
  faulty : (1 ≤ room) × (room ≤ MAX_ROOM) → IsFaulty text filled status → RefusesOpen text room before filled status
