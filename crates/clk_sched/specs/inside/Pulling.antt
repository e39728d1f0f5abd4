-- What a pull does below a node, while it goes on: which visits it makes, and what each node holds then.
use Rattle.std.specs.Prelude.{◌≡◌, ◌≢◌, ◌⊎◌, ℕ, ◌+◌, ◌<◌, ◌≤◌, true, List, [], ◌∷◌, ◌++◌, length, drop, suc, zero, ⊤, Option, Some, None, MatchOption, slice_get, slice_index, take, map, if◌then◌else◌}
use Rattle.std.specs.List.{AllByRecursion, flat_map}
use Rattle.clk_packet.specs.declared.packet.Packet.{Packet}
use Rattle.clk_sched.specs.declared.visit.Visit.{Visit}
use Rattle.clk_sched.specs.declared.session.state.State.{State}
use Rattle.clk_sched.specs.declared.session.nodes.Nodes.{Nodes}
use Rattle.clk_sched.specs.declared.limits.TheConstants.{END_OF_MOMENTS}
use Rattle.clk_packet.specs.Scheduler.{Scheduler}
use Rattle.clk_sched.specs.Tree.{Row, end, leaf, node, nodes, width}
use Rattle.clk_sched.specs.Turns.{Turn}
use Rattle.clk_sched.specs.Laws.{AllowsTurn}
use Rattle.clk_sched.specs.Log.{visits_of, result_of, asking}
use Rattle.clk_sched.specs.inside.Holds.OfClass.{Holds}
use Rattle.clk_sched.specs.inside.Holds.Shaper.{AreBefore}
use Rattle.clk_sched.specs.inside.Places.{StandsIn, AreWired, AllFit}

-- the number of a pull, and its counted moment
pub record Now : Type 0 where
  pub number : ℕ
  pub moment : ℕ

abbrev pub as_turn : ℕ → List Visit → Turn
as_turn moment visits = record { moment = moment; visits = visits }

-- the turns of each node, by its number, the latest first
abbrev pub History : Type 0
History = ℕ → List Turn

-- the turns of a node with one more, unless it has no visits
abbrev pub with_turn : ℕ → List Visit → List Turn → List Turn
with_turn moment [] turns = turns
with_turn moment (v ∷ visits) turns = as_turn moment (v ∷ visits) ∷ turns

-- the history after these visits at a moment
abbrev pub after : History → ℕ → List Visit → History
after history moment visits x = with_turn moment (visits_of x visits) (history x)

-- each scheduler of a row, which are numbered from `next` on, holds what its history says
abbrev pub EachHolds : List State → History → ℕ → Row → Type 0
EachHolds states history next end = ⊤
EachHolds states history next (leaf q row) = EachHolds states history next row
EachHolds states history next (node class inputs row) =
    MatchOption (slice_get states next) ⊥ (Holds class (width inputs) (history next))
    × EachHolds states history (suc next) inputs
    × EachHolds states history (suc (next + nodes inputs)) row

-- a node and the schedulers of the row below it hold what their histories say
pub record NodeHolds (states : List State) (history : History) (x : ℕ) (class : Scheduler) (row : Row) : Type 0 where
  pub here : MatchOption (slice_get states x) ⊥ (Holds class (width row) (history x))
  pub below : EachHolds states history (suc x) row

-- the visits that were made below when a visit asked; none if it didn't ask
abbrev pub asked_of : (ℕ → List Visit) → Visit → List Visit
asked_of made v = if v.fresh then made v.input else []

-- each visit after those that were made below when it asked
abbrev pub with_asked : (ℕ → List Visit) → List Visit → List Visit
with_asked made visits = flat_map (λ (v : Visit). asked_of made v ++ v ∷ []) visits

-- no two members have the same number
abbrev pub AreApart : {X : Type 0} → (X → ℕ) → List X → Type 0
AreApart f [] = ⊤
AreApart f (x ∷ xs) = AllByRecursion (λ y. f y ≢ f x) xs × AreApart f xs

abbrev pub input_of : Visit → ℕ
input_of v = v.input

-- a visit of a node in a pull
pub record IsVisitAt (now : Now) (x : ℕ) (v : Visit) : Type 0 where
  pub number : v.pull ≡ now.number
  pub moment : v.moment ≡ now.moment
  pub node : v.node ≡ x

-- These visits are the block of a scheduler that was pulled, and this its result: its own visits, which its law allows, each after what it
-- asked. `Below` says what a visit to an input may have asked for, and got.
pub record IsBlockOf (Below : ℕ → List Visit → Option Packet → Type 0) (now : Now) (x : ℕ) (class : Scheduler) (inputs : ℕ) (turns : List Turn) (visits : List Visit) (got : Option Packet) : Type 0 where
  pub own : List Visit
  pub made : ℕ → List Visit
  pub whole : visits ≡ with_asked made own
  pub theirs : AllByRecursion (IsVisitAt now x) own
  pub apart : AreApart input_of own
  pub allowed : AllowsTurn class inputs turns (as_turn now.moment own)
  pub each : AllByRecursion (λ (v : Visit). v.fresh ≡ true → Below v.input (made v.input) v.got) own
  pub result : got ≡ result_of own

-- what was made and got by asking at an input of a row
abbrev pub IsAskedAt : Now → History → ℕ → Row → ℕ → List Visit → Option Packet → Type 0
IsAskedAt now history next end i visits got = ⊥
IsAskedAt now history next (leaf q row) zero visits got = visits ≡ []
IsAskedAt now history next (leaf q row) (suc i) visits got = IsAskedAt now history next row i visits got
IsAskedAt now history next (node class inputs row) zero visits got =
    IsBlockOf (λ i block result. IsAskedAt now history (suc next) inputs i block result) now next class (width inputs) (history next) visits got
IsAskedAt now history next (node class inputs row) (suc i) visits got = IsAskedAt now history (suc (next + nodes inputs)) row i visits got

-- the block of node x
abbrev pub IsBlock : Now → History → ℕ → Scheduler → Row → List Visit → Option Packet → Type 0
IsBlock now history x class row visits got = IsBlockOf (IsAskedAt now history (suc x) row) now x class (width row) (history x) visits got

-- Node x, over a row, is being pulled. It has made its own visits, each after what it asked. What is below it holds what it is to hold
-- after those.
pub record IsPulling (now : Now) (history : History) (x : ℕ) (row : Row) (states : List State) (visits own : List Visit) : Type 0 where
  pub made : ℕ → List Visit
  pub whole : visits ≡ with_asked made own
  pub theirs : AllByRecursion (IsVisitAt now x) own
  pub each : AllByRecursion (λ (v : Visit). v.fresh ≡ true → IsAskedAt now history (suc x) row v.input (made v.input) v.got) own
  pub holds : EachHolds states (after history now.moment visits) (suc x) row

-- the pull that nodes are in
abbrev pub now_of : Nodes → Now
now_of n = record { number = n.pull; moment = n.moment }

-- what was logged between two states of nodes
abbrev pub added : Nodes → Nodes → List Visit
added old new = drop (length old.log.items) new.log.items

-- The nodes can be pulled: their tables fit, and the log has room for so many visits more.
pub record CanPull (n : Nodes) (x visits : ℕ) : Type 0 where
  pub wired : AreWired n.inputs.items
  pub fit : AllFit n.inputs.items n.states.items
  pub there : x < length n.inputs.items
  pub room : visits ≤ n.log.spare
  pub moment : n.moment < END_OF_MOMENTS

-- what stays while nodes from `first` on are pulled, and that the log grows, by so many visits at most
pub record Keeps (first : ℕ) (old new : Nodes) (most : ℕ) : Type 0 where
  pub inputs : new.inputs.items ≡ old.inputs.items
  pub pull : new.pull ≡ old.pull
  pub moment : new.moment ≡ old.moment
  pub fit : AllFit old.inputs.items new.states.items
  pub ahead : (y : ℕ) → y < first → slice_get new.states.items y ≡ slice_get old.states.items y
  pub kind : new.log.kind ≡ old.log.kind
  pub grown : new.log.items ≡ old.log.items ++ added old new
  pub at_most : old.log.spare ≤ new.log.spare + most

-- nothing changed outside a node and what is below it
abbrev pub SameOutside : Nodes → Nodes → ℕ → Row → Type 0
SameOutside old new x row = (y : ℕ) → (y < x) ⊎ (suc (x + nodes row) ≤ y) → slice_get new.states.items y ≡ slice_get old.states.items y

-- A node was pulled.
pub record HasPulled (old new : Nodes) (history : History) (x : ℕ) (class : Scheduler) (row : Row) (got : Option Packet) : Type 0 where
  pub block : IsBlock (now_of old) history x class row (added old new) got
  pub holds : NodeHolds new.states.items (after history old.moment (added old new)) x class row
  pub outside : SameOutside old new x row

abbrev pub Pulls : Nodes → Nodes → ℕ → Option Packet → Type 0
Pulls old new x got =
    (class : Scheduler) (row : Row) (history : History) → StandsIn old.inputs.items x row → NodeHolds old.states.items history x class row → ((y : ℕ) → AreBefore old.moment (history y))
    → HasPulled old new history x class row got

-- the states of a node and of those outside it are the same
abbrev pub SameButBelow : Nodes → Nodes → ℕ → Row → Type 0
SameButBelow old new x row = (y : ℕ) → (y ≤ x) ⊎ (suc (x + nodes row) ≤ y) → slice_get new.states.items y ≡ slice_get old.states.items y

-- A node is in its turn: it stands over this row, no history is after this moment, and it has made these visits of its own so far.
pub record IsGoing (n : Nodes) (history : History) (x : ℕ) (row : Row) (visits own : List Visit) : Type 0 where
  pub stands : StandsIn n.inputs.items x row
  pub before : (y : ℕ) → AreBefore n.moment (history y)
  pub pulling : IsPulling (now_of n) history x row n.states.items visits own

-- A node that is being pulled went on by some visits of its own.
pub record GoesOnBy (old new : Nodes) (history : History) (x : ℕ) (row : Row) (visits own more : List Visit) : Type 0 where
  pub pulling : IsPulling (now_of old) history x row new.states.items (visits ++ added old new) (own ++ more)
  pub outside : SameButBelow old new x row

-- none of these visits was to an input
abbrev pub IsUnasked : List Visit → ℕ → Type 0
IsUnasked own i = AllByRecursion (λ (v : Visit). v.input ≢ i) own

-- A node asked an input: it goes on by a visit that asked there and got this, once that is logged.
abbrev pub Asks : Nodes → Nodes → ℕ → ℕ → Option Packet → Type 0
Asks old new x i got =
    (row : Row) (history : History) (visits own : List Visit) → IsGoing old history x row visits own → IsUnasked own i
    → (v : Visit) → IsVisitAt (now_of old) x v → v.input ≡ i → v.fresh ≡ true → v.got ≡ got
    → IsPulling (now_of old) history x row new.states.items (visits ++ (added old new ++ v ∷ [])) (own ++ v ∷ []) × SameButBelow old new x row

-- A node asked some inputs, and made these visits of its own.
abbrev pub AsksAll : Nodes → Nodes → ℕ → List ℕ → List Visit → Type 0
AsksAll old new x order more =
    (row : Row) (history : History) (visits own : List Visit) → IsGoing old history x row visits own → AllByRecursion (IsUnasked own) order → AreApart (λ (i : ℕ). i) order
    → GoesOnBy old new history x row visits own more

-- the visits that ask these inputs in order and get none
abbrev pub asked_in_vain : Now → ℕ → List ℕ → List Visit
asked_in_vain now x order = map (λ i. asking now.number now.moment x i None) order

-- the visits that ask in an order up to the place at which a packet was given, or to the end if none was
abbrev pub asked_in_order : Now → ℕ → List ℕ → Option (ℕ × Packet) → List Visit
asked_in_order now x order None = asked_in_vain now x order
asked_in_order now x order (Some r) = asked_in_vain now x (take r.0 order) ++ asking now.number now.moment x (slice_index order r.0) (Some r.1) ∷ []

-- A scheduler had its turn, but this says nothing of what it holds itself.
pub record HasTurned (old new : Nodes) (history : History) (x : ℕ) (class : Scheduler) (row : Row) (got : Option Packet) : Type 0 where
  pub block : IsBlock (now_of old) history x class row (added old new) got
  pub holds : EachHolds new.states.items (after history old.moment (added old new)) (suc x) row
  pub outside : SameButBelow old new x row

-- What holds of node x and below before its turn.
pub record IsReady (n : Nodes) (history : History) (x : ℕ) (row : Row) : Type 0 where
  pub stands : StandsIn n.inputs.items x row
  pub before : (y : ℕ) → AreBefore n.moment (history y)
  pub holds : EachHolds n.states.items history (suc x) row

-- A scheduler of a class had its turn, and what it holds itself follows.
pub record TurnIsTaken (old new : Nodes) (history : History) (x : ℕ) (class : Scheduler) (row : Row) (now : State) (got : Option Packet) : Type 0 where
  pub turned : HasTurned old new history x class row got
  pub holds : Holds class (width row) (after history old.moment (added old new) x) now

-- The scheduler at a node, if it is of this class, takes its turn by one state and holds another after it.
abbrev pub TakesTurn : Nodes → Nodes → ℕ → Scheduler → State → State → Option Packet → Type 0
TakesTurn old new x class before now got =
    (row : Row) (history : History) → IsReady old history x row → Holds class (width row) (history x) before → TurnIsTaken old new history x class row now got
