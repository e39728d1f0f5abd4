-- Lines: the shared queues of a tree, whose seats are all closed.
use Rattle.std.specs.Prelude.{◌≡◌, ℕ, ◌==◌, Bool, true, List, [], ◌∷◌, ◌++◌, map, Option, Some, None, if◌then◌else◌}
use Rattle.std.specs.List.{flat_map, AllByRecursion}
use Rattle.clk_packet.specs.declared.packet.Packet.{Packet}
use Rattle.clk_ruled.specs.declared.view.QueueSetup.{QueueSetup}
use Rattle.clk_ruled.specs.Queue.{SeatLists, TapLists, ClosedLists}
use Rattle.clk_ruled.specs.Settle.{lists_of}
use Rattle.clk_packet.specs.Lists.{stands_in, are_distinct, AreRising}
use Rattle.clk_sched.specs.Tree.{root, leaves}
use Rattle.clk_sched.specs.Results.{leaf_packets}
use Rattle.clk_sched.specs.Session.{Progress}

-- A line: the leaf of its queue, the queue's tap, and all of its seats, closed, in order.
pub record LineLists : Type 0 where
  pub leaf : ℕ
  pub tap : TapLists
  pub closed : List ClosedLists

-- the leaves of lines
abbrev pub leaves_of : List LineLists → List ℕ
leaves_of lines = map (λ (l : LineLists). l.leaf) lines

-- the seats of a line
abbrev pub seats_of : LineLists → List SeatLists
seats_of l = lists_of l.closed

-- the seats of all lines
abbrev pub seats_in : List LineLists → List SeatLists
seats_in lines = flat_map seats_of lines

-- the senders of some seats
abbrev pub senders_at : List SeatLists → List ℕ
senders_at seats = map (λ (l : SeatLists). l.sender) seats

-- the tap after it pulled these packets too
abbrev pub taking_all : TapLists → List Packet → TapLists
taking_all t more = record { id = t.id; setup = t.setup; keeps = t.keeps; taken = t.taken ++ more; gathered = t.gathered }

-- the line after its tap pulled these packets too
abbrev pub pulling : LineLists → List Packet → LineLists
pulling l more = record { leaf = l.leaf; tap = taking_all l.tap more; closed = l.closed }

-- the lines after each tap pulled what its leaf gave
abbrev pub pulling_all : (ℕ → List Packet) → List LineLists → List LineLists
pulling_all gave lines = map (λ l. pulling l (gave l.leaf)) lines

-- the packets that one pull of a leaf gave: one, or none
abbrev pub packets_of : Option Packet → List Packet
packets_of None = []
packets_of (Some p) = p ∷ []

-- the packets that each leaf gave by one pull of one leaf
abbrev pub answered : ℕ → Option Packet → ℕ → List Packet
answered leaf got q = if leaf == q then packets_of got else []

-- A pull of a leaf gave this. The tap of the leaf's line took it, and no other tap changed.
abbrev pub PullsAt : List LineLists → ℕ → Option Packet → List LineLists → Type 0
PullsAt old leaf got new = new ≡ pulling_all (answered leaf got) old

-- whether a leaf has a line
abbrev pub has_line : List LineLists → ℕ → Bool
has_line lines leaf = stands_in leaf (leaves_of lines)

-- the part of a line that stays, whatever its tap gathers and pulls
pub record Lasting : Type 0 where
  pub leaf : ℕ
  pub setup : QueueSetup
  pub seats : List SeatLists

-- the part of this line that stays, whatever its tap gathers and pulls
abbrev pub lasting_of : LineLists → Lasting
lasting_of l = record { leaf = l.leaf; setup = l.tap.setup; seats = seats_of l }

-- These lines differ at most in what their taps gathered and pulled.
abbrev pub AreStill : List LineLists → List LineLists → Type 0
AreStill old new = map lasting_of new ≡ map lasting_of old

-- These lines are those of a session, which was pulled over no others.
pub record AreLinesOf (session : Progress) (lines : List LineLists) : Type 0 where
  -- the lines stand by rising leaf
  pub rise : AreRising (leaves_of lines)
  -- each queue of the session's tree has a line, and there are no others
  pub leaves : (q : ℕ) → stands_in q (leaves_of lines) ≡ stands_in q (leaves (root session.tree))
  -- each tap took what the log has from its leaf
  pub taken : AllByRecursion (λ (l : LineLists). l.tap.taken ≡ leaf_packets session.tree l.leaf session.log) lines

-- No sender has a seat on two lines, nor two on one.
abbrev pub HaveOwnSenders : List LineLists → Type 0
HaveOwnSenders lines = are_distinct (senders_at (seats_in lines)) ≡ true
