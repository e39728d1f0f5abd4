-- How the tables of a session stand to its tree and its log.
use Rattle.std.specs.Prelude.{◌≡◌, List, [], ◌∷◌, length, reverse, suc}
use Rattle.clk_sched.specs.declared.visit.Visit.{Visit}
use Rattle.clk_sched.specs.declared.session.nodes.Nodes.{Nodes}
use Rattle.clk_packet.specs.Scheduler.{prio}
use Rattle.clk_sched.specs.Tree.{Tree, root, nodes}
use Rattle.clk_sched.specs.Log.{visits_of, pulls, moment_of}
use Rattle.clk_sched.specs.Run.{IsRun}
use Rattle.clk_sched.specs.inside.Places.{StandsIn, AreWired, AllFit}
use Rattle.clk_sched.specs.inside.Pulling.{History, NodeHolds, with_turn}
use Rattle.clk_sched.specs.Session.{latest_moment}

-- the turns of each node in some pulls, the latest first, without those in which it made no visits
abbrev pub history_of : List (List Visit) → History
history_of [] x = []
history_of (pull ∷ earlier) x = with_turn (moment_of pull) (visits_of x pull) (history_of earlier x)

-- A tree is laid out in tables: the device is node 0, as a PrioSched over one input. Nothing has happened yet.
pub record IsLaidOut (tree : Tree) (n : Nodes) : Type 0 where
  pub stands : StandsIn n.inputs.items 0 (root tree)
  pub wired : AreWired n.inputs.items
  pub fit : AllFit n.inputs.items n.states.items
  pub size : length n.inputs.items ≡ suc (nodes (root tree))
  pub holds : NodeHolds n.states.items (λ x. []) 0 prio (root tree)
  pub log : n.log.items ≡ []
  pub pull : n.pull ≡ 0
  pub moment : n.moment ≡ 0

-- The nodes are those of a tree after the pulls of a run.
pub record IsAfterRun (tree : Tree) (n : Nodes) : Type 0 where
  pub stands : StandsIn n.inputs.items 0 (root tree)
  pub wired : AreWired n.inputs.items
  pub fit : AllFit n.inputs.items n.states.items
  pub size : length n.inputs.items ≡ suc (nodes (root tree))
  pub run : IsRun tree n.log.items
  pub holds : NodeHolds n.states.items (history_of (reverse (pulls n.log.items))) 0 prio (root tree)
  pub pull : n.pull ≡ length (pulls n.log.items)
  pub moment : n.moment ≡ latest_moment (reverse (pulls n.log.items))
