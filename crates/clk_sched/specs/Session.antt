-- What contracts see of a session, and what a pull and a drain do to it.
use Rattle.std.specs.Prelude.{◌≡◌, ℕ, ◌+◌, true, List, [], ◌∷◌, ◌++◌, length, drop, map, reverse, suc, max, is_some, Option, ⊤}
use Rattle.std.specs.List.{flat_map, filter_map, range_with_len}
use Rattle.clk_packet.specs.declared.packet.Packet.{Packet}
use Rattle.clk_sched.specs.declared.visit.Visit.{Visit}
use Rattle.clk_sched.specs.declared.session.keeps.Keeps.{Keeps}
use Rattle.clk_sched.specs.Tree.{Row, end, leaf, node, Tree}
use Rattle.clk_sched.specs.Log.{visits_of, pulls, moment_of, result_of}
use Rattle.clk_sched.specs.Run.{IsRun}

-- how many queues and schedulers stand in a row
abbrev pub elements : Row → ℕ
elements end = 0
elements (leaf q row) = suc (elements row)
elements (node class inputs row) = suc (elements inputs + elements row)

-- the counted moment after some pulls, which are given with the latest first
abbrev pub latest_moment : List (List Visit) → ℕ
latest_moment [] = 0
latest_moment (pull ∷ earlier) = moment_of pull

-- the visits of the latest of some pulls, which are given with the latest first
abbrev pub latest_of : List (List Visit) → List Visit
latest_of [] = []
latest_of (pull ∷ earlier) = pull

-- the visits of the latest pull of a log
abbrev pub latest_pull : List Visit → List Visit
latest_pull log = latest_of (reverse (pulls log))

-- the tree of a session, and the log of its pulls, which is a run of the tree
pub record Progress : Type 0 where
  pub tree : Tree
  pub log : List Visit

-- what contracts see of a session: its tree, the log of its pulls, what is kept of the past, and how many visits were dropped
pub record SessionLists : Type 0 where
  pub tree : Tree
  pub log : List Visit
  pub keeps : Keeps
  pub gone : ℕ

-- the tree and the log of a session
abbrev pub progress_of : SessionLists → Progress
progress_of s = record { tree = s.tree; log = s.log }

-- how many pulls were made
abbrev pub pulls_made : Progress → ℕ
pulls_made s = length (pulls s.log)

-- the counted moment of a session: that of its latest pull, and 0 before the first
abbrev pub counted_moment : Progress → ℕ
counted_moment s = latest_moment (reverse (pulls s.log))

-- the visits that were logged between two states of a session
abbrev pub newly : Progress → Progress → List Visit
newly old new = drop (length old.log) new.log

-- A session was pulled once, at a moment that was handed in, with this result: the log is a run with one pull more.
pub record IsPulledOnce (old new : Progress) (moment : ℕ) (got : Option Packet) : Type 0 where
  pub tree : new.tree ≡ old.tree
  pub log : new.log ≡ old.log ++ newly old new
  pub last : pulls new.log ≡ pulls old.log ++ newly old new ∷ []
  pub run : IsRun new.tree new.log
  pub at_moment : moment_of (newly old new) ≡ max (counted_moment old) moment
  pub result : got ≡ result_of (visits_of 0 (newly old new))

-- the packets that some pulls emitted
abbrev pub given_in : List (List Visit) → List Packet
given_in more = filter_map (λ pull. result_of (visits_of 0 pull)) more

-- A session was pulled `made` times, one tick apart, the first time one tick after a moment, and emitted `given` packets.
pub record IsDrained (old new : Progress) (moment made given : ℕ) : Type 0 where
  pub more : List (List Visit)
  pub tree : new.tree ≡ old.tree
  pub log : new.log ≡ old.log ++ flat_map (λ pull. pull) more
  pub pulls_are : pulls new.log ≡ pulls old.log ++ more
  pub run : IsRun new.tree new.log
  pub made_are : length more ≡ made
  pub moments : map moment_of more ≡ range_with_len (moment + 1) made
  pub given_are : length (given_in more) ≡ given

-- if there are pulls, the last one emitted a packet
abbrev pub LastGives : List (List Visit) → Type 0
LastGives [] = ⊤
LastGives (pull ∷ []) = is_some (result_of (visits_of 0 pull)) ≡ true
LastGives (pull ∷ next ∷ more) = LastGives (next ∷ more)
