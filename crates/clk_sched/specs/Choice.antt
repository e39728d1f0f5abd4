-- What a run leaves to choose: nothing but what each queue gives, and the moments.
use Rattle.std.specs.Prelude.{◌≡◌, ℕ, List, ◌∷◌, ◌++◌, map, filter, Option}
use Rattle.clk_packet.specs.declared.packet.Packet.{Packet}
use Rattle.clk_sched.specs.declared.visit.Visit.{Visit}
use Rattle.clk_sched.specs.Tree.{Tree}
use Rattle.clk_sched.specs.Log.{pulls, moment_of}
use Rattle.clk_sched.specs.Run.{IsRun}
use Rattle.clk_sched.specs.Results.{asks_queue}

-- what a queue gave at each visit that asked it, in order
abbrev pub answers_of : Tree → ℕ → List Visit → List (Option Packet)
answers_of tree q log = map (λ (v : Visit). v.got) (filter (asks_queue tree q) log)

-- Two lists are the same as far as the shorter one goes: with some list put after each, they are the same.
pub record GoAlike {X : Type 0} (xs ys : List X) : Type 0 where
  pub left : List X
  pub right : List X
  pub same : xs ++ left ≡ ys ++ right

-- Two runs of a tree are the same log if their pulls have the same moments and each queue gave the same, as far as it was asked in both.
abbrev pub LeavesNoChoice : Tree → Type 0
LeavesNoChoice tree =
    (a b : List Visit) → IsRun tree a → IsRun tree b → map moment_of (pulls a) ≡ map moment_of (pulls b)
    → ((q : ℕ) → GoAlike (answers_of tree q a) (answers_of tree q b)) → a ≡ b

-- Two pulls of runs, after the same earlier pulls, are the same if they have one moment and each queue gave the same, as far as it was
-- asked in both.
abbrev pub PullsLeaveNoChoice : Tree → Type 0
PullsLeaveNoChoice tree =
    (a b : List Visit) (earlier : List (List Visit)) (p q : List Visit) (more rest : List (List Visit)) → IsRun tree a → IsRun tree b → pulls a ≡ earlier ++ p ∷ more → pulls b ≡ earlier ++ q ∷ rest
    → moment_of p ≡ moment_of q → ((n : ℕ) → GoAlike (answers_of tree n p) (answers_of tree n q)) → p ≡ q
