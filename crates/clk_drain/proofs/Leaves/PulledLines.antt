-- The lines of a session that is pulled over them.
use Rattle.std.proofs.Common.{◌≡◌, ℕ, List, ◌++◌, max, [], ◌∷◌, Option, Result, Ok, Err, IfOk, OnOk, OnErr, rules}
use Rattle.std.proofs.Math.Seq.{drop-append_seam}
use Rattle.clk_packet.specs.declared.packet.Packet.{Packet}
use Rattle.clk_packet.specs.declared.fault.Fault.{Fault}
use Rattle.clk_sched.specs.declared.visit.Visit.{Visit}
use Rattle.clk_sched.specs.Tree.{Tree}
use Rattle.clk_sched.specs.Answers.{Answers, tree_queue}
use Rattle.clk_sched.specs.Results.{leaf_packets}
use Rattle.clk_sched.specs.Session.{Progress, newly, counted_moment, IsPulledOnce, IsDrained}
use Rattle.clk_sched.specs.Drain.{GivesAll}
use Rattle.clk_drain.specs.Line.{LineLists, PullsAt, pulling_all, AreLinesOf, AreStill}
use Rattle.clk_drain.specs.inside.Parts.{IsDrainOf}
use Rattle.clk_drain.proofs.Leaves.Growing.{grown, lines-grown}
use Rattle.clk_drain.proofs.Leaves.Still.{pulled-still}

-- A session's log goes on by some visits, which its lines answered: they are its own still.
pub lines-go-on : (old new : Progress) (more : List Visit) (before after : List LineLists) → new.tree ≡ old.tree → new.log ≡ old.log ++ more → Answers PullsAt (tree_queue old.tree) before more after → AreLinesOf old before → AreLinesOf new after
lines-go-on old new more before after tree log answers h = search (rules, (grown old.tree before more after answers), (lines-grown old.tree old.log more before h))

pub lines-pulled : (old new : Progress) (before after : List LineLists) (moment : ℕ) (result : Result (Option Packet) Fault) → IfOk result (IsPulledOnce old new moment) → OnOk result (Answers PullsAt (tree_queue old.tree) before (newly old new) after)
    → OnErr result (new ≡ old) → OnErr result (after ≡ before) → AreLinesOf old before → AreLinesOf new after
lines-pulled old new before after moment (Ok got) pulled answers same still h = search (rules, lines-go-on)
lines-pulled old new before after moment (Err fault) pulled answers same still h = search rules

-- Lines that were pulled stay what they are.
still-answered : (tree : Tree) (before : List LineLists) (more : List Visit) (after : List LineLists) → Answers PullsAt (tree_queue tree) before more after → AreStill before after
still-answered tree before more after answers = search (rules, grown, pulled-still)

pub lines-stay : (tree : Tree) (before : List LineLists) (more : List Visit) (after : List LineLists) (result : Result (Option Packet) Fault) → OnOk result (Answers PullsAt (tree_queue tree) before more after) → OnErr result (after ≡ before) → AreStill before after
lines-stay tree before more after result answers same = search (rules, still-answered)

-- What was answered so was also answered in a way that says less.
pub answers-weaker : {S : Type 0} (gives less : S → ℕ → Option Packet → S → Type 0) → ((a : S) (q : ℕ) (got : Option Packet) (b : S) → gives a q got b → less a q got b) → (asked : Visit → Option ℕ) (visits : List Visit) (a b : S) → Answers gives asked a visits b
    → Answers less asked a visits b
answers-weaker gives less weaker asked [] a b h = h
answers-weaker {S = S} gives less weaker asked (v ∷ visits) a b h = search (rules, (answers-weaker gives less weaker asked visits))

-- A drain's visits are what its log goes on by.
log-goes-on : (old new : Progress) (moment made given : ℕ) → IsDrained old new moment made given → new.log ≡ old.log ++ newly old new
log-goes-on old new moment made given h = search (rules, drop-append_seam)

-- `pulled` is what was pulled from, and `left` what it became.
pub lines-drained : (old new : Progress) (lines pulled left after : List LineLists) (moment made packets : ℕ) → GivesAll old new (max (counted_moment old) moment) made packets → pulled ≡ lines → Answers PullsAt (tree_queue old.tree) pulled (newly old new) left
    → after ≡ left → AreLinesOf old lines → IsDrainOf old lines moment packets new after
lines-drained old new lines pulled left after moment made packets gives from answers to h =
    let answered : Answers PullsAt (tree_queue old.tree) lines (newly old new) after = search rules in
    search (rules, log-goes-on, still-answered, lines-go-on)

-- What a pull took of each line.
pub lines-taken : (tree : Tree) (before : List LineLists) (more : List Visit) (after : List LineLists) (result : Result (Option Packet) Fault) → OnOk result (Answers PullsAt (tree_queue tree) before more after) → OnOk result (after ≡ pulling_all (λ q. leaf_packets tree q more) before)
lines-taken tree before more after result answers = search (rules, grown)
