-- How far what threads gave back is joined, piece by piece.
use Rattle.std.proofs.Common.{◌≡◌, List, ◌++◌, Vec}
use Rattle.std.specs.declared.alloc.Global.{Global}
use Rattle.clk_ruled.specs.Queue.{TapLists, ClosedLists}
use Rattle.clk_drain.specs.declared.running.opening.LeafQueue.{LeafQueue}
use Rattle.clk_drain.specs.Line.{LineLists}
use Rattle.clk_drain.specs.inside.Threads.{EndLists, Feed}
use Rattle.clk_drain.specs.inside.Handed.{joined_lines, AreJoinable, joined_feeds, AreAllJoinable}

-- Some of the lines are joined, and the others are to come.
pub record AreJoining (all lines : List LineLists) (queues : List LeafQueue) (taps : List TapLists) (closed : List (Vec ClosedLists Global)) : Type 0 where
  pub joinable : AreJoinable queues taps closed
  pub lines_are : lines ++ joined_lines queues taps closed ≡ all

-- Some of the devices are joined, and the others are to come.
pub record AreJoiningDevices (all feeds : List Feed) (queues : List (Vec LeafQueue Global)) (ends : List EndLists) (closed : List (Vec (Vec ClosedLists Global) Global)) : Type 0 where
  pub joinable : AreAllJoinable queues ends closed
  pub feeds_are : feeds ++ joined_feeds queues ends closed ≡ all
