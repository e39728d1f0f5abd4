-- The parts of a live router when it is opened.
use Rattle.std.specs.Prelude.{◌≡◌, ℕ, ◌+◌, List, [], length, Some, slice_get}
use Rattle.circular_buffer.specs.Buffer.{Buffer}
use Rattle.clk_tree.specs.PlanParts.{Queued}

-- The buffer of each queue is empty. It has room for a token for each packet that the queue may hold, and for each DRRSched above the
-- queue.
pub record AreRoomy (queues : List Queued) (counts : List ℕ) (n : ℕ) (buffers : List (Buffer ℕ)) : Type 0 where
  pub many : length buffers ≡ n
  pub each : (q : ℕ) (queue : Queued) (count : ℕ) (b : Buffer ℕ) → slice_get queues q ≡ Some queue → slice_get counts q ≡ Some count → slice_get buffers q ≡ Some b → (b.items ≡ []) × (b.capacity ≡ queue.capacity + count)
