-- What calls tell of a router.
use Rattle.std.specs.Prelude.{◌≡◌, ℕ, ◌+◌, ◌<◌, ◌≤◌, List, ◌++◌, length, drop, Option, Some, None, slice_get}
use Rattle.clk_tree.specs.declared.plan.parts.SenderSpec.{SenderSpec}
use Rattle.clk_router.specs.Accounts.{account_after}
use Rattle.clk_router.specs.declared.queue_state.QueueState.{QueueState}
use Rattle.clk_router.specs.Course.{Course, moment_at, accepted_at, evicted_at, emitted_at, IsQueueState}
use Rattle.clk_router.specs.Due.{IsDeviceDue, EmitsNoneBefore}
use Rattle.clickpull_c.specs.declared.values.CAccount.{CAccount}
use Rattle.clickpull_c.specs.declared.values.CQueue.{CQueue}
use Rattle.clickpull_c.specs.declared.statuses.TheConstants.{OK, NONE, FULL}
use Rattle.clickpull_c.specs.Counts.{device_count}
use Rattle.clickpull_c.specs.Values.{account_in_c, queue_in_c}

-- the latest moment of a device was filled in
pub record TellsMoment (c : Course) (device filled status : ℕ) : Type 0 where
  pub answers : status ≡ OK
  pub there : device < device_count c
  pub filled_is : filled ≡ moment_at c device

-- how many packets are left for a device was filled in
pub record TellsLeft (c : Course) (device filled status : ℕ) : Type 0 where
  pub answers : status ≡ OK
  pub there : device < device_count c
  pub filled_is : accepted_at c device ≡ evicted_at c device + emitted_at c device + filled

-- what a call fills in and returns for this due moment: nothing and NONE, if there is none
abbrev pub FillsDue : (before filled status : ℕ) → Option ℕ → Type 0
FillsDue before filled status None = (status ≡ NONE) × (filled ≡ before)
FillsDue before filled status (Some moment) = (status ≡ OK) × (filled ≡ moment)

-- the earliest moment at which a device could emit a packet was filled in, if a packet is left for it
pub record TellsDue (c : Course) (device before filled status : ℕ) : Type 0 where
  pub there : device < device_count c
  pub due : Option ℕ
  pub is : IsDeviceDue c device due
  pub before_is : EmitsNoneBefore c device due
  pub fills : FillsDue before filled status due

-- the totals of the packets of the sender at a place were filled in
pub record TellsAccount (c : Course) (place : ℕ) (filled : CAccount) (status : ℕ) : Type 0 where
  pub answers : status ≡ OK
  pub sender : SenderSpec
  pub is : slice_get c.setup.senders place ≡ Some sender
  pub filled_is : filled ≡ account_in_c (account_after c.events sender)

-- A name stands at the front of a buffer, whose other bytes are unchanged; or the buffer is too short, and is unchanged.
pub data Names (name before filled : List ℕ) (status : ℕ) : Type 0 where
  whole : status ≡ OK → length name ≤ length before → filled ≡ name ++ drop (length name) before → Names name before filled status
  full : status ≡ FULL → length before < length name → filled ≡ before → Names name before filled status

-- the name of the sender at a place was put into a buffer that has room for it, and its length was filled in
pub record TellsName (c : Course) (place : ℕ) (before filled : List ℕ) (needed status : ℕ) : Type 0 where
  pub name : List ℕ
  pub is : slice_get c.setup.names place ≡ Some name
  pub needed_is : needed ≡ length name
  pub names : Names name before filled status

-- the state of a queue was filled in
pub record TellsQueue (c : Course) (number : ℕ) (filled : CQueue) (status : ℕ) : Type 0 where
  pub answers : status ≡ OK
  pub queue : QueueState
  pub is : IsQueueState c number queue
  pub filled_is : filled ≡ queue_in_c queue
