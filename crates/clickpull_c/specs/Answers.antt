-- When calls are refused, and what they return then. The contract of a call that is refused says that nothing changed: neither the router
-- nor what was to be filled in, except a count, which is 0.
use Rattle.std.specs.Prelude.{◌≡◌, ℕ, ◌<◌, ◌≤◌, Some, None, slice_get}
use Rattle.clk_packet.specs.declared.limits.TheConstants.{MAX_LENGTH}
use Rattle.clk_router.specs.Course.{Course, sender_at, CanOffer, CanPull}
use Rattle.clickpull_c.specs.Counts.{device_count, sender_count, queue_count}
use Rattle.clickpull_c.specs.declared.statuses.TheConstants.{UNKNOWN_SENDER, UNKNOWN_DEVICE, UNKNOWN_QUEUE, BAD_LENGTH, AT_END}

-- a packet has 1 to 65,535 bytes
abbrev pub IsLength : ℕ → Type 0
IsLength length = (1 ≤ length) × (length ≤ MAX_LENGTH)

-- no sender has this number
abbrev pub IsUnknown : Course → ℕ → Type 0
IsUnknown c sender = (place : ℕ) → sender_at c.setup place ≡ Some sender → ⊥

-- a sender has this number, and can't offer another packet
pub record HasEnded (c : Course) (sender : ℕ) : Type 0 where
  pub place : ℕ
  pub is_at : sender_at c.setup place ≡ Some sender
  pub ended : CanOffer c place → ⊥

-- An offer is refused: its length is out of range; or else its sender is unknown; or else its sender can't offer another packet.
pub data RefusesOffer (c : Course) (sender length status : ℕ) : Type 0 where
  bad_length : status ≡ BAD_LENGTH → (IsLength length → ⊥) → RefusesOffer c sender length status
  unknown_sender : status ≡ UNKNOWN_SENDER → IsLength length → IsUnknown c sender → RefusesOffer c sender length status
  at_end : status ≡ AT_END → IsLength length → HasEnded c sender → RefusesOffer c sender length status

-- A pull is refused: the device is unknown; or else it can't be pulled at this moment.
pub data RefusesPull (c : Course) (device moment status : ℕ) : Type 0 where
  unknown_device : status ≡ UNKNOWN_DEVICE → device_count c ≤ device → RefusesPull c device moment status
  at_end : status ≡ AT_END → device < device_count c → (CanPull c device moment → ⊥) → RefusesPull c device moment status

-- A call is refused, since there is no such device.
pub record HasNoDevice (c : Course) (device status : ℕ) : Type 0 where
  pub answers : status ≡ UNKNOWN_DEVICE
  pub missing : device_count c ≤ device

-- A call is refused, since there is no sender at this place.
pub record HasNoPlace (c : Course) (place status : ℕ) : Type 0 where
  pub answers : status ≡ UNKNOWN_SENDER
  pub missing : sender_count c ≤ place

-- A call is refused, since no sender at this place has a name.
pub record HasNoName (c : Course) (place status : ℕ) : Type 0 where
  pub answers : status ≡ UNKNOWN_SENDER
  pub missing : slice_get c.setup.names place ≡ None

-- A call is refused, since there is no such queue.
pub record HasNoQueue (c : Course) (number status : ℕ) : Type 0 where
  pub answers : status ≡ UNKNOWN_QUEUE
  pub missing : queue_count c ≤ number
