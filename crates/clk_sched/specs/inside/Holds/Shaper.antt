-- What a Shaper's bucket tells of the turns before it.
use Rattle.std.specs.Prelude.{◌≡◌, ℕ, ◌+◌, ◌-◌, ◌*◌, ◌≤◌, min, nat_le, Bool, List, [], ◌∷◌, None}
use Rattle.std.specs.List.{AllByRecursion}
use Rattle.clk_sched.specs.declared.session.shaper.Bucket.{Bucket}
use Rattle.clk_sched.specs.Turns.{Turn, giver}
use Rattle.clk_sched.specs.Laws.Shaper.{packets_passed, keeps_since_each}

-- whether a Shaper has room for one more packet at this moment, after all earlier turns
abbrev pub has_room : (rate burst moment : ℕ) → List Turn → Bool
has_room rate burst moment earlier = keeps_since_each rate burst moment [] earlier

-- none of these turns was after a moment
abbrev pub AreBefore : ℕ → List Turn → Type 0
AreBefore moment turns = AllByRecursion (λ (t : Turn). t.moment ≤ moment) turns

-- the tokens of a bucket at a moment
abbrev pub tokens_at : Bucket → ℕ → ℕ
tokens_at b moment = min (b.tokens + b.rate * (moment - b.filled)) b.burst

-- One token was taken from a bucket at a moment.
pub record IsTaken (old new : Bucket) (moment : ℕ) : Type 0 where
  pub rate_is : new.rate ≡ old.rate
  pub burst_is : new.burst ≡ old.burst
  pub filled_is : new.filled ≡ moment
  pub tokens_is : new.tokens + 1 ≡ tokens_at old moment

-- What a Shaper's bucket holds after these turns, the latest first. From its last filling on it tells whether there is room, also for more
-- packets that are passed at that moment.
pub record HoldsBucket (rate burst : ℕ) (turns : List Turn) (b : Bucket) : Type 0 where
  pub rate_is : b.rate ≡ rate
  pub burst_is : b.burst ≡ burst
  pub filled : (moment : ℕ) → AreBefore moment turns → b.filled ≤ moment
  pub room : (moment : ℕ) (later : List Turn) → b.filled ≤ moment → packets_passed later + 1 ≤ burst + rate * (moment - b.filled)
      → keeps_since_each rate burst moment later turns ≡ nat_le (packets_passed later + 1) (b.tokens + rate * (moment - b.filled))

-- There is a token at a moment exactly if there is room for a packet.
abbrev pub Tells : Bucket → ℕ → Bool → Type 0
Tells b moment token = (rate burst : ℕ) (turns : List Turn) → HoldsBucket rate burst turns b → AreBefore moment turns → token ≡ has_room rate burst moment turns

-- A token was given back that was taken in a turn which passed nothing.
abbrev pub IsGivenBack : Bucket → Bucket → Type 0
IsGivenBack old new =
    (before : Bucket) (rate burst : ℕ) (turns : List Turn) (t : Turn) → IsTaken before old t.moment → HoldsBucket rate burst turns before → AreBefore t.moment turns → giver t.visits ≡ None
    → HoldsBucket rate burst (t ∷ turns) new
