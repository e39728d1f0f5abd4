-- The tokens of a Shaper, whose bucket stands in its place.
use Rattle.std.specs.Prelude.{◌≡◌, ℕ, zero, suc, ◌+◌, ◌-◌, ◌<◌, ◌≤◌, Bool, true, List, Option, Some, MatchBool, MatchOption, slice_get}
use Rattle.clk_packet.specs.declared.packet.Packet.{Packet}
use Rattle.clk_sched.specs.declared.session.inputs.Input.TheVariants.{Node}
use Rattle.clk_sched.specs.declared.session.inputs.Inputs.{Inputs}
use Rattle.clk_sched.specs.declared.session.state.State.TheVariants.{Shaper}
use Rattle.clk_sched.specs.declared.session.shaper.Bucket.{Bucket}
use Rattle.clk_sched.specs.declared.session.nodes.Nodes.{Nodes}
use Rattle.clk_sched.specs.inside.Holds.Shaper.{IsTaken, Tells, IsGivenBack}
use Rattle.clk_sched.specs.Log.{asking}
use Rattle.clk_sched.specs.inside.Looking.{Logs}
use Rattle.clk_sched.specs.inside.Places.{AllFit, edges_of, input_at}
use Rattle.clk_sched.specs.inside.Pulling.{CanPull}
use Rattle.clk_sched.specs.inside.Turning.{with_state}

-- A token was taken out of the bucket of a node, if there was one.
pub record TakesToken (old new : Nodes) (x : ℕ) (token : Bool) : Type 0 where
  pub bucket : Bucket
  pub left : Bucket
  pub held : slice_get old.states.items x ≡ Some (Shaper bucket)
  pub is : new ≡ with_state old x (Shaper left)
  pub tells : Tells bucket old.moment token
  pub taken : MatchBool token (IsTaken bucket left old.moment) (left ≡ bucket)

-- The token was given back to the bucket of a node, if it has one.
pub record GivesBack (old new : Nodes) (x : ℕ) : Type 0 where
  pub inputs : new.inputs ≡ old.inputs
  pub log : new.log ≡ old.log
  pub pull : new.pull ≡ old.pull
  pub moment : new.moment ≡ old.moment
  pub fits : (table : List Inputs) → AllFit table old.states.items → AllFit table new.states.items
  pub ahead : (y : ℕ) → y < x → slice_get new.states.items y ≡ slice_get old.states.items y
  pub given : (bucket : Bucket) → slice_get old.states.items x ≡ Some (Shaper bucket) → (left : Bucket) × (new ≡ with_state old x (Shaper left)) × IsGivenBack bucket left

-- What a Shaper got was recorded, and its token was given back if it got nothing.
pub record AnswersAt (old new : Nodes) (x : ℕ) (got : Option Packet) : Type 0 where
  pub logged : Nodes
  pub logs : Logs old logged (asking old.pull old.moment x 0 got)
  pub back : MatchOption got (GivesBack logged new x) (λ packet. new ≡ logged)

-- `AnswersAt` holds of so many Shapers, from the one before `last` to lower numbers.
abbrev pub AnswersUp : Nodes → Nodes → ℕ → ℕ → Option Packet → Type 0
AnswersUp old new last zero got = new ≡ old
AnswersUp old new last (suc k) got = (m : Nodes) × AnswersUp old m last k got × AnswersAt m new (last - suc k) got

-- Node y is the first of a row of Shapers, which is x, or stands at the input of the node before it.
abbrev pub IsBelow : List Inputs → ℕ → ℕ → Type 0
IsBelow table x y = (above : ℕ) → y ≡ suc above → x ≤ above → input_at table above 0 ≡ Some (Node y)

-- A node that could be pulled spent a token.
pub record SpendsAt (old new : Nodes) (x : ℕ) : Type 0 where
  pub can : CanPull old x (edges_of old.inputs.items x)
  pub takes : TakesToken old new x true

-- So many Shapers spent a token each, of which the first is node x, and each other stands at the input of the one before it.
abbrev pub TakesDown : Nodes → Nodes → ℕ → ℕ → Type 0
TakesDown old new x zero = old ≡ new
TakesDown old new x (suc k) = (m : Nodes) × TakesDown old m x k × IsBelow m.inputs.items x (x + k) × SpendsAt m new (x + k)

-- In a row of Shapers from node x to the last that was tried, all before it spent a token, and it did so or had none.
pub record GoesDown (old new : Nodes) (x last : ℕ) (token : Bool) : Type 0 where
  pub mid : Nodes
  pub count : ℕ
  pub last_is : last ≡ x + count
  pub takes : TakesDown old mid x count
  pub below : IsBelow mid.inputs.items x last
  pub can : CanPull mid last (edges_of mid.inputs.items last)
  pub spent : TakesToken mid new last token
