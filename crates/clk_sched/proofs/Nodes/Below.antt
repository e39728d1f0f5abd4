-- What the nodes at an input of a row hold, and what they may have done.
use Rattle.std.proofs.Common.{◌≡◌, ℕ, zero, suc, ◌+◌, ◌<◌, ◌≤◌, Bool, true, false, List, [], Option, Some, None, is_some, MatchOption, slice_get, refl, sym, ap, subst, arith, rules}
use Rattle.std.specs.Bool.{⊤}
use Rattle.std.proofs.lemmas.Bool.{false≢true}
use Rattle.clk_packet.specs.declared.packet.Packet.{Packet}
use Rattle.clk_sched.specs.declared.visit.Visit.{Visit}
use Rattle.clk_sched.specs.declared.session.inputs.Input.{Input}
use Rattle.clk_sched.specs.declared.session.inputs.Input.TheVariants.{Queue, Node}
use Rattle.clk_sched.specs.declared.session.inputs.Inputs.{Inputs}
use Rattle.clk_sched.specs.declared.session.state.State.{State}
use Rattle.clk_packet.specs.Scheduler.{Scheduler}
use Rattle.clk_sched.specs.Tree.{Row, end, leaf, node, nodes, width}
use Rattle.clk_sched.specs.inside.Holds.OfClass.{Holds}
use Rattle.clk_sched.specs.inside.Places.{inputs_of, EachHasInputs, StandsIn}
use Rattle.clk_sched.specs.inside.Pulling.{Now, History, EachHolds, NodeHolds, IsBlock, IsAskedAt}
use Rattle.clk_sched.proofs.Trees.Below.{LiesAt, lies-within}

-- what stands at an input of a row holds what its history says
abbrev pub HoldsAt : List State → History → ℕ → Row → ℕ → Type 0
HoldsAt states history next end i = ⊤
HoldsAt states history next (leaf q row) zero = ⊤
HoldsAt states history next (leaf q row) (suc i) = HoldsAt states history next row i
HoldsAt states history next (node class inputs row) zero = MatchOption (slice_get states next) ⊥ (Holds class (width inputs) (history next)) × EachHolds states history (suc next) inputs
HoldsAt states history next (node class inputs row) (suc i) = HoldsAt states history (suc (next + nodes inputs)) row i

-- two tables and histories are alike at a node
pub record AreAlike (states more : List State) (history later : History) (y : ℕ) : Type 0 where
  pub state : slice_get more y ≡ slice_get states y
  pub turns : later y ≡ history y

holds-here : (states more : List State) (history later : History) (next : ℕ) (class : Scheduler) (inputs : ℕ) → AreAlike states more history later next
    → MatchOption (slice_get states next) ⊥ (Holds class inputs (history next)) → MatchOption (slice_get more next) ⊥ (Holds class inputs (later next))
holds-here states more history later next class inputs same h = search rules

pub holds-same : (states more : List State) (history later : History) (next : ℕ) (row : Row) → ((y : ℕ) → next ≤ y → y < next + nodes row → AreAlike states more history later y)
    → EachHolds states history next row → EachHolds more later next row
holds-same states more history later next end same h = tt
holds-same states more history later next (leaf q row) same h = holds-same states more history later next row same h
holds-same states more history later next (node class inputs row) same h = (
  holds-here states more history later next class (width inputs) (same next (omega arith) (omega arith)) h.0,
  holds-same states more history later (suc next) inputs (λ y l k. same y (omega arith) (omega arith)) h.1,
  holds-same states more history later (suc (next + nodes inputs)) row (λ y l k. same y (omega arith) (omega arith)) h.2,
)

pub holds-at : (states : List State) (history : History) (next : ℕ) (row : Row) (i : ℕ) → EachHolds states history next row → HoldsAt states history next row i
holds-at states history next end i h = tt
holds-at states history next (leaf q row) zero h = tt
holds-at states history next (leaf q row) (suc i) h = holds-at states history next row i h
holds-at states history next (node class inputs row) zero h = (h.0, h.1)
holds-at states history next (node class inputs row) (suc i) h = holds-at states history (suc (next + nodes inputs)) row i h.2

pub holds_at-same : (states more : List State) (history later : History) (next : ℕ) (row : Row) (i : ℕ) → ((y : ℕ) → LiesAt next row i y → AreAlike states more history later y)
    → HoldsAt states history next row i → HoldsAt more later next row i
holds_at-same states more history later next end i same h = tt
holds_at-same states more history later next (leaf q row) zero same h = tt
holds_at-same states more history later next (leaf q row) (suc i) same h = holds_at-same states more history later next row i same h
holds_at-same states more history later next (node class inputs row) zero same h = search (rules, holds-here, holds-same)
holds_at-same states more history later next (node class inputs row) (suc i) same h = holds_at-same states more history later (suc (next + nodes inputs)) row i same h

-- one input may change, where all others stay
pub holds-put : (states more : List State) (history later : History) (next : ℕ) (row : Row) (i : ℕ)
    → ((y : ℕ) → next ≤ y → y < next + nodes row → (LiesAt next row i y → ⊥) → AreAlike states more history later y) → EachHolds states history next row → HoldsAt more later next row i
    → EachHolds more later next row
holds-put states more history later next end i same h k = tt
holds-put states more history later next (leaf q row) zero same h k = holds-same states more history later next row (λ y l m. same y l m (λ e. e)) h
holds-put states more history later next (leaf q row) (suc i) same h k = holds-put states more history later next row i same h k
holds-put states more history later next (node class inputs row) zero same h k = search (rules, holds-same)
holds-put states more history later next (node class inputs row) (suc i) same h k = (
  holds-here states more history later next class (width inputs) (same next (omega arith) (omega arith) (before next (omega arith))) h.0,
  holds-same states more history later (suc next) inputs (λ y l m. same y (omega arith) (omega arith) (before y (omega arith))) h.1,
  holds-put states more history later (suc (next + nodes inputs)) row i (λ y l m. same y (omega arith) (omega arith)) h.2 k,
)
  where
    before : (y : ℕ) → y < suc (next + nodes inputs) → LiesAt (suc (next + nodes inputs)) row i y → ⊥
    before y l e = let f = (lies-within (suc (next + nodes inputs)) row i y e).0 in omega arith

-- a scheduler at an input of a row
pub record IsChildAt (next : ℕ) (row : Row) (i child : ℕ) : Type 0 where
  pub class : Scheduler
  pub inputs : Row
  pub ahead : next ≤ child
  pub lies : (y : ℕ) → child ≤ y → y < suc (child + nodes inputs) → LiesAt next row i y
  pub lies_back : (y : ℕ) → LiesAt next row i y → (child ≤ y) × (y < suc (child + nodes inputs))
  pub stands : (table : List Inputs) → EachHasInputs table next row → StandsIn table child inputs
  pub holds : (states : List State) (history : History) → HoldsAt states history next row i → NodeHolds states history child class inputs
  pub holds_back : (states : List State) (history : History) → NodeHolds states history child class inputs → HoldsAt states history next row i
  pub asked : (now : Now) (history : History) (visits : List Visit) (got : Option Packet) → IsBlock now history child class inputs visits got → IsAskedAt now history next row i visits got

abbrev number_of : Option Input → ℕ
number_of None = 0
number_of (Some (Queue q)) = q
number_of (Some (Node m)) = m

abbrev is_scheduler : Option Input → Bool
is_scheduler None = false
is_scheduler (Some (Queue q)) = false
is_scheduler (Some (Node m)) = true

pub child-at : (next : ℕ) (row : Row) (i child : ℕ) → slice_get (inputs_of next row) i ≡ Some (Node child) → IsChildAt next row i child
child-at next end i child e = absurd (false≢true (ap is_scheduler e))
child-at next (leaf q row) zero child e = absurd (false≢true (ap is_scheduler e))
child-at next (leaf q row) (suc i) child e = search (rules, (child-at next row i child e))
child-at next (node class inputs row) zero child e = subst (IsChildAt next (node class inputs row) zero) (ap number_of e) here
  where
    here : IsChildAt next (node class inputs row) zero next
    here =
        record {
          class = class;
          inputs = inputs;
          ahead = omega arith;
          lies = λ y l k. (l, k);
          lies_back = λ y l. l;
          stands = λ table h. record { here = h.0; below = h.1 };
          holds = λ states history h. record { here = h.0; below = h.1 };
          holds_back = λ states history h. (h.here, h.below);
          asked = λ now history visits got h. h;
        }
child-at next (node class inputs row) (suc i) child e = search (rules, (child-at (suc (next + nodes inputs)) row i child e))

-- a queue at an input of a row: nothing is made there, and nothing held
pub record IsQueueAt (next : ℕ) (row : Row) (i : ℕ) : Type 0 where
  pub holds : (states : List State) (history : History) → HoldsAt states history next row i
  pub asked : (now : Now) (history : History) (got : Option Packet) → IsAskedAt now history next row i [] got
  pub lies : (y : ℕ) → LiesAt next row i y → ⊥

pub queue-at : (next : ℕ) (row : Row) (i q : ℕ) → slice_get (inputs_of next row) i ≡ Some (Queue q) → IsQueueAt next row i
queue-at next end i q e = absurd (false≢true (ap is_some e))
queue-at next (leaf k row) zero q e = record { holds = λ states history. tt; asked = λ now history got. refl; lies = λ y h. h }
queue-at next (leaf k row) (suc i) q e = let r = queue-at next row i q e in record { holds = r.holds; asked = r.asked; lies = r.lies }
queue-at next (node class inputs row) zero q e = absurd (false≢true (sym (ap is_scheduler e)))
queue-at next (node class inputs row) (suc i) q e = let r = queue-at (suc (next + nodes inputs)) row i q e in record { holds = r.holds; asked = r.asked; lies = r.lies }
