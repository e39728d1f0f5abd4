-- Shapers one below another, which are gone down and up in loops.
use Rattle.std.proofs.lemmas.Bool.Decides.{nat_tests}
use Rattle.std.proofs.lemmas.Grind.{common_steps, elements}
use Rattle.std.proofs.Common.{◌≡◌, ℕ, zero, suc, ◌+◌, ◌-◌, ◌<◌, ◌≤◌, Bool, true, false, List, [], ◌∷◌, ◌++◌, length, Option, Some, None, IsSome, is_some, MatchOption, refl, sym, ap, ◌∙◌, subst, arith, rules}
use Rattle.std.proofs.lemmas.Bool.{false≢true}
use Rattle.clk_packet.specs.declared.packet.Packet.{Packet}
use Rattle.clk_sched.specs.declared.visit.Visit.{Visit}
use Rattle.clk_sched.specs.declared.session.inputs.Input.TheVariants.{Node}
use Rattle.clk_sched.specs.declared.session.inputs.Inputs.{Inputs}
use Rattle.clk_sched.specs.declared.session.nodes.Nodes.{Nodes}
use Rattle.clk_sched.specs.Log.{asking}
use Rattle.clk_sched.specs.inside.Looking.{Logs}
use Rattle.clk_sched.specs.Answers.{Answers, at_queue}
use Rattle.clk_sched.specs.inside.Places.{AllFit, edges_of, edges_at, input_at, queue_asked}
use Rattle.clk_sched.specs.inside.Pulling.{CanPull, Keeps, Asks, added}
use Rattle.clk_sched.specs.inside.Turning.{HasAsked, WasPulled}
use Rattle.clk_sched.specs.inside.Tokens.{TakesToken, GivesBack, AnswersAt, AnswersUp, IsBelow, SpendsAt, TakesDown, GoesDown}
use Rattle.clk_sched.proofs.Nodes.Asking.{answers-then}
use Rattle.clk_sched.proofs.Nodes.Asked.{child-after, edges-scheduler, keeps-child, queue-visited, asks-child}
use Rattle.clk_sched.proofs.Nodes.Logged.{asked-logged, edge-there}
use Rattle.clk_sched.proofs.Nodes.Ordered.{item-there}
use Rattle.clk_sched.proofs.Nodes.Edges.{edges-order}
use Rattle.clk_sched.proofs.Nodes.Placed.{state-there}
use Rattle.clk_sched.proofs.Turns.TurnShaper.{HasInput, shaper-asks, shaper-input, shaper-may, shaper-refused, shaper-passed, shaper-returned}

-- a scheduler at an input can be pulled where the input can be asked
child-can : (a : Nodes) (x child : ℕ) → CanPull a x (edges_at a.inputs.items x 0) → input_at a.inputs.items x 0 ≡ Some (Node child) → CanPull a child (edges_of a.inputs.items child)
child-can a x child can e = search (rules, child-after, edges-scheduler)

-- the edge to its input is one of a Shaper's edges
edges-first : (a : Nodes) (x : ℕ) → CanPull a x (edges_of a.inputs.items x) → HasInput a.inputs.items x → edges_at a.inputs.items x 0 ≤ edges_of a.inputs.items x
edges-first a x can some =
    let p = item-there a.inputs.items x can.there in
    let e = edges-order a.inputs.items x p.0 (0 ∷ []) can.wired p.1 (shaper-asks a.inputs.items x true some p.0 p.1).apart in
    omega (arith, e)

-- what taking tokens leaves
pub down-inputs : (a b : Nodes) (x k : ℕ) → TakesDown a b x k → b.inputs ≡ a.inputs
down-inputs a b x zero h = ap (λ (n : Nodes). n.inputs) (sym h)
down-inputs a b x (suc k) h = ap (λ (n : Nodes). n.inputs) h.3.takes.is ∙ down-inputs a h.0 x k h.1

pub down-log : (a b : Nodes) (x k : ℕ) → TakesDown a b x k → b.log ≡ a.log
down-log a b x zero h = ap (λ (n : Nodes). n.log) (sym h)
down-log a b x (suc k) h = ap (λ (n : Nodes). n.log) h.3.takes.is ∙ down-log a h.0 x k h.1

-- Each Shaper of a row has an edge more than the next.
pub down-edges : (a b : Nodes) (x k : ℕ) → TakesDown a b x k → IsBelow b.inputs.items x (x + k) → k + edges_of a.inputs.items (x + k) ≤ edges_of a.inputs.items x
down-edges a b x zero h below = let e : edges_of a.inputs.items (x + 0) ≡ edges_of a.inputs.items x = ap (edges_of a.inputs.items) (let n : x + 0 ≡ x = omega arith in n) in omega (arith, e)
down-edges a b x (suc k) h below =
    let m = h.0 in
    let rest = down-edges a m x k h.1 h.2 in
    let first = edges-first m (x + k) h.3.can (shaper-input m (x + k) h.3.takes.bucket h.3.can h.3.takes.held) in
    let same : b.inputs.items ≡ m.inputs.items = ap (λ (n : Nodes). n.inputs.items) h.3.takes.is in
    let edge = edges-scheduler m.inputs.items (x + k) 0 (x + suc k) (subst (λ table. input_at table (x + k) 0 ≡ Some (Node (x + suc k))) same (below (x + k) (omega arith) (omega arith))) in
    let table : m.inputs.items ≡ a.inputs.items = ap (λ v. v.items) (down-inputs a m x k h.1) in
    let here = ap (λ t. edges_of t (x + k)) table in
    let next = ap (λ t. edges_of t (x + suc k)) table in
    omega (arith, rest, first, edge, here, next)

pub goes-inputs : (a b : Nodes) (x last : ℕ) (token : Bool) → GoesDown a b x last token → b.inputs ≡ a.inputs
goes-inputs a b x last token h = ap (λ (n : Nodes). n.inputs) h.spent.is ∙ down-inputs a h.mid x h.count h.takes

-- The first is the node that is pulled.
pub down-first : (a t : Nodes) (x : ℕ) (token : Bool) → CanPull a x (edges_of a.inputs.items x) → TakesToken a t x token → GoesDown a t x x token
down-first a t x token can takes =
    record {
      mid = a;
      count = 0;
      last_is = omega arith;
      takes = refl;
      below = λ above e l. absurd (omega arith);
      can = can;
      spent = takes;
    }

-- Another stands at the input of the last, whose token was taken.
pub down-can : (a b : Nodes) (x last below : ℕ) → GoesDown a b x last true → input_at b.inputs.items last 0 ≡ Some (Node below) → CanPull b below (edges_of b.inputs.items below)
down-can a b x last below h e = child-can b last below (shaper-may h.mid b last true h.can h.spent).0 e

pub down-next : (a b t : Nodes) (x last below : ℕ) (token : Bool) → GoesDown a b x last true → below ≡ last + 1 → input_at b.inputs.items last 0 ≡ Some (Node below) → TakesToken b t below token → GoesDown a t x below token
down-next a b t x last below token h next e takes =
    record {
      mid = b;
      count = suc h.count;
      last_is = let l = h.last_is in omega (arith, l, next);
      takes = (h.mid, h.takes, subst (IsBelow h.mid.inputs.items x) h.last_is h.below, subst (SpendsAt h.mid b) h.last_is (record { can = h.can; takes = h.spent }));
      below = λ above is l. subst (λ n. input_at b.inputs.items n 0 ≡ Some (Node below)) (let same : last ≡ above = omega (arith, next, is) in same) e;
      can = down-can a b x last below h e;
      spent = takes;
    }

-- What is known of an input that was asked, before the visit is recorded.
pub record WasAsked {S : Type 0} (gives : S → ℕ → Option Packet → S → Type 0) (old new : Nodes) (before now : S) (x : ℕ) (got : Option Packet) : Type 0 where
  pub keeps : Keeps (suc x) old new (edges_at old.inputs.items x 0 - 1)
  pub answers : (v : Visit) → v.node ≡ x → v.input ≡ 0 → v.fresh ≡ true → v.got ≡ got → Answers gives (queue_asked old.inputs.items) before (added old new ++ v ∷ []) now
  pub asks : Asks old new x 0 got

child-asked : {S : Type 0} (gives : S → ℕ → Option Packet → S → Type 0) (a b : Nodes) (q r : S) (x child : ℕ) (got : Option Packet) → input_at a.inputs.items x 0 ≡ Some (Node child) → x < child → WasPulled gives a b q r child got
    → WasAsked gives a b q r x got
child-asked gives a b q r x child got e after pulled =
    record {
      keeps = keeps-child a b x 0 child e after pulled.keeps;
      answers = λ v node at fresh gets.
          answers-then gives (queue_asked a.inputs.items) (added a b) (v ∷ []) q r r pulled.answers
          (subst (λ o. at_queue gives o v.got r (λ s. s ≡ r)) (sym (queue-visited a.inputs.items x 0 (Node child) v e node at fresh)) refl);
      asks = asks-child a b x 0 child got e pulled.pulls;
    }

-- A Shaper with a token asked its input, and answered.
pub spent-answered : {S : Type 0} (gives : S → ℕ → Option Packet → S → Type 0) (a t b c : Nodes) (q r : S) (x : ℕ) (got : Option Packet) → CanPull a x (edges_of a.inputs.items x) → TakesToken a t x true → WasAsked gives t b q r x got → AnswersAt b c x got
    → WasPulled gives a c q r x got
spent-answered gives a t b c q r x got can takes asked answers = by_got got refl answers.back
  where
    logged : HasAsked gives t answers.logged q r x 0 got
    logged =
        asked-logged gives t b answers.logged q r x 0 got (asking b.pull b.moment x 0 got) (shaper-may a t x true can takes).1 asked.keeps asked.answers asked.asks refl answers.logs

    by_got : (o : Option Packet) → got ≡ o → MatchOption o (GivesBack answers.logged c x) (λ packet. c ≡ answers.logged) → WasPulled gives a c q r x got
    by_got None e back = subst (WasPulled gives a c q r x) (sym e) (shaper-returned gives a t answers.logged c q r x true got can takes refl logged (ap is_some e) back)
    by_got (Some p) e same = subst (λ (n : Nodes). WasPulled gives a n q r x got) (sym same) (shaper-passed gives a t answers.logged q r x true got can takes refl logged (ap is_some e))

-- The Shaper at this place of a row was pulled, after tokens were taken from those above it.
pub record PulledBelow {S : Type 0} (gives : S → ℕ → Option Packet → S → Type 0) (old new : Nodes) (before now : S) (x y : ℕ) (got : Option Packet) : Type 0 where
  pub count : ℕ
  pub mid : Nodes
  pub place : y ≡ x + count
  pub takes : TakesDown old mid x count
  pub below : IsBelow mid.inputs.items x y
  pub pulled : WasPulled gives mid new before now y got

pub below-refused : {S : Type 0} (gives : S → ℕ → Option Packet → S → Type 0) (a b : Nodes) (q : S) (x last : ℕ) (token : Bool) → GoesDown a b x last token → token ≡ false → PulledBelow gives a b q q x last None
below-refused gives a b q x last token h e = search (rules, shaper-refused)

pub below-answered : {S : Type 0} (gives : S → ℕ → Option Packet → S → Type 0) (a b c d : Nodes) (q r : S) (x last : ℕ) (got : Option Packet) → GoesDown a b x last true → WasAsked gives b c q r last got → AnswersAt c d last got
    → PulledBelow gives a d q r x last got
below-answered gives a b c d q r x last got h asked answers = search (rules, spent-answered)

-- The one above it answers, and so up to the first.
above-answered : {S : Type 0} (gives : S → ℕ → Option Packet → S → Type 0) (a b c : Nodes) (q r : S) (x y above : ℕ) (got : Option Packet) → y ≡ suc above → x < y → PulledBelow gives a b q r x y got → AnswersAt b c above got → PulledBelow gives a c q r x above got
above-answered gives a b c q r x y above got e l h answers = by_count h.count h.mid h.place h.takes h.below h.pulled
  where
    by_count : (k : ℕ) (m : Nodes) → y ≡ x + k → TakesDown a m x k → IsBelow m.inputs.items x y → WasPulled gives m b q r y got → PulledBelow gives a c q r x above got
    by_count zero m place takes below pulled = absurd (omega (arith, place, l))
    by_count (suc k) m place takes below pulled =
        let here : x + k ≡ above = omega (arith, place, e) in
        let spends = subst (SpendsAt takes.0 m) here takes.3 in
        record {
          count = k;
          mid = takes.0;
          place = sym here;
          takes = takes.1;
          below = subst (IsBelow takes.0.inputs.items x) here takes.2;
          pulled = spent-answered gives takes.0 m b c q r above got spends.can spends.takes (child-asked gives m b q r above y got (below above e (omega (arith, place, e))) (omega (arith, e)) pulled) answers;
        }

pub up-answered : {S : Type 0} (gives : S → ℕ → Option Packet → S → Type 0) (a b c : Nodes) (q r : S) (x last k : ℕ) (got : Option Packet) → x + k ≤ last → PulledBelow gives a b q r x last got → AnswersUp b c last k got → PulledBelow gives a c q r x (last - k) got
up-answered gives a b c q r x last zero got l h up = subst (λ y. PulledBelow gives a c q r x y got) (let n : last ≡ last - 0 = omega arith in n) (subst (λ (n : Nodes). PulledBelow gives a n q r x last got) (sym up) h)
up-answered gives a b c q r x last (suc k) got l h up = search (rules, above-answered, (up-answered gives a b up.0 q r x last k got (omega arith) h up.1))

pub whole-answered : {S : Type 0} (gives : S → ℕ → Option Packet → S → Type 0) (a b c : Nodes) (q r : S) (x last : ℕ) (got : Option Packet) → x ≤ last → PulledBelow gives a b q r x last got → AnswersUp b c last (last - x) got → WasPulled gives a c q r x got
whole-answered gives a b c q r x last got l h up = search (rules, all.count, all.mid, all.place, all.takes, all.pulled)
  where
    all : PulledBelow gives a c q r x (last - (last - x)) got
    all = up-answered gives a b c q r x last (last - x) got (omega arith) h up

-- What an answer is, by what was got.
pub answers-none : (a l c : Nodes) (x : ℕ) (got : Option Packet) → is_some got ≡ false → Logs a l (asking a.pull a.moment x 0 got) → GivesBack l c x → AnswersAt a c x got
answers-none a l c x None e logs back = record { logged = l; logs = logs; back = back }
answers-none a l c x (Some p) e logs back = absurd (false≢true (sym e))

pub answers-some : (a l : Nodes) (x : ℕ) (got : Option Packet) → is_some got ≡ true → Logs a l (asking a.pull a.moment x 0 got) → AnswersAt a l x got
answers-some a l x None e logs = absurd (false≢true e)
answers-some a l x (Some p) e logs = record { logged = l; logs = logs; back = refl }

pub goes-room : (a b : Nodes) (x last : ℕ) (token : Bool) → CanPull a x (edges_of a.inputs.items x) → GoesDown a b x last token → (last - x) + edges_of b.inputs.items last ≤ b.log.spare
goes-room a b x last token can h =
    let edges = down-edges a h.mid x h.count h.takes (subst (IsBelow h.mid.inputs.items x) h.last_is h.below) in
    let log = ap (λ v. v.spare) (ap (λ (n : Nodes). n.log) h.spent.is ∙ down-log a h.mid x h.count h.takes) in
    let table = ap (λ t. edges_of t.items last) (goes-inputs a b x last token h) in
    let place = ap (edges_of a.inputs.items) h.last_is in
    let is = h.last_is in
    omega (arith, edges, log, table, place, is)

-- What such an answer keeps.
pub answers-keep : (a b : Nodes) (x : ℕ) (got : Option Packet) → AnswersAt a b x got → (table : List Inputs) → AllFit table a.states.items → AllFit table b.states.items × (a.log.spare ≤ b.log.spare + 1)
answers-keep a b x got h table fit = search rules

pub up-next : (a b c : Nodes) (last above : ℕ) (got : Option Packet) → 1 ≤ above → above ≤ last → AnswersUp a b last (last - above) got → AnswersAt b c (above - 1) got → AnswersUp a c last (last - (above - 1)) got
up-next a b c last above got some l up at =
    subst (λ n. AnswersUp a c last n got) (let n : suc (last - above) ≡ last - (above - 1) = omega arith in n)
    (b, up, subst (λ n. AnswersAt b c n got) (let n : above - 1 ≡ last - suc (last - above) = omega arith in n) at)

-- The input of the last can be asked, and what stands there can be tried.
pub goes-may : (a b : Nodes) (x last : ℕ) (token : Bool) → GoesDown a b x last token → CanPull b last (edges_at b.inputs.items last 0) × IsSome (input_at b.inputs.items last 0)
goes-may a b x last token h = shaper-may h.mid b last token h.can h.spent

pub goes-below : (a b : Nodes) (x last below : ℕ) (token : Bool) → GoesDown a b x last token → input_at b.inputs.items last 0 ≡ Some (Node below) → below < length b.states.items
goes-below a b x last below token h e = state-there b below _ (child-can b last below (goes-may a b x last token h).0 e)

-- The edge to its input, which is asked.
pub goes-edges : (a b : Nodes) (x last : ℕ) (token : Bool) → GoesDown a b x last token → (1 ≤ edges_at b.inputs.items last 0) × (edges_at b.inputs.items last 0 ≤ edges_of b.inputs.items last)
goes-edges a b x last token h = grind (arith, common_steps, elements, nat_tests, edge-there, goes-may, edges-first, shaper-input)

pub goes-order : (a b : Nodes) (x last : ℕ) (token : Bool) → GoesDown a b x last token → x ≤ last
goes-order a b x last token h = let l = h.last_is in omega (arith, l)
