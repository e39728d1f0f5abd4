-- A node's own state, in its place before its turn and after it.
use Rattle.std.proofs.lemmas.Bool.Decides.{nat_tests}
use Rattle.std.proofs.lemmas.Grind.{common_steps, elements}
use Rattle.std.proofs.Common.{◌≡◌, ◌≢◌, ◌⊎◌, ℕ, suc, ◌+◌, ◌<◌, ◌≤◌, nat_eq, Bool, true, false, List, length, drop, slice_get, slice_set, Option, Some, None, MatchOption, IfSome, inl, refl, sym, ap, ap₂, ◌∙◌, subst, arith, rules}
use Rattle.std.proofs.lemmas.Option.{slice_get_within}
use Rattle.std.proofs.lemmas.List.{length-set}
use Rattle.std.proofs.lemmas.Bool.{false≢true}
use Rattle.std.specs.Global.{Box}
use Rattle.clk_packet.specs.declared.packet.Packet.{Packet}
use Rattle.clk_sched.specs.declared.visit.Visit.{Visit}
use Rattle.clk_sched.specs.declared.session.inputs.Inputs.{Inputs}
use Rattle.clk_sched.specs.declared.session.state.State.{State}
use Rattle.clk_sched.specs.declared.session.state.State.TheVariants.{Prio, Stride, Shaper}
use Rattle.clk_sched.specs.declared.session.shaper.Bucket.{Bucket}
use Rattle.clk_sched.specs.declared.session.stride.Passes.{Passes}
use Rattle.clk_sched.specs.declared.session.nodes.Nodes.{Nodes}
use Rattle.clk_packet.specs.Scheduler.{Scheduler}
use Rattle.clk_sched.specs.Tree.{Row, nodes, width}
use Rattle.clk_sched.specs.inside.Holds.OfClass.{Fits, Holds}
use Rattle.clk_sched.specs.inside.Holds.Shaper.{AreBefore}
use Rattle.clk_sched.specs.inside.Places.{StandsIn, AllFit, edges_of}
use Rattle.clk_sched.specs.inside.Pulling.{Now, Pulls, History, NodeHolds, CanPull, Keeps, EachHolds, IsBlock, IsPulling, IsReady, added, now_of, after, TakesTurn, TurnIsTaken}
use Rattle.clk_sched.specs.inside.Turning.{with_state, HadTurn, HasAskedAll, WasPulled}
use Rattle.clk_sched.proofs.Nodes.Below.{holds-same}
use Rattle.clk_sched.proofs.Lists.Numbers.{equal}

pub set-here : {X : Type 0} (xs : List X) (i : ℕ) (x : X) → i < length xs → slice_get (slice_set xs i x) i ≡ Some x
set-here xs i x l = grind (arith, common_steps, elements, nat_tests)

pub set-other : {X : Type 0} (xs : List X) (i j : ℕ) (x : X) → j ≢ i → slice_get (slice_set xs i x) j ≡ slice_get xs j
set-other xs i j x d = grind (arith, common_steps, elements, nat_tests)

pub set-ahead : {X : Type 0} (xs : List X) (i j : ℕ) (x : X) → j < i → slice_get (slice_set xs i x) j ≡ slice_get xs j
set-ahead xs i j x l = set-other xs i j x (λ e. omega (arith, e, l))

-- nodes of which one holds another state than before, and nothing else changed
pub record IsPutIn (a b : Nodes) (x : ℕ) (s : State) : Type 0 where
  pub inputs : b.inputs.items ≡ a.inputs.items
  pub log : b.log.items ≡ a.log.items
  pub pull : b.pull ≡ a.pull
  pub moment : b.moment ≡ a.moment
  pub here : slice_get b.states.items x ≡ Some s
  pub others : (y : ℕ) → y ≢ x → slice_get b.states.items y ≡ slice_get a.states.items y

put-in : (a b : Nodes) (x : ℕ) (s : State) → IsPutIn a b x s → now_of b ≡ now_of a
put-in a b x s p = ap₂ (λ n t. record { number = n; moment = t }) p.pull p.moment

-- what holds of the node and below before its turn still does with another state in its place
ready-put : (a taken : Nodes) (x : ℕ) (class : Scheduler) (row : Row) (history : History) (placed : State) → IsPutIn a taken x placed → StandsIn a.inputs.items x row → NodeHolds a.states.items history x class row
    → ((y : ℕ) → AreBefore a.moment (history y)) → IsReady taken history x row
ready-put a taken x class row history placed out stands holds early = search (rules, holds-same)

pub pulls-put : (a taken turned b : Nodes) (x : ℕ) (placed before now : State) (got : Option Packet) → IsPutIn a taken x placed → slice_get a.states.items x ≡ Some before
    → ((class : Scheduler) → TakesTurn taken turned x class before now got) → IsPutIn turned b x now → Pulls a b x got
pulls-put a taken turned b x placed before now got out state turn back class row history stands holds early =
    record {
      block = subst (λ t. IsBlock t history x class row (added a b) got) (put-in a taken x placed out) (subst (λ l. IsBlock (now_of taken) history x class row l got) logged r.turned.block);
      holds = record {
        here = subst (λ o. MatchOption o ⊥ (Holds class (width row) (after history a.moment (added a b) x))) (sym back.here)
            (subst (λ t. Holds class (width row) (after history t (added a b) x) now) out.moment (subst (λ l. Holds class (width row) (after history taken.moment l x) now) logged r.holds));
        below = holds-same turned.states.items b.states.items (after history a.moment (added a b)) (after history a.moment (added a b)) (suc x) row
            (λ y l k. record { state = back.others y (λ e. omega (arith, e, l)); turns = refl })
            (subst (λ t. EachHolds turned.states.items (after history t (added a b)) (suc x) row) out.moment (subst (λ l. EachHolds turned.states.items (after history taken.moment l) (suc x) row) logged r.turned.holds));
      };
      outside = λ y l. back.others y (apart y l) ∙ r.turned.outside y (search rules) ∙ out.others y (apart y l);
    }
  where
    ready : IsReady taken history x row
    ready = ready-put a taken x class row history placed out stands holds early

    r : TurnIsTaken taken turned history x class row now got
    r = turn class row history ready (subst (λ o. MatchOption o ⊥ (Holds class (width row) (history x))) state holds.here)

    logged : added taken turned ≡ added a b
    logged = ap₂ (λ l k. drop (length l) k) out.log (sym back.log)

    apart : (y : ℕ) → (y < x) ⊎ (suc (x + nodes row) ≤ y) → y ≢ x
    apart y h e = omega arith

pub is-put : (a : Nodes) (x : ℕ) (s : State) → x < length a.states.items → IsPutIn a (with_state a x s) x s
is-put a x s l = record { inputs = refl; log = refl; pull = refl; moment = refl; here = set-here a.states.items x s l; others = λ y d. set-other a.states.items x y s d }

-- What a node holds after its turn may follow from what stands in its place then.
pub pulls-later : (a taken turned b : Nodes) (x : ℕ) (placed before other : State) (got : Option Packet) → IsPutIn a taken x placed → slice_get a.states.items x ≡ Some before
    → ((class : Scheduler) → TakesTurn taken turned x class before other got)
    → (slice_get turned.states.items x ≡ Some placed → (now : State) × ((class : Scheduler) → TakesTurn taken turned x class before now got) × IsPutIn turned b x now) → Pulls a b x got
pulls-later a taken turned b x placed before other got out state turn then class row history stands holds early =
    let r = turn class row history (ready-put a taken x class row history placed out stands holds early) (subst (λ o. MatchOption o ⊥ (Holds class (width row) (history x))) state holds.here) in
    let t = then (r.turned.outside x (inl (omega arith)) ∙ out.here) in
    pulls-put a taken turned b x placed before t.0 got out state t.1 t.2 class row history stands holds early

-- what stands there after the turn is what a node holds
pub still-put : (b : Nodes) (x : ℕ) (s : State) → slice_get b.states.items x ≡ Some s → IsPutIn b b x s
still-put b x s here = record { inputs = refl; log = refl; pull = refl; moment = refl; here = here; others = λ y d. refl }

-- what is there is one thing
abbrev or_else : {X : Type 0} → X → Option X → X
or_else x None = x
or_else x (Some y) = y

pub some-same : {X : Type 0} (x y : X) → Some x ≡ Some y → x ≡ y
some-same x y e = ap (or_else x) e

-- the bucket of a Shaper is one thing
abbrev bucket_or : Bucket → State → Bucket
bucket_or b (Shaper c) = c
bucket_or b s = b

pub bucket-same : (b c : Bucket) → Shaper b ≡ Shaper c → b ≡ c
bucket-same b c e = ap (bucket_or b) e

-- so are the passes of a StrideSched
abbrev passes_or : Box Passes → State → Box Passes
passes_or b (Stride c) = c
passes_or b s = b

pub passes-same : (b c : Box Passes) → Stride b ≡ Stride c → b ≡ c
passes-same b c e = ap (passes_or b) e

-- one state of a table may be another that fits
pub fit-set : (table : List Inputs) (states : List State) (x : ℕ) (s : State) → AllFit table states → ((p : Inputs) → slice_get table x ≡ Some p → Fits s (length p.each.items)) → AllFit table (slice_set states x s)
fit-set table states x s fit here = search (rules, length-set, slice_get_within, some-same, set-here, set-other, false≢true, equal)

-- what stands in a table that fits, fits its node
pub fits-there : (table : List Inputs) (states : List State) (x : ℕ) (s : State) → AllFit table states → slice_get states x ≡ Some s → IfSome (slice_get table x) (λ (p : Inputs). Fits s (length p.each.items))
fits-there table states x s fit is = search rules

pub fits-each : (table : List Inputs) (x : ℕ) (s : State) → IfSome (slice_get table x) (λ (p : Inputs). Fits s (length p.each.items)) → (p : Inputs) → slice_get table x ≡ Some p → Fits s (length p.each.items)
fits-each table x s fits p e = subst (λ o. IfSome o (λ (q : Inputs). Fits s (length q.each.items))) e fits

-- Another state that fits changes nothing of what a pull asks, and of what stays.
pub can-put : (a : Nodes) (x m : ℕ) (s : State) → CanPull a x m → ((p : Inputs) → slice_get a.inputs.items x ≡ Some p → Fits s (length p.each.items)) → CanPull (with_state a x s) x m
can-put a x m s can fits = record { wired = can.wired; fit = fit-set a.inputs.items a.states.items x s can.fit fits; there = can.there; room = can.room; moment = can.moment }

pub keeps-from : (a b : Nodes) (x m : ℕ) (s : State) → Keeps x (with_state a x s) b m → Keeps x a b m
keeps-from a b x m s k = record { inputs = k.inputs; pull = k.pull; moment = k.moment; fit = k.fit; ahead = λ y l. k.ahead y l ∙ set-ahead a.states.items x y s l; kind = k.kind; grown = k.grown; at_most = k.at_most }

pub keeps-put : (a b : Nodes) (x m : ℕ) (s : State) → Keeps x a b m → ((p : Inputs) → slice_get a.inputs.items x ≡ Some p → Fits s (length p.each.items)) → Keeps x a (with_state b x s) m
keeps-put a b x m s k fits =
    record {
      inputs = k.inputs;
      pull = k.pull;
      moment = k.moment;
      fit = fit-set a.inputs.items b.states.items x s k.fit fits;
      ahead = λ y l. set-ahead b.states.items x y s l ∙ k.ahead y l;
      kind = k.kind;
      grown = k.grown;
      at_most = k.at_most;
    }

-- There is a state of each node of the table.
pub state-there : (a : Nodes) (x m : ℕ) → CanPull a x m → x < length a.states.items
state-there a x m can = subst (λ n. x < n) (sym can.fit.lengths) can.there

pub kept-there : {f : ℕ} (a b : Nodes) (x m n : ℕ) → CanPull a x m → Keeps f a b n → x < length b.states.items
kept-there a b x m n can k = subst (λ n. x < n) (sym k.fit.lengths) can.there

-- what is alike but at one place is alike once the same stands there
set-both : {X : Type 0} (xs ys : List X) (i j : ℕ) (x : X) → i < length xs → i < length ys → (j ≢ i → slice_get ys j ≡ slice_get xs j) → slice_get (slice_set ys i x) j ≡ slice_get (slice_set xs i x) j
set-both xs ys i j x l k same = by_place (nat_eq j i) refl
  where
    by_place : (b : Bool) → nat_eq j i ≡ b → slice_get (slice_set ys i x) j ≡ slice_get (slice_set xs i x) j
    by_place true is = let here : j ≡ i = grind (arith, nat_tests) in subst (λ n. slice_get (slice_set ys i x) n ≡ slice_get (slice_set xs i x) n) (sym here) (set-here ys i x k ∙ sym (set-here xs i x l))
    by_place false is = let other : j ≢ i = grind (arith, nat_tests) in set-other ys i j x other ∙ same other ∙ sym (set-other xs i j x other)

-- what is being pulled below a node doesn't depend on the node's own state
pulling-placed : (now : Now) (history : History) (x : ℕ) (row : Row) (states more : List State) (visits own : List Visit) → ((y : ℕ) → y ≢ x → slice_get more y ≡ slice_get states y)
    → IsPulling now history x row states visits own → IsPulling now history x row more visits own
pulling-placed now history x row states more visits own same p =
    record {
      made = p.made;
      whole = p.whole;
      theirs = p.theirs;
      each = p.each;
      holds =
          holds-same states more (after history now.moment visits) (after history now.moment visits) (suc x) row (λ y l k. record { state = same y (λ e. omega (arith, e, l)); turns = refl })
          p.holds;
    }

-- Inputs are asked alike whatever stands in the node's place.
pub asked-placed : {S : Type 0} (gives : S → ℕ → Option Packet → S → Type 0) (a b : Nodes) (q r : S) (x : ℕ) (order : List ℕ) (o : Option (ℕ × Packet)) (s : State) → x < length a.inputs.items → AllFit a.inputs.items a.states.items
    → ((p : Inputs) → slice_get a.inputs.items x ≡ Some p → Fits s (length p.each.items)) → HasAskedAll gives a b q r x order o → HasAskedAll gives (with_state a x s) (with_state b x s) q r x order o
asked-placed gives a b q r x order o s there fit fits h =
    record {
      keeps = record {
        inputs = h.keeps.inputs;
        pull = h.keeps.pull;
        moment = h.keeps.moment;
        fit = fit-set a.inputs.items b.states.items x s h.keeps.fit fits;
        ahead = λ y l. set-both a.states.items b.states.items x y s first later (λ d. h.keeps.ahead y l);
        kind = h.keeps.kind;
        grown = h.keeps.grown;
        at_most = h.keeps.at_most;
      };
      answers = h.answers;
      asks = λ row history visits own going unasked apart.
          let went =
          h.asks row history visits own
          (record {
            stands = going.stands;
            before = going.before;
            pulling = pulling-placed (now_of a) history x row (slice_set a.states.items x s) a.states.items visits own (λ y d. sym (set-other a.states.items x y s d)) going.pulling;
          })
          unasked apart
          in
          record {
            pulling = pulling-placed (now_of a) history x row b.states.items (slice_set b.states.items x s) _ _ (λ y d. set-other b.states.items x y s d) went.pulling;
            outside = λ y l. set-both a.states.items b.states.items x y s first later (λ d. went.outside y l);
          };
    }
  where
    first : x < length a.states.items
    first = subst (λ n. x < n) (sym fit.lengths) there

    later : x < length b.states.items
    later = subst (λ n. x < n) (sym h.keeps.fit.lengths) there

-- A node whose state was taken out can have its turn.
pub can-turn : (a t : Nodes) (x : ℕ) (s : State) → t ≡ with_state a x Prio → slice_get a.states.items x ≡ Some s → CanPull a x (edges_of a.inputs.items x)
    → CanPull t x (edges_of t.inputs.items x) × IfSome (slice_get t.inputs.items x) (λ (p : Inputs). Fits s (length p.each.items))
can-turn a t x s is state can =
    subst (λ (n : Nodes). CanPull n x (edges_of n.inputs.items x) × IfSome (slice_get n.inputs.items x) (λ (p : Inputs). Fits s (length p.each.items))) (sym is)
    (can-put a x (edges_of a.inputs.items x) Prio can (λ p e. tt), fits-there a.inputs.items a.states.items x s can.fit state)

-- It was pulled once its state is put back.
pub pulled-back : {S : Type 0} (gives : S → ℕ → Option Packet → S → Type 0) (a t u b : Nodes) (q r : S) (x m : ℕ) (before now : State) (got : Option Packet) → t ≡ with_state a x Prio → slice_get a.states.items x ≡ Some before → CanPull a x m
    → HadTurn gives t u q r x before now got → b ≡ with_state u x now → WasPulled gives a b q r x got
pulled-back gives a t u b q r x m before now got out state can turn back = subst (λ (n : Nodes). WasPulled gives a n q r x got) (sym back) (whole (subst (λ (n : Nodes). HadTurn gives n u q r x before now got) out turn))
  where
    whole : HadTurn gives (with_state a x Prio) u q r x before now got → WasPulled gives a (with_state u x now) q r x got
    whole h =
        let k : Keeps x a u (edges_of a.inputs.items x) = keeps-from a u x (edges_of a.inputs.items x) Prio h.keeps in
        record {
          keeps = keeps-put a u x (edges_of a.inputs.items x) now k (fits-each a.inputs.items x now h.fits);
          answers = h.answers;
          pulls = pulls-put a (with_state a x Prio) u (with_state u x now) x Prio before now got (is-put a x Prio (state-there a x m can)) state h.turn (is-put u x now (kept-there a u x m (edges_of a.inputs.items x) can k));
        }

-- It was pulled once another state is put in the place of one that stayed there.
pub pulled-put : {S : Type 0} (gives : S → ℕ → Option Packet → S → Type 0) (a u b : Nodes) (q r : S) (x m : ℕ) (before now : State) (got : Option Packet) → slice_get a.states.items x ≡ Some before → CanPull a x m
    → HadTurn gives a u q r x before now got → b ≡ with_state u x now → WasPulled gives a b q r x got
pulled-put gives a u b q r x m before now got state can turn back =
    subst (λ (n : Nodes). WasPulled gives a n q r x got) (sym back)
    (record {
      keeps = keeps-put a u x (edges_of a.inputs.items x) now turn.keeps (fits-each a.inputs.items x now turn.fits);
      answers = turn.answers;
      pulls = pulls-put a a u (with_state u x now) x before before now got (still-put a x before state) state turn.turn (is-put u x now (kept-there a u x m (edges_of a.inputs.items x) can turn.keeps));
    })

-- A node that holds the same in its place was pulled by its turn.
pub pulled-still : {S : Type 0} (gives : S → ℕ → Option Packet → S → Type 0) (a b : Nodes) (q r : S) (x : ℕ) (s : State) (got : Option Packet) → slice_get a.states.items x ≡ Some s → HadTurn gives a b q r x s s got → WasPulled gives a b q r x got
pulled-still gives a b q r x s got state h = search rules
