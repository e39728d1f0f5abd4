-- A DRRSched moves on past inputs that hold no head and give nothing: as if it went by each of them.
use Rattle.std.proofs.lemmas.Bool.Decides.{nat_tests}
use Rattle.std.proofs.lemmas.Grind.{common_steps, elements}
use Rattle.std.proofs.Common.{◌≡◌, ◌≢◌, ℕ, zero, suc, ◌+◌, ◌%◌, ◌<◌, ◌≤◌, ◌==◌, if◌then◌else◌, true, false, List, [], ◌∷◌, length, slice_get, slice_set, Option, Some, None, unwrap_or, refl, sym, ap, ◌∙◌, subst, mod-lt, arith, rules}
use Rattle.std.proofs.lemmas.List.{length-set}
use Rattle.std.proofs.Math.Nat.{mod-eq_of_lt}
use Rattle.std.specs.Vec.{with_items}
use Rattle.clk_packet.specs.declared.packet.Packet.{Packet}
use Rattle.clk_packet.specs.declared.limits.TheConstants.{MAX_LENGTH, MAX_INPUTS, MAX_QUANTUM}
use Rattle.clk_sched.specs.declared.session.drr.Served.{Served}
use Rattle.clk_sched.specs.declared.session.drr.Deficits.{Deficits}
use Rattle.clk_sched.specs.declared.session.nodes.Nodes.{Nodes}
use Rattle.clk_sched.specs.inside.Holds.Served.{IsWithoutDeficit, IsArrivedAt, with_quantum, settled, covers}
use Rattle.clk_sched.specs.inside.Holds.Deficit.{HoldsDeficits}
use Rattle.clk_sched.specs.inside.Looking.{looking, IsHead, HoldsNoneAhead, Logs, Settles, AreIdleAhead}
use Rattle.clk_sched.specs.declared.visit.Visit.{Visit}
use Rattle.clk_sched.specs.inside.Making.{onto, IsPlace, MayGoOn, GoesOnInVain}
use Rattle.clk_sched.specs.inside.Pulling.{CanPull}
use Rattle.clk_sched.specs.inside.Places.{edges_at}
use Rattle.clk_sched.specs.inside.Turning.{IsIdle, with_idle_at}
use Rattle.clk_sched.proofs.Classes.Deficits.{KeepsLimits, each-written, read-some, read-same, read-other, limits-moved, deficits-moved-on}
use Rattle.clk_sched.proofs.Nodes.Idle.{idle-none, idle-next}
use Rattle.clk_sched.proofs.Turns.LooksDrr.{idle-edge, looks-at-idle}
use Rattle.clk_sched.proofs.Turns.TurnDrr.{going-can, goes-none, goes-next}
use Rattle.clk_sched.proofs.Lists.Written.{items-written}

-- what is written over, and what is written as it was
written-over : (row : List Served) (i : ℕ) (x y : Served) → slice_set (slice_set row i x) i y ≡ slice_set row i y
written-over [] i x y = refl
written-over (r ∷ row) zero x y = refl
written-over (r ∷ row) (suc i) x y = ap (λ xs. r ∷ xs) (written-over row i x y)

written-same : (row : List Served) (i : ℕ) (s : Served) → slice_get row i ≡ Some s → slice_set row i s ≡ row
written-same row i s e = grind (arith, common_steps, elements, nat_tests)

read-written : (row : List Served) (i : ℕ) (x : Served) → i < length row → slice_get (slice_set row i x) i ≡ Some x
read-written row i x l = grind (arith, common_steps, elements, nat_tests)

-- a row whose input at the cursor gave nothing
abbrev pub emptied : Deficits → Served → List Served
emptied d s = slice_set d.row.items d.cursor (settled s None)

limits-emptied : (d : Deficits) (s : Served) → slice_get d.row.items d.cursor ≡ Some s → KeepsLimits d.cursor (emptied d s)
limits-emptied d s e =
    let long = length-set d.row.items d.cursor (settled s None) in
    record {
      few = subst (λ n. n ≤ MAX_INPUTS) (sym long) d.few;
      cursor_within = subst (λ n. d.cursor < n) (sym long) d.cursor_within;
      quanta_within = each-written (λ j t. t.quantum ≤ MAX_QUANTUM) d.row.items d.cursor (settled s None) (d.quanta_within d.cursor s e) (λ j t other f. d.quanta_within j t f);
      deficits_within = each-written (λ j t. t.deficit < MAX_LENGTH + (if j == d.cursor then t.quantum else 0)) d.row.items d.cursor (settled s None) (omega arith) (λ j t other f. d.deficits_within j t f);
      idle_without = each-written (λ j t. j ≢ d.cursor → IsWithoutDeficit t) d.row.items d.cursor (settled s None) (λ other. absurd (other refl)) (λ j t other f k. d.idle_without j t f k);
    }

-- A DRRSched after the input whose turn it was gave nothing.
module _ (d : Deficits) where
  abbrev pub here : Served
  here = (read-some d.row.items d.cursor d.cursor_within).0

  pub reads : slice_get d.row.items d.cursor ≡ Some here
  reads = (read-some d.row.items d.cursor d.cursor_within).1

  long : length (emptied d here) ≡ length d.row.items
  long = length-set d.row.items d.cursor (settled here None)

  abbrev pub next : ℕ
  next = (d.cursor + 1) % length d.row.items

  pub within : next < length (emptied d here)
  within = subst (λ n. next < n) (sym long) (let some = d.cursor_within in mod-lt (d.cursor + 1) (omega (arith, some)))

  abbrev arriving : Served
  arriving = (read-some (emptied d here) next within).0

  abbrev after : List Served
  after = slice_set (emptied d here) next (with_quantum arriving)

  after-long : length after ≡ length d.row.items
  after-long = length-set (emptied d here) next (with_quantum arriving) ∙ long

  pub arrives-at : IsArrivedAt next (emptied d here) (with_items d.row after).items
  arrives-at s e =
      items-written d.row after after-long
      ∙ ap (λ t. slice_set (emptied d here) next (with_quantum t)) (ap (λ o. unwrap_or o s) (sym (read-some (emptied d here) next within).1 ∙ e))

  pub limits : KeepsLimits next (with_items d.row after).items
  limits =
      limits-moved d.cursor (emptied d here) (with_items d.row after).items next (limits-emptied d here reads)
      (λ t e. subst (λ (y : Served). IsWithoutDeficit y × (y.deficit < MAX_LENGTH)) (read-same d.row.items d.cursor (settled here None) t e) (λ none. refl, omega arith)) within arrives-at

  abbrev pub passed-over : Deficits
  passed-over = record {
    cursor = next;
    row = with_items d.row after;
    few = limits.few;
    cursor_within = limits.cursor_within;
    quanta_within = limits.quanta_within;
    deficits_within = limits.deficits_within;
    idle_without = limits.idle_without;
  }

  pub over-long : length passed-over.row.items ≡ length d.row.items
  over-long = ap length (items-written d.row after after-long) ∙ after-long

  pub settles-over : Settles d passed-over None false
  settles-over = record {
    length_is = over-long;
    moves = λ vain. refl;
    in_vain = λ none. refl;
    covered = λ quanta inputs before h. refl;
    holds = λ quanta inputs before v h at got passed.
        deficits-moved-on quanta inputs before v d passed-over (emptied d here) here h reads at (passed ∙ ap (covers here) (sym got)) passed (ap (λ o. slice_set d.row.items d.cursor (settled here o)) (sym got))
        (ap (λ n. (d.cursor + 1) % n) (sym long)) (over-long ∙ sym long) arrives-at;
  }

-- after so many
abbrev pub passed-all : ℕ → Deficits → Deficits
passed-all zero d = d
passed-all (suc k) d = passed-over (passed-all k d)

-- What a DRRSched holds after so many inputs gave nothing, by what it held before, and by what it held of the first of them.
pub record IsPast (d : Deficits) (s : Served) (k : ℕ) (e : Deficits) : Type 0 where
  pub cursor_is : e.cursor ≡ (d.cursor + k) % length d.row.items
  pub row_is : IsArrivedAt e.cursor (emptied d s) e.row.items

-- the next of them, which isn't the first: it holds no head and has no deficit
record IsNext (d : Deficits) (s : Served) (k : ℕ) (e : Deficits) (b : Served) : Type 0 where
  at : e.cursor ≡ d.cursor + k
  reads_b : slice_get (emptied d s) e.cursor ≡ Some b
  head_none : b.head ≡ None
  deficit_none : b.deficit ≡ 0
  items_are : e.row.items ≡ slice_set (emptied d s) e.cursor (with_quantum b)
  inside : e.cursor < length (emptied d s)

next-is : (d : Deficits) (s : Served) (k : ℕ) (e : Deficits) → 1 ≤ k → d.cursor + k < length d.row.items → HoldsNoneAhead d (k + 1) → IsPast d s k e → (b : Served) × IsNext d s k e b
next-is d s k e some low none past = (
  b,
  record {
    at = at;
    reads_b = reads_b;
    head_none = head;
    deficit_none = d.idle_without e.cursor b held other head;
    items_are = past.row_is b reads_b;
    inside = inside;
  },
)
  where
    at : e.cursor ≡ d.cursor + k
    at = past.cursor_is ∙ mod-eq_of_lt low

    inside : e.cursor < length (emptied d s)
    inside = let wide = length-set d.row.items d.cursor (settled s None) in omega (arith, at, low, wide)

    b : Served
    b = (read-some (emptied d s) e.cursor inside).0

    reads_b : slice_get (emptied d s) e.cursor ≡ Some b
    reads_b = (read-some (emptied d s) e.cursor inside).1

    other : e.cursor ≢ d.cursor
    other = λ same. absurd (omega (arith, at, same, some))

    held : slice_get d.row.items e.cursor ≡ Some b
    held = sym (read-other d.row.items d.cursor e.cursor (settled s None) other) ∙ reads_b

    head : b.head ≡ None
    head = none k b (omega arith) (subst (λ i. slice_get d.row.items i ≡ Some b) at held)

past-next : (d : Deficits) (s : Served) (k : ℕ) (e : Deficits) (b : Served) → IsNext d s k e b → IsPast d s (k + 1) (passed-over e)
past-next d s k e b n = grind (arith, common_steps, length-set, read-written, written-over, written-same)

fewer : (d : Deficits) (count k : ℕ) → k ≤ count → HoldsNoneAhead d count → HoldsNoneAhead d k
fewer d count k l none i s low e = none i s (omega arith) e

-- After one or more the row is that of the first, with a quantum at the cursor.
pub past-all : (d : Deficits) (k : ℕ) → d.cursor + (k + 1) ≤ length d.row.items → HoldsNoneAhead d (k + 1) → IsPast d (here d) (k + 1) (passed-all (suc k) d)
past-all d zero low none = record { cursor_is = refl; row_is = arrives-at d }
past-all d (suc k) low none =
    let rest = past-all d k (omega arith) (fewer d (suc k + 1) (k + 1) (omega arith) none) in
    let found = next-is d (here d) (k + 1) (passed-all (suc k) d) (omega arith) (omega (arith, low)) (fewer d (suc k + 1) (k + 1 + 1) (omega arith) none) rest in
    let more : k + 1 + 1 ≡ suc k + 1 = omega arith in
    subst (λ n. IsPast d (here d) n (passed-all (suc (suc k)) d)) more (past-next d (here d) (k + 1) (passed-all (suc k) d) found.0 found.1)

-- Each of them is at the cursor in its turn, and holds no head there.
record IsFree (d : Deficits) (k : ℕ) (e : Deficits) : Type 0 where
  at : e.cursor ≡ d.cursor + k
  free : IsHead e None

free-at : (d : Deficits) (k : ℕ) → d.cursor + k < length d.row.items → HoldsNoneAhead d (k + 1) → IsFree d k (passed-all k d)
free-at d zero low none = record { at = omega arith; free = λ s e. none 0 s (omega arith) (let here : d.cursor ≡ d.cursor + 0 = omega arith in subst (λ i. slice_get d.row.items i ≡ Some s) here e) }
free-at d (suc k) low none =
    let found = next-is d (here d) (suc k) (passed-all (suc k) d) (omega arith) low none (let more : k + 1 ≡ suc k = omega arith in subst (λ n. IsPast d (here d) n (passed-all (suc k) d)) more (past-all d k (omega (arith, low)) (fewer d (suc k + 1) (k + 1) (omega arith) none))) in
    record { at = found.1.at; free = λ t e. head_of (passed-all (suc k) d) found.0 found.1 t e }
  where
    head_of : (e : Deficits) (b : Served) → IsNext d (here d) (suc k) e b → (t : Served) → slice_get e.row.items e.cursor ≡ Some t → t.head ≡ None
    head_of e b n t f = ap (λ (y : Served). y.head) (sym (read-same (emptied d (here d)) e.cursor (with_quantum b) t (subst (λ xs. slice_get xs e.cursor ≡ Some t) n.items_are f))) ∙ n.head_none

-- what is known of a DRRSched that is to go past so many inputs
pub record IsBound {S : Type 0} (gives : S → ℕ → Option Packet → S → Type 0) (a : Nodes) (q : S) (x : ℕ) (d : Deficits) (count : ℕ) : Type 0 where
  more : ℕ
  may : MayGoOn gives a q x d more
  within : d.cursor + count ≤ length d.row.items
  fits : count ≤ more
  each : (i : ℕ) → i < count → IsIdle gives a q x (d.cursor + i)
  none : HoldsNoneAhead d count

-- it went past so many of them
abbrev IsGone : {S : Type 0} → (S → ℕ → Option Packet → S → Type 0) → Nodes → S → ℕ → Deficits → ℕ → Type 0
IsGone gives a q x d k = GoesOnInVain gives a (with_idle_at a x d.cursor k) q x d (passed-all k d) k

-- What it meets at the next of them.
record Meets {S : Type 0} (gives : S → ℕ → Option Packet → S → Type 0) (b : Nodes) (q : S) (x : ℕ) (d : Deficits) (k : ℕ) (mid : Deficits) : Type 0 where
  can : CanPull b x (edges_at b.inputs.items x mid.cursor)
  is_free : IsFree d k mid
  is_idle : IsIdle gives b q x mid.cursor

meets-next : {S : Type 0} (gives : S → ℕ → Option Packet → S → Type 0) (a : Nodes) (q : S) (x : ℕ) (d : Deficits) (count k : ℕ) → IsBound gives a q x d count → k < count → IsGone gives a q x d k
    → Meets gives (with_idle_at a x d.cursor k) q x d k (passed-all k d)
meets-next gives a q x d count k bound l gone = record {
  can = let fits = bound.fits in (going-can gives a (with_idle_at a x d.cursor k) q x d (passed-all k d) bound.more k bound.may gone (omega (arith, l, fits))).0;
  is_free = free;
  is_idle = let i = bound.each k l in subst (IsIdle gives (with_idle_at a x d.cursor k) q x) (sym free.at) (record { leaf = i.leaf; stands = i.stands; gives_none = i.gives_none });
}
  where
    free : IsFree d k (passed-all k d)
    free = free-at d k (let within = bound.within in omega (arith, within, l)) (fewer d count (k + 1) (omega (arith, l)) bound.none)

gone-next : {S : Type 0} (gives : S → ℕ → Option Packet → S → Type 0) (a : Nodes) (q : S) (x : ℕ) (d : Deficits) (count k : ℕ) → IsBound gives a q x d count → k < count → IsGone gives a q x d k → IsGone gives a q x d (suc k)
gone-next gives a q x d count k bound l gone =
    let so_far = with_idle_at a x d.cursor k in
    let one_more = with_idle_at a x d.cursor (k + 1) in
    let mid = passed-all k d in
    let meets = meets-next gives a q x d count k bound l gone in
    let logs = subst (λ i. Logs so_far one_more (looking so_far x i None true false)) (sym meets.is_free.at) (idle-next a x d.cursor k) in
    let next_is : k + 1 ≡ suc k = omega arith in
    subst (λ n. GoesOnInVain gives a (with_idle_at a x d.cursor n) q x d (passed-over mid) n) next_is
    (goes-next gives a so_far one_more q x d mid (passed-over mid) k gone (looks-at-idle gives so_far one_more q x mid (passed-over mid) false meets.can.fit meets.is_free.free meets.is_idle logs (settles-over mid)))

-- The visits to them are those that it would make one by one.
goes-past : {S : Type 0} (gives : S → ℕ → Option Packet → S → Type 0) (a : Nodes) (q : S) (x : ℕ) (d : Deficits) (count k : ℕ) → IsBound gives a q x d count → k ≤ count → IsGone gives a q x d k
goes-past gives a q x d count zero bound l = subst (λ b. GoesOnInVain gives a b q x d d 0) (sym (idle-none a x d.cursor)) (goes-none gives a q x d)
goes-past gives a q x d count (suc k) bound l = gone-next gives a q x d count k bound (omega (arith, l)) (goes-past gives a q x d count k bound (omega arith))

-- What has the same cursor and row holds the same.
holds-same : (quanta : List ℕ) (inputs : ℕ) (before : List Visit) (d e : Deficits) → d.cursor ≡ e.cursor → d.row.items ≡ e.row.items → HoldsDeficits quanta inputs before d → HoldsDeficits quanta inputs before e
holds-same quanta inputs before d e at same h = search rules

goes-same : {S : Type 0} (gives : S → ℕ → Option Packet → S → Type 0) (a b : Nodes) (q : S) (x : ℕ) (d e f : Deficits) (k : ℕ) → e.cursor ≡ f.cursor → e.row.items ≡ f.row.items → GoesOnInVain gives a b q x d e k
    → GoesOnInVain gives a b q x d f k
goes-same gives a b q x d e f k at same goes first before begun looks making low =
    let h = goes first before begun looks making low in
    record {
      own = h.own;
      made = record {
        keeps = h.made.keeps;
        answers = h.made.answers;
        asks = h.made.asks;
        length_is = ap length (sym same) ∙ h.made.length_is;
        within = h.made.within;
        apart = h.made.apart;
        lawful = λ quanta inputs earlier held. let l = h.made.lawful quanta inputs earlier held in (l.0, holds-same quanta inputs (onto h.own earlier) e f at same l.1);
      };
      count_is = h.count_is;
      vain = h.vain;
      around = h.around;
      next = subst (IsPlace (length begun.row.items) begun.cursor (looks + k)) at h.next;
    }

-- a DRRSched that may go on is bound past inputs that are idle and hold no head
pub bound-past : {S : Type 0} (gives : S → ℕ → Option Packet → S → Type 0) (a : Nodes) (q : S) (x : ℕ) (d : Deficits) (idle more count : ℕ) → MayGoOn gives a q x d more → AreIdleAhead gives a q x d idle → idle ≤ more → count ≤ idle
    → HoldsNoneAhead d count → IsBound gives a q x d count
bound-past gives a q x d idle more count may ahead fits l none = search rules

-- There is room for its visits.
pub past-room : {S : Type 0} (gives : S → ℕ → Option Packet → S → Type 0) (a : Nodes) (q : S) (x : ℕ) (d : Deficits) (count : ℕ) → IsBound gives a q x d count → count ≤ a.log.spare
past-room gives a q x d zero bound = omega arith
past-room gives a q x d (suc k) bound =
    let meets = meets-next gives a q x d (suc k) k bound (omega arith) (goes-past gives a q x d (suc k) k bound (omega arith)) in
    let room = meets.can.room in
    let edge = idle-edge gives (with_idle_at a x d.cursor k) q x (passed-all k d).cursor meets.is_idle in
    omega (arith, room, edge)

-- What moved past all of them at once went on by their visits.
pub past-all_at_once : {S : Type 0} (gives : S → ℕ → Option Packet → S → Type 0) (a : Nodes) (q : S) (x : ℕ) (d e : Deficits) (count : ℕ) → IsBound gives a q x d count → 1 ≤ count
    → e.cursor ≡ (d.cursor + count) % length d.row.items → ((s : Served) → slice_get d.row.items d.cursor ≡ Some s → IsArrivedAt e.cursor (slice_set d.row.items d.cursor (settled s None)) e.row.items)
    → GoesOnInVain gives a (with_idle_at a x d.cursor count) q x d e count
past-all_at_once gives a q x d e zero bound some at row = absurd (omega (arith, some))
past-all_at_once gives a q x d e (suc k) bound some at row =
    goes-same gives a (with_idle_at a x d.cursor (suc k)) q x d (passed-all (suc k) d) e (suc k) same_cursor (same_row (read-some (emptied d (here d)) e.cursor inside))
    (goes-past gives a q x d (suc k) (suc k) bound (omega arith))
  where
    past : IsPast d (here d) (k + 1) (passed-all (suc k) d)
    past = past-all d k (let w = bound.within in omega (arith, w)) (fewer d (suc k) (k + 1) (omega arith) bound.none)

    same_cursor : (passed-all (suc k) d).cursor ≡ e.cursor
    same_cursor = past.cursor_is ∙ sym (at ∙ ap (λ n. (d.cursor + n) % length d.row.items) (let more_is : suc k ≡ k + 1 = omega arith in more_is))

    inside : e.cursor < length (emptied d (here d))
    inside = subst (λ i. i < length (emptied d (here d))) (sym at) (subst (λ n. (d.cursor + suc k) % length d.row.items < n) (sym (long d)) (let some_in = d.cursor_within in mod-lt (d.cursor + suc k) (omega (arith, some_in))))

    same_row : (b : Served) × (slice_get (emptied d (here d)) e.cursor ≡ Some b) → (passed-all (suc k) d).row.items ≡ e.row.items
    same_row found =
        past.row_is found.0 (subst (λ i. slice_get (emptied d (here d)) i ≡ Some found.0) (sym same_cursor) found.1)
        ∙ ap (λ i. slice_set (emptied d (here d)) i (with_quantum found.0)) same_cursor
        ∙ sym (row (here d) (reads d) found.0 found.1)
