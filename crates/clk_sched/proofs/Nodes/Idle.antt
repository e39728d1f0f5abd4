-- Inputs of a node that are passed over, since they are queues that have nothing.
use Rattle.std.proofs.lemmas.Grind.{common_steps}
use Rattle.std.proofs.Common.{ap₂, ◌≡◌, ℕ, zero, suc, ◌+◌, ◌-◌, ◌<◌, ◌≤◌, List, [], ◌∷◌, ◌++◌, length, take, drop, get_or, slice_get, Option, Some, None, IsSome, refl, sym, ap, ◌∙◌, subst, arith, rules}
use Rattle.std.proofs.lemmas.List.{take-append-drop}
use Rattle.std.proofs.lemmas.List.FromFn.{length-range_with_len, get_or-range_with_len}
use Rattle.std.specs.List.{AllByRecursion, range_with_len}
use Rattle.clk_packet.specs.declared.packet.Packet.{Packet}
use Rattle.clk_sched.specs.declared.session.inputs.Inputs.{Inputs}
use Rattle.clk_sched.specs.declared.session.nodes.Nodes.{Nodes}
use Rattle.clk_sched.specs.inside.Ranks.{Ranked, FollowOneAnother, inputs_in}
use Rattle.clk_sched.specs.inside.Places.{AllFit, edges_in, input_at}
use Rattle.clk_sched.specs.inside.Pulling.{CanPull, Keeps}
use Rattle.clk_sched.specs.Log.{asking}
use Rattle.clk_sched.specs.inside.Looking.{Logs}
use Rattle.clk_sched.specs.inside.Turning.{with_idle_at, HasAskedAll, IsIdle}
use Rattle.clk_sched.proofs.Lists.Members.{all-split, some-below}
use Rattle.clk_sched.proofs.Lists.Ranges.{range-front, range-drop, range-next}
use Rattle.clk_sched.proofs.Nodes.Logged.{edge-there, idle-asked}
use Rattle.clk_sched.proofs.Nodes.Ordered.{order-there}
use Rattle.clk_sched.proofs.Nodes.Asking.{IsAsking, asking-first, asking-next, asked-vain, can-go_on, edges-append}
use Rattle.clk_sched.proofs.Nodes.InTwo.{asked-both}
use Rattle.clk_sched.proofs.Classes.RankLemmas.{inputs-after}

-- an input of so many that are there
pub there-at : (table : List Inputs) (x first count : ℕ) → AllByRecursion (λ i. IsSome (input_at table x i)) (range_with_len first count) → (i : ℕ) → i < count → IsSome (input_at table x (first + i))
there-at table x first zero h i l = absurd (omega arith)
there-at table x first (suc n) h zero l = let here : first ≡ first + 0 = omega arith in subst (λ j. IsSome (input_at table x j)) here h.0
there-at table x first (suc n) h (suc i) l = let next : first + 1 + i ≡ first + suc i = omega arith in subst (λ j. IsSome (input_at table x j)) next (there-at table x (first + 1) n h.1 i (omega arith))

-- What is idle stays so, while nothing is asked.
pub idle-then : {S : Type 0} {f : ℕ} (gives : S → ℕ → Option Packet → S → Type 0) (a b : Nodes) (q : S) (x i m : ℕ) → Keeps f a b m → IsIdle gives a q x i → AllFit b.inputs.items b.states.items × IsIdle gives b q x i
idle-then gives a b q x i m h idle = search rules

-- the front of an order, in two parts
take-both : (k n : ℕ) (order : List ℕ) → take (k + n) order ≡ take k order ++ take n (drop k order)
take-both zero n order = let same : 0 + n ≡ n = omega arith in ap (λ m. take m order) same
take-both (suc k) n [] = grind (arith, common_steps)
take-both (suc k) n (i ∷ order) = ap (λ m. take m (i ∷ order)) (let same : suc k + n ≡ suc (k + n) = omega arith in same) ∙ ap (λ l. i ∷ l) (take-both k n order)

-- After some inputs that gave nothing, those that are left can be passed over.
pub rest-can : {S : Type 0} (gives : S → ℕ → Option Packet → S → Type 0) (a b : Nodes) (p q : S) (x k : ℕ) (order : List ℕ) → CanPull a x (edges_in a.inputs.items x order) → AllByRecursion (λ i. IsSome (input_at a.inputs.items x i)) order
    → IsAsking gives a b p q x (take k order) → CanPull b x (edges_in b.inputs.items x (drop k order)) × AllByRecursion (λ i. IsSome (input_at b.inputs.items x i)) (drop k order)
rest-can gives a b p q x k order can within h =
    let whole = take-append-drop k order in
    let edges = edges-append a.inputs.items x (take k order) (drop k order) in
    let same = ap (edges_in a.inputs.items x) whole in (
      subst (λ t. CanPull b x (edges_in t x (drop k order))) (sym h.keeps.inputs)
          (can-go_on a b x (edges_in a.inputs.items x (take k order)) (edges_in a.inputs.items x (drop k order))
          (record { wired = can.wired; fit = can.fit; there = can.there; room = (let r = can.room in omega (arith, edges, same)); moment = can.moment }) h.keeps),
      subst (λ t. AllByRecursion (λ i. IsSome (input_at t x i)) (drop k order)) (sym h.keeps.inputs)
          (all-split (λ i. IsSome (input_at a.inputs.items x i)) (take k order) (drop k order) (subst (AllByRecursion (λ i. IsSome (input_at a.inputs.items x i))) (sym whole) within)).1,
    )

-- They were passed over.
pub asking-past : {S : Type 0} (gives : S → ℕ → Option Packet → S → Type 0) (a b c : Nodes) (p q : S) (x k n : ℕ) (order : List ℕ) → IsAsking gives a b p q x (take k order) → HasAskedAll gives b c q q x (take n (drop k order)) None
    → IsAsking gives a c p q x (take (k + n) order)
asking-past gives a b c p q x k n order h passed =
    subst (IsAsking gives a c p q x) (sym (take-both k n order))
    (asked-vain gives a c p q x (take k order ++ take n (drop k order)) None refl (asked-both gives a b c p q q x (take k order) (take n (drop k order)) None h passed))

-- None of a row was passed over.
pub asking-still : {S : Type 0} (gives : S → ℕ → Option Packet → S → Type 0) (a b c : Nodes) (p q : S) (x k n : ℕ) (row : List Ranked) → n ≡ 0 → IsAsking gives a b p q x (take k (inputs_in row))
    → HasAskedAll gives b c q q x (take n (inputs_in (take (length row - k) (drop k row)))) None → IsAsking gives a c p q x (take k (inputs_in row))
asking-still gives a b c p q x k n row none h passed =
    subst (λ m. IsAsking gives a c p q x (take m (inputs_in row))) (let same : k + n ≡ k = omega (arith, none) in same)
    (asking-past gives a b c p q x k n (inputs_in row) h (subst (λ l. HasAskedAll gives b c q q x (take n l) None) (inputs-after row k) passed))

-- the same of inputs whose numbers follow one another
pub turn-can : {S : Type 0} (gives : S → ℕ → Option Packet → S → Type 0) (a b : Nodes) (p q : S) (x first count k : ℕ) → k ≤ count → CanPull a x (edges_in a.inputs.items x (range_with_len first count))
    → AllByRecursion (λ i. IsSome (input_at a.inputs.items x i)) (range_with_len first count) → IsAsking gives a b p q x (take k (range_with_len first count))
    → CanPull b x (edges_in b.inputs.items x (range_with_len (first + k) (count - k))) × AllByRecursion (λ i. IsSome (input_at b.inputs.items x i)) (range_with_len (first + k) (count - k))
turn-can gives a b p q x first count k l can within h =
    subst (λ rest. CanPull b x (edges_in b.inputs.items x rest) × AllByRecursion (λ i. IsSome (input_at b.inputs.items x i)) rest) (range-drop first count k l) (rest-can gives a b p q x k (range_with_len first count) can within h)

pub turn-past : {S : Type 0} (gives : S → ℕ → Option Packet → S → Type 0) (a b c : Nodes) (p q : S) (x first count k n : ℕ) → k + n ≤ count → IsAsking gives a b p q x (take k (range_with_len first count))
    → HasAskedAll gives b c q q x (range_with_len (first + k) n) None → IsAsking gives a c p q x (take (k + n) (range_with_len first count))
turn-past gives a b c p q x first count k n l h passed =
    let rest = ap (take n) (range-drop first count k (omega arith)) ∙ range-front (first + k) (count - k) n (omega arith) in
    asking-past gives a b c p q x k n (range_with_len first count) h (subst (λ front. HasAskedAll gives b c q q x front None) (sym rest) passed)

-- The first input of an order is one of the node's, and each of those is there.
pub first-below : (table : List Inputs) (x : ℕ) (p : Inputs) (order : List Ranked) (d : Ranked) → slice_get table x ≡ Some p → 0 < length order → AllByRecursion (λ i. IsSome (input_at table x i)) (inputs_in order)
    → (get_or order 0 d).input < length p.each.items
first-below table x p order d e some h = grind (arith, common_steps, some-below)

pub input-there : (table : List Inputs) (x i : ℕ) (p : Inputs) → slice_get table x ≡ Some p → i < length p.each.items → IsSome (input_at table x i)
input-there table x i p e l = (order-there table x p (i ∷ []) e (l, tt)).0

-- The front of an order, of which ranks follow one another.
pub row-follows : (order : List Ranked) (d : Ranked) (n m : ℕ) → n ≤ m → m ≤ length order → FollowOneAnother (take n (take m order)) → take n (inputs_in order) ≡ range_with_len (get_or order 0 d).input n
row-follows order d zero m l some follow = refl
row-follows [] d (suc n) m l some follow = absurd (omega arith)
row-follows (r ∷ order) d (suc n) zero l some follow = absurd (omega arith)
row-follows (r ∷ order) d (suc n) (suc m) l some follow = ap (λ is. r.input ∷ is) (sym (front n m order (omega arith))) ∙ follow ∙ ap (λ k. range_with_len r.input (suc k)) (search rules)
  where
    front : (n m : ℕ) (order : List Ranked) → n ≤ m → inputs_in (take n (take m order)) ≡ take n (inputs_in order)
    front zero m order l = refl
    front (suc n) zero order l = absurd (omega arith)
    front (suc n) (suc m) [] l = refl
    front (suc n) (suc m) (s ∷ order) l = ap (λ is. s.input ∷ is) (front n m order (omega arith))

-- Those at the front were asked, and nothing else is.
pub asking-front : {S : Type 0} (gives : S → ℕ → Option Packet → S → Type 0) (a b : Nodes) (p q : S) (x first count k n : ℕ) → k ≡ n → n ≤ count → IsAsking gives a b p q x (take k (range_with_len first count))
    → HasAskedAll gives a b p q x (range_with_len first n) None
asking-front gives a b p q x first count k n same l h = subst (IsAsking gives a b p q x) (ap (λ m. take m (range_with_len first count)) same ∙ range-front first count n l) h

-- each input that is there has an edge
inputs-edges : (table : List Inputs) (x : ℕ) (order : List ℕ) → AllByRecursion (λ i. IsSome (input_at table x i)) order → length order ≤ edges_in table x order
inputs-edges table x [] h = omega arith
inputs-edges table x (i ∷ order) h = let one = edge-there table x i h.0 in let rest = inputs-edges table x order h.1 in omega (arith, one, rest)

-- There is room for a visit of each.
pub order-room : (a : Nodes) (x : ℕ) (order : List ℕ) → CanPull a x (edges_in a.inputs.items x order) → AllByRecursion (λ i. IsSome (input_at a.inputs.items x i)) order → length order ≤ a.log.spare
order-room a x order can within = let room = can.room in let edges = inputs-edges a.inputs.items x order within in omega (arith, room, edges)

pub idle-room : (a : Nodes) (x first count : ℕ) → CanPull a x (edges_in a.inputs.items x (range_with_len first count)) → AllByRecursion (λ i. IsSome (input_at a.inputs.items x i)) (range_with_len first count) → count ≤ a.log.spare
idle-room a x first count can within = search (rules, order-room, length-range_with_len)

-- the visits of no inputs, and of one more
pub idle-none : (a : Nodes) (x first : ℕ) → with_idle_at a x first 0 ≡ a
idle-none a x first = search rules

pub idle-next : (a : Nodes) (x first k : ℕ) → Logs (with_idle_at a x first k) (with_idle_at a x first (k + 1)) (asking a.pull a.moment x (first + k) None)
idle-next a x first k =
    let less : a.log.spare - (k + 1) ≡ a.log.spare - k - 1 = omega arith in
    record {
      inputs = refl;
      states = refl;
      pull = refl;
      moment = refl;
      log = ap₂ (λ items spare. record { items = items; spare = spare; kind = a.log.kind }) (sym (range-next (λ i. asking a.pull a.moment x i None) a.log.items first k)) less;
    }

-- Queues that have nothing needn't be asked: their visits are recorded.
pub idle-recorded : {S : Type 0} (gives : S → ℕ → Option Packet → S → Type 0) (a : Nodes) (q : S) (x first count : ℕ) → AllFit a.inputs.items a.states.items → ((i : ℕ) → i < count → IsIdle gives a q x (first + i))
    → HasAskedAll gives a (with_idle_at a x first count) q q x (range_with_len first count) None
idle-recorded gives a q x first count fit idle = asking-front gives a (with_idle_at a x first count) q q x first count count count refl (omega arith) (so_far count (omega arith))
  where
    row : List ℕ
    row = range_with_len first count

    so_far : (k : ℕ) → k ≤ count → IsAsking gives a (with_idle_at a x first k) q q x (take k row)
    so_far zero l = subst (λ b. IsAsking gives a b q q x []) (sym (idle-none a x first)) (asking-first gives a q x fit)
    so_far (suc k) l =
        let h = so_far k (omega arith) in
        let here = idle-then gives a (with_idle_at a x first k) q x (first + k) _ h.keeps (idle k (omega arith)) in
        subst (λ n. IsAsking gives a (with_idle_at a x first n) q q x (take n row)) (let next : k + 1 ≡ suc k = omega arith in next)
        (asking-next gives a (with_idle_at a x first k) (with_idle_at a x first (k + 1)) q q q x k (first + k) None row (let size = length-range_with_len first count in omega (arith, size)) h
        (sym (get_or-range_with_len first count k 0 (omega arith))) refl
        (idle-asked gives (with_idle_at a x first k) (with_idle_at a x first (k + 1)) q x (first + k) here.0 here.1 (idle-next a x first k)))
