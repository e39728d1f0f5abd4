-- Inputs of a node that are asked one after another.
use Rattle.std.proofs.lemmas.Grind.{common_steps}
use Rattle.std.proofs.Common.{◌≡◌, ◌≢◌, ℕ, suc, ◌+◌, ◌<◌, ◌≤◌, List, [], ◌∷◌, ◌++◌, length, take, drop, slice_get, slice_index, Option, Some, None, IsSome, refl, sym, ap, ap₂, ◌∙◌, subst, append-nil, append_assoc, arith, rules}
use Rattle.std.specs.List.{AllByRecursion}
use Rattle.std.proofs.Math.Seq.{drop-append_seam, take-suc}
use Rattle.std.proofs.lemmas.Option.{slice_get-get_or}
use Rattle.std.proofs.lemmas.List.{map-append, take-append-drop, take_all}
use Rattle.clk_packet.specs.declared.packet.Packet.{Packet}
use Rattle.clk_sched.specs.declared.visit.Visit.{Visit}
use Rattle.clk_sched.specs.declared.session.nodes.Nodes.{Nodes}
use Rattle.clk_sched.specs.declared.session.inputs.Inputs.{Inputs}
use Rattle.clk_sched.specs.Log.{asking}
use Rattle.clk_sched.specs.inside.Holds.Shaper.{AreBefore}
use Rattle.clk_sched.specs.Answers.{Answers, at_queue}
use Rattle.clk_sched.specs.inside.Places.{StandsIn, AreWired, AllFit, edges_at, edges_in, input_at, queue_asked}
use Rattle.clk_sched.specs.inside.Pulling.{Now, AreApart, CanPull, Keeps, Asks, AsksAll, IsGoing, IsPulling, IsUnasked, added, now_of, asked_in_vain, asked_in_order}
use Rattle.clk_sched.specs.inside.Turning.{HasAsked, HasAskedAll}
use Rattle.clk_packet.specs.Lists.{In}
use Rattle.clk_sched.proofs.Lists.Members.{of-all, to-all, all-append, all-split, in-slice}
use Rattle.clk_sched.proofs.Lists.Apart.{all-map}

-- what was logged, where the log is known
pub added-is : (a b : Nodes) (more : List Visit) → b.log.items ≡ a.log.items ++ more → added a b ≡ more
added-is a b more e = ap (drop (length a.log.items)) e ∙ drop-append_seam a.log.items more

-- Steps that keep what stays, one after another.
grown-then : {f g : ℕ} (a b c : Nodes) (m n : ℕ) → Keeps f a b m → Keeps g b c n → c.log.items ≡ a.log.items ++ (added a b ++ added b c)
grown-then a b c m n h k = k.grown ∙ ap (λ l. l ++ added b c) h.grown ∙ append_assoc a.log.items (added a b) (added b c)

pub added-then : {f g : ℕ} (a b c : Nodes) (m n : ℕ) → Keeps f a b m → Keeps g b c n → added a c ≡ added a b ++ added b c
added-then a b c m n h k = added-is a c (added a b ++ added b c) (grown-then a b c m n h k)

pub keeps-then : {f : ℕ} (a b c : Nodes) (m n : ℕ) → Keeps f a b m → Keeps f b c n → Keeps f a c (m + n)
keeps-then a b c m n h k = grind (arith, common_steps, grown-then, added-then)

pub keeps-more : {f : ℕ} (a b : Nodes) (m n : ℕ) → Keeps f a b m → m ≤ n → Keeps f a b n
keeps-more a b m n h l = search rules

-- Fewer nodes are known to stay.
pub keeps-ahead : (f g : ℕ) (a b : Nodes) (m : ℕ) → Keeps f a b m → g ≤ f → Keeps g a b m
keeps-ahead f g a b m h l =
    record { inputs = h.inputs; pull = h.pull; moment = h.moment; fit = h.fit; ahead = λ y k. h.ahead y (omega (arith, l, k)); kind = h.kind; grown = h.grown; at_most = h.at_most }

pub added-none : (a : Nodes) → added a a ≡ []
added-none a = added-is a a [] (sym (append-nil a.log.items))

pub keeps-none : {f : ℕ} (a : Nodes) → AllFit a.inputs.items a.states.items → Keeps f a a 0
keeps-none a fit = search (rules, append-nil, added-none)

pub can-go_on : {f : ℕ} (a b : Nodes) (x m n : ℕ) → CanPull a x (m + n) → Keeps f a b m → CanPull b x n
can-go_on a b x m n can h =
    record {
      wired = subst AreWired (sym h.inputs) can.wired;
      fit = subst (λ t. AllFit t b.states.items) (sym h.inputs) h.fit;
      there = subst (λ t. x < length t) (sym h.inputs) can.there;
      room = let r = can.room in let l = h.at_most in omega arith;
      moment = let r = can.moment in let e = h.moment in omega (arith, e);
    }

pub same-now : {f : ℕ} (a b : Nodes) (m : ℕ) → Keeps f a b m → now_of b ≡ now_of a
same-now a b m h = ap₂ (λ n t. record { number = n; moment = t }) h.pull h.moment

pub answers-then : {S : Type 0} (gives : S → ℕ → Option Packet → S → Type 0) (asked : Visit → Option ℕ) (xs ys : List Visit) (a b c : S) → Answers gives asked a xs b → Answers gives asked b ys c
    → Answers gives asked a (xs ++ ys) c
answers-then gives asked [] ys a b c h k = subst (λ s. Answers gives asked s ys c) (sym h) k
answers-then {S = S} gives asked (x ∷ xs) ys a b c h k = by_queue (asked x) (λ s h. answers-then gives asked xs ys s b c h k) h
  where
    by_queue : (o : Option ℕ) → ((s : S) → Answers gives asked s xs b → Answers gives asked s (xs ++ ys) c) → at_queue gives o x.got a (λ s. Answers gives asked s xs b)
        → at_queue gives o x.got a (λ s. Answers gives asked s (xs ++ ys) c)
    by_queue o rest h = search rules

pub edges-append : (table : List Inputs) (x : ℕ) (one other : List ℕ) → edges_in table x (one ++ other) ≡ edges_in table x one + edges_in table x other
edges-append table x [] other = omega arith
edges-append table x (i ∷ one) other = let rest = edges-append table x one other in omega (arith, rest)

-- orders apart, in parts
pub apart-split : (one other : List ℕ) → AreApart (λ (i : ℕ). i) (one ++ other)
    → AreApart (λ (i : ℕ). i) one × AreApart (λ (i : ℕ). i) other × AllByRecursion (λ i. AllByRecursion (λ j. j ≢ i) other) one
apart-split [] other h = (tt, h, tt)
apart-split (i ∷ one) other h =
    let rest = apart-split one other h.1 in
    let parts = all-split (λ j. j ≢ i) one other h.0 in
    ((parts.0, rest.0), rest.1, (parts.1, rest.2))

-- some inputs are asked, and then some others
pub asks-then : {f g : ℕ} (a b c : Nodes) (m n x : ℕ) (one other : List ℕ) (first second : List Visit) → Keeps f a b m → Keeps g b c n → AllByRecursion (λ (v : Visit). In v.input one) first
    → AsksAll a b x one first → AsksAll b c x other second → AsksAll a c x (one ++ other) (first ++ second)
asks-then a b c m n x one other first second h k theirs f s row history visits own going unasked apart =
    let parts = all-split (IsUnasked own) one other unasked in
    let orders = apart-split one other apart in
    let g = f row history visits own going parts.0 orders.0 in
    let midway : IsGoing b history x row (visits ++ added a b) (own ++ first) =
    record {
      stands = subst (λ t. StandsIn t x row) (sym h.inputs) going.stands;
      before = subst (λ t. (y : ℕ) → AreBefore t (history y)) (sym h.moment) going.before;
      pulling = subst (λ now. IsPulling now history x row b.states.items (visits ++ added a b) (own ++ first)) (sym (same-now a b m h)) g.pulling;
    }
    in
    let new : AllByRecursion (IsUnasked (own ++ first)) other =
    to-all (IsUnasked (own ++ first)) other
    (λ j mj. all-append (λ (v : Visit). v.input ≢ j) own first (of-all (IsUnasked own) j other parts.1 mj)
    (to-all (λ (v : Visit). v.input ≢ j) first (λ v mv e. of-all (λ i. i ≢ v.input) j other (of-all (λ i. AllByRecursion (λ l. l ≢ i) other) v.input one orders.2 (of-all (λ (w : Visit). In w.input one) v first theirs mv)) mj (sym e))))
    in
    let r = s row history (visits ++ added a b) (own ++ first) midway new orders.1 in
    record {
      pulling =
          subst (λ l. IsPulling (now_of a) history x row c.states.items (visits ++ l) (own ++ (first ++ second))) (sym (added-then a b c m n h k))
          (subst (λ l. IsPulling (now_of a) history x row c.states.items l (own ++ (first ++ second))) (append_assoc visits (added a b) (added b c))
          (subst (λ l. IsPulling (now_of a) history x row c.states.items ((visits ++ added a b) ++ added b c) l) (append_assoc own first second)
          (subst (λ now. IsPulling now history x row c.states.items ((visits ++ added a b) ++ added b c) ((own ++ first) ++ second)) (same-now a b m h) r.pulling)));
      outside = λ y l. r.outside y l ∙ g.outside y l;
    }

-- of an order only the front is asked
pub asks-front : (a b : Nodes) (x : ℕ) (one other : List ℕ) (more : List Visit) → AsksAll a b x one more → AsksAll a b x (one ++ other) more
asks-front a b x one other more f row history visits own going unasked apart = f row history visits own going (all-split (IsUnasked own) one other unasked).0 (apart-split one other apart).0

pub asks-none : (a : Nodes) (x : ℕ) → AsksAll a a x [] []
asks-none a x row history visits own going unasked apart = search (rules, added-none, append-nil)

-- an input is asked, and the visit logged
pub asks-one : {f : ℕ} (a b c : Nodes) (m x i : ℕ) (got : Option Packet) → Keeps f a b m → c.log.items ≡ b.log.items ++ asking a.pull a.moment x i got ∷ [] → c.states.items ≡ b.states.items → Asks a b x i got
    → AsksAll a c x (i ∷ []) (asking a.pull a.moment x i got ∷ [])
asks-one a b c m x i got h log states f row history visits own going unasked apart =
    let v = asking a.pull a.moment x i got in
    let r = f row history visits own going unasked.0 v (record { number = refl; moment = refl; node = refl }) refl refl refl in
    let more : added a c ≡ added a b ++ v ∷ [] = added-is a c (added a b ++ v ∷ []) (log ∙ ap (λ l. l ++ v ∷ []) h.grown ∙ append_assoc a.log.items (added a b) (v ∷ [])) in
    record {
      pulling =
          subst (λ l. IsPulling (now_of a) history x row c.states.items (visits ++ l) (own ++ v ∷ [])) (sym more)
          (subst (λ s. IsPulling (now_of a) history x row s (visits ++ (added a b ++ v ∷ [])) (own ++ v ∷ [])) (sym states) r.0);
      outside = λ y l. ap (λ s. slice_get s y) states ∙ r.1 y l;
    }

pub vain-in : (now : Now) (x : ℕ) (order : List ℕ) → AllByRecursion (λ (v : Visit). In v.input order) (asked_in_vain now x order)
vain-in now x order = all-map (λ (v : Visit). In v.input order) (λ i. asking now.number now.moment x i None) order (to-all (λ i. In i order) order (λ i m. m))

-- a node asked some inputs and got nothing
abbrev pub IsAsking : {S : Type 0} → (S → ℕ → Option Packet → S → Type 0) → Nodes → Nodes → S → S → ℕ → List ℕ → Type 0
IsAsking gives old new before now x order = HasAskedAll gives old new before now x order None

pub asking-first : {S : Type 0} (gives : S → ℕ → Option Packet → S → Type 0) (a : Nodes) (q : S) (x : ℕ) → AllFit a.inputs.items a.states.items → IsAsking gives a a q q x []
asking-first gives a q x fit = record { keeps = keeps-none a fit; answers = subst (λ l. Answers gives (queue_asked a.inputs.items) q l q) (sym (added-none a)) refl; asks = asks-none a x }

edges-next : (table : List Inputs) (x : ℕ) (order : List ℕ) (i : ℕ) → edges_in table x (order ++ i ∷ []) ≡ edges_in table x order + edges_at table x i
edges-next table x order i = let e = edges-append table x order (i ∷ []) in omega (arith, e)

-- the same after those that gave nothing
pub asking-then : {S : Type 0} (gives : S → ℕ → Option Packet → S → Type 0) (a b c : Nodes) (p q r : S) (x i : ℕ) (order : List ℕ) (got : Option Packet) → IsAsking gives a b p q x order → HasAsked gives b c q r x i got
    → Keeps (suc x) a c (edges_in a.inputs.items x (order ++ i ∷ [])) × Answers gives (queue_asked a.inputs.items) p (added a c) r
    × AsksAll a c x (order ++ i ∷ []) (asked_in_vain (now_of a) x order ++ asking a.pull a.moment x i got ∷ [])
asking-then gives a b c p q r x i order got h k =
    let second : Keeps (suc x) b c (edges_at a.inputs.items x i) = subst (λ t. Keeps (suc x) b c (edges_at t x i)) h.keeps.inputs k.keeps in (
      subst (Keeps (suc x) a c) (sym (edges-next a.inputs.items x order i)) (keeps-then a b c (edges_in a.inputs.items x order) (edges_at a.inputs.items x i) h.keeps second),
      subst (λ l. Answers gives (queue_asked a.inputs.items) p l r) (sym (added-then a b c _ _ h.keeps second))
          (answers-then gives (queue_asked a.inputs.items) (added a b) (added b c) p q r h.answers (subst (λ t. Answers gives (queue_asked t) q (added b c) r) h.keeps.inputs k.answers)),
      asks-then a b c _ _ x order (i ∷ []) (asked_in_vain (now_of a) x order) (asking a.pull a.moment x i got ∷ []) h.keeps second (vain-in (now_of a) x order) h.asks
          (subst (λ n. AsksAll b c x (i ∷ []) (asking n a.moment x i got ∷ [])) h.keeps.pull (subst (λ m. AsksAll b c x (i ∷ []) (asking b.pull m x i got ∷ [])) h.keeps.moment k.asks)),
    )

take-next : (order : List ℕ) (k : ℕ) → k < length order → take (k + 1) order ≡ take k order ++ slice_index order k ∷ []
take-next order k l = let e : k + 1 ≡ suc k = omega arith in ap (λ n. take n order) e ∙ take-suc order k 0 l

front-edges : (table : List Inputs) (x : ℕ) (order : List ℕ) (k : ℕ) → edges_in table x (take k order) ≤ edges_in table x order
front-edges table x order k = let e = edges-append table x (take k order) (drop k order) in let f = ap (edges_in table x) (take-append-drop k order) in omega (arith, e, f)

-- room for the next
pub asking-can : {S : Type 0} (gives : S → ℕ → Option Packet → S → Type 0) (a b : Nodes) (p q : S) (x k : ℕ) (order : List ℕ) → CanPull a x (edges_in a.inputs.items x order) → IsAsking gives a b p q x (take k order) → k < length order
    → CanPull b x (edges_at b.inputs.items x (slice_index order k))
asking-can gives a b p q x k order can h l =
    let i = slice_index order k in
    let f = ap (edges_in a.inputs.items x) (sym (take-next order k l)) in
    let e = edges-next a.inputs.items x (take k order) i in
    let m = front-edges a.inputs.items x order (k + 1) in
    subst (λ t. CanPull b x (edges_at t x i)) (sym h.keeps.inputs)
    (can-go_on a b x (edges_in a.inputs.items x (take k order)) (edges_at a.inputs.items x i)
    (record { wired = can.wired; fit = can.fit; there = can.there; room = (let r = can.room in omega (arith, e, f, m)); moment = can.moment }) h.keeps)

-- What the next place of an order names can be asked.
pub asking-ready : {S : Type 0} (gives : S → ℕ → Option Packet → S → Type 0) (a b : Nodes) (p q : S) (x k i : ℕ) (order : List ℕ) → CanPull a x (edges_in a.inputs.items x order)
    → AllByRecursion (λ j. IsSome (input_at a.inputs.items x j)) order → IsAsking gives a b p q x (take k order) → k < length order → i ≡ slice_index order k
    → CanPull b x (edges_at b.inputs.items x i) × IsSome (input_at b.inputs.items x i)
asking-ready gives a b p q x k i order can within h l same = grind (arith, common_steps, asking-can, of-all, in-slice, slice_get-get_or)

-- it was asked as the order names it, and gave this
named : {S : Type 0} (gives : S → ℕ → Option Packet → S → Type 0) (b c : Nodes) (q r : S) (x i j : ℕ) (got given : Option Packet) → i ≡ j → got ≡ given → HasAsked gives b c q r x i got → HasAsked gives b c q r x j given
named gives b c q r x i j got given same is one = subst (λ k. HasAsked gives b c q r x k given) same (subst (HasAsked gives b c q r x i) is one)

pub asking-next : {S : Type 0} (gives : S → ℕ → Option Packet → S → Type 0) (a b c : Nodes) (p q r : S) (x k i : ℕ) (got : Option Packet) (order : List ℕ) → k < length order → IsAsking gives a b p q x (take k order)
    → i ≡ slice_index order k → got ≡ None → HasAsked gives b c q r x i got → IsAsking gives a c p r x (take (k + 1) order)
asking-next gives a b c p q r x k i got order l h same none one =
    let all = asking-then gives a b c p q r x (slice_index order k) (take k order) None h (named gives b c q r x i (slice_index order k) got None same none one) in
    subst (IsAsking gives a c p r x) (sym (take-next order k l))
    (record {
      keeps = all.0;
      answers = all.1;
      asks = subst (AsksAll a c x (take k order ++ slice_index order k ∷ [])) (sym (map-append (λ i. asking a.pull a.moment x i None) (take k order) (slice_index order k ∷ []))) all.2;
    })

pub asking-given : {S : Type 0} (gives : S → ℕ → Option Packet → S → Type 0) (a b c : Nodes) (p q r : S) (x k i : ℕ) (got : Option Packet) (packet : Packet) (order : List ℕ) → k < length order → IsAsking gives a b p q x (take k order)
    → i ≡ slice_index order k → got ≡ Some packet → HasAsked gives b c q r x i got → HasAskedAll gives a c p r x order (Some (k, packet))
asking-given gives a b c p q r x k i got packet order l h same is one =
    let all = asking-then gives a b c p q r x (slice_index order k) (take k order) (Some packet) h (named gives b c q r x i (slice_index order k) got (Some packet) same is one) in
    let whole : (take k order ++ slice_index order k ∷ []) ++ drop (k + 1) order ≡ order = ap (λ l. l ++ drop (k + 1) order) (sym (take-next order k l)) ∙ take-append-drop (k + 1) order in
    let edges = edges-append a.inputs.items x (take k order ++ slice_index order k ∷ []) (drop (k + 1) order) in
    let same = ap (edges_in a.inputs.items x) whole in
    record {
      keeps = keeps-more a c _ _ all.0 (omega (arith, edges, same));
      answers = all.1;
      asks = subst (λ l. AsksAll a c x l (asked_in_order (now_of a) x order (Some (k, packet)))) whole (asks-front a c x (take k order ++ slice_index order k ∷ []) (drop (k + 1) order) _ all.2);
    }

pub asking-all : {S : Type 0} (gives : S → ℕ → Option Packet → S → Type 0) (a b : Nodes) (p q : S) (x k : ℕ) (order : List ℕ) → length order ≤ k → IsAsking gives a b p q x (take k order) → HasAskedAll gives a b p q x order None
asking-all gives a b p q x k order l h = subst (IsAsking gives a b p q x) (take_all k order l) h

-- what was asked in vain, as a part of what is asked
pub asked-vain : {S : Type 0} (gives : S → ℕ → Option Packet → S → Type 0) (a b : Nodes) (p q : S) (x : ℕ) (order : List ℕ) (r : Option (ℕ × Packet)) → r ≡ None → HasAskedAll gives a b p q x order r → IsAsking gives a b p q x order
asked-vain gives a b p q x order r none h = subst (HasAskedAll gives a b p q x order) none h
