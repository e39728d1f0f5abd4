-- The shares of a DRRSched.
use Rattle.std.proofs.Common.{◌≡◌, ◌≢◌, ℕ, zero, suc, ◌+◌, ◌-◌, ◌*◌, ◌<◌, ◌≤◌, ◌==◌, ◌&&◌, ◌%◌, ◌⊎◌, inl, inr, if◌then◌else◌, nat_le, Bool, true, false, List, [], ◌∷◌, ◌++◌, reverse, refl, sym, ap, ◌∙◌, subst, mul-add, zero-add, mod-lt, arith, rules}
use Rattle.std.proofs.lemmas.Bool.{false≢true}
use Rattle.std.proofs.lemmas.Bool.Decides.{nat_tests}
use Rattle.clk_sched.specs.declared.visit.Visit.{Visit}
use Rattle.clk_sched.specs.Turns.{Turn, EachAfter, all_visits}
use Rattle.clk_sched.specs.Heads.{LooksAtHeads}
use Rattle.clk_sched.specs.Laws.Deficit.{IsDeficit, allowed_bytes, next_input, arrives, arrivals, passed_bytes, quantum_at, deficit_covers}
use Rattle.clk_sched.specs.Service.{arrivals_in, bytes_in, AlwaysGets, Near, SharesByDeficit}
use Rattle.clk_sched.proofs.Runs.Allowed.{onto, onto-reverse, each-split}

-- a visit as a DRRSched has it
abbrev pub IsDeficitVisit : List ℕ → ℕ → List Visit → Visit → Type 0
IsDeficitVisit quanta inputs earlier v = LooksAtHeads (next_input inputs) (deficit_covers quanta) earlier v

-- what was passed is covered by the quanta, and no more than this is left over
abbrev pub Covers : (quantum bytes arrived spare : ℕ) → Type 0
Covers quantum bytes arrived spare = (bytes ≤ quantum * arrived) × (quantum * arrived ≤ bytes + (65534 + spare))

-- a quantum may be left over at the input whose visit passed last
abbrev pub spare : ℕ → ℕ → List Visit → ℕ
spare quantum i [] = 0
spare quantum i (v ∷ earlier) = if v.passed && (v.input == i) then quantum else 0

abbrev pub IsCovered : List ℕ → List Visit → Type 0
IsCovered quanta earlier = (i : ℕ) → Covers (quantum_at quanta i) (passed_bytes i earlier) (arrivals i earlier) (spare (quantum_at quanta i) i earlier)

-- at a visit to the input whose turn it is
pub deficit-bound : (quantum inputs : ℕ) (earlier : List Visit) (i : ℕ) → i ≡ next_input inputs earlier → Covers quantum (passed_bytes i earlier) (arrivals i earlier) (spare quantum i earlier)
    → (passed_bytes i earlier ≤ quantum * (arrives earlier + arrivals i earlier)) × (quantum * (arrives earlier + arrivals i earlier) ≤ passed_bytes i earlier + (quantum + 65534))
deficit-bound quantum inputs earlier i e h = search (rules, zero-add, mul-add)

-- what is left of a number that is no smaller
what-is-left : (passed allowed bound : ℕ) → (passed ≤ allowed) × (allowed ≤ passed + bound) → (left : ℕ) × (passed + left ≡ allowed) × (left ≤ bound)
what-is-left passed allowed bound h = (allowed - passed, omega (arith, h.0), omega (arith, h.0, h.1))

pub covers-visit : (quanta : List ℕ) (inputs : ℕ) (earlier : List Visit) (v : Visit) → IsDeficitVisit quanta inputs earlier v → IsCovered quanta earlier → IsCovered quanta (v ∷ earlier)
covers-visit quanta inputs earlier v law h i = search rules

pub covers-all : (quanta : List ℕ) (inputs : ℕ) (earlier visits : List Visit) → EachAfter (IsDeficitVisit quanta inputs) earlier visits → IsCovered quanta earlier → IsCovered quanta (onto visits earlier)
covers-all quanta inputs earlier [] law h = h
covers-all quanta inputs earlier (v ∷ visits) law h = covers-all quanta inputs (v ∷ earlier) visits law.1 (covers-visit quanta inputs earlier v law.0 h)

-- over a range in which an input always had a packet, its arrivals and its bytes add up
range-adds : (i : ℕ) (earlier range : List Visit) → AlwaysGets i range
    → (bytes_in i range + passed_bytes i earlier ≡ passed_bytes i (onto range earlier)) × (arrivals_in i earlier range + arrivals i earlier ≡ arrivals i (onto range earlier))
range-adds i earlier [] gets = (omega arith, omega arith)
range-adds i earlier (v ∷ range) gets = search (rules, onto, false≢true, (range-adds i (v ∷ earlier) range gets.1))

-- So many arrivals come before one at input i, where the next is at input n of w.
record IsAhead (w n i ahead : ℕ) : Type 0 where
  below : ahead < w
  reaches : (n + ahead ≡ i) ⊎ (n + ahead ≡ i + w)

some-ahead : (w n i : ℕ) → n < w → i < w → (ahead : ℕ) × IsAhead w n i ahead
some-ahead w n i l m = by_order (nat_le n i) refl
  where
    by_order : (b : Bool) → nat_le n i ≡ b → (ahead : ℕ) × IsAhead w n i ahead
    by_order true e = let h : n ≤ i = grind (arith, nat_tests) in (i - n, record { below = omega arith; reaches = inl (omega arith) })
    by_order false e = let h : i < n = grind (arith, nat_tests) in ((i + w) - n, record { below = omega arith; reaches = inr (omega arith) })

next-after : (w n : ℕ) → n < w → ((n + 1 < w) × ((n + 1) % w ≡ n + 1)) ⊎ ((n + 1 ≡ w) × ((n + 1) % w ≡ 0))
next-after w n l = grind arith

-- after an arrival at n, every other input is one nearer, and n is the farthest
ahead-other : (w n i ahead : ℕ) → n < w → i < w → i ≢ n → IsAhead w n i ahead → (less : ℕ) × (less + 1 ≡ ahead) × IsAhead w ((n + 1) % w) i less
ahead-other w n i zero l m d h = search rules
ahead-other w n i (suc less) l m d h = by_next (next-after w n l) h.reaches
  where
    by_next : ((n + 1 < w) × ((n + 1) % w ≡ n + 1)) ⊎ ((n + 1 ≡ w) × ((n + 1) % w ≡ 0)) → (n + suc less ≡ i) ⊎ (n + suc less ≡ i + w) → (k : ℕ) × (k + 1 ≡ suc less) × IsAhead w ((n + 1) % w) i k
    by_next (inl e) (inl f) = (less, omega arith, record { below = let b = h.below in omega arith; reaches = inl (let g = e.1 in omega (arith, g, f)) })
    by_next (inl e) (inr f) = (less, omega arith, record { below = let b = h.below in omega arith; reaches = inr (let g = e.1 in omega (arith, g, f)) })
    by_next (inr e) (inl f) = let g = e.0 in absurd (omega (arith, g, f))
    by_next (inr e) (inr f) = (less, omega arith, record { below = let b = h.below in omega arith; reaches = inl (let g = e.1 in let k = e.0 in omega (arith, g, k, f)) })

ahead-self : (w n : ℕ) → n < w → (last : ℕ) × (last + 1 ≡ w) × IsAhead w ((n + 1) % w) n last
ahead-self w n l = search (rules, next-after)

-- the input of the next arrival
abbrev next_arrival : ℕ → List Visit → ℕ
next_arrival w [] = 0
next_arrival w (v ∷ earlier) = (v.input + 1) % w

-- a visit is an arrival at the next input, or goes to the last input again
abbrev ArrivesInTurn : ℕ → List Visit → Visit → Type 0
ArrivesInTurn w earlier v = ((arrives earlier ≡ 1) × (v.input ≡ next_arrival w earlier)) ⊎ ((arrives earlier ≡ 0) × (next_arrival w (v ∷ earlier) ≡ next_arrival w earlier))

arrives-in_turn : (w : ℕ) (earlier : List Visit) (v : Visit) → v.input ≡ next_input w earlier → ArrivesInTurn w earlier v
arrives-in_turn w earlier v e = search rules

-- of two inputs, the one that comes first has as many arrivals as the other, or one more
arrivals-order : (quanta : List ℕ) (w i j : ℕ) (earlier range : List Visit) (a b : ℕ) → EachAfter (IsDeficitVisit quanta w) earlier range → i < w → j < w → next_arrival w earlier < w
    → IsAhead w (next_arrival w earlier) i a → IsAhead w (next_arrival w earlier) j b → a ≤ b
    → (arrivals_in j earlier range ≤ arrivals_in i earlier range) × (arrivals_in i earlier range ≤ arrivals_in j earlier range + 1)
arrivals-order quanta w i j earlier [] a b law il jl nl ah bh l = (omega arith, omega arith)
arrivals-order quanta w i j earlier (v ∷ range) a b law il jl nl ah bh l =
    by_turn (arrives-in_turn w earlier v law.0.in_turn) (λ i j a b. arrivals-order quanta w i j (v ∷ earlier) range a b law.1)
  where
    n : ℕ
    n = next_arrival w earlier

    more : ℕ → ℕ
    more k = arrivals_in k (v ∷ earlier) range

    added : ℕ → ℕ
    added k = if v.input == k then arrives earlier else 0

    Rest : Type 0
    Rest =
        (i j a b : ℕ) → i < w → j < w → next_arrival w (v ∷ earlier) < w → IsAhead w (next_arrival w (v ∷ earlier)) i a → IsAhead w (next_arrival w (v ∷ earlier)) j b → a ≤ b → (more j ≤ more i) × (more i ≤ more j + 1)

    Goal : Type 0
    Goal = (added j + more j ≤ added i + more i) × (added i + more i ≤ added j + more j + 1)

    added-none : arrives earlier ≡ 0 → (k : ℕ) → added k ≡ 0
    added-none e k = search rules

    added-here : arrives earlier ≡ 1 → v.input ≡ n → (k : ℕ) → k ≡ n → added k ≡ 1
    added-here e f k g = let same : (v.input == k) ≡ true = grind (arith, nat_tests) in ap (λ c. if c then arrives earlier else 0) same ∙ e

    added-other : v.input ≡ n → (k : ℕ) → k ≢ n → added k ≡ 0
    added-other f k d = search rules

    by_turn : ArrivesInTurn w earlier v → Rest → Goal
    by_turn (inr e) rest =
        let k = rest i j a b il jl (subst (λ m. m < w) (sym e.1) nl) (subst (λ m. IsAhead w m i a) (sym e.1) ah) (subst (λ m. IsAhead w m j b) (sym e.1) bh) l in
        let p = added-none e.0 i in
        let q = added-none e.0 j in
        (let x = k.0 in omega (arith, p, q, x), let x = k.1 in omega (arith, p, q, x))
    by_turn (inl e) rest = by_same (i == n) (j == n) refl refl
      where
        next : next_arrival w (v ∷ earlier) ≡ (n + 1) % w
        next = ap (λ m. (m + 1) % w) e.1

        nearer : (k d : ℕ) → IsAhead w ((n + 1) % w) k d → IsAhead w (next_arrival w (v ∷ earlier)) k d
        nearer k d h = subst (λ m. IsAhead w m k d) (sym next) h

        within : next_arrival w (v ∷ earlier) < w
        within = subst (λ m. m < w) (sym next) (mod-lt (n + 1) (omega arith))

        by_same : (c d : Bool) → (i == n) ≡ c → (j == n) ≡ d → Goal
        by_same true true f g =
            let x : i ≡ n = grind (arith, nat_tests) in
            let y : j ≡ n = grind (arith, nat_tests) in
            let both : added i + more i ≡ added j + more j = ap (λ k. added k + more k) (x ∙ sym y) in
            (omega (arith, both), omega (arith, both))
        by_same true false f g =
            let x : i ≡ n = grind (arith, nat_tests) in
            let y : j ≢ n = (λ h. let t : (j == n) ≡ true = grind (arith, nat_tests) in false≢true (sym g ∙ t)) in
            let far = ahead-self w n nl in
            let near = ahead-other w n j b nl jl y bh in
            let k = rest j n near.0 far.0 jl nl within (nearer j near.0 near.2) (nearer n far.0 far.2) (let s = far.1 in let t = near.1 in let u = bh.below in omega (arith, s, t, u)) in
            let p = added-here e.0 e.1 i x in
            let q = added-other e.1 j y in
            let same = ap more x in
            (let z = k.1 in omega (arith, p, q, z, same), let z = k.0 in omega (arith, p, q, z, same))
        by_same false true f g =
            let y : j ≡ n = grind (arith, nat_tests) in
            let x : i ≢ n = (λ h. let t : (i == n) ≡ true = grind (arith, nat_tests) in false≢true (sym f ∙ t)) in
            let near = ahead-other w n i a nl il x ah in
            absurd (let t = near.1 in omega (arith, t, l))
        by_same false false f g =
            let x : i ≢ n = (λ h. let t : (i == n) ≡ true = grind (arith, nat_tests) in false≢true (sym f ∙ t)) in
            let y : j ≢ n = (λ h. let t : (j == n) ≡ true = grind (arith, nat_tests) in false≢true (sym g ∙ t)) in
            let one = ahead-other w n i a nl il x ah in
            let other = ahead-other w n j b nl jl y bh in
            let k = rest i j one.0 other.0 il jl within (nearer i one.0 one.2) (nearer j other.0 other.2) (let s = one.1 in let t = other.1 in omega (arith, s, t, l)) in
            let p = added-other e.1 i x in
            let q = added-other e.1 j y in
            (let z = k.0 in omega (arith, p, q, z), let z = k.1 in omega (arith, p, q, z))

-- the next arrival stays at one of the inputs
arrival-within : (w : ℕ) (earlier visits : List Visit) → 0 < w → next_arrival w earlier < w → next_arrival w (onto visits earlier) < w
arrival-within w earlier visits some h = search rules

pub deficit-shares : (quanta : List ℕ) (inputs : ℕ) (turns : List Turn) → EachAfter (IsDeficitVisit quanta inputs) [] (all_visits turns) → SharesByDeficit quanta inputs turns
deficit-shares quanta inputs turns run =
    record {
      arrivals_near = λ before range after e i j il jl. order before range after e i j il jl;
      deficit_bound = λ before after v e. bound before after v e;
      bytes_near = λ before range after e i il gets. bytes before range after e i gets;
    }
  where
    split : (before rest : List Visit) → all_visits turns ≡ before ++ rest → EachAfter (IsDeficitVisit quanta inputs) [] before × EachAfter (IsDeficitVisit quanta inputs) (onto before []) rest
    split before rest e = each-split (IsDeficitVisit quanta inputs) [] before rest (subst (EachAfter (IsDeficitVisit quanta inputs) []) e run)

    part : (before range after : List Visit) → all_visits turns ≡ before ++ (range ++ after) → EachAfter (IsDeficitVisit quanta inputs) (onto before []) range
    part before range after e = (each-split (IsDeficitVisit quanta inputs) (onto before []) range after (split before (range ++ after) e).1).0

    covered : (before rest : List Visit) → all_visits turns ≡ before ++ rest → IsCovered quanta (onto before [])
    covered before rest e = covers-all quanta inputs [] before (split before rest e).0 (λ i. (omega arith, omega arith))

    bound : (before after : List Visit) (v : Visit) → all_visits turns ≡ before ++ v ∷ after
        → (deficit : ℕ) × IsDeficit quanta (reverse before) v.input deficit × (deficit ≤ quantum_at quanta v.input + 65534)
    bound before after v e =
        subst (λ earlier. (deficit : ℕ) × IsDeficit quanta earlier v.input deficit × (deficit ≤ quantum_at quanta v.input + 65534))
        (onto-reverse before) (what-is-left (passed_bytes v.input (onto before [])) (allowed_bytes quanta (onto before []) v.input) (quantum_at quanta v.input + 65534)
        (deficit-bound (quantum_at quanta v.input) inputs (onto before []) v.input (split before (v ∷ after) e).1.0.in_turn (covered before (v ∷ after) e v.input)))

    order : (before range after : List Visit) → all_visits turns ≡ before ++ (range ++ after) → (i j : ℕ) → i < inputs → j < inputs
        → Near 1 (arrivals_in i (reverse before) range) (arrivals_in j (reverse before) range)
    order before range after e i j il jl =
        subst (λ earlier. Near 1 (arrivals_in i earlier range) (arrivals_in j earlier range)) (onto-reverse before)
        (by_order (nat_le (some-ahead inputs n i nl il).0 (some-ahead inputs n j nl jl).0) refl)
      where
        n : ℕ
        n = next_arrival inputs (onto before [])

        nl : n < inputs
        nl = arrival-within inputs [] before (omega arith) (omega arith)

        by_order : (b : Bool) → nat_le (some-ahead inputs n i nl il).0 (some-ahead inputs n j nl jl).0 ≡ b → Near 1 (arrivals_in i (onto before []) range) (arrivals_in j (onto before []) range)
        by_order true f =
            let k = arrivals-order quanta inputs i j (onto before []) range (some-ahead inputs n i nl il).0 (some-ahead inputs n j nl jl).0 (part before range after e) il jl nl (some-ahead inputs n i nl il).1 (some-ahead inputs n j nl jl).1 (grind (arith, nat_tests)) in
            (k.1, let x = k.0 in omega arith)
        by_order false f =
            let k = arrivals-order quanta inputs j i (onto before []) range (some-ahead inputs n j nl jl).0 (some-ahead inputs n i nl il).0 (part before range after e) jl il nl (some-ahead inputs n j nl jl).1 (some-ahead inputs n i nl il).1 (grind (arith, nat_tests)) in
            (let x = k.0 in omega arith, k.1)

    left-over : (quantum : ℕ) (earlier : List Visit) (i : ℕ) → spare quantum i earlier ≤ quantum
    left-over quantum earlier i = search rules

    bytes : (before range after : List Visit) → all_visits turns ≡ before ++ (range ++ after) → (i : ℕ) → AlwaysGets i range
        → Near (quantum_at quanta i + 65534) (bytes_in i range) (quantum_at quanta i * arrivals_in i (reverse before) range)
    bytes before range after e i gets =
        subst (λ earlier. Near (q + 65534) (bytes_in i range) (q * arrivals_in i earlier range)) (onto-reverse before)
        (let total = sym (mul-add q (arrivals_in i earlier range) (arrivals i earlier)) ∙ ap (λ n. q * n) adds.1 in
        let sent = adds.0 in
        let one = left-over q earlier i in
        let other = left-over q (onto range earlier) i in
        let a = start.0 in
        let b = start.1 in
        let c = stop.0 in
        let d = stop.1 in
        (omega (arith, total, sent, one, other, a, b, c, d), omega (arith, total, sent, one, other, a, b, c, d)))
      where
        q : ℕ
        q = quantum_at quanta i

        earlier : List Visit
        earlier = onto before []

        start : Covers q (passed_bytes i earlier) (arrivals i earlier) (spare q i earlier)
        start = covered before (range ++ after) e i

        stop : Covers q (passed_bytes i (onto range earlier)) (arrivals i (onto range earlier)) (spare q i (onto range earlier))
        stop = covers-all quanta inputs earlier range (part before range after e) (covered before (range ++ after) e) i

        adds : (bytes_in i range + passed_bytes i earlier ≡ passed_bytes i (onto range earlier)) × (arrivals_in i earlier range + arrivals i earlier ≡ arrivals i (onto range earlier))
        adds = range-adds i earlier range gets
