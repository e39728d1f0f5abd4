-- How many packets a sweep over senders takes from each.
use Rattle.std.proofs.Common.{◌≡◌, ℕ, zero, suc, ◌+◌, ◌<◌, ◌≤◌, ◌==◌, nat_lt, ◌⊎◌, inl, inr, Bool, true, false, if◌then◌else◌, List, [], ◌∷◌, ◌++◌, length, length-append, take, drop, take-append-drop, filter, Some, slice_get, refl, sym, ap, ◌∙◌, subst, arith, ◌-◌, Option, None, IfSome, MatchOption, get_or, ap₂}
use Rattle.std.specs.List.{AllByRecursion}
use Rattle.std.proofs.lemmas.Bool.{eqb-true}
use Rattle.std.proofs.lemmas.Bool.Decides.{nat_tests}
use Rattle.std.proofs.lemmas.List.{take-take, length-take-le, take_all, length-drop}
use Rattle.std.proofs.lemmas.List.Elements.{filter-append}
use Rattle.std.proofs.lemmas.Option.{slice_get_within, slice_get-get_or}
use Rattle.clk_packet.specs.Lists.{AreRising}
use Rattle.clk_router.specs.Course.{sender_at}
use Rattle.clk_router.specs.Events.{Setup, sender_numbers}
use Rattle.clk_sched.specs.Examples.Priority.{p0_0}
use Rattle.clk_live.specs.declared.taking.OfferOutcome.TheVariants.{Refused}
use Rattle.clk_live.specs.declared.taking.Taken.{Taken}
use Rattle.clk_live.specs.State.{LiveState, starts_at}
use Rattle.clk_live.specs.Taking.{AreOf, AreSharesOr, AreSharesBefore, StartsNext, after_place, count_of, steps_to}
use Rattle.clk_live.specs.inside.Each.{IsEach, AreEach, GaveSharesOr, IsLast}
use Rattle.clk_live.proofs.Steps.{one-place}

count-both : (s : ℕ) (xs ys : List Taken) → count_of s (xs ++ ys) ≡ count_of s xs + count_of s ys
count-both s xs ys = ap length (filter-append (λ (t : Taken). t.packet.sender == s) xs ys) ∙ length-append (filter (λ (t : Taken). t.packet.sender == s) xs) (filter (λ (t : Taken). t.packet.sender == s) ys)

count-most : (s : ℕ) (ts : List Taken) → count_of s ts ≤ length ts
count-most s [] = omega arith
count-most s (t ∷ ts) = by_test (t.packet.sender == s) (count-most s ts)
  where
    by_test : (b : Bool) → count_of s ts ≤ length ts → length (if b then t ∷ filter (λ (u : Taken). u.packet.sender == s) ts else filter (λ (u : Taken). u.packet.sender == s) ts) ≤ suc (length ts)
    by_test true le = omega (arith, le)
    by_test false le = omega (arith, le)

-- none of another sender's packets is of this one
count-none : (setup : Setup) (place n s : ℕ) (ts : List Taken) → sender_at setup place ≡ Some n → (n == s) ≡ false → AreOf setup place ts → count_of s ts ≡ 0
count-none setup place n s [] at other of = refl
count-none setup place n s (t ∷ ts) at other of =
    let both : Some n ≡ Some t.packet.sender = sym at ∙ of.0 in
    let named : n ≡ t.packet.sender = cc both in
    let none : (t.packet.sender == s) ≡ false = ap (λ k. k == s) (sym named) ∙ other in
    ap (λ b. length (if b then t ∷ filter (λ (u : Taken). u.packet.sender == s) ts else filter (λ (u : Taken). u.packet.sender == s) ts)) none ∙ count-none setup place n s ts at other of.1

-- after packets of one sender were taken
module _ (setup : Setup) (place n from result each : ℕ) (old new : List Taken) (at : sender_at setup place ≡ Some n) (front : take from new ≡ take from old) (up : from ≤ result) (low : result ≤ length new) (few : result ≤ from + each)
    (of : AreOf setup place (drop from (take result new))) (s : ℕ) where
  split : count_of s (take result new) ≡ count_of s (take from old) + count_of s (drop from (take result new))
  split =
      ap (count_of s) (sym (take-append-drop from (take result new))) ∙ count-both s (take from (take result new)) (drop from (take result new))
      ∙ ap (λ l. count_of s l + count_of s (drop from (take result new))) (take-take from result new up ∙ front)

  pub fill-others : (n == s) ≡ false → count_of s (take result new) ≡ count_of s (take from old)
  fill-others other = let none = count-none setup place n s (drop from (take result new)) at other of in omega (arith, split, none)

  pub fill-most : count_of s (take result new) ≤ count_of s (take from old) + each
  fill-most =
      let most = count-most s (drop from (take result new)) in
      let many = length-take-le result new low in
      let parts = ap length (take-append-drop from (take result new)) in
      let both = length-append (take from (take result new)) (drop from (take result new)) in
      let taken = ap length (take-take from result new up) in
      let front_many = length-take-le from new (omega (arith, up, low)) in
      omega (arith, split, most, many, parts, both, taken, front_many, few)

-- senders at two places are two senders
two-senders : (setup : Setup) (place n k s : ℕ) → AreRising (sender_numbers setup) → sender_at setup place ≡ Some n → sender_at setup k ≡ Some s → (k == place) ≡ false → (n == s) ≡ false
two-senders setup place n k s rising at its apart = by_test (n == s) refl
  where
    by_test : (b : Bool) → (n == s) ≡ b → b ≡ false
    by_test false e = refl
    by_test true e =
        let same = one-place (sender_numbers setup) place k s rising (at ∙ ap Some (eqb-true n s e)) its in
        absurd (grind (arith, nat_tests))

pub each-none : (setup : Setup) (first each : ℕ) (ts : List Taken) → AreEach setup first first each ts ts
each-none setup first each ts = ((λ place s at. record { most = omega arith; others = λ where_it_is. refl }), (λ s stranger. refl))

pub each-more : (setup : Setup) (first place n each from result : ℕ) (start old new : List Taken) → AreRising (sender_numbers setup) → first ≤ place → sender_at setup place ≡ Some n → take from new ≡ take from old → from ≤ result → result ≤ length new
    → result ≤ from + each → AreOf setup place (drop from (take result new)) → AreEach setup first place each start (take from old) → AreEach setup first (place + 1) each start (take result new)
each-more setup first place n each from result start old new rising low at front up within few of before = (known, strange)
  where
    others : (s : ℕ) → (n == s) ≡ false → count_of s (take result new) ≡ count_of s (take from old)
    others = fill-others setup place n from result each old new at front up within few of

    most : (s : ℕ) → count_of s (take result new) ≤ count_of s (take from old) + each
    most = fill-most setup place n from result each old new at front up within few of

    known : (k s : ℕ) → sender_at setup k ≡ Some s → IsEach first (place + 1) each k (count_of s start) (count_of s (take result new))
    known k s its = by_place (k == place) refl (before.0 k s its)
      where
        by_place : (b : Bool) → (k == place) ≡ b → IsEach first place each k (count_of s start) (count_of s (take from old)) → IsEach first (place + 1) each k (count_of s start) (count_of s (take result new))
        by_place true e h =
            let here : k ≡ place = eqb-true k place e in
            let same = h.others (inr (omega (arith, here))) in
            let more = most s in
            record { most = omega (arith, same, more); others = never }
          where
            never : (k < first) ⊎ (place + 1 ≤ k) → count_of s (take result new) ≡ count_of s start
            never (inl x) = let here : k ≡ place = eqb-true k place e in absurd (omega (arith, x, here, low))
            never (inr x) = let here : k ≡ place = eqb-true k place e in absurd (omega (arith, x, here))
        by_place false e h = record { most = (let stays = others s other in let le = h.most in omega (arith, stays, le)); others = λ w. others s other ∙ h.others (outside w) }
          where
            other : (n == s) ≡ false
            other = two-senders setup place n k s rising at its e

            outside : (k < first) ⊎ (place + 1 ≤ k) → (k < first) ⊎ (place ≤ k)
            outside (inl x) = inl x
            outside (inr x) = inr (omega (arith, x))

    strange : (s : ℕ) → ((k : ℕ) → sender_at setup k ≡ Some s → ⊥) → count_of s (take result new) ≡ count_of s start
    strange s never = others s other ∙ before.1 s never
      where
        other : (n == s) ≡ false
        other = not_its (n == s) refl
          where
            not_its : (b : Bool) → (n == s) ≡ b → b ≡ false
            not_its false f = refl
            not_its true f = absurd (never place (at ∙ ap Some (eqb-true n s f)))

-- all of a sender's packets are of it
count-all : (setup : Setup) (place n : ℕ) (ts : List Taken) → sender_at setup place ≡ Some n → AreOf setup place ts → count_of n ts ≡ length ts
count-all setup place n [] at of = refl
count-all setup place n (t ∷ ts) at of =
    let both : Some n ≡ Some t.packet.sender = sym at ∙ of.0 in
    let named : n ≡ t.packet.sender = cc both in
    let its : (t.packet.sender == n) ≡ true = grind (arith, nat_tests, named) in
    ap (λ b. length (if b then t ∷ filter (λ (u : Taken). u.packet.sender == n) ts else filter (λ (u : Taken). u.packet.sender == n) ts)) its ∙ ap suc (count-all setup place n ts at of.1)

pub lt-or : (a b : ℕ) → (a < b) ⊎ (b ≤ a)
lt-or a b = by_test (nat_lt a b) refl
  where
    by_test : (t : Bool) → nat_lt a b ≡ t → (a < b) ⊎ (b ≤ a)
    by_test true e = inl (grind (arith, nat_tests))
    by_test false e = inr (grind (arith, nat_tests))

pub shares-none : (Otherwise : ℕ → Type 0) (setup : Setup) (first each : ℕ) (ts : List Taken) → GaveSharesOr Otherwise setup first first each ts ts
shares-none Otherwise setup first each ts = λ place s low high at. absurd (omega (arith, low, high))

-- after packets of one sender were taken, the shares of the senders at places before it stay
pub shares-keep : (Was Now : ℕ → Type 0) (setup : Setup) (first place n each from result : ℕ) (start old new : List Taken) → ((k : ℕ) → Was k → Now k) → AreRising (sender_numbers setup) → sender_at setup place ≡ Some n → take from new ≡ take from old → from ≤ result
    → result ≤ length new → result ≤ from + each → AreOf setup place (drop from (take result new)) → GaveSharesOr Was setup first place each start (take from old) → GaveSharesOr Now setup first place each start (take result new)
shares-keep Was Now setup first place n each from result start old new later rising at front up within few of shares = λ k s from_first low its. stays k s low its (shares k s from_first low its)
  where
    stays : (k s : ℕ) → k < place → sender_at setup k ≡ Some s → (count_of s (take from old) ≡ count_of s start + each) ⊎ Was k → (count_of s (take result new) ≡ count_of s start + each) ⊎ Now k
    stays k s low its (inr x) = inr (later k x)
    stays k s low its (inl x) =
        let apart : (k == place) ≡ false = grind (arith, nat_tests) in
        inl (fill-others setup place n from result each old new at front up within few of s (two-senders setup place n k s rising at its apart) ∙ x)

pub shares-more : (Was Now : ℕ → Type 0) (setup : Setup) (first place n each from result most : ℕ) (start old new : List Taken) → ((k : ℕ) → Was k → Now k) → AreRising (sender_numbers setup) → first ≤ place → sender_at setup place ≡ Some n → take from new ≡ take from old
    → from ≤ result → result ≤ length new → result ≤ from + each → AreOf setup place (drop from (take result new)) → (result < most → Now place) → (result ≡ from + each) ⊎ (result < most)
    → AreEach setup first place each start (take from old) → GaveSharesOr Was setup first place each start (take from old) → GaveSharesOr Now setup first (place + 1) each start (take result new)
shares-more Was Now setup first place n each from result most start old new later rising low at front up within few of gave share counted shares = each-place
  where
    each-place : (k s : ℕ) → first ≤ k → k < place + 1 → sender_at setup k ≡ Some s → (count_of s (take result new) ≡ count_of s start + each) ⊎ Now k
    each-place k s from_first to_last its = by_place (k == place) refl
      where
        mine : k ≡ place → (result ≡ from + each) ⊎ (result < most) → (count_of s (take result new) ≡ count_of s start + each) ⊎ Now k
        mine here (inr fewer) = inr (subst Now (sym here) (gave fewer))
        mine here (inl all) =
            let both : Some n ≡ Some s = sym at ∙ ap (sender_at setup) (sym here) ∙ its in
            let named : n ≡ s = cc both in
            let ours = ap (λ m. count_of m (drop from (take result new))) (sym named) ∙ count-all setup place n (drop from (take result new)) at of in
            let parts = split setup place n from result each old new at front up within few of s in
            let was = (counted.0 k s its).others (inr (omega (arith, here))) in
            let many = length-take-le result new within in
            let both_parts = ap length (take-append-drop from (take result new)) in
            let sum = length-append (take from (take result new)) (drop from (take result new)) in
            let taken = ap length (take-take from result new up) in
            let front_many = length-take-le from new (omega (arith, up, within)) in
            inl (omega (arith, all, ours, parts, was, many, both_parts, sum, taken, front_many))

        before : GaveSharesOr Now setup first place each start (take result new)
        before = shares-keep Was Now setup first place n each from result start old new later rising at front up within few of shares

        by_place : (b : Bool) → (k == place) ≡ b → (count_of s (take result new) ≡ count_of s start + each) ⊎ Now k
        by_place true e = mine (eqb-true k place e) share
        by_place false e = before k s from_first (let other = e in grind (arith, nat_tests)) its

-- what a read of a slot gives where none is
no_taken : Taken
no_taken = record { packet = p0_0; token = 0; outcome = Refused }

-- Two sweeps, from a place to the end and from the first place to it, are a round.
pub round-shares : (First Second Now : ℕ → Type 0) (setup : Setup) (start places each : ℕ) (mid new : List Taken) → ((k : ℕ) → First k → Now k) → ((k : ℕ) → Second k → Now k) → places ≡ length (sender_numbers setup)
    → AreEach setup start places each [] mid → AreEach setup 0 start each mid new → GaveSharesOr First setup start places each [] mid → GaveSharesOr Second setup 0 start each mid new → AreSharesOr Now setup each new
round-shares First Second Now setup start places each mid new of_first of_second many first second shares more = λ place s at. by_place place s at (lt-or place start)
  where
    by_place : (place s : ℕ) → sender_at setup place ≡ Some s → (place < start) ⊎ (start ≤ place) → (count_of s new ≡ each) ⊎ Now place
    by_place place s at (inl x) = now (more place s (omega arith) x at)
      where
        now : (count_of s new ≡ count_of s mid + each) ⊎ Second place → (count_of s new ≡ each) ⊎ Now place
        now (inl e) = let none = (first.0 place s at).others (inl x) in inl (omega (arith, e, none))
        now (inr g) = inr (of_second place g)
    by_place place s at (inr x) = now (shares place s x (let within = slice_get_within (sender_numbers setup) place s at in omega (arith, within, many)) at)
      where
        now : (count_of s mid ≡ count_of s [] + each) ⊎ First place → (count_of s new ≡ each) ⊎ Now place
        now (inl e) = let stays = (second.0 place s at).others (inr x) in inl (omega (arith, e, stays))
        now (inr g) = inr (of_first place g)

-- what all of these packets have, the last of them has
last-has : (P : Taken → Type 0) (ts : List Taken) (t : Taken) (n : ℕ) → AllByRecursion P ts → length ts ≡ n + 1 → slice_get ts n ≡ Some t → P t
last-has P [] t n h many e = absurd (omega (arith, many))
last-has P (u ∷ ts) t zero h many e = let is : u ≡ t = cc in subst P is h.0
last-has P (u ∷ ts) t (suc n) h many e = last-has P ts t n h.1 (omega (arith, many)) e

drop-get : (from n : ℕ) (ts : List Taken) → slice_get (drop from ts) n ≡ slice_get ts (from + n)
drop-get zero n ts = let e : n ≡ 0 + n = omega arith in ap (slice_get ts) e
drop-get (suc from) n [] = refl
drop-get (suc from) n (t ∷ ts) = let e : suc from + n ≡ suc (from + n) = omega arith in drop-get from n ts ∙ sym (ap (slice_get (t ∷ ts)) e)

-- the last slot of those that a sender filled has a packet of the sender
pub last-of : (setup : Setup) (place from count : ℕ) (filled : List Taken) (t : Taken) → from < count → count ≡ length filled → AreOf setup place (drop from (take count filled)) → slice_get filled (count - 1) ≡ Some t → sender_at setup place ≡ Some t.packet.sender
last-of setup place from count filled t some all of at =
    let whole : take count filled ≡ filled = take_all count filled (omega (arith, all)) in
    let of_rest : AreOf setup place (drop from filled) = subst (λ l. AreOf setup place (drop from l)) whole of in
    let many : length (drop from filled) ≡ count - 1 - from + 1 = (let parts = length-drop from filled in omega (arith, parts, some, all)) in
    let e : from + (count - 1 - from) ≡ count - 1 = omega (arith, some) in
    last-has (λ (u : Taken). sender_at setup place ≡ Some u.packet.sender) (drop from filled) t (count - 1 - from) of_rest many (drop-get from (count - 1 - from) filled ∙ ap (slice_get filled) e ∙ at)

-- where each sender gave its share, so did those before any
pub shares-before : (Otherwise : ℕ → Type 0) (setup : Setup) (start many each : ℕ) (last : Option Taken) (taken : List Taken) → AreSharesOr Otherwise setup each taken → AreSharesBefore Otherwise setup start many each last taken
shares-before Otherwise setup start many each None taken shares = tt
shares-before Otherwise setup start many each (Some t) taken shares = λ end place s its_end before its. shares place s its

-- In a round that filled all slots, each sender before that of the last packet gave its share.
pub round-before : (First Second Now : ℕ → Type 0) (setup : Setup) (start places each from size count next again : ℕ) (mid filled : List Taken) → ((k : ℕ) → First k → Now k) → ((k : ℕ) → Second k → Now k) → AreRising (sender_numbers setup)
    → places ≡ length (sender_numbers setup) → AreEach setup start places each [] (take from mid) → AreEach setup 0 start each (take from mid) (take count filled) → (from < size → GaveSharesOr First setup start places each [] (take from mid))
    → (from ≡ size → GaveSharesOr First setup start (next - 1) each [] (take from mid)) → GaveSharesOr Second setup 0 (again - 1) each (take from mid) (take count filled) → from ≤ count → count ≡ size → length filled ≡ size
    → (from ≡ size → IsLast setup start 0 mid from next) → IsLast setup 0 from filled count again → (from ≡ size → filled ≡ mid) → again ≤ start → AreSharesBefore Now setup start places each (slice_get filled (count - 1)) (take count filled)
round-before First Second Now setup start places each from size count next again mid filled of_first of_second rising many first second first_shares first_before second_before up full sizes first_last second_last untouched again_low = by_last (slice_get filled (count - 1)) refl
  where
    Share : ℕ → ℕ → Type 0
    Share place s = (count_of s (take count filled) ≡ each) ⊎ Now place

    -- a sender that only the first sweep visited, or only the second
    from-first : (place s : ℕ) → start ≤ place → sender_at setup place ≡ Some s → (count_of s (take from mid) ≡ count_of s [] + each) ⊎ First place → Share place s
    from-first place s high its (inl e) = let stays = (second.0 place s its).others (inr high) in inl (omega (arith, e, stays))
    from-first place s high its (inr g) = inr (of_first place g)

    from-second : (place s : ℕ) → place < start → sender_at setup place ≡ Some s → (count_of s (take count filled) ≡ count_of s (take from mid) + each) ⊎ Second place → Share place s
    from-second place s low its (inl e) = let none = (first.0 place s its).others (inl low) in inl (omega (arith, e, none))
    from-second place s low its (inr g) = inr (of_second place g)

    steps-low : (place : ℕ) → place < start → steps_to start places place ≡ place + places - start
    steps-low place low = let yes : nat_lt place start ≡ true = grind (arith, nat_tests) in ap (λ b. if b then place + places - start else place - start) yes

    steps-high : (place : ℕ) → start ≤ place → steps_to start places place ≡ place - start
    steps-high place high = let no : nat_lt place start ≡ false = grind (arith, nat_tests) in ap (λ b. if b then place + places - start else place - start) no

    within-places : (place s : ℕ) → sender_at setup place ≡ Some s → place < places
    within-places place s its = let low = slice_get_within (sender_numbers setup) place s its in omega (arith, low, many)

    -- the last packet's sender stands at `end`, which the second sweep visited last
    in-second : (end place s : ℕ) → from < size → again ≡ end + 1 → sender_at setup place ≡ Some s → steps_to start places place < steps_to start places end → Share place s
    in-second end place s fewer here its before = by_place (lt-or place start)
      where
        at_end : steps_to start places end ≡ end + places - start
        at_end = steps-low end (omega (arith, here, again_low))

        by_place : (place < start) ⊎ (start ≤ place) → Share place s
        by_place (inl low) =
            let steps = steps-low place low in
            let there = within-places place s its in
            from-second place s low its (second_before place s (omega arith) (omega (arith, before, at_end, steps, here)) its)
        by_place (inr high) = from-first place s high its (first_shares fewer place s high (within-places place s its) its)

    -- it stands at `end`, which the first sweep visited last
    in-first : (end place s : ℕ) → from ≡ size → start ≤ end → end < places → next ≡ end + 1 → sender_at setup place ≡ Some s → steps_to start places place < steps_to start places end → Share place s
    in-first end place s all high_end low_end here its before = by_place (lt-or place start)
      where
        at_end : steps_to start places end ≡ end - start
        at_end = steps-high end high_end

        by_place : (place < start) ⊎ (start ≤ place) → Share place s
        by_place (inl low) = let steps = steps-low place low in absurd (omega (arith, before, at_end, steps, low, low_end, high_end))
        by_place (inr high) = let steps = steps-high place high in from-first place s high its (first_before all place s high (omega (arith, before, at_end, steps, here, high)) its)

    at-last : (t : Taken) → slice_get filled (count - 1) ≡ Some t → (end place s : ℕ) → sender_at setup end ≡ Some t.packet.sender → steps_to start places place < steps_to start places end → sender_at setup place ≡ Some s → Share place s
    at-last t at end place s its_end before its = by_from (lt-or from count)
      where
        by_from : (from < count) ⊎ (count ≤ from) → Share place s
        by_from (inl more) =
            let last = second_last.some more t at in
            let here = one-place (sender_numbers setup) (again - 1) end t.packet.sender rising last.1 its_end in
            let positive = last.0 in
            in-second end place s (omega (arith, more, full)) (omega (arith, here, positive)) its before
        by_from (inr all) =
            let filled_first : from ≡ size = omega (arith, all, up, full) in
            let same = untouched filled_first in
            let at_mid : slice_get mid (from - 1) ≡ Some t = ap (λ l. slice_get l (from - 1)) (sym same) ∙ ap (λ n. slice_get filled (n - 1)) (omega (arith, all, up)) ∙ at in
            let within_mid = slice_get_within mid (from - 1) t at_mid in
            let same_size = ap length same in
            let last = (first_last filled_first).some (omega (arith, within_mid, same_size, sizes, filled_first)) t at_mid in
            let here = one-place (sender_numbers setup) (next - 1) end t.packet.sender rising last.1 its_end in
            let positive = last.0 in
            in-first end place s filled_first (omega (arith, here, positive)) (within-places end t.packet.sender its_end) (omega (arith, here, positive)) its before

    by_last : (o : Option Taken) → slice_get filled (count - 1) ≡ o
        → IfSome o (λ t. (end place s : ℕ) → sender_at setup end ≡ Some t.packet.sender → steps_to start places place < steps_to start places end → sender_at setup place ≡ Some s → Share place s)
    by_last None e = tt
    by_last (Some t) e = at-last t e

-- the next round starts where it should
pub starts-next : (old new : LiveState) (places start next again later from size count : ℕ) (mid filled : List Taken) → AreRising (sender_numbers old.course.setup) → places ≡ length old.outlets → length new.outlets ≡ length old.outlets → start ≡ starts_at old → start ≤ places
    → (from < size → next ≡ places) → from ≤ count → count ≤ size → length filled ≡ size → (from ≡ size → IsLast old.course.setup start 0 mid from next) → (count ≡ size → IsLast old.course.setup 0 from filled count again)
    → (from ≡ size → filled ≡ mid) → next ≤ places → again ≤ start → new.turn ≡ (if nat_lt count size then later else (if nat_lt next places then next else again)) → (count ≡ 0 → later ≡ start) → (0 < count → later ≡ start + 1) → StartsNext old new size count (slice_get filled (count - 1))
starts-next old new places start next again later from size count mid filled rising many same_many start_is low first_ended up most sizes first_last second_last untouched next_low again_low turn_is none_is some_is = record { moves_on = moves_on; stays = stays; next = ran_out }
  where
    start_low : (start < places) ⊎ (start ≡ 0)
    start_low = by_test (nat_lt old.turn (length old.outlets)) refl
      where
        by_test : (b : Bool) → nat_lt old.turn (length old.outlets) ≡ b → (start < places) ⊎ (start ≡ 0)
        by_test true e = inl (let is = start_is ∙ ap (λ t. if t then old.turn else 0) e in let lt : old.turn < length old.outlets = grind (arith, nat_tests) in omega (arith, is, lt, many))
        by_test false e = inr (start_is ∙ ap (λ t. if t then old.turn else 0) e)

    -- a turn below the number of places is where a round starts
    at-turn : (t : ℕ) → new.turn ≡ t → (t < places) ⊎ (t ≡ 0) → starts_at new ≡ t
    at-turn t is (inl lt) =
        let yes : nat_lt new.turn (length new.outlets) ≡ true = (let below : new.turn < length new.outlets = omega (arith, is, lt, many, same_many) in grind (arith, nat_tests)) in
        ap (λ b. if b then new.turn else 0) yes ∙ is
    at-turn t is (inr zero_is) = by_test (nat_lt new.turn (length new.outlets))
      where
        by_test : (b : Bool) → (if b then new.turn else 0) ≡ t
        by_test true = is
        by_test false = sym zero_is

    -- the turn after a round that filled all slots
    turn-full : count ≡ size → new.turn ≡ (if nat_lt next places then next else again)
    turn-full full = let no : nat_lt count size ≡ false = grind (arith, nat_tests) in turn_is ∙ ap (λ t. if t then later else (if nat_lt next places then next else again)) no

    turn-if : count ≡ size → (b : Bool) → nat_lt next places ≡ b → new.turn ≡ (if b then next else again)
    turn-if full b e = turn-full full ∙ ap (λ t. if t then next else again) e

    turn-left : count < size → new.turn ≡ later
    turn-left fewer = let yes : nat_lt count size ≡ true = grind (arith, nat_tests) in turn_is ∙ ap (λ t. if t then later else (if nat_lt next places then next else again)) yes

    -- a round without slots
    without-slots : count ≡ size → count ≡ 0 → starts_at new ≡ starts_at old
    without-slots full none =
        let nothing_first : from ≡ size = omega (arith, none, up, full) in
        let nothing_second : from ≡ count = omega (arith, none, up) in
        let next_is : next ≡ start = (first_last nothing_first).none (omega (arith, none, full, nothing_first)) in
        let again_is : again ≡ 0 = (second_last full).none nothing_second in
        by_start start_low next_is again_is
      where
        by_start : (start < places) ⊎ (start ≡ 0) → next ≡ start → again ≡ 0 → starts_at new ≡ starts_at old
        by_start (inl lt) n a = let below : nat_lt next places ≡ true = grind (arith, nat_tests) in at-turn start (turn-if full true below ∙ n) (inl lt) ∙ start_is
        by_start (inr z) n a = at-turn start (by_test (nat_lt next places) refl) (inr z) ∙ start_is
          where
            by_test : (b : Bool) → nat_lt next places ≡ b → new.turn ≡ start
            by_test true e = turn-if full true e ∙ n
            by_test false e = turn-if full false e ∙ a ∙ sym z

    stays : count ≡ 0 → starts_at new ≡ starts_at old
    stays none = by_slots (lt-or count size)
      where
        by_slots : (count < size) ⊎ (size ≤ count) → starts_at new ≡ starts_at old
        by_slots (inl fewer) = at-turn start (turn-left fewer ∙ none_is none) start_low ∙ start_is
        by_slots (inr all) = without-slots (omega (arith, all, most)) none

    moves_on : 0 < count → count < size → starts_at new ≡ after_place (starts_at old) (length old.outlets)
    moves_on some fewer =
        let is : new.turn ≡ starts_at old + 1 = turn-left fewer ∙ some_is some ∙ ap (λ n. n + 1) start_is in
        ap₂ (λ t n. if nat_lt t n then t else 0) is same_many

    at-last : (t : Taken) → count ≡ size → slice_get filled (count - 1) ≡ Some t → (place : ℕ) → sender_at old.course.setup place ≡ Some t.packet.sender → starts_at new ≡ after_place place (length old.outlets)
    at-last t full at place its = by_from (lt-or from count)
      where
        within : place < places → (after : ℕ) → after ≡ place + 1 → new.turn ≡ (if nat_lt after places then after else 0) → starts_at new ≡ after_place place (length old.outlets)
        within low_place after is turns = by_test (nat_lt (place + 1) (length old.outlets)) refl
          where
            by_test : (b : Bool) → nat_lt (place + 1) (length old.outlets) ≡ b → starts_at new ≡ (if b then place + 1 else 0)
            by_test true e =
                let below : nat_lt after places ≡ true = ap₂ nat_lt is many ∙ e in
                let lt : place + 1 < places = (let l : place + 1 < length old.outlets = grind (arith, nat_tests) in omega (arith, l, many)) in
                at-turn (place + 1) (turns ∙ ap (λ b. if b then after else 0) below ∙ is) (inl lt)
            by_test false e =
                let above : nat_lt after places ≡ false = ap₂ nat_lt is many ∙ e in
                at-turn 0 (turns ∙ ap (λ b. if b then after else 0) above) (inr refl)

        by_from : (from < count) ⊎ (count ≤ from) → starts_at new ≡ after_place place (length old.outlets)
        by_from (inl more) =
            let last = (second_last full).some more t at in
            let here = one-place (sender_numbers old.course.setup) (again - 1) place t.packet.sender rising last.1 its in
            let after : again ≡ place + 1 = (let positive = last.0 in omega (arith, here, positive)) in
            let whole : next ≡ places = first_ended (omega (arith, more, full)) in
            let no_more : nat_lt next places ≡ false = grind (arith, nat_tests) in
            within (omega (arith, after, again_low, low)) again after (turn-if full false no_more ∙ again-is (nat_lt again places) refl)
          where
            again-is : (b : Bool) → nat_lt again places ≡ b → again ≡ (if b then again else 0)
            again-is true e = refl
            again-is false e = let le : places ≤ again = grind (arith, nat_tests) in at-zero start_low le
              where
                at-zero : (start < places) ⊎ (start ≡ 0) → places ≤ again → again ≡ 0
                at-zero (inl lt) le = absurd (omega (arith, lt, le, again_low))
                at-zero (inr z) le = omega (arith, z, again_low)
        by_from (inr all) =
            let filled_first : from ≡ size = omega (arith, all, up, full) in
            let none : again ≡ 0 = (second_last full).none (omega (arith, all, up)) in
            let at_mid : slice_get mid (from - 1) ≡ Some t = ap (λ l. slice_get l (from - 1)) (sym (untouched filled_first)) ∙ ap (λ n. slice_get filled (n - 1)) (omega (arith, all, up)) ∙ at in
            let some : 0 < from = positive (lt-or 0 from) at_mid (untouched filled_first) in
            let last = (first_last filled_first).some some t at_mid in
            let here = one-place (sender_numbers old.course.setup) (next - 1) place t.packet.sender rising last.1 its in
            let after : next ≡ place + 1 = (let above = last.0 in omega (arith, here, above)) in
            within (omega (arith, after, next_low)) next after (turn-full full ∙ ap (λ n. if nat_lt next places then next else n) none)
          where
            positive : (0 < from) ⊎ (from ≤ 0) → slice_get mid (from - 1) ≡ Some t → filled ≡ mid → 0 < from
            positive (inl lt) e f = lt
            positive (inr le) e f = let within_mid = slice_get_within mid (from - 1) t e in let same_size = ap length f in let filled_first : from ≡ size = omega (arith, all, up, full) in absurd (omega (arith, within_mid, same_size, sizes, filled_first, le))

    ran_out : count ≡ size → MatchOption (slice_get filled (count - 1)) (starts_at new ≡ starts_at old) (λ t. (place : ℕ) → sender_at old.course.setup place ≡ Some t.packet.sender → starts_at new ≡ after_place place (length old.outlets))
    ran_out full = by_last (slice_get filled (count - 1)) refl
      where
        by_last : (o : Option Taken) → slice_get filled (count - 1) ≡ o → MatchOption o (starts_at new ≡ starts_at old) (λ t. (place : ℕ) → sender_at old.course.setup place ≡ Some t.packet.sender → starts_at new ≡ after_place place (length old.outlets))
        by_last (Some t) e = at-last t full e
        by_last None e = none-filled (lt-or 0 size)
          where
            none-filled : (0 < size) ⊎ (size ≤ 0) → starts_at new ≡ starts_at old
            none-filled (inl some) = let there = slice_get-get_or filled (count - 1) no_taken (omega (arith, some, full, sizes)) in let no : None ≡ Some (get_or filled (count - 1) no_taken) = sym e ∙ there in absurd (cc)
            none-filled (inr none) = without-slots full (omega (arith, none, full))
