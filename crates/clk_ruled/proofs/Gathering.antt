-- The tap gathers seats one after another.
use Rattle.std.proofs.Common.{◌≡◌, ℕ, ◌+◌, ◌<◌, ◌≤◌, Bool, true, false, zero, suc, List, [], ◌∷◌, length, set, get_or, refl, sym, ap, ◌∙◌, subst, arith, rules}
use Rattle.std.specs.List.{AllWithin}
use Rattle.clk_ruled.specs.declared.view.Gathered.{Gathered}
use Rattle.clk_ruled.specs.Queue.{SeatLists, TapLists, ClosedLists, closed_with, gathering}
use Rattle.clk_packet.specs.Lists.{In}
use Rattle.clk_ruled.specs.Settle.{lists_of, as_gathered, IsOfTap, AreOfTap, HasEach}

-- So many of the seats were gathered, and nothing else has changed.
pub record IsGathering (old : TapLists) (all : List ClosedLists) (tap : TapLists) (now : List ClosedLists) (n : ℕ) : Type 0 where
  pub id : tap.id ≡ old.id
  pub setup : tap.setup ≡ old.setup
  pub keeps : tap.keeps ≡ old.keeps
  pub taken : tap.taken ≡ old.taken
  pub lists : lists_of now ≡ lists_of all
  pub each : AreOfTap tap now
  pub first : AllWithin (λ (c : ClosedLists). c.is_gathered ≡ true) now 0 n

-- the seat at a place
pub of-tap-at : (tap : TapLists) (now : List ClosedLists) (i : ℕ) (d : ClosedLists) → i < length now → AreOfTap tap now → IsOfTap tap (get_or now i d)
of-tap-at tap [] i d lt h = absurd (omega arith)
of-tap-at tap (c ∷ now) zero d lt h = h.0
of-tap-at tap (c ∷ now) (suc i) d lt h = of-tap-at tap now i d (omega arith) h.1

-- another seat at a place, and a tap that has more
pub of-tap-more : (tap new : TapLists) (now : List ClosedLists) → ((c : ClosedLists) → IsOfTap tap c → IsOfTap new c) → AreOfTap tap now → AreOfTap new now
of-tap-more tap new [] more h = tt
of-tap-more tap new (c ∷ now) more h = (more c h.0, of-tap-more tap new now more h.1)

of-tap-set : (tap new : TapLists) (now : List ClosedLists) (i : ℕ) (c : ClosedLists) → ((x : ClosedLists) → IsOfTap tap x → IsOfTap new x) → IsOfTap new c → AreOfTap tap now → AreOfTap new (set now i c)
of-tap-set tap new [] i c more one h = tt
of-tap-set tap new (x ∷ now) zero c more one h = (one, of-tap-more tap new now more h.1)
of-tap-set tap new (x ∷ now) (suc i) c more one h = (more x h.0, of-tap-set tap new now i c more one h.1)

lists-set : (now : List ClosedLists) (i : ℕ) (c d : ClosedLists) → i < length now → c.lists ≡ (get_or now i d).lists → lists_of (set now i c) ≡ lists_of now
lists-set [] i c d lt e = absurd (omega arith)
lists-set (x ∷ now) zero c d lt e = search rules
lists-set (x ∷ now) (suc i) c d lt e = ap (λ l. x.lists ∷ l) (lists-set now i c d (omega arith) e)

pub record IsStep (tap new : TapLists) (l : SeatLists) : Type 0 where
  pub id : new.id ≡ tap.id
  pub setup : new.setup ≡ tap.setup
  pub keeps : new.keeps ≡ tap.keeps
  pub taken : new.taken ≡ tap.taken
  pub more : (g : Gathered) → In g tap.gathered → In g new.gathered
  pub has : In (as_gathered l) new.gathered

gather-step : (tap new : TapLists) (c : ClosedLists) (b : Bool) → c.is_gathered ≡ b → IsOfTap tap c → (c.is_gathered ≡ false → new ≡ gathering tap c.lists) → (c.is_gathered ≡ true → new ≡ tap) → IsStep tap new c.lists
gather-step tap new c b is h first again = search rules

still-of : (tap new : TapLists) (l : SeatLists) → IsStep tap new l → (c : ClosedLists) → IsOfTap tap c → IsOfTap new c
still-of tap new l s c h = record { id = h.id ∙ sym s.id; setup = h.setup ∙ sym s.setup; had = λ e. s.more (as_gathered c.lists) (h.had e) }

-- The tap gathered the seat at a place, and all seats are still the tap's.
pub of-tap-gathered : (tap new : TapLists) (now : List ClosedLists) (i : ℕ) (c d : ClosedLists) → i < length now → AreOfTap tap now
    → c ≡ closed_with (get_or now i d).lists → ((get_or now i d).is_gathered ≡ false → new ≡ gathering tap (get_or now i d).lists) → ((get_or now i d).is_gathered ≡ true → new ≡ tap)
    → IsStep tap new (get_or now i d).lists × (lists_of (set now i c) ≡ lists_of now) × AreOfTap new (set now i c)
of-tap-gathered tap new now i c d lt h is first again =
    let here = of-tap-at tap now i d lt h in
    let s = gather-step tap new (get_or now i d) (get_or now i d).is_gathered refl here first again in
    let one : IsOfTap new (closed_with (get_or now i d).lists) = search rules in (
      s,
      search (rules, lists-set),
      of-tap-set tap new now i c (still-of tap new (get_or now i d).lists s) (subst (IsOfTap new) (sym is) one) h,
    )

pub gathering-more : (old : TapLists) (all : List ClosedLists) (tap new : TapLists) (now : List ClosedLists) (i : ℕ) (c d : ClosedLists) → i < length now → IsGathering old all tap now i
    → c ≡ closed_with (get_or now i d).lists → ((get_or now i d).is_gathered ≡ false → new ≡ gathering tap (get_or now i d).lists) → ((get_or now i d).is_gathered ≡ true → new ≡ tap)
    → IsGathering old all new (set now i c) (i + 1)
gathering-more old all tap new now i c d lt h is first again = search (rules, (of-tap-gathered tap new now i c d lt h.each is first again))

-- the tap has the lists of all seats that were gathered
each-had : (tap : TapLists) (now : List ClosedLists) → AreOfTap tap now → ((k : ℕ) (d : ClosedLists) → k < length now → (get_or now k d).is_gathered ≡ true) → HasEach tap (lists_of now)
each-had tap [] h all = tt
each-had tap (c ∷ now) h all = (h.0.had (all 0 c (omega arith)), each-had tap now h.1 (λ k d lt. all (suc k) d (omega arith)))

pub gathering-all : (old : TapLists) (all : List ClosedLists) (tap : TapLists) (now : List ClosedLists) (n : ℕ) → length now ≤ n → IsGathering old all tap now n → HasEach tap (lists_of all)
gathering-all old all tap now n le h = search (rules, each-had)

-- What a seat has to have for the tap to gather it.
pub of-tap-here : (old : TapLists) (all : List ClosedLists) (tap : TapLists) (now : List ClosedLists) (n i : ℕ) (d : ClosedLists) → i < length now → IsGathering old all tap now n
    → ((get_or now i d).lists.id ≡ tap.id) × ((get_or now i d).lists.setup ≡ tap.setup)
of-tap-here old all tap now n i d lt h = search (rules, of-tap-at)
