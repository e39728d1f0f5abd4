-- A tap gathers the seats of its queue one after another.
use Rattle.std.proofs.Common.{◌≡◌, ℕ, ◌+◌, ◌<◌, ◌≤◌, Bool, true, false, suc, List, [], ◌∷◌, length, get_or, set, refl, ◌∙◌, arith, rules}
use Rattle.std.specs.List.{AllWithin, AllByRecursion}
use Rattle.std.proofs.Math.Seq.{map-set_same}
use Rattle.std.proofs.lemmas.List.{get_or_default}
use Rattle.clk_ruled.specs.Laws.{KeepsTogether}
use Rattle.clk_ruled.specs.Queue.{OpenedQueue, TapLists, ClosedLists, closed_with, gathering}
use Rattle.clk_ruled.specs.Settle.{AreOpenedTogether, lists_of}

-- So many of the seats were gathered, and nothing else is new.
pub record IsGathering (queue : OpenedQueue) (old : TapLists) (all : List ClosedLists) (tap : TapLists) (now : List ClosedLists) (n : ℕ) : Type 0 where
  pub together : AreOpenedTogether queue tap now
  pub setup : tap.setup ≡ old.setup
  pub taken : tap.taken ≡ old.taken
  pub seats : lists_of now ≡ lists_of all
  pub first : AllWithin (λ (c : ClosedLists). c.is_gathered ≡ true) now 0 n

-- the tap has the same setup, and took the same
abbrev IsSameTap : TapLists → TapLists → Type 0
IsSameTap old new = (new.setup ≡ old.setup) × (new.taken ≡ old.taken)

same-tap : (old new : TapLists) (c : ClosedLists) (b : Bool) → c.is_gathered ≡ b → (c.is_gathered ≡ false → new ≡ gathering old c.lists) → (c.is_gathered ≡ true → new ≡ old) → IsSameTap old new
same-tap old new c b is first again = search rules

pub gathering-more : (queue : OpenedQueue) (old : TapLists) (all : List ClosedLists) (tap new : TapLists) (now : List ClosedLists) (i : ℕ) (after d : ClosedLists) → KeepsTogether → i < length now
    → after ≡ closed_with (get_or now i d).lists → ((get_or now i d).is_gathered ≡ false → new ≡ gathering tap (get_or now i d).lists) → ((get_or now i d).is_gathered ≡ true → new ≡ tap)
    → IsGathering queue old all tap now i → IsGathering queue old all new (set now i after) (i + 1)
gathering-more queue old all tap new now i after d law lt is first again h =
    let before : ClosedLists = get_or now i d in
    let same = same-tap tap new before before.is_gathered refl first again in record {
      together = law.gathered queue tap new now i before after lt (get_or_default now i d before lt) is first again h.together;
      setup = same.0 ∙ h.setup;
      taken = same.1 ∙ h.taken;
      seats = search (rules, map-set_same);
      first = search rules;
    }

all-gathered : (now : List ClosedLists) → ((k : ℕ) (d : ClosedLists) → k < length now → (get_or now k d).is_gathered ≡ true) → AllByRecursion (λ (c : ClosedLists). c.is_gathered ≡ true) now
all-gathered [] h = tt
all-gathered (c ∷ now) h = (h 0 c (omega arith), all-gathered now (λ k d lt. h (suc k) d (omega arith)))

pub gathered-all : (queue : OpenedQueue) (old : TapLists) (all : List ClosedLists) (tap : TapLists) (now : List ClosedLists) (n : ℕ) → length now ≤ n → IsGathering queue old all tap now n → AllByRecursion (λ (c : ClosedLists). c.is_gathered ≡ true) now
gathered-all queue old all tap now n le h = search (rules, all-gathered)
