-- A run of packets from one inlet, as they are offered one after another.
use Rattle.std.proofs.Common.{◌≡◌, ℕ, zero, suc, ◌+◌, ◌<◌, ◌≤◌, List, [], ◌∷◌, ◌++◌, append-nil, append_assoc, length, map, take, drop, set, Some, slice_get, Bool, true, false, not, ◌||◌, if◌then◌else◌, refl, sym, ap, ◌∙◌, subst, arith}
use Rattle.std.specs.List.{AllByRecursion}
use Rattle.std.specs.Option.{option_map}
use Rattle.std.proofs.lemmas.List.{length-append, length-map, length-take-le, map-set, take-take}
use Rattle.std.proofs.lemmas.Option.{slice_get-map, slice_get_within}
use Rattle.std.proofs.lemmas.List.Elements.{filter-append}
use Rattle.circular_buffer.specs.Buffer.{Buffer}
use Rattle.rtrb.specs.Fifo.{Allowed}
use Rattle.clk_inlet.specs.Halves.{popped, taken}
use Rattle.clk_inlet.specs.Items.{MayFollow, has_end, is_end, packets}
use Rattle.clk_inlet.specs.declared.limits.TheConstants.{MAX_PACKETS}
use Rattle.clk_inlet.specs.declared.item.Item.{Item}
use Rattle.clk_inlet.specs.declared.outlet.Outlet.{Outlet}
use Rattle.clk_tree.specs.PlanParts.{number_of}
use Rattle.clk_router.specs.Course.{Course, sender_at}
use Rattle.clk_router.specs.Events.{sender_numbers}
use Rattle.clk_live.specs.declared.taking.Taken.{Taken}
use Rattle.clk_live.specs.Taking.{IsTaken, TakesOne}
use Rattle.clk_live.specs.inside.Kept.{IsKept}
use Rattle.clk_live.specs.inside.Runs.{CanRun, IsOffered}
use Rattle.clk_live.proofs.Lists.{member, set-here}

-- a member that is replaced twice
set-twice : {X : Type 0} (xs : List X) (i : ℕ) (y z : X) → set (set xs i y) i z ≡ set xs i z
set-twice [] i y z = refl
set-twice (x ∷ xs) zero y z = refl
set-twice {X} (x ∷ xs) (suc i) y z = ap (λ (us : List X). x ∷ us) (set-twice xs i y z)

-- a member that is replaced by itself
set-same : {X : Type 0} (xs : List X) (i : ℕ) (x : X) → slice_get xs i ≡ Some x → set xs i x ≡ xs
set-same [] i x e = refl
set-same {X} (y ∷ xs) zero x e = let same : y ≡ x = cc in ap (λ (u : X). u ∷ xs) (sym same)
set-same {X} (y ∷ xs) (suc i) x e = ap (λ (us : List X). y ∷ us) (set-same xs i x e)

-- no packet of a run was offered yet
pub none-yet : (items : List (List Item)) (place : ℕ) (before : List Item) → slice_get items place ≡ Some before → set items place (before ++ []) ≡ items
none-yet items place before its = ap (set items place) (append-nil before) ∙ set-same items place before its

-- so many packets of a run were offered, and the router is as it is then
abbrev pub KeptSoFar : Course → List (Buffer ℕ) → ℕ → List Item → ℕ → Course → List (Buffer ℕ) → Type 0
KeptSoFar router0 buffers0 place run done router buffers = (items : List (List Item)) (before : List Item) → CanRun router0 buffers0 items place before (length run) → IsKept router (set items place (before ++ take done run)) buffers

module _ {router0 router : Course} {buffers0 buffers : List (Buffer ℕ)} {place : ℕ} (run : List Item) (done : ℕ) (low : done < length run) (kept : KeptSoFar router0 buffers0 place run done router buffers) (items : List (List Item))
    (before : List Item) (can : CanRun router0 buffers0 items place before (length run)) where
  -- the next packet can be offered
  pub can-next : CanRun router buffers (set items place (before ++ take done run)) place (before ++ take done run) 1
  can-next = record {
    kept = kept items before can;
    its = set-here items place before (before ++ take done run) can.its;
    few = (let both = length-append before (take done run) in let many = length-take-le done run (omega (arith, low)) in let few = can.few in omega (arith, both, many, few, low));
  }

  module _ {new : Course} {left : List (Buffer ℕ)} {x : Item} {t : Taken} (offered : (its : List (List Item)) (from : List Item) → CanRun router buffers its place from 1 → IsOffered place (record { course = router; items = its }) from x t new left)
      (more : take (done + 1) run ≡ take done run ++ x ∷ []) where
    its : IsOffered place (record { course = router; items = set items place (before ++ take done run) }) (before ++ take done run) x t new left
    its = offered (set items place (before ++ take done run)) (before ++ take done run) can-next

    one-more : set (set items place (before ++ take done run)) place ((before ++ take done run) ++ x ∷ []) ≡ set items place (before ++ take (done + 1) run)
    one-more = set-twice items place (before ++ take done run) ((before ++ take done run) ++ x ∷ []) ∙ ap (set items place) (append_assoc before (take done run) (x ∷ []) ∙ ap (λ (l : List Item). before ++ l) (sym more))

    pub kept-more : IsKept new (set items place (before ++ take (done + 1) run)) left
    kept-more = subst (λ (ls : List (List Item)). IsKept new ls left) one-more its.kept

    pub takes-more : TakesOne (record { course = router; items = set items place (before ++ take done run) }) t (record { course = new; items = set items place (before ++ take (done + 1) run) })
    takes-more = (place, subst (λ (ls : List (List Item)). IsTaken place (record { course = router; items = set items place (before ++ take done run) }) t (record { course = new; items = ls })) one-more its.taken)

    pub its-sender : sender_at router.setup place ≡ Some t.packet.sender
    its-sender = its.taken.sender

    pub same-setup : new.setup ≡ router.setup
    same-setup = ap (λ (c : Course). c.setup) its.taken.goes_on

-- what holds of each of two parts of a list, the second of which may begin within the first
pub all-joined : (P : Taken → Type 0) (ts : List Taken) (from count : ℕ) → from ≤ count → AllByRecursion P (drop from (take count ts)) → AllByRecursion P (drop count ts) → AllByRecursion P (drop from ts)
all-joined P ts zero zero le h k = k
all-joined P [] zero (suc count) le h k = tt
all-joined P (t ∷ ts) zero (suc count) le h k = (h.0, all-joined P ts zero count (omega arith) h.1 k)
all-joined P ts (suc from) zero le h k = absurd (omega (arith, le))
all-joined P [] (suc from) (suc count) le h k = tt
all-joined P (t ∷ ts) (suc from) (suc count) le h k = all-joined P ts from count (omega (arith, le)) h k

-- packets that may follow others are no more than an inlet takes in all
pub few-follow : (before xs : List Item) → length (packets before) ≤ MAX_PACKETS → Allowed MayFollow before xs → has_end xs ≡ false → length (packets before) + length xs ≤ MAX_PACKETS
few-follow before [] few allowed packets_only = omega (arith, few)
few-follow before (x ∷ xs) few allowed packets_only = by_test (is_end x) refl packets_only (few-follow (before ++ x ∷ []) xs)
  where
    by_test : (b : Bool) → is_end x ≡ b → (b || has_end xs) ≡ false → (length (packets (before ++ x ∷ [])) ≤ MAX_PACKETS → Allowed MayFollow (before ++ x ∷ []) xs → has_end xs ≡ false → length (packets (before ++ x ∷ [])) + length xs ≤ MAX_PACKETS)
        → length (packets before) + suc (length xs) ≤ MAX_PACKETS
    by_test true e h rest = absurd (grind (arith, h))
    by_test false e h rest =
        let one : packets (before ++ x ∷ []) ≡ packets before ++ x ∷ [] = filter-append (λ y. not (is_end y)) before (x ∷ []) ∙ ap (λ b. packets before ++ (if not b then x ∷ [] else [])) e in
        let many = ap length one ∙ length-append (packets before) (x ∷ []) in
        let less = allowed.0.numbered e in
        let all = rest (omega (arith, many, less)) allowed.1 h in
        omega (arith, many, all)

-- two parts of what was filled in, one after the other
pub of-joined : (P : Taken → Type 0) (old new : List Taken) (from count result : ℕ) → from ≤ count → count ≤ result → take count new ≡ take count old → AllByRecursion P (drop from (take count old)) → AllByRecursion P (drop count (take result new))
    → AllByRecursion P (drop from (take result new))
of-joined P old new from count result low up same h k = all-joined P (take result new) from count low (subst (λ (ts : List Taken). AllByRecursion P (drop from ts)) (sym (take-take count result new up ∙ same)) h) k

pub front-then : (start old new : List Taken) (from count : ℕ) → from ≤ count → take count new ≡ take count old → take from old ≡ take from start → take from new ≡ take from start
front-then start old new from count low same front = sym (take-take from count new low) ∙ ap (take from) same ∙ take-take from count old low ∙ front

-- the packets that were taken from an outlet are more by these
pub taken-after : (outlets : List Outlet) (place : ℕ) (o new : Outlet) (more : List Item) → taken new ≡ taken o ++ more → set (map taken outlets) place (taken o ++ more) ≡ map taken (set outlets place new)
taken-after outlets place o new more grows = ap (set (map taken outlets) place) (sym grows) ∙ sym (map-set taken outlets place new)

module _ (c : Course) (outlets : List Outlet) (buffers : List (Buffer ℕ)) (place : ℕ) (o : Outlet) (kept : IsKept c (map taken outlets) buffers) (its : slice_get outlets place ≡ Some o) where
  its-items : slice_get (map taken outlets) place ≡ Some (taken o)
  its-items = slice_get-map taken outlets place ∙ ap (option_map taken) its

  -- so many packets more can be offered
  pub can-run : (many : ℕ) → length (taken o) + many ≤ MAX_PACKETS → CanRun c buffers (map taken outlets) place (taken o) many
  can-run many few = record { kept = kept; its = its-items; few = few }

  -- packets that may follow can be offered
  pub can-follow : (run : List Item) → Allowed MayFollow (popped o) run → has_end run ≡ false → CanRun c buffers (map taken outlets) place (taken o) (length run)
  can-follow run allowed packets_only =
      let within = slice_get_within (map taken outlets) place (taken o) its-items in
      let numbers = length-map c.setup.senders number_of in
      let s = member (sender_numbers c.setup) place (omega (arith, within, numbers, kept.places)) in
      can-run (length run) (few-follow (popped o) run (kept.offers place (taken o) s.0 its-items s.1).few allowed packets_only)
