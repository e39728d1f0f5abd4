-- The turns of a scheduler, of which each law speaks: what it did in each pull in which it was pulled.
use Rattle.std.specs.Prelude.{◌≡◌, ℕ, true, List, [], ◌∷◌, reverse, is_some, Option, Some, None, MatchOption, ⊤, if◌then◌else◌}
use Rattle.std.specs.List.{flat_map, AllByRecursion}
use Rattle.clk_sched.specs.declared.visit.Visit.{Visit}

-- what a node did in one pull: the counted moment, and its visits in order
pub record Turn : Type 0 where
  pub moment : ℕ
  pub visits : List Visit

-- the visits of a node across its turns
abbrev pub all_visits : List Turn → List Visit
all_visits turns = flat_map (λ (t : Turn). t.visits) turns

-- the visits of a node in its earlier turns, the latest first
abbrev pub visits_before : List Turn → List Visit
visits_before earlier = flat_map (λ (t : Turn). reverse t.visits) earlier

-- the visits go to these inputs in this order, and end with the first that got a packet, or else with the last input
abbrev pub UpToFirst : List ℕ → List Visit → Type 0
UpToFirst [] [] = ⊤
UpToFirst [] (v ∷ visits) = ⊥
UpToFirst (input ∷ inputs) [] = ⊥
UpToFirst (input ∷ inputs) (v ∷ visits) = (v.input ≡ input) × MatchOption v.got (UpToFirst inputs visits) (λ _. visits ≡ [])

-- the visit asked, and the packet that it got, if any, is the node's result
pub record IsPlain (v : Visit) : Type 0 where
  pub fresh : v.fresh ≡ true
  pub passed : v.passed ≡ is_some v.got

-- plain visits to these inputs in this order, up to the first that got a packet
pub record AsksInOrder (inputs : List ℕ) (visits : List Visit) : Type 0 where
  pub plain : AllByRecursion IsPlain visits
  pub in_order : UpToFirst inputs visits

-- Each member of a list meets the law, given those before it, the latest first.
abbrev pub EachAfter : {X : Type 0} → (List X → X → Type 0) → List X → List X → Type 0
EachAfter Law earlier [] = ⊤
EachAfter Law earlier (x ∷ xs) = Law earlier x × EachAfter Law (x ∷ earlier) xs

-- the input of the first visit that got a packet, if one did
abbrev pub giver : List Visit → Option ℕ
giver [] = None
giver (v ∷ visits) = if is_some v.got then Some v.input else giver visits
