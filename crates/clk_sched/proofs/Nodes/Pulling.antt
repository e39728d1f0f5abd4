-- A node that is being pulled, visit by visit.
use Rattle.std.proofs.Common.{◌≡◌, ◌≢◌, ◌==◌, ℕ, suc, ◌≤◌, Bool, true, false, if◌then◌else◌, List, [], ◌∷◌, ◌++◌, Option, slice_get, refl, sym, ap, ap₂, ◌∙◌, subst, append-nil, arith, rules}
use Rattle.std.specs.List.{AllByRecursion}
use Rattle.std.proofs.lemmas.Bool.{false≢true}
use Rattle.std.proofs.lemmas.List.Concat.{flat_map-append}
use Rattle.std.proofs.lemmas.List.Elements.{filter-append}
use Rattle.clk_packet.specs.declared.packet.Packet.{Packet}
use Rattle.clk_sched.specs.declared.visit.Visit.{Visit}
use Rattle.clk_sched.specs.declared.session.state.State.{State}
use Rattle.clk_sched.specs.Tree.{Row}
use Rattle.clk_sched.specs.Log.{visits_of}
use Rattle.clk_sched.specs.inside.Pulling.{Now, History, after, with_turn, EachHolds, asked_of, with_asked, IsVisitAt, IsAskedAt, IsPulling, IsUnasked}
use Rattle.clk_sched.proofs.Lists.Numbers.{equal, differs}
use Rattle.clk_packet.specs.Lists.{In}
use Rattle.clk_sched.proofs.Lists.Members.{of-all, to-all, all-append, all-weaker, all-flat_map}
use Rattle.clk_sched.proofs.Runs.Blocks.{flat_map-same}
use Rattle.clk_sched.proofs.Runs.WithAsked.{absent, IsAbsent}
use Rattle.clk_sched.proofs.Trees.Below.{LiesAt, lies-within, lies-apart, asked-below}
use Rattle.clk_sched.proofs.Nodes.Below.{HoldsAt, holds-at, holds_at-same, holds-put, holds-same}

pub pulling-first : (now : Now) (history : History) (x : ℕ) (row : Row) (states : List State) → EachHolds states history (suc x) row → IsPulling now history x row states [] []
pulling-first now history x row states h = record { made = λ i. []; whole = refl; theirs = tt; each = tt; holds = h }

-- of a node at an input that wasn't asked there are no visits
pub pulling-absent : (now : Now) (history : History) (x : ℕ) (row : Row) (states : List State) (visits own : List Visit) → IsPulling now history x row states visits own
    → (i : ℕ) → IsUnasked own i → (y : ℕ) → LiesAt (suc x) row i y → visits_of y visits ≡ []
pulling-absent now history x row states visits own p i unasked y at =
    absent y visits (subst (IsAbsent y) (sym p.whole) (all-flat_map (λ (v : Visit). v.node ≢ y) (λ v. asked_of p.made v ++ v ∷ []) own (λ v m. all-append _ (asked_of p.made v) (v ∷ []) (search (rules, all-weaker, of-all, lies-apart, asked-below)) (here v m, tt))))
  where
    here : (v : Visit) → In v own → v.node ≢ y
    here v m e = let l = (lies-within (suc x) row i y at).0 in let k = (of-all (IsVisitAt now x) v own p.theirs m).node in omega (arith, e, k)

-- what stands at such an input holds still what it held before the pull
pub pulling-before : (now : Now) (history : History) (x : ℕ) (row : Row) (states : List State) (visits own : List Visit) → IsPulling now history x row states visits own
    → (i : ℕ) → IsUnasked own i → HoldsAt states history (suc x) row i
pulling-before now history x row states visits own p i unasked =
    holds_at-same states states (after history now.moment visits) history (suc x) row i
    (λ y at. record { state = refl; turns = sym (ap (λ vs. with_turn now.moment vs (history y)) (pulling-absent now history x row states visits own p i unasked y at)) })
    (holds-at states (after history now.moment visits) (suc x) row i p.holds)

-- the visits of a node in parts of a pull
abbrev of_node : ℕ → Visit → Bool
of_node y v = v.node == y

-- An input is asked that wasn't before, and then a visit of it is logged.
pub pulling-asks : (now : Now) (history : History) (x : ℕ) (row : Row) (states : List State) (visits own : List Visit) → IsPulling now history x row states visits own
    → (i : ℕ) → IsUnasked own i → (block : List Visit) (got : Option Packet) → IsAskedAt now history (suc x) row i block got
    → (more : List State) → HoldsAt more (after history now.moment block) (suc x) row i → ((y : ℕ) → (LiesAt (suc x) row i y → ⊥) → slice_get more y ≡ slice_get states y)
    → (v : Visit) → IsVisitAt now x v → v.input ≡ i → v.fresh ≡ true → v.got ≡ got
    → IsPulling now history x row more (visits ++ (block ++ v ∷ [])) (own ++ v ∷ [])
pulling-asks now history x row states visits own p i unasked block got asked more held others v at input fresh gets =
    record {
      made = made;
      whole = ap₂ (λ l k. l ++ k) (p.whole ∙ sym earlier) (sym latest) ∙ sym (flat_map-append (λ u. asked_of made u ++ u ∷ []) own (v ∷ []));
      theirs = all-append (IsVisitAt now x) own (v ∷ []) p.theirs (at, tt);
      each = all-append Asked own (v ∷ []) (to-all Asked own (λ u m. λ f. subst (λ b. IsAskedAt now history (suc x) row u.input b u.got) (sym (other u m)) (of-all _ u own p.each m f))) ((λ f. here), tt);
      holds = holds-put states more (after history now.moment visits) (after history now.moment all) (suc x) row i
          (λ y l k away. record { state = others y away; turns = ap (λ vs. with_turn now.moment vs (history y)) (search (rules, filter-append, absent, all-weaker, asked-below, append-nil, not_own)) }) p.holds
          (holds_at-same more more (after history now.moment block) (after history now.moment all) (suc x) row i
          (λ y lies. record { state = refl; turns = ap (λ vs. with_turn now.moment vs (history y)) (visits-there y lies) }) held);
    }
  where
    made : ℕ → List Visit
    made j = if j == i then block else p.made j

    Asked : Visit → Type 0
    Asked u = u.fresh ≡ true → IsAskedAt now history (suc x) row u.input (made u.input) u.got

    all : List Visit
    all = visits ++ (block ++ v ∷ [])

    new : made v.input ≡ block
    new = ap (λ b. if b then block else p.made v.input) (equal v.input i input)

    other : (u : Visit) → In u own → made u.input ≡ p.made u.input
    other u m = ap (λ b. if b then block else p.made u.input) (differs u.input i (of-all (λ (w : Visit). w.input ≢ i) u own unasked m))

    here : IsAskedAt now history (suc x) row v.input (made v.input) v.got
    here = subst (λ b. IsAskedAt now history (suc x) row v.input b v.got) (sym new) (subst (IsAskedAt now history (suc x) row v.input block) (sym gets) (subst (λ j. IsAskedAt now history (suc x) row j block got) (sym input) asked))

    earlier : with_asked made own ≡ with_asked p.made own
    earlier = flat_map-same _ _ own (λ u m. ap (λ b. (if u.fresh then b else []) ++ u ∷ []) (other u m))

    latest : with_asked made (v ∷ []) ≡ block ++ v ∷ []
    latest = append-nil (asked_of made v ++ v ∷ []) ∙ ap (λ l. l ++ v ∷ []) (ap (λ b. if b then made v.input else []) fresh ∙ new)

    not_own : (y : ℕ) → suc x ≤ y → visits_of y (v ∷ []) ≡ []
    not_own y l = absent y (v ∷ []) ((λ e. let k = at.node in omega (arith, e, k)), tt)

    visits-there : (y : ℕ) → LiesAt (suc x) row i y → visits_of y all ≡ visits_of y block
    visits-there y lies =
        filter-append (of_node y) visits (block ++ v ∷ [])
        ∙ ap₂ (λ k m. k ++ m) (pulling-absent now history x row states visits own p i unasked y lies) (filter-append (of_node y) block (v ∷ []) ∙ ap (λ m. visits_of y block ++ m) (not_own y (lies-within (suc x) row i y lies).0) ∙ append-nil (visits_of y block))

-- A visit that didn't ask is logged.
pub pulling-looks : (now : Now) (history : History) (x : ℕ) (row : Row) (states : List State) (visits own : List Visit) → IsPulling now history x row states visits own
    → (v : Visit) → IsVisitAt now x v → v.fresh ≡ false → IsPulling now history x row states (visits ++ v ∷ []) (own ++ v ∷ [])
pulling-looks now history x row states visits own p v at fresh = search (rules, append-nil, flat_map-append, all-append, false≢true, holds-same, filter-append, absent)

-- of the node itself are its own visits
pub pulling-own : (now : Now) (history : History) (x : ℕ) (row : Row) (states : List State) (visits own : List Visit) → IsPulling now history x row states visits own → visits_of x visits ≡ own
pulling-own now history x row states visits own p = ap (visits_of x) p.whole ∙ parts own p.theirs p.each
  where
    below : (v : Visit) → (IsAskedAt now history (suc x) row v.input (p.made v.input) v.got) → visits_of x (p.made v.input) ≡ []
    below v h = search (rules, absent, all-weaker, lies-within, asked-below)

    asked : (v : Visit) → (b : Bool) → v.fresh ≡ b → (v.fresh ≡ true → IsAskedAt now history (suc x) row v.input (p.made v.input) v.got) → visits_of x (if b then p.made v.input else []) ≡ []
    asked v b e h = search (rules, below)

    self : (v : Visit) → v.node ≡ x → visits_of x (v ∷ []) ≡ v ∷ []
    self v e = ap (λ b. if b then v ∷ [] else []) (equal v.node x e)

    parts : (vs : List Visit) → AllByRecursion (IsVisitAt now x) vs → AllByRecursion (λ (v : Visit). v.fresh ≡ true → IsAskedAt now history (suc x) row v.input (p.made v.input) v.got) vs
        → visits_of x (with_asked p.made vs) ≡ vs
    parts [] h k = refl
    parts (v ∷ vs) h k =
        filter-append (of_node x) (asked_of p.made v ++ v ∷ []) (with_asked p.made vs)
        ∙ ap₂ (λ l m. l ++ m) (filter-append (of_node x) (asked_of p.made v) (v ∷ []) ∙ ap₂ (λ l m. l ++ m) (asked v v.fresh refl k.0) (self v h.0.node)) (parts vs h.1 k.1)
