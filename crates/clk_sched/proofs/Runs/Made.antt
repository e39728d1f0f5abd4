-- What stands at the inputs of a node makes a pull, whatever the queues answer: what its nodes do at each input that is asked,
-- and what is given there.
use Rattle.std.proofs.Common.{◌≡◌, ◌≢◌, ◌&&◌, ◌==◌, ℕ, suc, ◌+◌, ◌<◌, ◌≤◌, if◌then◌else◌, Bool, true, false, List, [], ◌∷◌, ◌++◌, map, filter, Option, None, IfSome, refl, sym, ap, ap₂, ◌∙◌, subst, arith, rules}
use Rattle.std.specs.List.{flat_map, AllByRecursion, list_any}
use Rattle.std.proofs.lemmas.Bool.Decides.{nat_tests}
use Rattle.clk_packet.specs.declared.packet.Packet.{Packet}
use Rattle.clk_sched.specs.declared.visit.Visit.{Visit}
use Rattle.clk_packet.specs.Scheduler.{Scheduler}
use Rattle.clk_sched.specs.Tree.{Row, end, leaf, node, Tree, nodes, width, queue_at, IsSound}
use Rattle.clk_sched.specs.Turns.{Turn}
use Rattle.clk_sched.specs.Laws.{AllowsTurn}
use Rattle.clk_sched.specs.Log.{visits_of, block_at, moment_of, turn, asks, pulls_below, result_of}
use Rattle.clk_sched.specs.Run.{GetsResult}
use Rattle.clk_sched.specs.inside.Pulling.{AreApart, input_of, asked_of, with_asked}
use Rattle.clk_sched.proofs.Lists.Numbers.{equal, differs}
use Rattle.clk_packet.specs.Lists.{In}
use Rattle.clk_sched.proofs.Lists.Members.{of-all, to-all, in-filter, all-weaker}
use Rattle.clk_sched.proofs.Trees.Numbering.{StandsAt, queue_in-before, queue_in-earlier, stands-after_leaf, stands-after_node, stands-inputs}
use Rattle.clk_sched.proofs.Runs.Rows.{EachAllows}
use Rattle.clk_sched.proofs.Runs.Allowed.{AreWithin}
use Rattle.clk_sched.proofs.Runs.PullByPull.{asked}
use Rattle.clk_sched.proofs.Runs.Blocks.{flat_map-same, asks-both}
use Rattle.clk_sched.proofs.Lists.Apart.{all-map, only-one, any-member}
use Rattle.clk_sched.proofs.Runs.WithAsked.{IsAbsent, AreOf, absent, with_asked-all, with_asked-self, with_asked-other}
use Rattle.clk_sched.proofs.Runs.Chosen.{Asker, IsVisitBy, HasChosen, choose}

-- what is given of a pull: the tree, the pull's number and moment, and what is answered at each input of each node
pub record Given : Type 0 where
  pub tree : Tree
  pub number : ℕ
  pub moment : ℕ
  pub answer : ℕ → ℕ → Option Packet

-- a visit of that pull
pub record IsVisitOf (g : Given) (v : Visit) : Type 0 where
  pub number : v.pull ≡ g.number
  pub moment : v.moment ≡ g.moment
  pub answered : v.fresh ≡ true → IfSome (queue_at g.tree v.node v.input) (λ q. v.got ≡ g.answer v.node v.input)

abbrev pub asker : Given → ℕ → (ℕ → Option Packet) → Asker
asker g x gives = record { number = g.number; moment = g.moment; node = x; gives = gives }

-- In a pull, node `above` has at most one visit to each input, gets by asking what is given there, from input `first` on, and
-- the nodes in a range did what was made at the inputs that it asked.
pub record IsAsked (g : Given) (above first low high : ℕ) (made : ℕ → List Visit) (gives : ℕ → Option Packet) (pull : List Visit) : Type 0 where
  pub moment : moment_of pull ≡ g.moment
  pub apart : AreApart input_of (visits_of above pull)
  pub got : (v : Visit) → In v (visits_of above pull) → v.fresh ≡ true → first ≤ v.input → v.got ≡ gives v.input
  pub owns : (y : ℕ) → low ≤ y → y < high → visits_of y pull ≡ flat_map (λ (v : Visit). visits_of y (asked_of made v)) (visits_of above pull)

-- What a row makes at each input and gives there: a pull that has it is allowed after those before, and has it as its blocks.
pub record IsMade (g : Given) (above first next : ℕ) (row : Row) (earlier : List (List Visit)) : Type 0 where
  pub made : ℕ → List Visit
  pub gives : ℕ → Option Packet
  pub before : (i : ℕ) → i < first → (made i ≡ []) × (gives i ≡ g.answer above i)
  pub within : (i : ℕ) → AllByRecursion (λ (v : Visit). (next ≤ v.node) × (v.node < next + nodes row)) (made i)
  pub visits : (i : ℕ) → AllByRecursion (IsVisitOf g) (made i)
  pub answered : (i : ℕ) → first ≤ i → IfSome (queue_at g.tree above i) (λ q. gives i ≡ g.answer above i)
  pub holds : (pull : List Visit) → IsAsked g above first next (next + nodes row) made gives pull
      → EachAllows above first next row earlier pull × ((v : Visit) → In v (visits_of above pull) → v.fresh ≡ true → block_at pull first next row v.input ≡ made v.input)

end-made : (g : Given) (above first next : ℕ) (earlier : List (List Visit)) → IsMade g above first next end earlier
end-made g above first next earlier =
    record {
      made = λ i. [];
      gives = λ i. g.answer above i;
      before = λ i l. (refl, refl);
      within = λ i. tt;
      visits = λ i. tt;
      answered = λ i l. search rules;
      holds = λ pull h. (tt, λ v m f. refl);
    }

leaf-made : (g : Given) (above first next k : ℕ) (row : Row) (earlier : List (List Visit)) → IsMade g above (suc first) next row earlier → IsMade g above first next (leaf k row) earlier
leaf-made g above first next k row earlier rest = search rules

-- one thing at an input, and others at others
abbrev here_or : {X : Type 0} → ℕ → X → (ℕ → X) → ℕ → X
here_or first x others i = if first == i then x else others i

at-here : {X : Type 0} (first i : ℕ) (x : X) (others : ℕ → X) → i ≡ first → here_or first x others i ≡ x
at-here first i x others e = ap (λ b. if b then x else others i) (equal first i (sym e))

at-other : {X : Type 0} (first i : ℕ) (x : X) (others : ℕ → X) → first ≢ i → here_or first x others i ≡ others i
at-other first i x others d = ap (λ b. if b then x else others i) (differs first i d)

no-queue : (tree : Tree) (above first next : ℕ) (class : Scheduler) (inputs row : Row) → StandsAt tree above first next (node class inputs row) → queue_at tree above first ≡ None
no-queue tree above first next class inputs row s = search (rules, queue_in-before, queue_in-earlier)

node-made : (g : Given) (above first next : ℕ) (class : Scheduler) (inputs row : Row) (earlier : List (List Visit)) → StandsAt g.tree above first next (node class inputs row)
    → (below : IsMade g next 0 (suc next) inputs (pulls_below above first earlier)) → IsMade g above (suc first) (suc (next + nodes inputs)) row earlier
    → HasChosen (asker g next below.gives) class (width inputs) (map (turn next) (pulls_below above first earlier)) → IsMade g above first next (node class inputs row) earlier
node-made g above first next class inputs row earlier stands below rest choice =
    record {
      made = here_or first own rest.made;
      gives = here_or first result rest.gives;
      before = λ i l. (at-other first i own rest.made (λ e. omega (arith, e, l)) ∙ (rest.before i (omega arith)).0, at-other first i result rest.gives (λ e. omega (arith, e, l)) ∙ (rest.before i (omega arith)).1);
      within = λ i. within i (first == i);
      visits = λ i. visits i (first == i);
      answered = λ i l. answered i l (first == i) refl;
      holds = λ pull h. ((allows pull h, results pull h, (rest.holds pull (after pull h)).0), λ v m f. blocks pull h v m f (first == v.input) refl);
    }
  where
    own : List Visit
    own = with_asked below.made choice.visits

    result : Option Packet
    result = result_of choice.visits

    past : ℕ
    past = suc (next + nodes inputs)

    own_node : AreOf next choice.visits
    own_node = all-weaker (IsVisitBy (asker g next below.gives)) (λ (v : Visit). v.node ≡ next) choice.visits (λ v h. h.node) choice.each

    own_within : AllByRecursion (λ (v : Visit). (next ≤ v.node) × (v.node < past)) own
    own_within =
        with_asked-all (λ (v : Visit). (next ≤ v.node) × (v.node < past)) below.made choice.visits
        (λ i. all-weaker (λ (v : Visit). (suc next ≤ v.node) × (v.node < suc next + nodes inputs)) (λ (v : Visit). (next ≤ v.node) × (v.node < past)) (below.made i)
        (λ v h. (let k = h.0 in omega arith, let k = h.1 in omega arith)) (below.within i))
        (all-weaker (λ (v : Visit). v.node ≡ next) (λ (v : Visit). (next ≤ v.node) × (v.node < past)) choice.visits (λ v e. (omega (arith, e), omega (arith, e))) own_node)

    below_not : (i : ℕ) → IsAbsent next (below.made i)
    below_not i =
        all-weaker (λ (v : Visit). (suc next ≤ v.node) × (v.node < suc next + nodes inputs)) (λ (v : Visit). v.node ≢ next) (below.made i) (λ v h e. let k = h.0 in omega (arith, e, k)) (below.within i)

    rest_not : (y i : ℕ) → y < past → IsAbsent y (rest.made i)
    rest_not y i l = all-weaker (λ (v : Visit). (past ≤ v.node) × (v.node < past + nodes row)) (λ (v : Visit). v.node ≢ y) (rest.made i) (λ v h e. let k = h.0 in omega (arith, e, k)) (rest.within i)

    own_not : (y : ℕ) → past ≤ y → IsAbsent y own
    own_not y l = all-weaker (λ (v : Visit). (next ≤ v.node) × (v.node < past)) (λ (v : Visit). v.node ≢ y) own (λ v h e. let k = h.1 in omega (arith, e, k)) own_within

    within : (i : ℕ) (b : Bool) → AllByRecursion (λ (v : Visit). (next ≤ v.node) × (v.node < next + suc (nodes inputs + nodes row))) (if b then own else rest.made i)
    within i b = search (rules, all-weaker, past, own, own_within)

    own_visit : (v : Visit) → IsVisitBy (asker g next below.gives) v → IsVisitOf g v
    own_visit v k =
        record {
          number = k.number;
          moment = k.moment;
          answered = λ f.
              subst (λ n. IfSome (queue_at g.tree n v.input) (λ q. v.got ≡ g.answer n v.input)) (sym k.node)
              (subst (λ o. IfSome (queue_at g.tree next v.input) (λ q. o ≡ g.answer next v.input)) (sym (k.got f)) (below.answered v.input (omega arith)));
        }

    visits : (i : ℕ) (b : Bool) → AllByRecursion (IsVisitOf g) (if b then own else rest.made i)
    visits i true = with_asked-all (IsVisitOf g) below.made choice.visits below.visits (all-weaker (IsVisitBy (asker g next below.gives)) (IsVisitOf g) choice.visits own_visit choice.each)
    visits i false = rest.visits i

    answered : (i : ℕ) → first ≤ i → (b : Bool) → (first == i) ≡ b → IfSome (queue_at g.tree above i) (λ q. (if b then result else rest.gives i) ≡ g.answer above i)
    answered i l true e =
        let at : i ≡ first = grind (arith, nat_tests) in
        subst (λ o. IfSome o (λ q. result ≡ g.answer above i)) (sym (ap (queue_at g.tree above) at ∙ no-queue g.tree above first next class inputs row stands)) tt
    answered i l false e = rest.answered i (grind (arith, nat_tests))

    -- a pull in which what this row made was asked
    IsPull : List Visit → Type 0
    IsPull pull = IsAsked g above first next (next + suc (nodes inputs + nodes row)) (here_or first own rest.made) (here_or first result rest.gives) pull

    here : (pull : List Visit) → IsPull pull → (y : ℕ) → next ≤ y → y < past → (v : Visit) → In v (visits_of above pull) → asks first v ≡ true → visits_of y pull ≡ visits_of y own
    here pull h y l k v m t =
        let both = asks-both first v t in
        h.owns y l (omega arith)
        ∙ only-one input_of (λ (u : Visit). visits_of y (asked_of (here_or first own rest.made) u)) (visits_of above pull) v h.apart m (λ u k d. none u (λ e. d (sym e ∙ sym both.1)) u.fresh)
        ∙ ap (visits_of y) (ap (λ b. if b then here_or first own rest.made v.input else []) both.0 ∙ at-here first v.input own rest.made both.1)
      where
        none : (u : Visit) → first ≢ u.input → (b : Bool) → visits_of y (if b then here_or first own rest.made u.input else []) ≡ []
        none u d true = ap (visits_of y) (at-other first u.input own rest.made d) ∙ absent y (rest.made u.input) (rest_not y u.input k)
        none u d false = refl

    own_visits : (pull : List Visit) → IsPull pull → (v : Visit) → In v (visits_of above pull) → asks first v ≡ true → visits_of next pull ≡ choice.visits
    own_visits pull h v m t = here pull h next (omega arith) (omega arith) v m t ∙ with_asked-self next below.made choice.visits below_not own_node

    pulled : (pull : List Visit) → IsPull pull → (v : Visit) → In v (visits_of above pull) → asks first v ≡ true → IsAsked g next 0 (suc next) (suc next + nodes inputs) below.made below.gives pull
    pulled pull h v m t = search (rules, of-all, with_asked-other, own_visits, visits, here, own_node)

    after : (pull : List Visit) → IsPull pull → IsAsked g above (suc first) past (past + nodes row) rest.made rest.gives pull
    after pull h =
        record {
          moment = h.moment;
          apart = h.apart;
          got = λ v m f l. h.got v m f (omega arith) ∙ at-other first v.input result rest.gives (λ e. omega (arith, e, l));
          owns = λ y l k. h.owns y (omega arith) (omega arith) ∙ flat_map-same _ _ (visits_of above pull) (λ v m. other y l v.fresh v.input);
        }
      where
        other : (y : ℕ) → past ≤ y → (f : Bool) (i : ℕ) → visits_of y (if f then here_or first own rest.made i else []) ≡ visits_of y (if f then rest.made i else [])
        other y l false i = refl
        other y l true i = by_test (first == i) refl
          where
            by_test : (b : Bool) → (first == i) ≡ b → visits_of y (if b then own else rest.made i) ≡ visits_of y (rest.made i)
            by_test true e = absent y own (own_not y l) ∙ ap (visits_of y) (sym (rest.before i (grind (arith, nat_tests))).0)
            by_test false e = refl

    allows : (pull : List Visit) → IsPull pull → list_any (asks first) (visits_of above pull) ≡ true
        → AllowsTurn class (width inputs) (map (turn next) (pulls_below above first earlier)) (turn next pull) × EachAllows next 0 (suc next) inputs (pulls_below above first earlier) pull
    allows pull h some = search (rules, any-member, own_visits, pulled)

    results : (pull : List Visit) → IsPull pull → GetsResult above first next pull
    results pull h = to-all (λ (v : Visit). v.got ≡ result_of (visits_of next pull)) (filter (asks first) (visits_of above pull)) (λ v m. let k = in-filter (asks first) v (visits_of above pull) m in got v k.0 k.1)
      where
        got : (v : Visit) → In v (visits_of above pull) → asks first v ≡ true → v.got ≡ result_of (visits_of next pull)
        got v m t = search (rules, asks-both, at-here, result, own_visits)

    blocks : (pull : List Visit) → IsPull pull → (v : Visit) → In v (visits_of above pull) → v.fresh ≡ true → (b : Bool) → (first == v.input) ≡ b
        → (if b then flat_map (asked pull (suc next) inputs) (visits_of next pull) else block_at pull (suc first) past row v.input) ≡ (if b then own else rest.made v.input)
    blocks pull h v m f true e =
        flat_map-same (asked pull (suc next) inputs) (λ (u : Visit). asked_of below.made u ++ u ∷ []) (visits_of next pull) (λ u mu. ap (λ l. l ++ u ∷ []) (by_fresh u mu u.fresh refl))
        ∙ ap (with_asked below.made) (own_visits pull h v m t)
      where
        t : asks first v ≡ true
        t = ap₂ (λ c d. c && d) f (let flipped : (v.input == first) ≡ true = grind (arith, nat_tests) in flipped)

        by_fresh : (u : Visit) → In u (visits_of next pull) → (c : Bool) → u.fresh ≡ c → (if c then block_at pull 0 (suc next) inputs u.input else []) ≡ (if c then below.made u.input else [])
        by_fresh u mu c k = search (rules, pulled, t)
    blocks pull h v m f false e = (rest.holds pull (after pull h)).1 v m f

-- each earlier pull was allowed after some
abbrev pub WereAllowed : ℕ → ℕ → ℕ → Row → List (List Visit) → Type 0
WereAllowed above first next row earlier = (p : List Visit) → In p earlier → (e : List (List Visit)) × EachAllows above first next row e p

pub make : (g : Given) (row : Row) (above first next : ℕ) (earlier : List (List Visit)) → IsSound row → StandsAt g.tree above first next row → WereAllowed above first next row earlier
    → IsMade g above first next row earlier
make g end above first next earlier formed stands were = end-made g above first next earlier
make g (leaf k row) above first next earlier formed stands were =
    leaf-made g above first next k row earlier (make g row above (suc first) next earlier formed (stands-after_leaf g.tree above first next k row stands) were)
make g (node class inputs row) above first next earlier formed stands were =
    let below = make g inputs next 0 (suc next) before formed.2 (stands-inputs g.tree above first next class inputs row stands) (λ p m. let w = was p m in (w.0, w.2)) in
    node-made g above first next class inputs row earlier stands below
    (make g row above (suc first) (suc (next + nodes inputs)) earlier formed.3 (stands-after_node g.tree above first next class inputs row stands) (λ p m. let w = were p m in (w.0, w.1.2)))
    (choose (asker g next below.gives) class (width inputs) (map (turn next) before) formed.0 formed.1
    (all-map (λ (t : Turn). AreWithin (width inputs) t.visits) (turn next) before (to-all (λ p. AreWithin (width inputs) (visits_of next p)) before (λ p m. (was p m).1))))
  where
    before : List (List Visit)
    before = pulls_below above first earlier

    was : (p : List Visit) → In p before → (e : List (List Visit)) × AreWithin (width inputs) (visits_of next p) × EachAllows next 0 (suc next) inputs e p
    was p m =
        let both = in-filter (λ pull. list_any (asks first) (visits_of above pull)) p earlier m in
        let w = were p both.0 in
        let pulled = w.1.0 both.1 in (pulls_below above first w.0, pulled.0.within, pulled.1)
