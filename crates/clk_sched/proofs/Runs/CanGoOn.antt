-- A run can go on at each moment that is no earlier than its last, whatever the queues answer.
use Rattle.std.proofs.lemmas.Grind.{common_steps}
use Rattle.std.proofs.Common.{◌≡◌, ℕ, ◌+◌, ◌<◌, ◌≤◌, true, inl, List, [], ◌∷◌, ◌++◌, length, map, reverse, refl, sym, ap, ◌∙◌, subst, arith, rules}
use Rattle.std.specs.List.{flat_map, AllByRecursion}
use Rattle.std.proofs.lemmas.List.{map-append}
use Rattle.clk_sched.specs.declared.visit.Visit.{Visit}
use Rattle.clk_sched.specs.Tree.{Tree, root, nodes}
use Rattle.clk_sched.specs.Turns.{AsksInOrder}
use Rattle.clk_sched.specs.Log.{visits_of, pulls, block_at, block, moment_of, NeverFalls, asking}
use Rattle.clk_sched.specs.inside.Pulling.{with_asked}
use Rattle.clk_sched.specs.Run.{IsRun}
use Rattle.clk_sched.specs.Step.{IsPullWith, CanGoOn}
use Rattle.clk_packet.specs.Lists.{In}
use Rattle.clk_sched.proofs.Lists.Members.{of-all, all-weaker}
use Rattle.clk_sched.proofs.Trees.Numbering.{stands-root}
use Rattle.clk_sched.proofs.Runs.Rows.{EachAllows}
use Rattle.clk_sched.proofs.Runs.ByRows.{run-rows, rows-next}
use Rattle.clk_sched.proofs.Runs.Allowed.{each-allowed}
use Rattle.clk_sched.proofs.Runs.PullByPull.{asked}
use Rattle.clk_sched.proofs.Lists.Apart.{all-reverse, each-some}
use Rattle.clk_sched.proofs.Runs.WithAsked.{with_asked-all, with_asked-self, with_asked-other, IsAbsent}
use Rattle.clk_sched.proofs.Runs.Made.{Given, IsVisitOf, IsAsked, IsMade, make}

-- the device asks what stands at its input
pull-made : (g : Given) (log : List Visit) → IsRun g.tree log → g.number ≡ length (pulls log) → NeverFalls 0 (map moment_of (pulls log) ++ g.moment ∷ []) → IsMade g 0 0 1 (root g.tree) (reverse (pulls log))
    → IsPullWith g.tree log g.moment g.answer
pull-made g log run number moments offer =
    record {
      pull = pull;
      next = record {
        number = all-weaker (IsVisitOf g) (λ (v : Visit). v.pull ≡ length (pulls log)) pull (λ v h. h.number ∙ number) all;
        whole = whole;
        one_moment = all-weaker (IsVisitOf g) (λ (v : Visit). v.moment ≡ moment_of pull) pull (λ v h. h.moment ∙ sym at_moment) all;
        moments = subst (NeverFalls 0) (sym (map-append moment_of (pulls log) (pull ∷ []) ∙ ap (λ m. map moment_of (pulls log) ++ m ∷ []) at_moment)) moments;
        device = subst (AsksInOrder (0 ∷ [])) (sym only) (record { plain = (record { fresh = refl; passed = refl }, tt); in_order = (refl, (search rules)) });
        below = rows-next g.tree log pull run whole holds.0;
      };
      at_moment = at_moment;
      answered = all-weaker (IsVisitOf g) _ pull (λ v h. h.answered) all;
    }
  where
    device : Visit
    device = asking g.number g.moment 0 0 (offer.gives 0)

    pull : List Visit
    pull = with_asked offer.made (device ∷ [])

    device_not : (i : ℕ) → IsAbsent 0 (offer.made i)
    device_not i = all-weaker (λ (v : Visit). (1 ≤ v.node) × (v.node < 1 + nodes (root g.tree))) (λ (v : Visit). v.node ≡ 0 → ⊥) (offer.made i) (λ v h e. let k = h.0 in omega (arith, e, k)) (offer.within i)

    only : visits_of 0 pull ≡ device ∷ []
    only = with_asked-self 0 offer.made (device ∷ []) device_not (refl, tt)

    all : AllByRecursion (IsVisitOf g) pull
    all = with_asked-all (IsVisitOf g) offer.made (device ∷ []) offer.visits (record { number = refl; moment = refl; answered = λ f. offer.answered 0 (omega arith) }, tt)

    at_moment : moment_of pull ≡ g.moment
    at_moment = search (rules, common_steps)

    is_asked : IsAsked g 0 0 1 (1 + nodes (root g.tree)) offer.made offer.gives pull
    is_asked = grind (arith, common_steps, of-all, with_asked-other, at_moment, only, device)

    holds : EachAllows 0 0 1 (root g.tree) (reverse (pulls log)) pull × ((v : Visit) → In v (visits_of 0 pull) → v.fresh ≡ true → block_at pull 0 1 (root g.tree) v.input ≡ offer.made v.input)
    holds = offer.holds pull is_asked

    whole : pull ≡ block g.tree pull
    whole = sym (ap (flat_map (asked pull 1 (root g.tree))) only ∙ ap (λ l. (l ++ device ∷ []) ++ []) (holds.1 device (subst (In device) (sym only) (inl refl)) refl))

pub can-go_on : (tree : Tree) → CanGoOn tree
can-go_on tree formed log moment answer run moments = pull-made g log run refl moments (make g (root tree) 0 0 1 (reverse (pulls log)) formed (stands-root tree) were)
  where
    g : Given
    g = record { tree = tree; number = length (pulls log); moment = moment; answer = answer }

    Was : List Visit → Type 0
    Was p = (e : List (List Visit)) × EachAllows 0 0 1 (root tree) e p

    were : (p : List Visit) → In p (reverse (pulls log)) → Was p
    were p m = of-all Was p (reverse (pulls log)) (all-reverse Was (pulls log) (each-some (EachAllows 0 0 1 (root tree)) [] (pulls log) (each-allowed 0 0 1 (root tree) (pulls log) (run-rows tree log run)))) m
