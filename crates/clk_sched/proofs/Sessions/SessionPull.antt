-- One pull of a session: what its nodes did is the next pull of its run.
use Rattle.std.proofs.Common.{◌≡◌, ℕ, suc, ◌+◌, ◌<◌, ◌≤◌, max, List, [], ◌∷◌, ◌++◌, length, map, reverse, if◌then◌else◌, Option, None, refl, sym, ap, ◌∙◌, subst, append-nil, append_assoc, arith, rules}
use Rattle.std.specs.List.{AllByRecursion, filter_map, cons_option}
use Rattle.std.proofs.lemmas.List.{map-append, reverse-append, length-append}
use Rattle.clk_packet.specs.declared.packet.Packet.{Packet}
use Rattle.clk_sched.specs.declared.visit.Visit.{Visit}
use Rattle.clk_sched.specs.declared.session.nodes.Nodes.{Nodes}
use Rattle.clk_packet.specs.Scheduler.{prio}
use Rattle.clk_sched.specs.Tree.{Tree, root, nodes}
use Rattle.clk_sched.specs.Turns.{Turn, AsksInOrder}
use Rattle.clk_sched.specs.Log.{visits_of, pulls, moment_of, result_of, turn, NeverFalls}
use Rattle.clk_sched.specs.Laws.Device.{IsDeviceTurn}
use Rattle.clk_sched.specs.Results.{emitted}
use Rattle.clk_sched.specs.Run.{IsRun}
use Rattle.clk_sched.specs.Step.{IsOnePullMore}
use Rattle.clk_sched.specs.inside.Holds.Shaper.{AreBefore}
use Rattle.clk_sched.specs.inside.Places.{StandsIn, AreWired, AllFit}
use Rattle.clk_sched.specs.inside.Pulling.{NodeHolds, Keeps, Pulls, HasPulled, added, now_of, after, with_turn}
use Rattle.clk_sched.specs.Session.{Progress, IsPulledOnce, latest_moment, latest_of, latest_pull, newly}
use Rattle.clk_sched.specs.inside.Session.{IsLaidOut, IsAfterRun, history_of}
use Rattle.clk_sched.proofs.Callers.Emitted.{emitted-append}
use Rattle.clk_sched.proofs.Lists.Members.{all-weaker, all-split}
use Rattle.clk_sched.proofs.Lists.Apart.{all-reverse}
use Rattle.clk_sched.proofs.Runs.GoesOn.{goes-on}
use Rattle.clk_sched.proofs.Nodes.Asking.{added-is}
use Rattle.clk_sched.proofs.Trees.QueuesAsked.{block-nodes}
use Rattle.clk_sched.proofs.Runs.DeviceBlock.{IsNextOf, next-pull}

-- moments that never fall, and those before the latest
abbrev latest : ℕ → List ℕ → ℕ
latest least [] = least
latest least (n ∷ ns) = latest n ns

never-more : (least : ℕ) (ns : List ℕ) (n : ℕ) → NeverFalls least ns → latest least ns ≤ n → NeverFalls least (ns ++ n ∷ [])
never-more least [] n h l = (l, tt)
never-more least (k ∷ ns) n h l = (h.0, never-more k ns n h.1 l)

least-latest : (least : ℕ) (ns : List ℕ) → NeverFalls least ns → least ≤ latest least ns
least-latest least [] h = omega arith
least-latest least (n ∷ ns) h = let k = least-latest n ns h.1 in let l = h.0 in omega arith

never-all : (least : ℕ) (ns : List ℕ) → NeverFalls least ns → AllByRecursion (λ n. n ≤ latest least ns) ns
never-all least [] h = tt
never-all least (n ∷ ns) h = (least-latest n ns h.1, never-all n ns h.1)

-- the latest of pulls, from either end
latest-onto : (ps earlier : List (List Visit)) → latest (latest_moment earlier) (map moment_of ps) ≡ latest_moment (reverse ps ++ earlier)
latest-onto [] earlier = refl
latest-onto (p ∷ ps) earlier = latest-onto ps (p ∷ earlier) ∙ ap latest_moment (sym (append_assoc (reverse ps) (p ∷ []) earlier) ∙ ap (λ l. l ++ earlier) (sym (reverse-append (p ∷ []) ps)))

latest-pulls : (ps : List (List Visit)) → latest 0 (map moment_of ps) ≡ latest_moment (reverse ps)
latest-pulls ps = latest-onto ps [] ∙ ap latest_moment (append-nil (reverse ps))

-- no turn of a history is after the moments of its pulls
with_turn-before : (moment at : ℕ) (visits : List Visit) (turns : List Turn) → at ≤ moment → AreBefore moment turns → AreBefore moment (with_turn at visits turns)
with_turn-before moment at visits turns l h = search rules

history-before : (moment : ℕ) (ps : List (List Visit)) (x : ℕ) → AllByRecursion (λ p. moment_of p ≤ moment) ps → AreBefore moment (history_of ps x)
history-before moment [] x h = tt
history-before moment (p ∷ ps) x h = with_turn-before moment (moment_of p) (visits_of x p) (history_of ps x) h.0 (history-before moment ps x h.1)

all-of-map : (ps : List (List Visit)) (moment : ℕ) → AllByRecursion (λ n. n ≤ moment) (map moment_of ps) → AllByRecursion (λ p. moment_of p ≤ moment) ps
all-of-map [] moment h = tt
all-of-map (p ∷ ps) moment h = (h.0, all-of-map ps moment h.1)

-- no turn of a history is after a moment that is no earlier than those of a run
runs-before : (tree : Tree) (log : List Visit) (moment : ℕ) → IsRun tree log → latest_moment (reverse (pulls log)) ≤ moment → (y : ℕ) → AreBefore moment (history_of (reverse (pulls log)) y)
runs-before tree log moment run past y = history-before moment (reverse (pulls log)) y early
  where
    early : AllByRecursion (λ p. moment_of p ≤ moment) (reverse (pulls log))
    early = search (rules, all-reverse, all-of-map, all-weaker, latest-pulls, never-all)

pub run-before : (tree : Tree) (n : Nodes) → IsAfterRun tree n → (y : ℕ) → AreBefore n.moment (history_of (reverse (pulls n.log.items)) y)
run-before tree n run = runs-before tree n.log.items n.moment run.run (let e = run.moment in omega (arith, e))

-- a pull's visits are those of the latest pull
pub is-latest : (a b : Progress) (moment : ℕ) (got : Option Packet) → IsPulledOnce a b moment got → newly a b ≡ latest_pull b.log
is-latest a b moment got h = sym (ap latest_of (ap reverse h.last ∙ reverse-append (pulls a.log) (newly a b ∷ [])))

-- the session's view of its nodes
abbrev pub progress : Tree → Nodes → Progress
progress tree n = record { tree = tree; log = n.log.items }

-- nodes that are ready for a pull at a moment, after a run
pub record IsReadied (a b : Nodes) (moment : ℕ) : Type 0 where
  pub inputs : b.inputs.items ≡ a.inputs.items
  pub states : b.states.items ≡ a.states.items
  pub log : b.log.items ≡ a.log.items
  pub pull : b.pull ≡ a.pull
  pub at_moment : b.moment ≡ max a.moment moment

-- nodes that are counted one pull further
abbrev pub one_further : Nodes → Nodes
one_further n = record { inputs = n.inputs; states = n.states; log = n.log; pull = n.pull + 1; moment = n.moment }

-- A session was pulled.
pub record HasGoneOn (tree : Tree) (a b : Nodes) (moment : ℕ) (visits : List Visit) (got : Option Packet) : Type 0 where
  pub still : IsAfterRun tree b
  pub once : IsPulledOnce (progress tree a) (progress tree b) moment got
  pub new : newly (progress tree a) (progress tree b) ≡ visits
  pub within : AllByRecursion (λ (v : Visit). v.node < suc (nodes (root tree))) visits

pub session-pulled : {f : ℕ} (tree : Tree) (a ready pulled : Nodes) (moment most : ℕ) (got : Option Packet) → IsAfterRun tree a → IsReadied a ready moment → Keeps f ready pulled most → Pulls ready pulled 0 got
    → HasGoneOn tree a (one_further pulled) moment (added ready pulled) got
session-pulled tree a ready pulled moment most got run readied keeps pull =
    record {
      still = record {
        stands = subst (λ t. StandsIn t 0 (root tree)) (sym inputs) run.stands;
        wired = subst AreWired (sym inputs) run.wired;
        fit = subst (λ t. AllFit t b.states.items) (sym keeps.inputs) keeps.fit;
        size = ap length inputs ∙ run.size;
        run = subst (IsRun tree) (sym logged) more.run;
        holds = subst (λ h. NodeHolds pulled.states.items h 0 prio (root tree)) history done.holds;
        pull = ap (λ n. n + 1) (keeps.pull ∙ readied.pull ∙ run.pull) ∙ sym (ap length last ∙ length-append (pulls a.log.items) (visits ∷ []));
        moment = keeps.moment ∙ sym next.at_moment ∙ ap latest_moment (sym turned);
      };
      once = record {
        tree = refl;
        log = logged ∙ ap (λ l. a.log.items ++ l) (sym new);
        last = last ∙ ap (λ l. pulls a.log.items ++ l ∷ []) (sym new);
        run = subst (IsRun tree) (sym logged) more.run;
        at_moment = ap moment_of new ∙ next.at_moment ∙ readied.at_moment ∙ ap (λ m. max m moment) run.moment;
        result = next.result ∙ ap (λ l. result_of (visits_of 0 l)) (sym new);
      };
      new = new;
      within = all-weaker (λ (v : Visit). (0 ≤ v.node) × (v.node < suc (0 + nodes (root tree)))) (λ (v : Visit). v.node < suc (nodes (root tree))) visits (λ v h. let k = h.1 in omega arith)
          (block-nodes (now_of ready) (history_of (reverse before)) 0 prio (root tree) visits got done.block);
    }
  where
    b : Nodes
    b = one_further pulled

    visits : List Visit
    visits = added ready pulled

    inputs : b.inputs.items ≡ a.inputs.items
    inputs = keeps.inputs ∙ readied.inputs

    before : List (List Visit)
    before = pulls a.log.items

    past : latest 0 (map moment_of before) ≤ ready.moment
    past = let e = readied.at_moment in let f = run.moment in let g = latest-pulls before in omega (arith, e, f, g)

    falls : NeverFalls 0 (map moment_of before)
    falls = run.run.shape.moments

    done : HasPulled ready pulled (history_of (reverse before)) 0 prio (root tree) got
    done =
        pull prio (root tree) (history_of (reverse before)) (subst (λ t. StandsIn t 0 (root tree)) (sym readied.inputs) run.stands)
        (subst (λ s. NodeHolds s (history_of (reverse before)) 0 prio (root tree)) (sym readied.states) run.holds) (runs-before tree a.log.items ready.moment run.run (let g = latest-pulls before in omega (arith, past, g)))

    next : IsNextOf tree a.log.items (now_of ready) visits got
    next = next-pull tree a.log.items visits (now_of ready) got run.run (readied.pull ∙ run.pull) (never-more 0 (map moment_of before) ready.moment falls past) done.block

    more : IsOnePullMore tree a.log.items visits
    more = (goes-on tree).step a.log.items visits run.run next.next

    logged : b.log.items ≡ a.log.items ++ visits
    logged = keeps.grown ∙ ap (λ l. l ++ visits) readied.log

    new : newly (progress tree a) (progress tree b) ≡ visits
    new = added-is a b visits logged

    last : pulls b.log.items ≡ before ++ visits ∷ []
    last = ap pulls logged ∙ more.last

    turned : reverse (pulls b.log.items) ≡ visits ∷ reverse before
    turned = ap reverse last ∙ reverse-append before (visits ∷ [])

    history : after (history_of (reverse before)) ready.moment visits ≡ history_of (reverse (pulls b.log.items))
    history = ap (λ m. after (history_of (reverse before)) m visits) (sym next.at_moment) ∙ ap history_of (sym turned)

-- a session before its first pull
pub session-first : (tree : Tree) (n : Nodes) → IsLaidOut tree n → IsAfterRun tree n
session-first tree n laid = search (rules, goes-on)

-- what a pull of the device gave is what came out by its one visit
device-gives : (visits : List Visit) → AsksInOrder (0 ∷ []) visits → filter_map (λ (v : Visit). if v.passed then v.got else None) visits ≡ cons_option (result_of visits) []
device-gives visits h = search rules

-- at most one packet comes out in a pull
pub one-at-most : (got : Option Packet) → length (cons_option got []) ≤ 1
one-at-most got = search rules

-- One pull more adds what it gave to what came out.
pub emitted-once : (old new : Progress) (moment : ℕ) (got : Option Packet) → IsPulledOnce old new moment got → emitted new.log ≡ emitted old.log ++ cons_option got []
emitted-once old new moment got once =
    ap emitted once.log ∙ emitted-append old.log pull ∙ ap (λ l. emitted old.log ++ l) (device-gives (visits_of 0 pull) its.0 ∙ ap (λ o. cons_option o []) (sym once.result))
  where
    pull : List Visit
    pull = newly old new

    its : AllByRecursion IsDeviceTurn (turn 0 pull ∷ [])
    its = (all-split IsDeviceTurn (map (turn 0) (pulls old.log)) (turn 0 pull ∷ []) (subst (AllByRecursion IsDeviceTurn) (ap (map (turn 0)) once.last ∙ map-append (turn 0) (pulls old.log) (pull ∷ [])) once.run.device)).1
