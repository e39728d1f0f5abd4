-- What is left in the rows of a tree, and what it may cost yet; and what one more pull does to both.
use Rattle.std.proofs.lemmas.Bool.Decides.{nat_tests}
use Rattle.std.proofs.Common.{◌≡◌, ℕ, zero, suc, ◌+◌, ◌*◌, ◌<◌, ◌≤◌, ◌==◌, Bool, true, false, List, [], ◌∷◌, ◌++◌, length, map, filter, reverse, Option, None, refl, sym, ap, ◌∙◌, subst, arith, rules}
use Rattle.std.specs.List.{AllByRecursion, list_any}
use Rattle.std.specs.Bool.{⊤}
use Rattle.std.proofs.lemmas.Bool.{false≢true}
use Rattle.std.proofs.lemmas.List.{reverse-append}
use Rattle.std.proofs.lemmas.List.Elements.{filter-append}
use Rattle.clk_packet.specs.declared.packet.Packet.{Packet}
use Rattle.clk_sched.specs.declared.visit.Visit.{Visit}
use Rattle.clk_packet.specs.Scheduler.{Scheduler, drr, HasArguments}
use Rattle.clk_sched.specs.Tree.{Row, end, leaf, node, width, nodes, IsSound}
use Rattle.clk_sched.specs.Turns.{Turn, EachAfter, all_visits, visits_before}
use Rattle.clk_sched.specs.Heads.{LooksAtHeads}
use Rattle.clk_sched.specs.Log.{visits_of, moment_of, turn, asks, pulls_below, result_of}
use Rattle.clk_sched.specs.Laws.{AllowsTurn, Obeys}
use Rattle.clk_sched.specs.Laws.Deficit.{next_input, quantum_at, deficit_covers}
use Rattle.clk_sched.proofs.Runs.Rows.{EachObeys, EachAllows}
use Rattle.clk_sched.specs.Closing.{GivesOut}
use Rattle.clk_sched.proofs.Lists.Members.{all-filter}
use Rattle.clk_sched.proofs.Runs.Allowed.{onto, onto-append, onto-reverse, each-follows, turns-look}
use Rattle.clk_sched.proofs.Runs.Blocks.{Owns, owns-after_leaf, owns-after_node, owns-inputs}
use Rattle.clk_sched.proofs.Runs.Pulled.{IsPulledIn, pulled-after_leaf, pulled-after_node, pulled-inputs, turns-visits, unasked-none}
use Rattle.clk_sched.proofs.Runs.GoesOn.{filter-reverse, turns-back}
use Rattle.clk_sched.proofs.Shares.DeficitShares.{IsCovered, covers-all}
use Rattle.clk_sched.proofs.Closing.Turned.{IsTurn, is-turn, all-visited}
use Rattle.clk_sched.proofs.Closing.Room.{each-before, may-ask}
use Rattle.clk_sched.proofs.Closing.Costs.{CostsAt, KeepsDeficits, TurnLaw, onto-joined}

-- the visits of a node, the latest first
abbrev pub latest : List Visit → ℕ → List Visit
latest log x = reverse (visits_of x log)

pub latest-more : (log pull : List Visit) (x : ℕ) → latest (log ++ pull) x ≡ onto (visits_of x pull) (latest log x)
latest-more log pull x = ap reverse (filter-append (λ (v : Visit). v.node == x) log pull) ∙ reverse-append (visits_of x log) (visits_of x pull) ∙ sym (onto-append (visits_of x pull) (latest log x))

-- what is left somewhere, and its work
pub record Amount : Type 0 where
  pub left : ℕ
  pub work : ℕ

-- a sum of what is at one input and at those after it
pub record IsSum (left work : ℕ) : Type 0 where
  pub here : Amount
  pub rest : Amount
  pub left_is : left ≡ here.left + rest.left
  pub work_is : work ≡ here.work + rest.work

abbrev pub sum_of : (here rest : Amount) → IsSum (here.left + rest.left) (here.work + rest.work)
sum_of here rest = record { here = here; rest = rest; left_is = refl; work_is = refl }

-- What is left in a row, and its work, where queues hold so many packets: the sum over its inputs. It stands at the inputs of node `above`,
-- of this class, from `first` on, and its schedulers are numbered from `next` on.
abbrev pub Costs : (k : ℕ) → (ℕ → ℕ) → List Visit → Scheduler → (above first next : ℕ) → Row → ℕ → ℕ → Type 0
Costs k held log class above first next end left work = (left ≡ 0) × (work ≡ 0)
Costs k held log class above first next (leaf q row) left work =
    (s : IsSum left work) × CostsAt k class (latest log above) first (held q) 0 s.here.left s.here.work × Costs k held log class above (suc first) next row s.rest.left s.rest.work
Costs k held log class above first next (node c inputs row) left work =
    (s : IsSum left work) × (below : Amount) × Costs k held log c next 0 (suc next) inputs below.left below.work × CostsAt k class (latest log above) first below.left below.work s.here.left s.here.work
    × Costs k held log class above (suc first) (suc (next + nodes inputs)) row s.rest.left s.rest.work

-- what the queues in a row answered in a pull, where it stands
abbrev pub answers_at : ℕ → ℕ → List Visit → List (Option Packet)
answers_at above first pull = map (λ (v : Visit). v.got) (filter (asks first) (visits_of above pull))

abbrev pub EachGives : (old new : ℕ → ℕ) → List Visit → (above first next : ℕ) → Row → Type 0
EachGives old new pull above first next end = ⊤
EachGives old new pull above first next (leaf q row) = GivesOut (old q) (answers_at above first pull) (new q) × EachGives old new pull above (suc first) next row
EachGives old new pull above first next (node c inputs row) = EachGives old new pull next 0 (suc next) inputs × EachGives old new pull above (suc first) (suc (next + nodes inputs)) row

-- each quantum is enough for the longest packet in k arrivals
abbrev pub AreEnough : ℕ → Scheduler → Type 0
AreEnough k (drr quanta) = AllByRecursion (λ n. 65535 ≤ n * k) quanta
AreEnough k class = ⊤

abbrev pub EachIsEnough : ℕ → Row → Type 0
EachIsEnough k end = ⊤
EachIsEnough k (leaf q row) = EachIsEnough k row
EachIsEnough k (node class inputs row) = AreEnough k class × EachIsEnough k inputs × EachIsEnough k row

-- A row stands in a run, after which comes one more pull, later than those before.
pub record IsPulledMore (k : ℕ) (old new : ℕ → ℕ) (log pull : List Visit) (above first next : ℕ) (row : Row) (pulled : List (List Visit)) : Type 0 where
  pub inside : IsPulledIn log above first next row pulled
  pub obeys : EachObeys above pulled first next row
  pub allows : EachAllows above first next row (reverse pulled) pull
  pub owns : (y : ℕ) → next ≤ y → y < next + nodes row → Owns y pull above first next row
  pub sound : IsSound row
  pub enough : EachIsEnough k row
  pub later : AllByRecursion (λ p. moment_of p < moment_of pull) pulled
  pub gives : EachGives old new pull above first next row

pub more-after_leaf : (k : ℕ) (old new : ℕ → ℕ) (log pull : List Visit) (above first next q : ℕ) (row : Row) (pulled : List (List Visit)) → IsPulledMore k old new log pull above first next (leaf q row) pulled
    → IsPulledMore k old new log pull above (suc first) next row pulled
more-after_leaf k old new log pull above first next q row pulled h = search (rules, pulled-after_leaf, owns-after_leaf)

pub more-after_node : (k : ℕ) (old new : ℕ → ℕ) (log pull : List Visit) (above first next : ℕ) (class : Scheduler) (inputs row : Row) (pulled : List (List Visit))
    → IsPulledMore k old new log pull above first next (node class inputs row) pulled → IsPulledMore k old new log pull above (suc first) (suc (next + nodes inputs)) row pulled
more-after_node k old new log pull above first next class inputs row pulled h = search (rules, pulled-after_node, owns-after_node)

none-allows : (above first next : ℕ) (row : Row) (earlier : List (List Visit)) (pull : List Visit) → visits_of above pull ≡ [] → EachAllows above first next row earlier pull
none-allows above first next end earlier pull e = tt
none-allows above first next (leaf q row) earlier pull e = none-allows above (suc first) next row earlier pull e
none-allows above first next (node class inputs row) earlier pull e = search (rules, false≢true, (none-allows above (suc first) (suc (next + nodes inputs)) row earlier pull e))

pub more-inputs : (k : ℕ) (old new : ℕ → ℕ) (log pull : List Visit) (above first next : ℕ) (class : Scheduler) (inputs row : Row) (pulled : List (List Visit))
    → IsPulledMore k old new log pull above first next (node class inputs row) pulled → IsPulledMore k old new log pull next 0 (suc next) inputs (pulls_below above first pulled)
more-inputs k old new log pull above first next class inputs row pulled h =
    record {
      inside = pulled-inputs log above first next class inputs row pulled h.inside;
      obeys = h.obeys.2;
      allows = search (rules, filter-reverse, none-allows, (unasked-none pull above first next class inputs row h.owns));
      owns = λ y l m. owns-inputs y pull above first next class inputs row l (omega arith) (h.owns next (omega arith) (omega arith)) (h.owns y (omega arith) (omega arith));
      sound = h.sound.2;
      enough = h.enough.1;
      later = all-filter (λ p. moment_of p < moment_of pull) (λ p. list_any (asks first) (visits_of above p)) pulled h.later;
      gives = h.gives.0;
    }

-- A scheduler's visits in one more pull, after those before.
pub record IsTurnMore (k w : ℕ) (class : Scheduler) (earlier visits : List Visit) (asked : Bool) : Type 0 where
  pub law : TurnLaw k w class earlier visits
  pub is_turn : IsTurn w visits
  pub all : asked ≡ true → result_of visits ≡ None → length visits ≡ w

pub enough-at : (k i : ℕ) (quanta : List ℕ) → AllByRecursion (λ n. 65535 ≤ n * k) quanta → i < length quanta → 65535 ≤ quantum_at quanta i * k
enough-at k i [] h l = absurd (omega arith)
enough-at k zero (n ∷ quanta) h l = h.0
enough-at k (suc i) (n ∷ quanta) h l = enough-at k i quanta h.1 (omega arith)

all-onto : {X : Type 0} (P : X → Type 0) (xs earlier : List X) → AllByRecursion P xs → AllByRecursion P earlier → AllByRecursion P (onto xs earlier)
all-onto P [] earlier h k = k
all-onto P (x ∷ xs) earlier h k = all-onto P xs (x ∷ earlier) h.1 (h.0, k)

visits-before_onto : (ts earlier : List Turn) → visits_before (onto ts earlier) ≡ onto (all_visits ts) (visits_before earlier)
visits-before_onto [] earlier = refl
visits-before_onto (t ∷ ts) earlier = search (rules, onto, onto-append, onto-joined, (visits-before_onto ts (t ∷ earlier)))

-- the turns before, and the visits in them
record AreTurnsBefore (class : Scheduler) (w x : ℕ) (log : List Visit) (moment : ℕ) (turns : List Turn) : Type 0 where
  obeys : Obeys class w turns
  visits : onto (all_visits turns) [] ≡ latest log x
  later : AllByRecursion (λ (t : Turn). t.moment < moment) turns

deficits-keep : (k w x : ℕ) (quanta : List ℕ) (log visits : List Visit) (moment : ℕ) (turns : List Turn) → AreTurnsBefore (drr quanta) w x log moment turns → AreEnough k (drr quanta) → length quanta ≡ w
    → EachAfter (LooksAtHeads (next_input w) (deficit_covers quanta)) (latest log x) visits → KeepsDeficits k w quanta (latest log x) visits
deficits-keep k w x quanta log visits moment turns before enough width looks =
    record {
      looks = looks;
      covered = subst (IsCovered quanta) before.visits
          (covers-all quanta w [] (all_visits turns) (turns-look (next_input w) (deficit_covers quanta) w [] turns (each-follows (drr quanta) w turns before.obeys)) (λ i. (omega arith, omega arith)));
      enough = λ i l. enough-at k i quanta enough (omega (arith, width, l));
    }

-- of a scheduler that was asked
turn-asked : (k w x : ℕ) (class : Scheduler) (log pull : List Visit) (turns : List Turn) → AreTurnsBefore class w x log (moment_of pull) turns → 1 ≤ w → HasArguments class w → AreEnough k class
    → AllowsTurn class w (reverse turns) (turn x pull) → IsTurnMore k w class (latest log x) (visits_of x pull) true
turn-asked k w x class log pull turns before some args enough allows = grind (arith, nat_tests, is-turn, all-visited, onto, onto-reverse, may-ask, each-before, all-onto, visits-before_onto, deficits-keep)

-- of one that wasn't
turn-unasked : (k w x : ℕ) (class : Scheduler) (log visits : List Visit) (moment : ℕ) (turns : List Turn) → AreTurnsBefore class w x log moment turns → HasArguments class w → AreEnough k class → visits ≡ []
    → IsTurnMore k w class (latest log x) visits false
turn-unasked k w x class log visits moment turns before args enough none = search (rules, false≢true, deficits-keep)

pub turn-more : (k : ℕ) (old new : ℕ → ℕ) (log pull : List Visit) (above first next : ℕ) (class : Scheduler) (inputs row : Row) (pulled : List (List Visit))
    → IsPulledMore k old new log pull above first next (node class inputs row) pulled
    → IsTurnMore k (width inputs) class (latest log next) (visits_of next pull) (list_any (asks first) (visits_of above pull))
turn-more k old new log pull above first next class inputs row pulled h = by_asked (list_any (asks first) (visits_of above pull)) refl
  where
    asked : List Visit → Bool
    asked p = list_any (asks first) (visits_of above p)

    turns : List Turn
    turns = map (turn next) (pulls_below above first pulled)

    turned : (ps : List (List Visit)) → AllByRecursion (λ p. moment_of p < moment_of pull) ps → AllByRecursion (λ (t : Turn). t.moment < moment_of pull) (map (turn next) ps)
    turned [] l = tt
    turned (p ∷ ps) l = (l.0, turned ps l.1)

    before : AreTurnsBefore class (width inputs) next log (moment_of pull) turns
    before =
        record {
          obeys = h.obeys.0;
          visits = onto-reverse (all_visits turns) ∙ ap reverse (turns-visits log above first next class inputs row pulled h.inside);
          later = turned (pulls_below above first pulled) (all-filter (λ p. moment_of p < moment_of pull) asked pulled h.later);
        }

    by_asked : (b : Bool) → asked pull ≡ b → IsTurnMore k (width inputs) class (latest log next) (visits_of next pull) b
    by_asked true e =
        turn-asked k (width inputs) next class log pull turns before h.sound.0 h.sound.1 h.enough.0 (subst (λ ts. AllowsTurn class (width inputs) ts (turn next pull)) (turns-back next above first pulled) (h.allows.0 e).0)
    by_asked false e =
        turn-unasked k (width inputs) next class log (visits_of next pull) (moment_of pull) turns before h.sound.1 h.enough.0 (unasked-none pull above first next class inputs row h.owns e)
