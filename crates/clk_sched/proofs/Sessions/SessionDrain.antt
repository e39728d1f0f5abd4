-- A session that is drained, pull by pull.
use Rattle.std.proofs.Common.{◌≡◌, ℕ, ◌+◌, ◌<◌, ◌≤◌, if◌then◌else◌, Bool, map, filter, true, List, [], ◌∷◌, ◌++◌, length, reverse, drop, Option, Some, None, is_some, false, refl, sym, ap, ap₂, ◌∙◌, subst, append-nil, append_assoc, arith, rules}
use Rattle.std.specs.List.{flat_map, range_with_len, cons_option}
use Rattle.std.proofs.Math.Seq.{drop-append_seam}
use Rattle.std.proofs.lemmas.List.{map-append, reverse-append, length-append}
use Rattle.std.proofs.lemmas.List.Concat.{flat_map-append}
use Rattle.std.proofs.lemmas.List.Elements.{filter_map-append}
use Rattle.clk_packet.specs.declared.packet.Packet.{Packet}
use Rattle.clk_sched.specs.declared.visit.Visit.{Visit}
use Rattle.clk_sched.specs.Log.{visits_of, pulls, moment_of, result_of}
use Rattle.clk_sched.specs.Bound.{closing_bound}
use Rattle.clk_sched.specs.Run.{IsRun}
use Rattle.clk_sched.specs.Answers.{Answers, tree_queue, at_queue}
use Rattle.clk_sched.specs.Session.{Progress, IsPulledOnce, IsDrained, given_in, counted_moment, latest_moment, newly, LastGives}
use Rattle.clk_sched.specs.Drain.{GivesAll}
use Rattle.clk_sched.specs.Tree.{Tree, root, queue_at, leaves_distinct, IsSound}
use Rattle.clk_sched.specs.Results.{asks_queue}
use Rattle.clk_sched.specs.Choice.{answers_of}
use Rattle.clk_sched.specs.Closing.{GivesOut, LosesNothing, left_in}
use Rattle.clk_sched.proofs.Nodes.Asking.{answers-then}
use Rattle.clk_sched.proofs.Closing.Emptied.{IsClosingPull, IsEmptied, emptied-more}
use Rattle.clk_sched.proofs.Lists.Ranges.{range-append}
use Rattle.clk_sched.proofs.Lists.Numbers.{is_number}

abbrev joined : List (List Visit) → List Visit
joined more = flat_map (λ pull. pull) more

newly-is : (old new : Progress) (visits : List Visit) → new.log ≡ old.log ++ visits → newly old new ≡ visits
newly-is old new visits e = ap (drop (length old.log)) e ∙ drop-append_seam old.log visits

-- how many packets came out in a pull
abbrev pub one_if : Option Packet → ℕ
one_if o = if is_some o then 1 else 0

last-more : (more : List (List Visit)) (pull : List Visit) → is_some (result_of (visits_of 0 pull)) ≡ true → LastGives (more ++ pull ∷ [])
last-more [] pull e = e
last-more (p ∷ []) pull e = e
last-more (p ∷ q ∷ more) pull e = last-more (q ∷ more) pull e

-- a drain so far: so many pulls were made, and so many packets came out, of those that are left
pub record IsDraining {S : Type 0} (gives : S → ℕ → Option Packet → S → Type 0) (old now : Progress) (before after : S) (moment made given left : ℕ) : Type 0 where
  pub drained : IsDrained old now moment made given
  pub counted : counted_moment now ≤ moment + made
  pub enough : given ≤ left
  pub stops : given ≡ left → LastGives drained.more
  pub answers : Answers gives (tree_queue old.tree) before (newly old now) after
  pub idle : left ≡ 0 → (made ≡ 0) × (now ≡ old) × (after ≡ before)

pub draining-first : {S : Type 0} (gives : S → ℕ → Option Packet → S → Type 0) (s : Progress) (q : S) (moment left : ℕ) → IsRun s.tree s.log → counted_moment s ≤ moment → IsDraining gives s s q q moment 0 0 left
draining-first gives s q moment left run l =
    record {
      drained = record { more = []; tree = refl; log = sym (append-nil s.log); pulls_are = sym (append-nil (pulls s.log)); run = run; made_are = refl; moments = refl; given_are = refl };
      counted = omega arith;
      enough = omega arith;
      stops = λ e. tt;
      answers = subst (λ l. Answers gives (tree_queue s.tree) q l q) (sym (newly-is s s [] (sym (append-nil s.log)))) refl;
      idle = λ e. (refl, refl, refl);
    }

-- one pull more
abbrev drained-more : (old s t : Progress) (moment made given : ℕ) (got : Option Packet) → IsDrained old s moment made given → counted_moment s ≤ moment + made → IsPulledOnce s t (moment + made + 1) got
    → IsDrained old t moment (made + 1) (given + one_if got)
drained-more old s t moment made given got d counted once =
    record {
      more = d.more ++ pull ∷ [];
      tree = once.tree ∙ d.tree;
      log = once.log ∙ ap (λ l. l ++ pull) d.log ∙ append_assoc old.log (joined d.more) pull ∙ ap (λ l. old.log ++ l) (sym (flat_map-append (λ p. p) d.more (pull ∷ []) ∙ ap (λ l. joined d.more ++ l) (append-nil pull)));
      pulls_are = once.last ∙ ap (λ l. l ++ pull ∷ []) d.pulls_are ∙ append_assoc (pulls old.log) d.more (pull ∷ []);
      run = once.run;
      made_are = let e = d.made_are in let f = length-append d.more (pull ∷ []) in omega (arith, e, f);
      moments = map-append moment_of d.more (pull ∷ []) ∙ ap₂ (λ a b. a ++ b ∷ []) d.moments at ∙ ap (λ n. range_with_len (moment + 1) made ++ n ∷ []) next ∙ sym (range-append (moment + 1) made 1);
      given_are = let e = d.given_are in let f = ap length (filter_map-append (λ p. result_of (visits_of 0 p)) d.more (pull ∷ [])) in let k = length-append (given_in d.more) (given_in (pull ∷ [])) in let one = by_got got once.result in omega (arith, e, f, k, one);
    }
  where
    pull : List Visit
    pull = newly s t

    next : moment + made + 1 ≡ moment + 1 + made
    next = omega arith

    at : moment_of pull ≡ moment + made + 1
    at = let e = once.at_moment in omega (arith, e, counted)

    by_got : (o : Option Packet) → o ≡ result_of (visits_of 0 pull) → length (given_in (pull ∷ [])) ≡ one_if o
    by_got None e = ap (λ r. length (cons_option r [])) (sym e)
    by_got (Some p) e = ap (λ r. length (cons_option r [])) (sym e)

pub draining-more : {S : Type 0} (gives : S → ℕ → Option Packet → S → Type 0) (old s t : Progress) (p q r : S) (moment made given left : ℕ) (got : Option Packet) → IsDraining gives old s p q moment made given left → given < left
    → IsPulledOnce s t (moment + made + 1) got → Answers gives (tree_queue s.tree) q (newly s t) r → IsDraining gives old t p r moment (made + 1) (given + one_if got) left
draining-more gives old s t p q r moment made given left got d l once told =
    record {
      drained = more;
      counted = let e = ap latest_moment (ap reverse once.last ∙ reverse-append (pulls s.log) (newly s t ∷ [])) in let f = once.at_moment in let k = d.counted in omega (arith, e, f, k);
      enough = by_enough got;
      stops = by_got got once.result;
      answers = subst (λ l. Answers gives (tree_queue old.tree) p l r) (sym (newly-is old t (newly old s ++ newly s t) whole))
          (answers-then gives (tree_queue old.tree) (newly old s) (newly s t) p q r d.answers (subst (λ tree. Answers gives (tree_queue tree) q (newly s t) r) d.drained.tree told));
      idle = λ e. absurd (omega (arith, e, l));
    }
  where
    more : IsDrained old t moment (made + 1) (given + one_if got)
    more = drained-more old s t moment made given got d.drained d.counted once

    by_enough : (o : Option Packet) → given + one_if o ≤ left
    by_enough o = search rules

    by_got : (o : Option Packet) → o ≡ result_of (visits_of 0 (newly s t)) → given + one_if o ≡ left → LastGives (d.drained.more ++ newly s t ∷ [])
    by_got o e f = search (rules, last-more, more)

    whole : t.log ≡ old.log ++ (newly old s ++ newly s t)
    whole =
        once.log ∙ ap (λ l. l ++ newly s t) (d.drained.log ∙ ap (λ l. old.log ++ l) (sym (newly-is old s (joined d.drained.more) d.drained.log))) ∙ append_assoc old.log (newly old s) (newly s t)

-- all that was left came out
pub draining-all : {S : Type 0} (gives : S → ℕ → Option Packet → S → Type 0) (old t : Progress) (p r : S) (moment made given left : ℕ) → IsDraining gives old t p r moment made given left → left ≤ given
    → made ≤ closing_bound old.tree left → GivesAll old t moment made left
draining-all gives old t p r moment made given left h l within =
    let all : given ≡ left = let e = h.enough in omega (arith, e, l) in
    let g : GivesAll old t moment made given = record { within = subst (λ n. made ≤ closing_bound old.tree n) (sym all) within; drained = h.drained; stops = h.stops all } in
    subst (λ n. GivesAll old t moment made n) all g

answers-give : {S : Type 0} (gives : S → ℕ → Option Packet → S → Type 0) (holds : S → ℕ → ℕ) (tree : Tree) (q : ℕ) → LosesNothing gives holds → (visits : List Visit) (a b : S) → Answers gives (tree_queue tree) a visits b
    → GivesOut (holds a q) (answers_of tree q visits) (holds b q)
answers-give gives holds tree q keeps [] a b h = ap (λ s. holds s q) h
answers-give {S = S} gives holds tree q keeps (v ∷ visits) a b h = by_fresh v.fresh (queue_at tree v.node v.input) h (λ s k. answers-give gives holds tree q keeps visits s b k)
  where
    rest : List Visit
    rest = filter (asks_queue tree q) visits

    told : List Visit → List (Option Packet)
    told vs = map (λ (u : Visit). u.got) vs

    Rest : Type 0
    Rest = (s : S) → Answers gives (tree_queue tree) s visits b → GivesOut (holds s q) (told rest) (holds b q)

    by_fresh : (f : Bool) (o : Option ℕ) → at_queue gives (if f then o else None) v.got a (λ c. Answers gives (tree_queue tree) c visits b) → Rest → GivesOut (holds a q) (told (if is_number q (if f then o else None) then v ∷ rest else rest)) (holds b q)
    by_fresh f o k more = search rules

-- the closing of a session over an asker that loses nothing: a closing pull
pub closing-pull : {S : Type 0} (gives : S → ℕ → Option Packet → S → Type 0) (holds : S → ℕ → ℕ) (s t : Progress) (a b : S) (moment : ℕ) (got : Option Packet) → LosesNothing gives holds → counted_moment s ≤ moment
    → IsPulledOnce s t (moment + 1) got → Answers gives (tree_queue s.tree) a (newly s t) b → IsClosingPull s.tree s.log (newly s t) moment (holds a) (holds b)
closing-pull gives holds s t a b moment got keeps counted once told = search (rules, answers-give)

-- A drain so far, over an asker that loses nothing and holds with the heads all that is left.
abbrev pub Empties : {S : Type 0} → (S → ℕ → Option Packet → S → Type 0) → (S → ℕ → ℕ) → (old now : Progress) → (before after : S) → (made given left : ℕ) → Type 0
Empties gives holds old now before after made given left = LosesNothing gives holds → left ≡ left_in old.tree old.log (holds before) → IsEmptied now.tree now.log (holds after) left made given

pub empties-more : {S : Type 0} (gives : S → ℕ → Option Packet → S → Type 0) (holds : S → ℕ → ℕ) (old s t : Progress) (p q r : S) (moment made given left : ℕ) (got : Option Packet) → IsSound (root s.tree) → leaves_distinct s.tree ≡ true
    → IsDraining gives old s p q moment made given left → IsPulledOnce s t (moment + made + 1) got → Answers gives (tree_queue s.tree) q (newly s t) r → Empties gives holds old s p q made given left
    → Empties gives holds old t p r (made + 1) (given + one_if got) left
empties-more gives holds old s t p q r moment made given left got sound distinct d once told so keeps is =
    subst (λ tree. IsEmptied tree t.log (holds r) left (made + 1) (given + one_if got)) (sym once.tree)
    (subst (λ log. IsEmptied s.tree log (holds r) left (made + 1) (given + one_if got)) (sym once.log)
    (subst (λ o. IsEmptied s.tree (s.log ++ newly s t) (holds r) left (made + 1) (given + one_if o)) (sym once.result)
    (emptied-more s.tree s.log (newly s t) (holds q) (holds r) (moment + made) left made given sound distinct d.drained.run d.counted (closing-pull gives holds s t q r (moment + made) got keeps d.counted once told) (so keeps is))))

-- a drain so far, with what an asker that loses nothing has left
abbrev pub DrainsSo : {S : Type 0} → (S → ℕ → Option Packet → S → Type 0) → (S → ℕ → ℕ) → (old now : Progress) → (before after : S) → (moment made given left : ℕ) → Type 0
DrainsSo gives holds old now before after moment made given left = IsDraining gives old now before after moment made given left × Empties gives holds old now before after made given left

pub drain-step : {S : Type 0} (gives : S → ℕ → Option Packet → S → Type 0) (holds : S → ℕ → ℕ) (old s t : Progress) (p q r : S) (moment made given left : ℕ) (got : Option Packet) → IsSound (root old.tree) → leaves_distinct old.tree ≡ true
    → IsDraining gives old s p q moment made given left → Empties gives holds old s p q made given left → given < left → IsPulledOnce s t (moment + made + 1) got → Answers gives (tree_queue s.tree) q (newly s t) r
    → DrainsSo gives holds old t p r moment (made + 1) (given + one_if got) left
drain-step gives holds old s t p q r moment made given left got sound distinct d so l once told = (
  draining-more gives old s t p q r moment made given left got d l once told,
  empties-more gives holds old s t p q r moment made given left got (subst (λ tree. IsSound (root tree)) (sym d.drained.tree) sound) (subst (λ tree. leaves_distinct tree ≡ true) (sym d.drained.tree) distinct) d once told so,
)

-- what a packet adds, and what none does
pub given-one : {S : Type 0} (gives : S → ℕ → Option Packet → S → Type 0) (holds : S → ℕ → ℕ) (old t : Progress) (p r : S) (moment made given left : ℕ) (got : Option Packet) → is_some got ≡ true
    → DrainsSo gives holds old t p r moment made (given + one_if got) left → DrainsSo gives holds old t p r moment made (given + 1) left
given-one gives holds old t p r moment made given left got e h = subst (λ b. DrainsSo gives holds old t p r moment made (given + (if b then 1 else 0)) left) e h

pub given-none : {S : Type 0} (gives : S → ℕ → Option Packet → S → Type 0) (holds : S → ℕ → ℕ) (old t : Progress) (p r : S) (moment made given left : ℕ) (got : Option Packet) → is_some got ≡ false
    → DrainsSo gives holds old t p r moment made (given + one_if got) left → DrainsSo gives holds old t p r moment made given left
given-none gives holds old t p r moment made given left got e h =
    let same : given + 0 ≡ given = omega arith in
    subst (λ n. DrainsSo gives holds old t p r moment made n left) same (subst (λ b. DrainsSo gives holds old t p r moment made (given + (if b then 1 else 0)) left) e h)
