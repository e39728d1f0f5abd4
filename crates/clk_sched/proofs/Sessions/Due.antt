-- From which moment on a pull could emit a packet: what the walk over the nodes finds.
use Rattle.std.proofs.lemmas.Grind.{common_steps}
use Rattle.std.proofs.Common.{◌≡◌, ℕ, zero, suc, ◌+◌, ◌<◌, ◌≤◌, nat_le, ◌&&◌, ◌||◌, Bool, true, false, true≢false, List, [], ◌∷◌, length, drop, get_or, Option, Some, None, IfSome, is_some, slice_get, refl, sym, ap, ap₂, ◌∙◌, subst, arith, rules}
use Rattle.std.specs.List.{list_any, range_with_len}
use Rattle.std.proofs.lemmas.Bool.{false≢true}
use Rattle.std.proofs.lemmas.Bool.Decides.{nat_tests}
use Rattle.clk_sched.specs.declared.visit.Visit.{Visit}
use Rattle.clk_sched.specs.declared.session.drr.Served.{Served}
use Rattle.clk_sched.specs.declared.session.inputs.Input.{Input}
use Rattle.clk_sched.specs.declared.session.inputs.Input.TheVariants.{Queue, Node}
use Rattle.clk_sched.specs.declared.session.inputs.Inputs.{Inputs}
use Rattle.clk_sched.specs.declared.session.nodes.Nodes.{Nodes}
use Rattle.clk_sched.specs.declared.session.state.State.{State}
use Rattle.clk_sched.specs.declared.session.state.State.TheVariants.{Drr}
use Rattle.clk_packet.specs.Scheduler.{Scheduler, drr}
use Rattle.clk_sched.specs.Tree.{Row, end, leaf, node, Tree, nodes, width}
use Rattle.clk_sched.specs.Turns.{Turn, visits_before}
use Rattle.clk_sched.specs.Heads.{head_at}
use Rattle.clk_sched.specs.Laws.{manner}
use Rattle.clk_sched.specs.Due.{lets_through, holds_head, could_emit, tree_could_emit, has_come, IsDue}
use Rattle.clk_sched.specs.inside.Due.{sooner_of, AreDue, IsDueAt}
use Rattle.clk_sched.specs.inside.Holds.OfClass.{Holds}
use Rattle.clk_sched.specs.inside.Places.{inputs_of}
use Rattle.clk_sched.specs.inside.Pulling.{History}
use Rattle.clk_sched.specs.inside.Session.{IsAfterRun}
use Rattle.clk_sched.proofs.Classes.BusyTurns.{history-busy}
use Rattle.clk_sched.proofs.Runs.EmitsDue.{could-busy}
use Rattle.clk_sched.proofs.Sessions.SessionPull.{run-before}
use Rattle.clk_sched.proofs.Trees.TreeLemmas.{rest}

-- a moment from which one counts has come
pub come-first : (from moment : ℕ) → from ≤ moment → nat_le from moment ≡ true
come-first from moment l = grind (arith, nat_tests)

or-none : (b : Bool) → (b || false) ≡ b
or-none b = search rules

either-due : (p q : ℕ → Bool) (from : ℕ) (a b : Option ℕ) → IsDue p from a → IsDue q from b → IsDue (λ moment. p moment || q moment) from (sooner_of a b)
either-due p q from a b h k = search rules

-- nothing is due sooner than at once
at-once : (p q : ℕ → Bool) (from : ℕ) → IsDue p from (Some from) → IsDue (λ moment. p moment || q moment) from (Some from)
at-once p q from h = record { each = λ moment l. ap (λ x. x || q moment) (h.each moment l ∙ come-first from moment l) ∙ sym (come-first from moment l); later = omega arith }

alone : (p q : ℕ → Bool) (from : ℕ) (due : Option ℕ) → ((moment : ℕ) → q moment ≡ false) → IsDue p from due → IsDue (λ moment. p moment || q moment) from due
alone p q from due none h = record { each = λ moment l. ap₂ (λ x y. x || y) (h.each moment l) (none moment) ∙ or-none (has_come due moment); later = h.later }

without : (p : ℕ → Bool) (from : ℕ) (due : Option ℕ) → IsDue (λ moment. p moment || false) from due → IsDue p from due
without p from due h = record { each = λ moment l. sym (or-none (p moment)) ∙ h.each moment l; later = h.later }

-- whether a DRRSched holds a head is what its visits say
any-head : (row : List Served) (before : List Visit) (i n : ℕ) → length row ≡ n → ((k : ℕ) (s : Served) → slice_get row k ≡ Some s → s.head ≡ head_at (i + k) before)
    → list_any (λ (s : Served). is_some s.head) row ≡ list_any (λ k. is_some (head_at k before)) (range_with_len i n)
any-head [] before i zero e each = refl
any-head [] before i (suc n) e each = absurd (omega (arith, e))
any-head (s ∷ row) before i zero e each = absurd (omega (arith, e))
any-head (s ∷ row) before i (suc n) e each =
    ap₂ (λ b c. b || c) (ap is_some (each 0 s refl ∙ ap (λ k. head_at k before) (omega arith)))
    (any-head row before (i + 1) n (omega (arith, e)) (λ k t f. each (suc k) t f ∙ ap (λ j. head_at j before) (omega arith)))

pub drr-head : (class : Scheduler) (inputs : ℕ) (turns : List Turn) (s : State) (held : Bool) (d : _) → s ≡ Drr d → held ≡ list_any (λ (x : Served). is_some x.head) d.value.row.items → Holds class inputs turns s
    → held ≡ holds_head (manner class inputs) inputs turns
drr-head class inputs turns s held d is e h = e ∙ by_class class (subst (Holds class inputs turns) is h)
  where
    by_class : (c : Scheduler) → Holds c inputs turns (Drr d) → list_any (λ (x : Served). is_some x.head) d.value.row.items ≡ holds_head (manner c inputs) inputs turns
    by_class (drr quanta) k = any-head d.value.row.items (visits_before turns) 0 inputs k.length_is (λ i x f. (k.each i x f).head_is ∙ ap (λ j. head_at j (visits_before turns)) (omega arith))
    by_class c k = absurd k

-- the kinds of inputs are told apart
abbrev is_queue : Input → Bool
is_queue (Queue q) = true
is_queue (Node m) = false

-- nothing is possible from a row without inputs
no-row : (turns : History) (backlogged : ℕ → Bool) (moment next : ℕ) (row : Row) → inputs_of next row ≡ [] → could_emit turns backlogged moment next row ≡ false
no-row turns backlogged moment next end e = refl
no-row turns backlogged moment next (leaf q row) e = absurd (omega (arith, ap length e))
no-row turns backlogged moment next (node class inputs row) e = absurd (omega (arith, ap length e))

pub none-due : (n : Nodes) (backlogged : ℕ → Bool) (inputs : List Input) → length inputs < 1 → AreDue n backlogged inputs None
none-due n backlogged inputs short next row history e has holds before = grind (arith, common_steps, no-row)

-- the first of some inputs, as code takes it, and the others
pub first-of : (inputs : List Input) → 1 ≤ length inputs → get_or inputs 0 (Queue 0) ∷ rest inputs ≡ inputs
first-of inputs some = grind (arith, common_steps)

pub queue-due : (n : Nodes) (backlogged : ℕ → Bool) (q : ℕ) (due : Option ℕ) → ((moment : ℕ) → n.moment ≤ moment → has_come due moment ≡ backlogged q) → IfSome due (λ moment. moment ≡ n.moment)
    → AreDue n backlogged (Queue q ∷ []) due
queue-due n backlogged q due come later next end history e has holds before = absurd (omega (arith, ap length e))
queue-due n backlogged q due come later next (leaf k row) history e has holds before = search (rules, alone, no-row)
queue-due n backlogged q due come later next (node class inputs row) history e has holds before = absurd (true≢false (ap (λ l. is_queue (get_or l 0 (Queue q))) e))

pub scheduler-due : (n : Nodes) (backlogged : ℕ → Bool) (x : ℕ) (due : Option ℕ) → IsDueAt n backlogged x due → AreDue n backlogged (Node x ∷ []) due
scheduler-due n backlogged x due at next end history e has holds before = absurd (omega (arith, ap length e))
scheduler-due n backlogged x due at next (leaf k row) history e has holds before = absurd (false≢true (ap (λ l. is_queue (get_or l 0 (Queue k))) e))
scheduler-due n backlogged x due at next (node class inputs row) history e has holds before = search (rules, alone, no-row)

-- the first of some inputs and the others
pub first-due : (n : Nodes) (backlogged : ℕ → Bool) (i : Input) (others : List Input) (a b : Option ℕ) → AreDue n backlogged (i ∷ []) a → AreDue n backlogged others b → AreDue n backlogged (i ∷ others) (sooner_of a b)
first-due n backlogged i others a b one more next end history e has holds before = absurd (omega (arith, ap length e))
first-due n backlogged i others a b one more next (leaf q row) history e has holds before =
    let first = without (λ moment. backlogged q) n.moment a (one next (leaf q end) history (ap (λ l. get_or l 0 i ∷ []) e) tt tt before) in
    either-due _ _ n.moment a b first (more next row history (ap (drop 1) e) has holds before)
first-due n backlogged i others a b one more next (node class inputs row) history e has holds before =
    let first = without (λ moment. lets_through class (history next) moment && (holds_head (manner class (width inputs)) (width inputs) (history next) || could_emit history backlogged moment (suc next) inputs))
    n.moment a (one next (node class inputs end) history (ap (λ l. get_or l 0 i ∷ []) e) (has.0, has.1, tt) (holds.0, holds.1, tt) before) in
    either-due _ _ n.moment a b first (more (suc (next + nodes inputs)) row history (ap (drop 1) e) has.2 holds.2 before)

pub first-at_once : (n : Nodes) (backlogged : ℕ → Bool) (i : Input) (others : List Input) (due : Option ℕ) → due ≡ Some n.moment → AreDue n backlogged (i ∷ []) due → AreDue n backlogged (i ∷ others) due
first-at_once n backlogged i others due is one next end history e has holds before = absurd (omega (arith, ap length e))
first-at_once n backlogged i others due is one next (leaf q row) history e has holds before =
    let first = without (λ moment. backlogged q) n.moment due (one next (leaf q end) history (ap (λ l. get_or l 0 i ∷ []) e) tt tt before) in
    subst (IsDue _ n.moment) (sym is) (at-once (λ moment. backlogged q) (λ moment. could_emit history backlogged moment next row) n.moment (subst (IsDue _ n.moment) is first))
first-at_once n backlogged i others due is one next (node class inputs row) history e has holds before =
    let first = without (λ moment. lets_through class (history next) moment && (holds_head (manner class (width inputs)) (width inputs) (history next) || could_emit history backlogged moment (suc next) inputs))
    n.moment due (one next (node class inputs end) history (ap (λ l. get_or l 0 i ∷ []) e) (has.0, has.1, tt) (holds.0, holds.1, tt) before) in
    subst (IsDue _ n.moment) (sym is) (at-once _ (λ moment. could_emit history backlogged moment (suc (next + nodes inputs)) row) n.moment (subst (IsDue _ n.moment) is first))

-- What the walk finds at the device is due after the log.
pub tree-due : (tree : Tree) (n : Nodes) (backlogged : ℕ → Bool) (p : Inputs) (due : Option ℕ) → IsAfterRun tree n → slice_get n.inputs.items 0 ≡ Some p → AreDue n backlogged p.each.items due
    → IsDue (tree_could_emit tree n.log.items backlogged) n.moment due
tree-due tree n backlogged p due run there below = search (rules, could-busy, history-busy, run-before)
