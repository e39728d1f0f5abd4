-- A DRRSched looks at the input whose turn it is.
use Rattle.std.proofs.Common.{◌≡◌, ℕ, suc, ◌-◌, ◌≤◌, Bool, true, false, not, List, [], ◌∷◌, ◌++◌, Option, Some, None, is_some, IsSome, MatchOption, refl, sym, ◌∙◌, subst, arith, rules}
use Rattle.std.specs.Bool.{⊤}
use Rattle.std.proofs.lemmas.Bool.{false≢true}
use Rattle.clk_packet.specs.declared.packet.Packet.{Packet}
use Rattle.clk_sched.specs.declared.visit.Visit.{Visit}
use Rattle.clk_sched.specs.declared.session.inputs.Input.{Input}
use Rattle.clk_sched.specs.declared.session.inputs.Inputs.{Inputs}
use Rattle.clk_sched.specs.declared.session.drr.Deficits.{Deficits}
use Rattle.clk_sched.specs.declared.session.nodes.Nodes.{Nodes}
use Rattle.clk_sched.specs.Heads.{LooksAtHeads, head_at}
use Rattle.clk_sched.specs.Laws.Deficit.{next_input, deficit_covers}
use Rattle.clk_sched.specs.inside.Holds.Deficit.{HoldsDeficits}
use Rattle.clk_sched.specs.Answers.{Answers}
use Rattle.clk_sched.specs.inside.Places.{AllFit, edges_at, input_at, queue_asked}
use Rattle.clk_sched.specs.inside.Pulling.{Keeps, Asks, AsksAll, IsVisitAt, added, now_of}
use Rattle.clk_sched.specs.inside.Turning.{HasAsked, IsIdle}
use Rattle.clk_sched.specs.inside.Looking.{looking, IsHead, Logs, Settles, Looks, LooksAt}
use Rattle.clk_sched.proofs.Nodes.Pulling.{pulling-looks}
use Rattle.clk_sched.proofs.Classes.Deficits.{head-held}
use Rattle.clk_sched.proofs.Nodes.Asked.{asks-queue}
use Rattle.clk_sched.proofs.Nodes.Asking.{added-is, keeps-more, keeps-none}
use Rattle.clk_sched.proofs.Nodes.Logged.{asks-fresh, edge-there, keeps-logged, added-logged, queue-answers}

pub asks-held : (a c : Nodes) (x : ℕ) (v : Visit) → Logs a c v → IsVisitAt (now_of a) x v → v.fresh ≡ false → AsksAll a c x (v.input ∷ []) (v ∷ [])
asks-held a c x v l at fresh row history visits own going unasked apart = search (rules, pulling-looks, added-is)

pub answers-held : {S : Type 0} (gives : S → ℕ → Option Packet → S → Type 0) (table : List Inputs) (a c : Nodes) (q : S) (v : Visit) → Logs a c v → v.fresh ≡ false
    → Answers gives (queue_asked table) q (added a c) q
answers-held gives table a c q v l fresh = search (rules, added-is)

-- A look at the input whose turn it is keeps to the law, whether a head is held there or none is.
looks-lawful : (d later : Deficits) (v : Visit) (head : Option Packet) (quanta : List ℕ) (inputs : ℕ) (earlier : List Visit) → Settles d later v.got v.passed → (held : HoldsDeficits quanta inputs earlier d) → v.input ≡ d.cursor
    → head_at (next_input inputs earlier) earlier ≡ head → v.fresh ≡ not (is_some head) → MatchOption head ⊤ (λ p. v.got ≡ Some p) → LooksAtHeads (next_input inputs) (deficit_covers quanta) earlier v
looks-lawful d later v head quanta inputs earlier settles held at is fresh looks = search rules

-- a head that is held is looked at
pub looks-held : (a c : Nodes) (x : ℕ) (d later : Deficits) (p : Packet) (got : Option Packet) (passed : Bool) → got ≡ Some p
    → ((quanta : List ℕ) (inputs : ℕ) (before : List Visit) → HoldsDeficits quanta inputs before d → got ≡ head_at (next_input inputs before) before) → Logs a c (looking a x d.cursor got false passed) → Settles d later got passed
    → Looks a c x d later got passed
looks-held a c x d later p got passed some is logs settles =
    record {
      visit = looking a x d.cursor got false passed;
      input = refl;
      gets = refl;
      passes = refl;
      asks = asks-held a c x (looking a x d.cursor got false passed) logs (record { number = refl; moment = refl; node = refl }) refl;
      lawful = λ quanta inputs earlier held. looks-lawful d later (looking a x d.cursor got false passed) (Some p) quanta inputs earlier settles held refl (sym (is quanta inputs earlier held) ∙ some) refl some;
      holds = λ quanta inputs earlier held. settles.holds quanta inputs earlier (looking a x d.cursor got false passed) held held.cursor_is refl refl;
    }

-- an input without a head is asked
pub looks-fresh : {f : ℕ} (a b c : Nodes) (m x : ℕ) (d later : Deficits) (head got : Option Packet) (passed : Bool) → head ≡ None
    → ((quanta : List ℕ) (inputs : ℕ) (before : List Visit) → HoldsDeficits quanta inputs before d → head ≡ head_at (next_input inputs before) before) → Keeps f a b m → Asks a b x d.cursor got
    → Logs b c (looking b x d.cursor got true passed) → Settles d later got passed → Looks a c x d later got passed
looks-fresh a b c m x d later head got passed empty is keeps asked logs settles =
    record {
      visit = looking b x d.cursor got true passed;
      input = refl;
      gets = refl;
      passes = refl;
      asks = asks-fresh a b c m x (looking b x d.cursor got true passed) keeps logs (record { number = keeps.pull; moment = keeps.moment; node = refl }) refl asked;
      lawful = λ quanta inputs earlier held. looks-lawful d later (looking b x d.cursor got true passed) None quanta inputs earlier settles held refl (sym (is quanta inputs earlier held) ∙ empty) refl tt;
      holds = λ quanta inputs earlier held. settles.holds quanta inputs earlier (looking b x d.cursor got true passed) held held.cursor_is refl refl;
    }

pub looks-at-held : {S : Type 0} (gives : S → ℕ → Option Packet → S → Type 0) (a c : Nodes) (q : S) (x : ℕ) (d later : Deficits) (head : Option Packet) (passed : Bool) → AllFit a.inputs.items a.states.items
    → IsSome (input_at a.inputs.items x d.cursor) → IsHead d head → IsSome head → Logs a c (looking a x d.cursor head false passed) → Settles d later head passed → LooksAt gives a c q q x d later head passed
looks-at-held gives a c q x d later None passed fit there is some logs settles = absurd (false≢true some)
looks-at-held gives a c q x d later (Some p) passed fit there is some logs settles =
    let v = looking a x d.cursor (Some p) false passed in
    record {
      keeps = keeps-more a c _ _ (keeps-logged a a c 0 v (keeps-none a fit) logs) (edge-there a.inputs.items x d.cursor there);
      answers = answers-held gives a.inputs.items a c q v logs refl;
      length_is = settles.length_is;
      moves = settles.moves;
      looks = looks-held a c x d later p (Some p) passed refl (λ quanta inputs before held. head-held quanta inputs before d (Some p) is held) logs settles;
    }

pub looks-at-asked : {S : Type 0} (gives : S → ℕ → Option Packet → S → Type 0) (a b c : Nodes) (q r : S) (x : ℕ) (d later : Deficits) (got : Option Packet) (passed : Bool) → IsSome (input_at a.inputs.items x d.cursor) → IsHead d None
    → Keeps (suc x) a b (edges_at a.inputs.items x d.cursor - 1) → Asks a b x d.cursor got
    → ((v : Visit) → v.node ≡ x → v.input ≡ d.cursor → v.fresh ≡ true → v.got ≡ got → Answers gives (queue_asked a.inputs.items) q (added a b ++ v ∷ []) r)
    → Logs b c (looking b x d.cursor got true passed) → Settles d later got passed → LooksAt gives a c q r x d later got passed
looks-at-asked gives a b c q r x d later got passed there is keeps asks answers logs settles =
    let v = looking b x d.cursor got true passed in
    let edge = edge-there a.inputs.items x d.cursor there in
    record {
      keeps = keeps-more a c _ _ (keeps-logged a b c _ v keeps logs) (omega (arith, edge));
      answers = subst (λ l. Answers gives (queue_asked a.inputs.items) q l r) (sym (added-logged a b c _ v keeps logs)) (answers v refl refl refl refl);
      length_is = settles.length_is;
      moves = settles.moves;
      looks = looks-fresh a b c _ x d later None got passed refl (λ quanta inputs before held. head-held quanta inputs before d None is held) keeps asks logs settles;
    }

-- an idle input is there
idle-there : {S : Type 0} (gives : S → ℕ → Option Packet → S → Type 0) (a : Nodes) (q : S) (x i : ℕ) → IsIdle gives a q x i → IsSome (input_at a.inputs.items x i)
idle-there gives a q x i idle = subst (λ (o : Option Input). IsSome o) (sym idle.stands) refl

pub idle-edge : {S : Type 0} (gives : S → ℕ → Option Packet → S → Type 0) (a : Nodes) (q : S) (x i : ℕ) → IsIdle gives a q x i → 1 ≤ edges_at a.inputs.items x i
idle-edge gives a q x i idle = edge-there a.inputs.items x i (idle-there gives a q x i idle)

-- An idle input is visited as if it had been asked.
pub looks-at-idle : {S : Type 0} (gives : S → ℕ → Option Packet → S → Type 0) (a c : Nodes) (q : S) (x : ℕ) (d later : Deficits) (passed : Bool) → AllFit a.inputs.items a.states.items → IsHead d None → IsIdle gives a q x d.cursor
    → Logs a c (looking a x d.cursor None true passed) → Settles d later None passed → LooksAt gives a c q q x d later None false
looks-at-idle gives a c q x d later passed fit is idle logs settles =
    subst (LooksAt gives a c q q x d later None) (settles.in_vain refl)
    (looks-at-asked gives a a c q q x d later None passed (idle-there gives a q x d.cursor idle) is (keeps-more a a 0 _ (keeps-none a fit) (omega arith)) (asks-queue a x d.cursor idle.leaf None idle.stands)
    (queue-answers gives a q q x d.cursor idle.leaf None idle.stands idle.gives_none) logs settles)

-- An input that holds no head, was asked, and gave nothing, was looked at.
pub looks-at-none : {S : Type 0} (gives : S → ℕ → Option Packet → S → Type 0) (a c : Nodes) (q r : S) (x : ℕ) (d later : Deficits) → IsHead d None → HasAsked gives a c q r x d.cursor None → Settles d later None false
    → LooksAt gives a c q r x d later None false
looks-at-none gives a c q r x d later is asked settles =
    let v = looking a x d.cursor None true false in
    record {
      keeps = asked.keeps;
      answers = asked.answers;
      length_is = settles.length_is;
      moves = settles.moves;
      looks = record {
        visit = v;
        input = refl;
        gets = refl;
        passes = refl;
        asks = asked.asks;
        lawful = λ quanta inputs earlier held. looks-lawful d later v None quanta inputs earlier settles held refl (sym (head-held quanta inputs earlier d None is held)) refl tt;
        holds = λ quanta inputs earlier held. settles.holds quanta inputs earlier v held held.cursor_is refl refl;
      };
    }
