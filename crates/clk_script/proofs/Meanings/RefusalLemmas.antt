-- How a script's meaning and its faults follow from those of its first bytes.
use Rattle.std.proofs.lemmas.Grind.{common_steps}
use Rattle.std.proofs.Common.{◌+◌, ◌≡◌, ◌≤◌, ◌≢◌, ℕ, ◌||◌, Bool, true, false, nat_lt, List, [], ◌∷◌, length, map, take, Option, Some, None, Err, refl, sym, ap, subst, ◌∙◌, inl, inr, IfSome, Vec, arith, rules}
use Rattle.std.specs.declared.alloc.Global.{Global}
use Rattle.std.specs.Bool.{⊤}
use Rattle.std.proofs.lemmas.Bool.Decides.{nat_tests}
use Rattle.std.proofs.lemmas.List.{take_all, length-take}
use Rattle.clk_packet.specs.declared.fault.Fault.{Fault}
use Rattle.clk_packet.specs.declared.fault.Fault.TheVariants.{Memory, Read, UnknownSender, BadScript, TooLarge, Write}
use Rattle.clk_sched.specs.declared.session.keeps.Keeps.{Keeps}
use Rattle.clk_sched.specs.declared.visit.Visit.{Visit}
use Rattle.clk_sched.specs.Tree.{Tree}
use Rattle.clk_tree.specs.Plan.{Planned}
use Rattle.clk_tree.specs.PlanParts.{number_of, senders_of}
use Rattle.clk_tree.specs.PlanTree.{device_count}
use Rattle.clk_tree.specs.Shares.{AreTreesOf}
use Rattle.clk_tree.specs.declared.plan.parts.SenderSpec.{SenderSpec}
use Rattle.clk_script.specs.declared.script.Command.{Command}
use Rattle.clk_script.specs.declared.script.ScriptLine.{ScriptLine}
use Rattle.clk_script.specs.Script.{Names, command_fault, line_fault, fault_at, first_fault, script_fault, commands_of, closing_moment}
use Rattle.clk_script.specs.declared.limits.TheConstants.{MAX_LINES, MAX_SCRIPT_BYTES}
use Rattle.clk_packet.specs.Bytes.{read_failures, write_failures, OfBytes}
use Rattle.clk_router.specs.Course.{Course, IsOpened}
use Rattle.clk_router.specs.Events.{Setup, plan_setup}
use Rattle.clk_script.specs.Meaning.{names_of, names_over, Writes, MeansWith, MeansOverWith, Explains}
use Rattle.clk_script.specs.declared.answer.Answer.{Answer}
use Rattle.clk_script.specs.declared.reading.Script.{Script}
use Rattle.clk_script.specs.inside.Numbered.{is_drain}
use Rattle.clk_script.specs.inside.Rows.{asked_by, Answers}
use Rattle.clk_script.specs.inside.Replay.{IsAnswerOver}
use Rattle.clk_script.specs.declared.script_router.ScriptRouter.{ScriptRouter}
use Rattle.clk_script.specs.inside.Reading.{IsTextOf, IsNotRead}
use Rattle.clk_script.specs.inside.ScriptRouter.{named_by, names_in, Starts}
use Rattle.clk_script.proofs.Carrying.AnswerLemmas.{names-its}
use Rattle.clk_packet.proofs.Callers.Written.{of-weaker}

-- one byte past the limit is enough to tell what is wrong
fault-cut : (names : Names) (all : List ℕ) → script_fault names (take (MAX_SCRIPT_BYTES + 1) all) ≡ script_fault names all
fault-cut names all = by_test (nat_lt MAX_SCRIPT_BYTES (length all)) refl
  where
    by_test : (b : Bool) → nat_lt MAX_SCRIPT_BYTES (length all) ≡ b → script_fault names (take (MAX_SCRIPT_BYTES + 1) all) ≡ script_fault names all
    by_test true e =
        let cut : nat_lt MAX_SCRIPT_BYTES (length (take (MAX_SCRIPT_BYTES + 1) all)) ≡ true = rw length-take (grind (arith, nat_tests)) in
        rw (cut, e) refl
    by_test false e = ap (script_fault names) (take_all 33554433 all (grind (arith, nat_tests)))

-- a script that isn't too long is read whole
whole : (names : Names) (all : List ℕ) → script_fault names (take (MAX_SCRIPT_BYTES + 1) all) ≡ None → take (MAX_SCRIPT_BYTES + 1) all ≡ all
whole names all e = by_test (nat_lt MAX_SCRIPT_BYTES (length all)) refl
  where
    by_test : (b : Bool) → nat_lt MAX_SCRIPT_BYTES (length all) ≡ b → take (MAX_SCRIPT_BYTES + 1) all ≡ all
    by_test true f =
        let too_large : script_fault names all ≡ Some TooLarge = rw f refl in
        let none = sym (fault-cut names all) ∙ e in
        absurd (cc)
    by_test false f = take_all 33554433 all (grind (arith, nat_tests))

-- the meaning over a setup of a script whose first bytes were read
pub meaning-known : (setup : Setup) (router : ScriptRouter) → Starts setup router → (known : Option (List ℕ)) (bytes text : List ℕ) (logs : List (List Visit)) → IsTextOf known bytes
    → script_fault (names_in router) bytes ≡ None → Writes setup (commands_of bytes) (closing_moment bytes) text logs → OfBytes known (λ script. MeansWith setup script text logs)
meaning-known setup router starts None bytes text logs is e w = search (rules, common_steps, names-its, whole, fault-cut)
meaning-known setup router starts (Some all) bytes text logs is e w =
    let here : script_fault (names_of setup) bytes ≡ None = subst (λ names. script_fault names bytes ≡ None) (names-its setup [] router starts.leads) e in
    let sound = rw is at here in
    let all_of_it : bytes ≡ all = is ∙ whole (names_of setup) all sound in
    record {
      sound = sym (fault-cut (names_of setup) all) ∙ sound;
      written = subst (λ (script : List ℕ). Writes setup (commands_of script) (closing_moment script) text logs) all_of_it w;
    }

-- the meaning over a plan
pub meaning-over : (plan : List Planned) (trees : List Tree) (setup : Setup) → AreTreesOf plan trees → setup ≡ plan_setup trees plan → (known : Option (List ℕ)) (text : List ℕ) (logs : List (List Visit))
    → OfBytes known (λ script. MeansWith setup script text logs) → OfBytes known (λ script. MeansOverWith plan script text logs)
meaning-over plan trees setup are same known text logs h = search (rules, of-weaker)

-- the faults that a script may have
abbrev IsOfScript : Fault → Type 0
IsOfScript TooLarge = ⊤
IsOfScript (BadScript number) = ⊤
IsOfScript (UnknownSender sender) = ⊤
IsOfScript fault = ⊥

of_command : (names : Names) (number : ℕ) (command : Command) → IfSome (command_fault names number command) IsOfScript
of_command names number command = search rules

of_line : (names : Names) (drained : Bool) (number : ℕ) (l : ScriptLine) → IfSome (line_fault names drained number l) IsOfScript
of_line names drained number l = search (rules, of_command)

of_at : (names : Names) (drained : Bool) (number : ℕ) (l : ScriptLine) → IfSome (fault_at names drained number l) IsOfScript
of_at names drained number l = search (rules, of_line)

of_first : (names : Names) (drained : Bool) (number : ℕ) (ls : List ScriptLine) → IfSome (first_fault names drained number ls) IsOfScript
of_first names drained number [] = tt
of_first names drained number (l ∷ ls) = search (rules, of_at, (of_first names (drained || is_drain l) (number + 1) ls))

-- and no failure of a reader is among them
pub not-read : (T : Type 0) (names : Names) (drained : Bool) (number : ℕ) (ls : List ScriptLine) (fault : Fault) → first_fault names drained number ls ≡ Some fault → (n : ℕ) → read_failures {T = T} (Err fault) n ≡ n
not-read T names drained number ls fault e n = by_kind fault (rw e at (of_first names drained number ls))
  where
    by_kind : (fault : Fault) → IsOfScript fault → read_failures {T = T} (Err fault) n ≡ n
    by_kind TooLarge kind = refl
    by_kind (BadScript number) kind = refl
    by_kind (UnknownSender sender) kind = refl
    by_kind fault kind = absurd kind

of_script : (names : Names) (script : List ℕ) → IfSome (script_fault names script) IsOfScript
of_script names script = search (rules, of_first)

-- what a refusal of the script's first bytes says
pub record IsRefusal (names : Names) (known : Option (List ℕ)) (fault : Fault) : Type 0 where
  pub explains : Explains names known fault
  pub writes : (n : ℕ) → write_failures {T = Unit {0}} (Err fault) n ≡ n
  pub not_write : fault ≢ Write

named : (names : Names) (known : Option (List ℕ)) (bytes : List ℕ) (fault : Fault) → IsTextOf known bytes → script_fault names bytes ≡ Some fault
    → IfSome known (λ all. script_fault names all ≡ Some fault)
named names known bytes fault is e = search (rules, fault-cut)

by_kind : (names : Names) (known : Option (List ℕ)) (fault : Fault) → IsOfScript fault → IfSome known (λ all. script_fault names all ≡ Some fault) → IsRefusal names known fault
by_kind names known TooLarge kind h = record { explains = h; writes = λ n. refl; not_write = λ e. cc }
by_kind names known (BadScript number) kind h = record { explains = h; writes = λ n. refl; not_write = λ e. cc }
by_kind names known (UnknownSender sender) kind h = record { explains = h; writes = λ n. refl; not_write = λ e. cc }
by_kind names known fault kind h = absurd kind

-- memory may run out at any growth, and the reader may fail
refusal-as : (names : Names) (known : Option (List ℕ)) (fault other : Fault) → fault ≡ other → IsRefusal names known other → IsRefusal names known fault
refusal-as names known fault other e h = subst (IsRefusal names known) (sym e) h

-- why a script isn't read
pub not-read-why : (names : Names) (known : Option (List ℕ)) (fault : Fault) → IsNotRead names known fault → IsRefusal names known fault
not-read-why names known fault (inl memory) = refusal-as names known fault Memory memory (record { explains = tt; writes = λ n. refl; not_write = λ e. cc })
not-read-why names known fault (inr (inl read)) = refusal-as names known fault Read read (record { explains = tt; writes = λ n. refl; not_write = λ e. cc })
not-read-why names known fault (inr (inr (bytes, is, e))) =
    let kind : IsOfScript fault = rw e at (of_script names bytes) in
    by_kind names known fault kind (named names known bytes fault is e)

-- the devices of a router are as many as its trees
pub few-devices : (setup : Setup) (router : ScriptRouter) (n : ℕ) → Starts setup router → n ≡ length router.router.setup.trees → n ≤ 65535
few-devices setup router n starts e = let count = ap (λ (s : Setup). length s.trees) starts.leads.setup_is in let few = starts.few in omega (arith, count, few, e)

pub few-closings : {X : Type 0} (setup : Setup) (router : ScriptRouter) (closings : Option (Vec X Global)) → Starts setup router → IfSome closings (λ cs. length cs.items ≡ length router.router.setup.trees)
    → IfSome closings (λ cs. length cs.items ≤ 65535)
few-closings setup router closings starts e = search (rules, few-devices)

-- what a script may name by what a plan tells of itself
pub names-told : (plan : List Planned) (specs : List SenderSpec) (numbers lent : List ℕ) (devices count : ℕ) → specs ≡ senders_of plan → numbers ≡ map number_of specs → lent ≡ numbers → devices ≡ count → count ≡ device_count plan
    → named_by lent devices ≡ names_over plan
names-told plan specs numbers lent devices count senders made same as_many is = λ i. record { senders = (same ∙ made ∙ ap (map number_of) senders) i; devices = (as_many ∙ is) i }

-- what a script may name over a plan is what it may name over the router that was made of it
pub names-opened : (plan : List Planned) (keeps : Keeps) (r : ScriptRouter) → IsOpened plan keeps r.router → names_over plan ≡ names_in r
names-opened plan keeps r opened = (λ i. record { senders = map number_of (senders_of plan); devices = sym opened.are.count i }) ∙ sym (ap (λ (c : Course). names_of c.setup) opened.is)

-- The answer to a script that was read, over a router that was made of a plan.
pub answer-over : (plan : List Planned) (keeps : Keeps) (known : Option (List ℕ)) (bytes : List ℕ) (r : ScriptRouter) (script : Script) (answer : Answer) → IsOpened plan keeps r.router → Starts r.router.setup r → IsTextOf known bytes
    → script_fault (names_in r) bytes ≡ None → asked_by script.rows.items ≡ commands_of bytes → script.closing ≡ closing_moment bytes
    → ((setup : Setup) → Starts setup r → Answers setup (asked_by script.rows.items) script.closing answer) → answer.drain ≡ script.closing → answer.script_router.router.keeps.packets ≡ true → length answer.rows.items ≤ MAX_LINES
    → IfSome answer.closing (λ cs. length cs.items ≡ length r.router.setup.trees) → IsAnswerOver plan known answer
answer-over plan keeps known bytes r script answer opened starts is_text sound rows closing answers drain packets few closings =
    record {
      trees = opened.trees;
      are = opened.are;
      commands = asked_by script.rows.items;
      answers = subst (λ d. Answers (plan_setup opened.trees plan) (asked_by script.rows.items) d answer) (sym drain) (subst (λ s. Answers s (asked_by script.rows.items) script.closing answer) same (answers r.router.setup starts));
      means = λ text logs w.
          meaning-over plan opened.trees r.router.setup opened.are same known text logs
          (meaning-known r.router.setup r starts known bytes text logs is_text sound
          (subst (λ (s : Setup). Writes s (commands_of bytes) (closing_moment bytes) text logs) (sym same) (subst (λ cs. Writes (plan_setup opened.trees plan) cs (closing_moment bytes) text logs) rows
          (subst (λ d. Writes (plan_setup opened.trees plan) (asked_by script.rows.items) d text logs) (drain ∙ closing) w))));
      packets = packets;
      few = few;
      few_closings = few-closings r.router.setup r answer.closing starts closings;
    }
  where
    same : r.router.setup ≡ plan_setup opened.trees plan
    same = ap (λ (c : Course). c.setup) opened.is
