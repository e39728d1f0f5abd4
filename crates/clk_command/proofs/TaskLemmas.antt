-- What is read of a tree's text, and what follows for what is done over it.
use Rattle.std.proofs.Common.{◌+◌, ◌≡◌, ◌≢◌, if◌then◌else◌, Decides, ℕ, Bool, true, false, nat_lt, List, [], ◌++◌, append_assoc, length, take, option_map, Option, Some, None, Result, Ok, Err, IfErr, IfSome, OnOk, refl, sym, ap, subst, ◌∙◌, inl, inr, arith}
use Rattle.std.specs.Io.KnownBytes.{Appends}
use Rattle.std.proofs.KnownBytes.{Appends-trans}
use Rattle.std.proofs.lemmas.Bool.Decides.{nat_tests}
use Rattle.std.proofs.lemmas.List.{take_all, length-take}
use Rattle.std.proofs.lemmas.Slice.Eq.{bytes_eq-Decides}
use Rattle.std.specs.Str.{bytes_eq}
use Rattle.clap.specs.Walk.{Text}
use Rattle.clk_packet.specs.declared.fault.Fault.{Fault}
use Rattle.clk_packet.specs.declared.fault.Fault.TheVariants.{TooLarge, Write}
use Rattle.clk_syntax.specs.Faults.{text_fault}
use Rattle.clk_syntax.specs.declared.limits.TheConstants.{MAX_TREE_BYTES}
use Rattle.clk_tree.specs.Plan.{Planned, Denotes}
use Rattle.clk_syntax.specs.Reading.{HasFault}
use Rattle.clk_packet.proofs.Callers.Written.{of-weaker, wrote-whole, wrote-front}
use Rattle.clk_packet.specs.Bytes.{AppendsFront, OfBytes, Takes, Wrote, read_failures, write_failures}
use Rattle.clk_packet.specs.Written.{WroteWhat}
use Rattle.clk_command.specs.InputLimits.{most_of_input, most_of_work}
use Rattle.clk_command.specs.Tasks.{AreTogether, bytes_at, Does, DoesWork, ExplainsTask, ExplainsWork, GoesOut, IsPlanIn, LivesOver, LivesWithVisits, ReportsOver, ReportsWithVisits, WritesOver, WritesWithVisits, WroteBoth}
use Rattle.clk_words.specs.Words.{AreApart, dash, is_recorded, task, text_of, visits_follow, work}
use Rattle.clk_words.specs.declared.words.Asked.{Asked}
use Rattle.clk_words.specs.declared.words.Asked.TheVariants.{Over}
use Rattle.clk_words.specs.declared.pace.Pace.{Pace}
use Rattle.clk_words.specs.declared.words.Job.{Job}
use Rattle.clk_words.specs.declared.words.Job.TheVariants.{Run, Live}
use Rattle.std.specs.Borrow.{Bor}

-- a text without a fault of its own isn't too long
short : (text : List ℕ) → text_fault text ≡ None → nat_lt MAX_TREE_BYTES (length text) ≡ false
short text e = by_test (nat_lt MAX_TREE_BYTES (length text)) refl
  where
    by_test : (b : Bool) → nat_lt MAX_TREE_BYTES (length text) ≡ b → nat_lt MAX_TREE_BYTES (length text) ≡ false
    by_test true t =
        let too_large : text_fault text ≡ Some TooLarge = rw t refl in
        absurd (cc)
    by_test false t = t

-- one byte past the limit tells that a text is too long
cut-long : (all : List ℕ) → nat_lt MAX_TREE_BYTES (length all) ≡ true → nat_lt MAX_TREE_BYTES (length (take (MAX_TREE_BYTES + 1) all)) ≡ true
cut-long all e = rw length-take (grind (arith, nat_tests))

-- a text that isn't too long is read whole
whole : (all : List ℕ) → nat_lt MAX_TREE_BYTES (length (take (MAX_TREE_BYTES + 1) all)) ≡ false → take (MAX_TREE_BYTES + 1) all ≡ all
whole all e = by_test (nat_lt MAX_TREE_BYTES (length all)) refl
  where
    by_test : (b : Bool) → nat_lt MAX_TREE_BYTES (length all) ≡ b → take (MAX_TREE_BYTES + 1) all ≡ all
    by_test true t = let long = cut-long all t in absurd (cc)
    by_test false t = take_all 1048577 all (grind (arith, nat_tests))

-- the plan that the first bytes of a text denote
pub plan-read : (known : Option (List ℕ)) (bytes : List ℕ) (plan : List Planned) → IfSome known (λ all. bytes ≡ take (MAX_TREE_BYTES + 1) all) → Denotes bytes plan → IsPlanIn known plan
plan-read None bytes plan is denotes = (bytes, denotes)
plan-read (Some all) bytes plan is denotes =
    let read = rw is at (short bytes denotes.faultless.short_and_right) in
    subst (λ (text : List ℕ). Denotes text plan) (is ∙ whole all read) denotes

-- the fault that they have
pub fault-read : (known : Option (List ℕ)) (bytes : List ℕ) (fault : Fault) → IfSome known (λ all. bytes ≡ take (MAX_TREE_BYTES + 1) all) → HasFault bytes fault → OfBytes known (λ all. HasFault all fault)
fault-read None bytes fault is has = (bytes, has)
fault-read (Some all) bytes fault is has = by_test (nat_lt MAX_TREE_BYTES (length all)) refl has
  where
    by_test : (b : Bool) → nat_lt MAX_TREE_BYTES (length all) ≡ b → HasFault bytes fault → HasFault all fault
    by_test true t (inl e) =
        let long = cut-long all t in
        let cut : text_fault bytes ≡ Some TooLarge = rw (is, long) refl in
        let here : text_fault all ≡ Some TooLarge = rw t refl in
        inl (here ∙ (sym cut ∙ e))
    by_test true t (inr has) =
        let long = cut-long all t in
        let read = rw is at (short bytes has.short_and_right) in
        absurd (cc)
    by_test false t has = subst (λ (text : List ℕ). HasFault text fault) (is ∙ take_all 1048577 all (grind (arith, nat_tests))) has

-- nothing was read
pub takes-none : (most : ℕ) (known : Option (List ℕ)) → Takes most known known
takes-none most None = tt
takes-none most (Some all) = ([], refl, omega arith)

-- writing the text failed; `R` is what else is known of the visits
pub both-first : {T U V : Type 0} (R : List ℕ → Type 0) (Q : List ℕ → List ℕ → Type 0) (fault : Fault) (old new : Option (List ℕ)) (taken : V → Option (List ℕ)) (before : V)
    → WroteWhat {T = T} (λ text. (visits : List ℕ) × R visits × Q text visits) (Err fault) old new → WroteBoth {T = U} Q old new (Err fault) taken before before
both-first R Q fault old new taken before w =
    record {
      whole = tt;
      front = λ failed. let front = w.front (cc) in (front.0, front.1.0, front.1.2, inl (front.2, refl));
      nothing = λ other. (w.nothing other, refl);
    }

-- the text was written, and then the visits as far as their sink took them
pub both-second : {T V : Type 0} (Q : List ℕ → List ℕ → Type 0) (x : T) (result : Result (Unit {0}) Fault) (old new : Option (List ℕ)) (taken : V → Option (List ℕ)) (before after : V) (failed fails : ℕ) (visits : List ℕ)
    → WroteWhat (λ text. (rows : List ℕ) × (visits ≡ rows) × Q text rows) (Ok x) old new → Wrote (taken before) (taken after) failed fails result visits → WroteBoth Q old new result taken before after
both-second Q x (Ok y) old new taken before after failed fails visits w wrote =
    let all = w.whole in
    record { whole = (all.0, visits, subst (Q all.0) (sym all.1.1) all.1.2, all.2, wrote.whole); front = λ failed. absurd (cc); nothing = tt }
both-second Q x (Err fault) old new taken before after failed fails visits w wrote =
    let all = w.whole in
    record {
      whole = tt;
      front = λ _. (all.0, visits, subst (Q all.0) (sym all.1.1) all.1.2, inr (all.2, wrote.front));
      nothing = λ other. absurd (other wrote.fault);
    }

-- a front of a text is one of the text with visits after it
pub front-longer : (old new : Option (List ℕ)) (text visits : List ℕ) → AppendsFront old new text → AppendsFront old new (text ++ visits)
front-longer old new text visits front = (front.0, front.1 ++ visits, ap (λ l. l ++ visits) front.2 ∙ append_assoc front.0 front.1 visits, front.3)

-- the visits followed a text in one sink, as far as it took them
pub front-later : (old mid new : Option (List ℕ)) (text visits : List ℕ) → Appends old mid text → AppendsFront mid new visits → AppendsFront old new (text ++ visits)
front-later old mid new text visits all front =
    (text ++ front.0, front.1, ap (λ l. text ++ l) front.2 ∙ sym (append_assoc text front.0 front.1), Appends-trans old mid new text front.0 all front.3)

-- writing the text failed, where the visits would have followed it
pub follow-first : {T U : Type 0} (R : List ℕ → Type 0) (Q : List ℕ → List ℕ → Type 0) (fault : Fault) (old new : Option (List ℕ))
    → WroteWhat {T = T} (λ text. (visits : List ℕ) × R visits × Q text visits) (Err fault) old new → WroteWhat {T = U} (AreTogether Q) (Err fault) old new
follow-first R Q fault old new w =
    record {
      whole = tt;
      front = λ failed. let front = w.front (cc) in (
        front.0 ++ front.1.0,
        record { answer = front.0; visits = front.1.0; means = front.1.2; together = refl },
        front-longer old new front.0 front.1.0 front.2,
      );
      nothing = w.nothing;
    }

-- the text was written, and then the visits to the same sink as far as it took them
pub follow-second : {T : Type 0} (Q : List ℕ → List ℕ → Type 0) (x : T) (result : Result (Unit {0}) Fault) (old mid new : Option (List ℕ)) (before after : ℕ) (visits : List ℕ)
    → WroteWhat (λ text. (rows : List ℕ) × (visits ≡ rows) × Q text rows) (Ok x) old mid → Wrote mid new before after result visits → WroteWhat (AreTogether Q) result old new
follow-second Q x (Ok y) old mid new before after visits w wrote =
    let all = w.whole in
    let means : AreTogether Q (all.0 ++ visits) = record { answer = all.0; visits = visits; means = subst (Q all.0) (sym all.1.1) all.1.2; together = refl } in
    wrote-whole _ _ _ _ (all.0 ++ visits) means (Appends-trans old mid new all.0 visits all.2 wrote.whole)
follow-second Q x (Err fault) old mid new before after visits w wrote =
    let all = w.whole in
    let means : AreTogether Q (all.0 ++ visits) = record { answer = all.0; visits = visits; means = subst (Q all.0) (sym all.1.1) all.1.2; together = refl } in
    wrote-front _ _ _ _ (all.0 ++ visits) wrote.fault means (front-later old mid new all.0 visits all.2 wrote.front)

-- an answer alone goes out, and an answer with the visits after it
pub goes-alone : (follows : Bool) (P : List ℕ → Type 0) (Q : List ℕ → List ℕ → Type 0) (all : List ℕ) → follows ≡ false → P all → GoesOut follows P Q all
goes-alone follows P Q all is h = subst (λ (b : Bool). GoesOut b P Q all) (sym is) h

pub goes-followed : (follows : Bool) (P : List ℕ → Type 0) (Q : List ℕ → List ℕ → Type 0) (all : List ℕ) → follows ≡ true → AreTogether Q all → GoesOut follows P Q all
goes-followed follows P Q all is h = subst (λ (b : Bool). GoesOut b P Q all) (sym is) h

-- so it is of what a call did
pub out-alone : {T : Type 0} (result : Result T Fault) (follows : Bool) (P R : List ℕ → Type 0) (Q : List ℕ → List ℕ → Type 0) → follows ≡ false → OnOk result ((all : List ℕ) × P all × R all)
    → OnOk result ((all : List ℕ) × GoesOut follows P Q all × R all)
out-alone (Ok x) follows P R Q is h = (h.0, goes-alone follows P Q h.0 is h.1, h.2)
out-alone (Err fault) follows P R Q is h = tt

-- what an answer and its visits mean together may be weakened
pub together-weaker : (P Q : List ℕ → List ℕ → Type 0) (all : List ℕ) → ((text rows : List ℕ) → P text rows → Q text rows) → AreTogether P all → AreTogether Q all
together-weaker P Q all weaker h = record { answer = h.answer; visits = h.visits; means = weaker h.answer h.visits h.means; together = h.together }

-- what is written with visits is written without them too
pub writes-over : (tree input : Option (List ℕ)) (text visits : List ℕ) → WritesWithVisits tree input text visits → WritesOver tree input text
writes-over tree input text visits w = (w.0, w.1, of-weaker input _ _ (λ script means. (w.2.0, means)) w.2.1)

pub lives-over : (tree trace : Option (List ℕ)) (pace : Pace) (text script visits : List ℕ) → LivesWithVisits tree trace pace text script visits → LivesOver tree trace pace true text script
lives-over tree trace pace text script visits w = (w.0, w.1, w.2.0)

-- a run was done, as it was asked for
pub does-run : (job : Job) (pace : Pace) (visits : Option (Bor (List ℕ))) (tree trace : Option (List ℕ)) (P : List ℕ → Type 0) → job ≡ Run pace visits
    → (all : List ℕ) × GoesOut (visits_follow (option_map text_of visits)) (ReportsOver tree trace pace) (ReportsWithVisits tree trace pace) all × P all → DoesWork (work job) tree trace P
does-run job pace visits tree trace P is h = subst (λ (j : Job). DoesWork (work j) tree trace P) (sym is) (h.0, pace, refl, refl, h.1, h.2)

-- so was a run through inlets
pub does-live : (job : Job) (pace : Pace) (script visits : Option (Bor (List ℕ))) (tree trace : Option (List ℕ)) (P : List ℕ → Type 0) → job ≡ Live pace script visits
    → (all : List ℕ) × (lines : List ℕ) × GoesOut (visits_follow (option_map text_of visits)) (λ text. LivesOver tree trace pace (is_recorded (option_map text_of script) (option_map text_of visits)) text lines)
    (λ text rows. LivesWithVisits tree trace pace text lines rows) all × P all
    → DoesWork (work job) tree trace P
does-live job pace script visits tree trace P is h = subst (λ (j : Job). DoesWork (work j) tree trace P) (sym is) (h.0, h.1, pace, refl, refl, h.2, h.3)

-- where the tree is standard input, the second input is a file
standard-tree : (tree path : Text) (input : Option (List ℕ)) → tree ≡ dash → (tree ≡ dash → path ≢ dash) → (bytes_at tree input ≡ input) × (bytes_at path input ≡ None)
standard-tree tree path input is apart = (rw is refl, by_test (bytes_eq path dash) (bytes_eq-Decides path dash))
  where
    by_test : (b : Bool) → Decides b (path ≡ dash) → (if b then input else None) ≡ None
    by_test true d = absurd (apart is (d.0 refl))
    by_test false d = refl

-- so the task did what its work did over the two, has its faults, and reads no more of standard input
pub does-standard : (asked : Asked) (tree path : Bor Text) (job : Job) (input : Option (List ℕ)) (P : List ℕ → Type 0) → asked ≡ Over tree path job → tree.now ≡ dash → AreApart (task asked)
    → DoesWork (work job) input None P → Does (task asked) input P
does-standard asked tree path job input P e is apart h =
    let at = standard-tree tree.now path.now input is (subst (λ (a : Asked). AreApart (task a)) e apart).0 in
    let done : Does (task (Over tree path job)) input P = rw (at.0, at.1) h in
    subst (λ (a : Asked). Does (task a) input P) (sym e) done

pub explains-standard : (asked : Asked) (tree path : Bor Text) (job : Job) (input : Option (List ℕ)) (fault : Fault) → asked ≡ Over tree path job → tree.now ≡ dash → AreApart (task asked)
    → ExplainsWork (work job) input None fault → ExplainsTask (task asked) input fault
explains-standard asked tree path job input fault e is apart h =
    let at = standard-tree tree.now path.now input is (subst (λ (a : Asked). AreApart (task a)) e apart).0 in
    let has : ExplainsTask (task (Over tree path job)) input fault = rw (at.0, at.1) h in
    subst (λ (a : Asked). ExplainsTask (task a) input fault) (sym e) has

pub takes-standard : (asked : Asked) (tree path : Bor Text) (job : Job) (old new : Option (List ℕ)) → asked ≡ Over tree path job → tree.now ≡ dash
    → Takes (MAX_TREE_BYTES + 1) old new → Takes (most_of_input (task asked) + 1) old new
takes-standard asked tree path job old new e is h =
    let most : most_of_input (task (Over tree path job)) ≡ MAX_TREE_BYTES = ap (λ (b : Bool). if b then MAX_TREE_BYTES else most_of_work (work job)) (ap (λ t. bytes_eq t dash) is) in
    subst (λ (a : Asked). Takes (most_of_input (task a) + 1) old new) (sym e) (subst (λ n. Takes (n + 1) old new) (sym most) h)

-- a writer failed exactly if the fault of a write is 20
pub write-failures : (old new : Option (List ℕ)) (before after : ℕ) (result : Result (Unit {0}) Fault) (text : List ℕ) → Wrote old new before after result text → after ≡ write_failures result before
write-failures old new before after (Ok x) text w = w.succeeds
write-failures old new before after (Err fault) text w = rw w.fault w.fails

-- no read failed where the fault of a write is all that can follow
pub read-kept : (result : Result (Unit {0}) Fault) (failures : ℕ) → IfErr result (λ fault. fault ≡ Write) → read_failures result failures ≡ failures
read-kept (Ok x) failures h = refl
read-kept (Err fault) failures h = rw h refl
