-- A trace that is read record by record.
use Rattle.std.proofs.Common.{◌≡◌, ℕ, zero, suc, ◌+◌, ◌<◌, ◌≤◌, ◌==◌, Bool, true, false, nat_lt, List, [], ◌∷◌, ◌++◌, length, take, Option, Some, None, Result, Ok, Err, IfSome, IfOk, IfErr, OnOk, MatchResult, refl, sym, ap, subst, ◌∙◌, append_assoc, arith, ◌⊎◌, inl, inr}
use Rattle.std.specs.List.{filter_map}
use Rattle.std.proofs.lemmas.Bool.Decides.{nat_tests}
use Rattle.std.proofs.lemmas.List.{append-nil, length-append, length-map, length-take, take_all}
use Rattle.csv.specs.Machine.{Read, ends_at_end, next_record}
use Rattle.csv.specs.Reading.{ReadRecord, Reached, default_config, records_from, source_of, strip_bom}
use Rattle.csv.specs.declared.reader.Reader.{Reader}
use Rattle.csv.specs.declared.parser.State.{State}
use Rattle.csv.specs.declared.parser.State.TheVariants as st
use Rattle.csv.proofs.ReadFacts.{rows-more}
use Rattle.clk_packet.specs.Bytes.{read_failures}
use Rattle.clk_packet.specs.inside.Lengths.{IsAdded}
use Rattle.clk_packet.specs.Trace.{ExplainsTrace, bad_unless, first_fault, packets_in, pair_in, pairs_of, record_fault, records_of, sent, sent_by, sent_from, shown, trace_fault}
use Rattle.clk_packet.specs.declared.limits.TheConstants.{MAX_RECORDS, MAX_TRACE_BYTES}
use Rattle.clk_packet.specs.declared.fault.Fault.{Fault}
use Rattle.clk_packet.specs.declared.fault.Fault.TheVariants.{Memory, TooLarge, BadTrace}
use Rattle.clk_packet.specs.declared.packet.Packet.{Packet}
use Rattle.clk_packet.proofs.RecordLemmas.{next-shortens, records-end, records-more}

-- These traces were read of a text up to the record of a number, and in this state these bytes are left.
pub record Stands (text : List ℕ) (row : ℕ) (s : State) (left : Option (List ℕ)) (traces : List (List Packet)) : Type 0 where
  pub rest : List ℕ
  pub left_is : left ≡ Some rest
  pub fuel : ℕ
  pub enough : length rest < fuel
  pub between : ends_at_end s ≡ false
  pub fault : first_fault 1 (records_of text) ≡ first_fault row (records_from default_config fuel s rest)
  pub sent_is : (sender : ℕ) → sent sender (pairs_of text) ≡ shown (sent_by traces sender) ++ sent_from sender (length (sent_by traces sender)) (filter_map pair_in (records_from default_config fuel s rest))
  pub few : packets_in traces + 1 ≡ row

pub Stands-none : (text : List ℕ) (s : State) (left : Option (List ℕ)) → s ≡ st.StartRecord → left ≡ Some (strip_bom text) → Stands text 1 s left []
Stands-none text s left e f =
    rw (e, f) (record {
      rest = strip_bom text;
      left_is = refl;
      fuel = length (strip_bom text) + 1;
      enough = omega arith;
      between = refl;
      fault = refl;
      sent_is = λ sender. refl;
      few = refl;
    })

-- how a sender's packets go on by one
sent-goes_on : (sender : ℕ) (before after : List Packet) (pair : ℕ × ℕ) (more : List (ℕ × ℕ)) → shown after ≡ shown before ++ sent_from sender (length before) (pair ∷ [])
    → shown before ++ sent_from sender (length before) (pair ∷ more) ≡ shown after ++ sent_from sender (length after) more
sent-goes_on sender before after pair more e = by_test (pair.0 == sender) refl
  where
    count : (packets : List Packet) → length (shown packets) ≡ length packets
    count packets = length-map packets (λ (p : Packet). (p.sender, p.number, p.length))

    by_test : (b : Bool) → (pair.0 == sender) ≡ b → shown before ++ sent_from sender (length before) (pair ∷ more) ≡ shown after ++ sent_from sender (length after) more
    by_test true f =
        let is : shown after ≡ shown before ++ (sender, length before, pair.1) ∷ [] = rw f at e in
        let longer : length after ≡ length before + 1 = sym (count after) ∙ ap length is ∙ length-append (shown before) ((sender, length before, pair.1) ∷ []) ∙ ap (λ n. n + 1) (count before) in
        rw (f, is, longer) (sym (append_assoc (shown before) ((sender, length before, pair.1) ∷ []) (sent_from sender (length before + 1) more)))
    by_test false f =
        let is : shown after ≡ shown before = (rw f at e) ∙ append-nil (shown before) in
        let same : length after ≡ length before = sym (count after) ∙ ap length is ∙ count before in
        rw (f, is, same) refl

-- a read of a record: the record, and the state and the bytes after it
pub record Goes (s : State) (rest : List ℕ) (t : State) (after : Option (List ℕ)) (fields : List (List ℕ)) : Type 0 where
  pub read : Read
  pub is : next_record default_config s [] [] rest ≡ Some read
  pub fields_are : fields ≡ read.0
  pub state_is : read.1 ≡ t
  pub after_is : after ≡ Some read.2

pub goes-read : {R : Type 0} (rem : R → Option (List ℕ)) (a b : Reader R) (fields : List (List ℕ)) (rest : List ℕ) → a.config ≡ default_config → source_of rem a ≡ Some rest → ReadRecord rem a b true fields
    → Goes a.state rest b.state (source_of rem b) fields
unfolding Reached
goes-read rem a b fields rest config source read =
    let more = rows-more rem a b fields default_config a.state rest rest [] config source (refl, refl) read in
    let reached = more.2 in
    record { read = reached.0; is = reached.1; fields_are = reached.2; state_is = reached.3.0; after_is = more.1 ∙ ap Some (sym reached.3.1) }

-- a record that says a pair, added to what was read
pub Stands-more : (text : List ℕ) (row : ℕ) (s t : State) (left after : Option (List ℕ)) (fields : List (List ℕ)) (pair : ℕ × ℕ) (traces new : List (List Packet)) (h : Stands text row s left traces)
    → Goes s h.rest t after fields → record_fault row fields ≡ None → pair_in fields ≡ Some pair → IsAdded traces pair.0 pair.1 new → Stands text (row + 1) t after new
Stands-more text row s t left after fields pair traces new h goes sound says added =
    subst (λ (u : State). Stands text (row + 1) u after new) goes.state_is
    (subst (λ (o : Option (List ℕ)). Stands text (row + 1) goes.read.1 o new) (sym goes.after_is) (by_fuel h.fuel h.enough h.fault h.sent_is))
  where
    by_fuel : (fuel : ℕ) → length h.rest < fuel → first_fault 1 (records_of text) ≡ first_fault row (records_from default_config fuel s h.rest)
        → ((sender : ℕ) → sent sender (pairs_of text) ≡ shown (sent_by traces sender) ++ sent_from sender (length (sent_by traces sender)) (filter_map pair_in (records_from default_config fuel s h.rest)))
        → Stands text (row + 1) goes.read.1 (Some goes.read.2) new
    by_fuel zero enough fault sent_is = absurd (omega arith)
    by_fuel (suc fuel) enough fault sent_is =
        let shorter = next-shortens s [] [] h.rest goes.read goes.is in
        let less = shorter.less h.between in
        let few = h.few in
        let total = added.total in
        let later = records_from default_config fuel goes.read.1 goes.read.2 in
        let split : records_from default_config (suc fuel) s h.rest ≡ fields ∷ later = records-more fuel s h.rest goes.read goes.is ∙ ap (λ (f : List (List ℕ)). f ∷ later) (sym goes.fields_are) in
        record {
          rest = goes.read.2;
          left_is = refl;
          fuel = fuel;
          enough = omega (arith, less, enough);
          between = shorter.between;
          fault = fault ∙ ap (first_fault row) split ∙ rw sound refl;
          sent_is = λ sender. sent_is sender ∙ ap (λ rs. shown (sent_by traces sender) ++ sent_from sender (length (sent_by traces sender)) (filter_map pair_in rs)) split
              ∙ rw says (sent-goes_on sender (sent_by traces sender) (sent_by new sender) pair (filter_map pair_in later) (added.each sender));
          few = omega (arith, few, total);
        }

-- a record that has something wrong
pub Stands-fault : (text : List ℕ) (row : ℕ) (s t : State) (left after : Option (List ℕ)) (fields : List (List ℕ)) (fault : Fault) (traces : List (List Packet)) (h : Stands text row s left traces)
    → Goes s h.rest t after fields → record_fault row fields ≡ Some fault → first_fault 1 (records_of text) ≡ Some fault
Stands-fault text row s t left after fields fault traces h goes wrong = by_fuel h.fuel h.enough h.fault
  where
    by_fuel : (fuel : ℕ) → length h.rest < fuel → first_fault 1 (records_of text) ≡ first_fault row (records_from default_config fuel s h.rest) → first_fault 1 (records_of text) ≡ Some fault
    by_fuel zero enough first = absurd (omega arith)
    by_fuel (suc fuel) enough first =
        let later = records_from default_config fuel goes.read.1 goes.read.2 in
        let split : records_from default_config (suc fuel) s h.rest ≡ fields ∷ later = records-more fuel s h.rest goes.read goes.is ∙ ap (λ (f : List (List ℕ)). f ∷ later) (sym goes.fields_are) in
        first ∙ ap (first_fault row) split ∙ rw wrong refl

-- no record is left
pub record IsRead (text : List ℕ) (traces : List (List Packet)) : Type 0 where
  pub sound : first_fault 1 (records_of text) ≡ None
  pub sent_is : (sender : ℕ) → shown (sent_by traces sender) ≡ sent sender (pairs_of text)

pub Stands-end : (text : List ℕ) (row : ℕ) (s : State) (left : Option (List ℕ)) (traces : List (List Packet)) (h : Stands text row s left traces) → next_record default_config s [] [] h.rest ≡ None → IsRead text traces
Stands-end text row s left traces h none =
    let end = records-end h.fuel s h.rest none in
    record {
      sound = h.fault ∙ ap (first_fault row) end;
      sent_is = λ sender. sym (h.sent_is sender ∙ ap (λ rs. shown (sent_by traces sender) ++ sent_from sender (length (sent_by traces sender)) (filter_map pair_in rs)) end ∙ append-nil (shown (sent_by traces sender)));
    }

pub row-few : (row : ℕ) (fields : List (List ℕ)) → record_fault row fields ≡ None → row ≤ MAX_RECORDS
row-few row fields e = by_test (nat_lt MAX_RECORDS row) refl
  where
    by_test : (b : Bool) → nat_lt MAX_RECORDS row ≡ b → row ≤ MAX_RECORDS
    by_test true f = absurd (cc (rw f at e))
    by_test false f = grind (arith, nat_tests)

-- a text that isn't too long
pub trace_fault-short : (text : List ℕ) → length text ≤ MAX_TRACE_BYTES → trace_fault text ≡ first_fault 1 (records_of text)
trace_fault-short text short =
    let no : nat_lt MAX_TRACE_BYTES (length text) ≡ false = grind (arith, nat_tests) in
    rw no refl

-- one byte past the limit is enough to tell what is wrong
trace-cut : (all : List ℕ) → trace_fault (take (MAX_TRACE_BYTES + 1) all) ≡ trace_fault all
trace-cut all = by_test (nat_lt MAX_TRACE_BYTES (length all)) refl
  where
    by_test : (b : Bool) → nat_lt MAX_TRACE_BYTES (length all) ≡ b → trace_fault (take (MAX_TRACE_BYTES + 1) all) ≡ trace_fault all
    by_test true e =
        let cut : nat_lt MAX_TRACE_BYTES (length (take (MAX_TRACE_BYTES + 1) all)) ≡ true = rw length-take (grind (arith, nat_tests)) in
        rw (cut, e) refl
    by_test false e = ap trace_fault (take_all 33554433 all (grind (arith, nat_tests)))

-- a trace that isn't too long is read whole
whole : (all : List ℕ) → trace_fault (take (MAX_TRACE_BYTES + 1) all) ≡ None → take (MAX_TRACE_BYTES + 1) all ≡ all
whole all e = by_test (nat_lt MAX_TRACE_BYTES (length all)) refl
  where
    by_test : (b : Bool) → nat_lt MAX_TRACE_BYTES (length all) ≡ b → take (MAX_TRACE_BYTES + 1) all ≡ all
    by_test true f =
        let too_large : trace_fault all ≡ Some TooLarge = rw f refl in
        let none = sym (trace-cut all) ∙ e in
        absurd (cc)
    by_test false f = take_all 33554433 all (grind (arith, nat_tests))

-- what was read of the first bytes is what the text says
sound-known : (known : Option (List ℕ)) (bytes : List ℕ) → IfSome known (λ all. bytes ≡ take (MAX_TRACE_BYTES + 1) all) → trace_fault bytes ≡ None → IfSome known (λ text. trace_fault text ≡ None)
sound-known None bytes is sound = tt
sound-known (Some all) bytes is sound = sym (trace-cut all) ∙ ap trace_fault (sym is) ∙ sound

sent-known : (known : Option (List ℕ)) (bytes : List ℕ) (traces : List (List Packet)) → IfSome known (λ all. bytes ≡ take (MAX_TRACE_BYTES + 1) all) → trace_fault bytes ≡ None
    → ((s : ℕ) → shown (sent_by traces s) ≡ sent s (pairs_of bytes)) → IfSome known (λ text. (s : ℕ) → shown (sent_by traces s) ≡ sent s (pairs_of text))
sent-known None bytes traces is sound h = tt
sent-known (Some all) bytes traces is sound h =
    let here : trace_fault (take (MAX_TRACE_BYTES + 1) all) ≡ None = ap trace_fault (sym is) ∙ sound in
    subst (λ (text : List ℕ). (s : ℕ) → shown (sent_by traces s) ≡ sent s (pairs_of text)) (is ∙ whole all here) h

-- the faults that a trace may have
abbrev IsOfTrace : Fault → Type 0
IsOfTrace TooLarge = Unit {0}
IsOfTrace (BadTrace row) = Unit {0}
IsOfTrace fault = ⊥

of_record : (row : ℕ) (fields : List (List ℕ)) → IfSome (record_fault row fields) IsOfTrace
of_record row fields = by_test (nat_lt MAX_RECORDS row) refl
  where
    by_pair : (o : Option (ℕ × ℕ)) → pair_in fields ≡ o → IfSome (bad_unless row (pair_in fields)) IsOfTrace
    by_pair None e = rw e tt
    by_pair (Some pair) e = rw e tt

    by_test : (b : Bool) → nat_lt MAX_RECORDS row ≡ b → IfSome (record_fault row fields) IsOfTrace
    by_test true e = rw e tt
    by_test false e = rw e (by_pair (pair_in fields) refl)

of_first : (row : ℕ) (rows : List (List (List ℕ))) → IfSome (first_fault row rows) IsOfTrace
of_first row [] = tt
of_first row (fields ∷ rows) = by_fault (record_fault row fields) refl (of_record row fields) (of_first (row + 1) rows)
  where
    by_fault : (o : Option Fault) → record_fault row fields ≡ o → IfSome (record_fault row fields) IsOfTrace → IfSome (first_fault (row + 1) rows) IsOfTrace → IfSome (first_fault row (fields ∷ rows)) IsOfTrace
    by_fault None e here rest = rw e rest
    by_fault (Some fault) e here rest = rw e (rw e at here)

of_trace : (text : List ℕ) → IfSome (trace_fault text) IsOfTrace
of_trace text = by_test (nat_lt MAX_TRACE_BYTES (length text)) refl
  where
    by_test : (b : Bool) → nat_lt MAX_TRACE_BYTES (length text) ≡ b → IfSome (trace_fault text) IsOfTrace
    by_test true e = rw e tt
    by_test false e = rw e (of_first 1 (records_of text))

-- what a refusal of a trace's first bytes says
record IsRefusal (known : Option (List ℕ)) (fault : Fault) : Type 0 where
  pub explains : ExplainsTrace known fault
  pub reads : (n : ℕ) → read_failures {T = List (List Packet)} (Err fault) n ≡ n

named : (known : Option (List ℕ)) (bytes : List ℕ) (fault : Fault) → IfSome known (λ all. bytes ≡ take (MAX_TRACE_BYTES + 1) all) → trace_fault bytes ≡ Some fault
    → IfSome known (λ all. trace_fault all ≡ Some fault)
named None bytes fault is e = tt
named (Some all) bytes fault is e = sym (trace-cut all) ∙ ap trace_fault (sym is) ∙ e

by_kind : (known : Option (List ℕ)) (fault : Fault) → IsOfTrace fault → IfSome known (λ all. trace_fault all ≡ Some fault) → IsRefusal known fault
by_kind known TooLarge kind h = record { explains = h; reads = λ n. refl }
by_kind known (BadTrace row) kind h = record { explains = h; reads = λ n. refl }
by_kind known fault kind h = absurd kind

IsRefusal-trace : (known : Option (List ℕ)) (bytes : List ℕ) (fault : Fault) → IfSome known (λ all. bytes ≡ take (MAX_TRACE_BYTES + 1) all) → (fault ≡ Memory) ⊎ (trace_fault bytes ≡ Some fault)
    → IsRefusal known fault
IsRefusal-trace known bytes fault is (inl e) = subst (λ (f : Fault). IsRefusal known f) (sym e) (record { explains = tt; reads = λ n. refl })
IsRefusal-trace known bytes fault is (inr e) =
    let kind : IsOfTrace fault = rw e at (of_trace bytes) in
    by_kind known fault kind (named known bytes fault is e)

-- what reading a trace's first bytes tells of the trace
pub record IsAnswer (known : Option (List ℕ)) (r : Result (List (List Packet)) Fault) : Type 0 where
  pub sound : OnOk r (IfSome known (λ text. trace_fault text ≡ None))
  pub sent_is : IfOk r (λ traces. IfSome known (λ text. (s : ℕ) → shown (sent_by traces s) ≡ sent s (pairs_of text)))
  pub within : IfOk r (λ traces. packets_in traces ≤ MAX_RECORDS)
  pub explains : IfErr r (ExplainsTrace known)
  pub reads : (n : ℕ) → read_failures r n ≡ n

pub IsAnswer-of : (known : Option (List ℕ)) (bytes : List ℕ) (r : Result (List (List Packet)) Fault) → IfSome known (λ all. bytes ≡ take (MAX_TRACE_BYTES + 1) all)
    → MatchResult r (λ traces. (trace_fault bytes ≡ None) × ((s : ℕ) → shown (sent_by traces s) ≡ sent s (pairs_of bytes)) × (packets_in traces ≤ MAX_RECORDS)) (λ fault. (fault ≡ Memory) ⊎ (trace_fault bytes ≡ Some fault))
    → IsAnswer known r
IsAnswer-of known bytes (Ok traces) is h = record { sound = sound-known known bytes is h.0; sent_is = sent-known known bytes traces is h.0 h.1; within = h.2; explains = tt; reads = λ n. refl }
IsAnswer-of known bytes (Err fault) is h =
    let refusal = IsRefusal-trace known bytes fault is h in
    record { sound = tt; sent_is = tt; within = tt; explains = refusal.explains; reads = refusal.reads }
