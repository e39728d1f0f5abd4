-- How visits of a script that is carried out again are held and written.
use Rattle.std.proofs.lemmas.Grind.{common_steps}
use Rattle.std.proofs.Common.{◌≡◌, ℕ, List, [], ◌++◌, OnOk, OnErr, Option, Result, Ok, Err, refl, sym, subst, append_assoc, append-nil, rules}
use Rattle.std.proofs.lemmas.List.Concat.{flat_map-append}
use Rattle.clk_packet.specs.Bytes.{Wrote}
use Rattle.clk_packet.specs.declared.fault.Fault.{Fault}
use Rattle.clk_packet.proofs.Callers.Bytes.{Appends-none, Wrote-then}
use Rattle.clk_report.specs.VisitCsv.{rows_text}
use Rattle.clk_sched.specs.declared.visit.Visit.{Visit}
use Rattle.clk_script.specs.inside.Replay.{Outgoing, HeldOn}

-- Rows of two lists of visits are those of both.
rows-both : (column : Option ℕ) (one two : List Visit) → rows_text column one ++ rows_text column two ≡ rows_text column (one ++ two)
rows-both column one two = sym (flat_map-append _ one two)

-- No visits were added to those that are held, some after some, and fewer than were to be added before the sink failed.
pub held-none : (column : Option ℕ) (s : Outgoing) (x : Unit {0}) → HeldOn column s s (Ok x) []
held-none column s x = record { out = []; split = sym (append-nil s.held); cut = tt; wrote = record { whole = Appends-none s.taken; front = tt; fault = tt; succeeds = refl; fails = tt } }

pub held-then : (column : Option ℕ) (s t u : Outgoing) (x : Unit {0}) (r : Result (Unit {0}) Fault) (one two : List Visit) → HeldOn column s t (Ok x) one → HeldOn column t u r two → HeldOn column s u r (one ++ two)
held-then column s t u x r one two first second =
    record {
      out = first.out ++ second.out;
      split = by_ok r second.split;
      cut = by_err r second.cut;
      wrote = subst (λ text. Wrote s.taken u.taken s.failures u.failures r text) (rows-both column first.out second.out) (Wrote-then _ _ _ _ _ _ x r (rows_text column first.out) (rows_text column second.out) first.wrote second.wrote);
    }
  where
    all : (held : List Visit) → second.out ++ held ≡ t.held ++ two → (first.out ++ second.out) ++ held ≡ s.held ++ (one ++ two)
    all held e = search (rules, rows-both, append_assoc, append-nil)

    by_ok : (r : Result (Unit {0}) Fault) → OnOk r (second.out ++ u.held ≡ t.held ++ two) → OnOk r ((first.out ++ second.out) ++ u.held ≡ s.held ++ (one ++ two))
    by_ok r e = search (rules, rows-both, append_assoc, append-nil, all)

    by_err : (r : Result (Unit {0}) Fault) → OnErr r (second.out ≡ t.held ++ two) → OnErr r (first.out ++ second.out ≡ s.held ++ (one ++ two))
    by_err r e = search (rules, rows-both, append_assoc, append-nil, all)

pub held-cut : (column : Option ℕ) (s t : Outgoing) (fault : Fault) (visits later : List Visit) → HeldOn column s t (Err fault) visits → HeldOn column s t (Err fault) (visits ++ later)
held-cut column s t fault visits later h = search (rules, common_steps, append_assoc, rows-both)

-- Where none were held, all rows were written once those that are held are, or a front of them, as far as the sink took them.
pub held-all : (column : Option ℕ) (s t : Outgoing) (x : Unit {0}) (r : Result (Unit {0}) Fault) (c : Option (List ℕ)) (h : ℕ) (visits : List Visit) → s.held ≡ [] → HeldOn column s t (Ok x) visits → Wrote t.taken c t.failures h r (rows_text column t.held)
    → Wrote s.taken c s.failures h r (rows_text column visits)
held-all column s t x r c h visits none held last = search (rules, common_steps, rows-both)

-- Visits were held, or the rows of all were written.
pub held-more : (column : Option ℕ) (s t : Outgoing) (x : Unit {0}) (visits : List Visit) → t.taken ≡ s.taken → t.failures ≡ s.failures → t.held ≡ s.held ++ visits → HeldOn column s t (Ok x) visits
held-more column s t x visits taken failures held = search rules

pub held-none-left : (column : Option ℕ) (s t : Outgoing) (x : Unit {0}) (r : Result (Unit {0}) Fault) (b : Option (List ℕ)) (g : ℕ) (visits : List Visit) → Wrote s.taken b s.failures g (Ok x) (rows_text column s.held)
    → Wrote b t.taken g t.failures r (rows_text column visits) → t.held ≡ [] → HeldOn column s t r visits
held-none-left column s t x r b g visits first second none =
    record {
      out = s.held ++ visits;
      split = by_ok r;
      cut = by_err r;
      wrote = subst (λ text. Wrote s.taken t.taken s.failures t.failures r text) (rows-both column s.held visits) (Wrote-then _ _ _ _ _ _ x r (rows_text column s.held) (rows_text column visits) first second);
    }
  where
    by_ok : (r : Result (Unit {0}) Fault) → OnOk r ((s.held ++ visits) ++ t.held ≡ s.held ++ visits)
    by_ok r = search (rules, rows-both, append-nil)

    by_err : (r : Result (Unit {0}) Fault) → OnErr r (s.held ++ visits ≡ s.held ++ visits)
    by_err r = search (rules, rows-both, append-nil)

pub held-lost : (column : Option ℕ) (s t : Outgoing) (fault : Fault) (visits : List Visit) → Wrote s.taken t.taken s.failures t.failures (Err fault) (rows_text column s.held) → HeldOn column s t (Err fault) visits
held-lost column s t fault visits failed = search (rules, common_steps, rows-both)
