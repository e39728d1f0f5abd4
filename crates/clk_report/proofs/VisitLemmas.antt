-- The rows of visits, as they are written.
use Rattle.std.proofs.Common.{◌≡◌, ℕ, ◌+◌, ◌<◌, ◌≤◌, List, [], ◌∷◌, ◌++◌, length, take, drop, map, get_or, codes, Option, Some, None, refl, sym, ap, ◌∙◌, arith}
use Rattle.std.proofs.lemmas.List.{drop_more, take-map, drop-map, map-id}
use Rattle.std.proofs.lemmas.List.Concat.{flat_map-append}
use Rattle.csv.specs.Writing.{default_writer, row_text}
use Rattle.clk_sched.specs.declared.visit.Visit.{Visit}
use Rattle.clk_sched.specs.declared.session.packed.PackedVisit.{PackedVisit}
use Rattle.clk_sched.specs.Packed.{unpacked}
use Rattle.clk_report.proofs.ReportLemmas.{flat_map-split}
use Rattle.clk_report.specs.VisitCsv.{columns, device_column, devices_text, header_text, rows_text, visits_text}

-- the rows of visits that are told by others, in two parts
pub rows-split : {X : Type 0} (device : Option ℕ) (shown : X → Visit) (xs front back : List X) (n : ℕ) → front ≡ take n xs → back ≡ drop n xs
    → rows_text device (map shown xs) ≡ rows_text device (map shown front) ++ rows_text device (map shown back)
rows-split device shown xs front back n front-is back-is =
    flat_map-split (λ v. row_text default_writer (device_column device ++ columns v)) (map shown xs) (map shown front) (map shown back) n (ap (map shown) front-is ∙ sym (take-map shown n xs)) (ap (map shown) back-is ∙ sym (drop-map shown n xs))

-- the rows of a packed log, of those visits that are packed and of the others
pub rows-parts : (device : Option ℕ) (packed : List PackedVisit) (rest log : List Visit) → map unpacked packed ++ rest ≡ log
    → rows_text device log ≡ rows_text device (map unpacked packed) ++ rows_text device (map (λ (v : Visit). v) rest)
rows-parts device packed rest log is =
    ap (rows_text device) (sym is) ∙ flat_map-append (λ v. row_text default_writer (device_column device ++ columns v)) (map unpacked packed) rest
    ∙ ap (λ l. rows_text device (map unpacked packed) ++ rows_text device l) (sym (map-id rest))

-- the log of one device more
pub devices-more : {X : Type 0} (visits : X → List Visit) (logs : List X) (i : ℕ) (v : X) → i < length logs → v ≡ get_or logs i v
    → devices_text i (map visits (drop i logs)) ≡ rows_text (Some i) (visits v) ++ devices_text (i + 1) (map visits (drop (i + 1) logs))
devices-more visits logs i v within is = ap (λ l. devices_text i (map visits l)) (drop_more logs i v within ∙ ap (λ w. w ∷ drop (i + 1) logs) (sym is))

-- the log of one device, and those of several
pub one-log : {X : Type 0} (visits : X → List Visit) (logs : List X) (v : X) → length logs ≡ 1 → v ≡ get_or logs 0 v → visits_text (map visits logs) ≡ header_text ++ rows_text None (visits v)
one-log visits [] v one is = absurd (omega (arith, one))
one-log visits (w ∷ []) v one is = ap (λ u. header_text ++ rows_text None (visits u)) (sym is)
one-log visits (w ∷ u ∷ logs) v one is = absurd (omega (arith, one))

-- the header line of several devices
abbrev pub devices_header : List ℕ
devices_header = codes "device,pull,node,input,fresh,sender,number,length,passed,moment\n"

pub many-logs : {X : Type 0} (visits : X → List Visit) (logs : List X) → 2 ≤ length logs → visits_text (map visits logs) ≡ devices_header ++ devices_text 0 (map visits logs)
many-logs visits [] many = absurd (omega (arith, many))
many-logs visits (w ∷ []) many = absurd (omega (arith, many))
many-logs visits (w ∷ u ∷ logs) many = refl
