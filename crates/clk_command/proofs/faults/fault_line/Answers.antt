use Rattle.std.proofs.Common.{ℕ, List, ◌++◌, codes, decimal}
use Rattle.std.specs.List.{flat_map}
use Rattle.std.proofs.lemmas.Result.{err_from_is_err_and}
use Rattle.clk_packet.specs.declared.fault.Fault.{Fault}
use Rattle.clk_packet.specs.Fault.{number_of, name_of, fields_of}
use Rattle.clk_packet.proofs.Callers.Bytes.{Wrote-then, Wrote-cut}
use Rattle.clk_command.proofs.faults.fault_line.Goals as goal

-- the line from its last field on, from its name on, from the colon on, and from its number on
abbrev fields_text : Fault → List ℕ
fields_text fault = flat_map (λ n. codes " " ++ decimal n) (fields_of fault)

abbrev from_name : Fault → List ℕ
from_name fault = name_of fault ++ (fields_text fault ++ codes "\n")

abbrev from_colon : Fault → List ℕ
from_colon fault = codes ": " ++ from_name fault

abbrev from_number : Fault → List ℕ
from_number fault = decimal (number_of fault) ++ from_colon fault

pub returns-in_err-write_all : goal.returns-in_err-write_all
returns-in_err-write_all g c =
    let p = err_from_is_err_and c.from_residual.result c.from_residual.ensures.1 in
    rw (p.1, p.2) (Wrote-cut _ _ _ _ _ (codes "fault ") (from_number c.args.fault) c.in_err-write_all.ensures)

pub returns-in_err-write_number : goal.returns-in_err-write_number
returns-in_err-write_number g c =
    let p = err_from_is_err_and c.from_residual-in_err-write_number.result c.from_residual-in_err-write_number.ensures.1 in
    rw (p.1, p.2) (Wrote-then _ _ _ _ _ _ _ _ _ _ c.in_ok-write_all.ensures
    (Wrote-cut _ _ _ _ _ (decimal (number_of c.args.fault)) (from_colon c.args.fault) (rw (c.from.ensures, c.number.ensures) at c.in_err-write_number.ensures)))

pub returns-in_err-write_all-2 : goal.returns-in_err-write_all-2
returns-in_err-write_all-2 g c =
    let p = err_from_is_err_and c.from_residual-in_err-write_all-2.result c.from_residual-in_err-write_all-2.ensures.1 in
    rw (p.1, p.2) (Wrote-then _ _ _ _ _ _ _ _ _ _ c.in_ok-write_all.ensures (Wrote-then _ _ _ _ _ _ _ _ _ _ (rw (c.from.ensures, c.number.ensures) at c.in_ok-write_number.ensures)
    (Wrote-cut _ _ _ _ _ (codes ": ") (from_name c.args.fault) c.in_err-write_all-2.ensures)))

pub returns-in_err-write_all-3 : goal.returns-in_err-write_all-3
returns-in_err-write_all-3 g c =
    let p = err_from_is_err_and c.from_residual-in_err-write_all-3.result c.from_residual-in_err-write_all-3.ensures.1 in
    let number = rw (c.from.ensures, c.number.ensures) at c.in_ok-write_number.ensures in
    rw (p.1, p.2) (Wrote-then _ _ _ _ _ _ _ _ _ _ c.in_ok-write_all.ensures (Wrote-then _ _ _ _ _ _ _ _ _ _ number (Wrote-then _ _ _ _ _ _ _ _ _ _ c.in_ok-write_all-2.ensures
    (Wrote-cut _ _ _ _ _ (name_of c.args.fault) (fields_text c.args.fault ++ codes "\n") (rw (c.as_bytes.ensures.value, c.name.ensures) at c.in_err-write_all-3.ensures)))))

pub returns-in_err-write_fields_of : goal.returns-in_err-write_fields_of
returns-in_err-write_fields_of g c =
    let p = err_from_is_err_and c.from_residual-in_err-write_fields_of.result c.from_residual-in_err-write_fields_of.ensures.1 in
    let number = rw (c.from.ensures, c.number.ensures) at c.in_ok-write_number.ensures in
    let name = rw (c.as_bytes.ensures.value, c.name.ensures) at c.in_ok-write_all-3.ensures in
    rw (p.1, p.2) (Wrote-then _ _ _ _ _ _ _ _ _ _ c.in_ok-write_all.ensures (Wrote-then _ _ _ _ _ _ _ _ _ _ number (Wrote-then _ _ _ _ _ _ _ _ _ _ c.in_ok-write_all-2.ensures (Wrote-then _ _ _ _ _ _ _ _ _ _ name
    (Wrote-cut _ _ _ _ _ (fields_text c.args.fault) (codes "\n") c.in_err-write_fields_of.ensures)))))

pub returns : goal.returns
returns g c =
    let number = rw (c.from.ensures, c.number.ensures) at c.in_ok-write_number.ensures in
    let name = rw (c.as_bytes.ensures.value, c.name.ensures) at c.in_ok-write_all-3.ensures in
    Wrote-then _ _ _ _ _ _ _ _ _ _ c.in_ok-write_all.ensures (Wrote-then _ _ _ _ _ _ _ _ _ _ number (Wrote-then _ _ _ _ _ _ _ _ _ _ c.in_ok-write_all-2.ensures (Wrote-then _ _ _ _ _ _ _ _ _ _ name
    (Wrote-then _ _ _ _ _ _ _ _ _ _ c.in_ok-write_fields_of.ensures c.write_all-4.ensures))))
