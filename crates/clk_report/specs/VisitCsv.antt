-- The visit CSV: a header line and a row for each visit of the logs (this project's own columns, in rows as the crate csv writes them).
use Rattle.std.specs.Prelude.{ℕ, ◌+◌, List, [], ◌∷◌, ◌++◌, Bool, if◌then◌else◌, Option, Some, None, option_map, codes, decimal}
use Rattle.std.specs.List.{flat_map}
use Rattle.csv.specs.Writing.{default_writer, row_text}
use Rattle.clk_packet.specs.declared.packet.Packet.{Packet}
use Rattle.clk_sched.specs.declared.visit.Visit.{Visit}

-- a flag, as 0 or 1
abbrev pub flag_text : Bool → List ℕ
flag_text flag = if flag then codes "1" else codes "0"

-- a number, or nothing if there is none
abbrev pub number_or_none : Option ℕ → List ℕ
number_or_none None = []
number_or_none (Some n) = decimal n

-- a field of the packet that a visit got, or nothing if it got none
abbrev pub got_text : (Packet → ℕ) → Option Packet → List ℕ
got_text field got = number_or_none (option_map field got)

-- the names of the columns
abbrev pub header_text : List ℕ
header_text = codes "pull,node,input,fresh,sender,number,length,passed,moment\n"

-- the header line, with a column for the device or without one
abbrev pub header_of : Bool → List ℕ
header_of several = if several then codes "device," ++ header_text else header_text

-- the fields of a visit, one for each column
abbrev pub columns : Visit → List (List ℕ)
columns v =
    decimal v.pull ∷ decimal v.node ∷ decimal v.input ∷ flag_text v.fresh ∷ got_text (λ p. p.sender) v.got ∷ got_text (λ p. p.number) v.got
    ∷ got_text (λ p. p.length) v.got ∷ flag_text v.passed ∷ decimal v.moment ∷ []

-- the field of the device, if rows have one
abbrev pub device_column : Option ℕ → List (List ℕ)
device_column None = []
device_column (Some d) = decimal d ∷ []

-- a row for each visit of a log
abbrev pub rows_text : Option ℕ → List Visit → List ℕ
rows_text device log = flat_map (λ v. row_text default_writer (device_column device ++ columns v)) log

-- the rows of several devices' logs, one log after another, by the devices' numbers from d on
abbrev pub devices_text : ℕ → List (List Visit) → List ℕ
devices_text d [] = []
devices_text d (log ∷ logs) = rows_text (Some d) log ++ devices_text (d + 1) logs

-- The header line and the rows of the logs. If there are several devices, each line begins with the device; if there is one, none does.
abbrev pub visits_text : List (List Visit) → List ℕ
visits_text [] = header_text
visits_text (log ∷ []) = header_text ++ rows_text None log
visits_text (log ∷ other ∷ logs) = codes "device," ++ (header_text ++ devices_text 0 (log ∷ other ∷ logs))
