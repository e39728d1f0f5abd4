-- What explaining a fault does that opening a router had.
use Rattle.std.specs.Prelude.{◌≡◌, ℕ, ◌<◌, ◌≤◌, List, ◌∷◌, [], length, ◌==◌, if◌then◌else◌, Option, Some, None}
use Rattle.clk_packet.specs.declared.fault.Fault.{Fault}
use Rattle.clk_packet.specs.declared.fault.Fault.TheVariants.{Memory, BadText, UnknownClass, BadArgument, NameTwice, UnknownName, BadPort, PortTwice, PortMissing, WrongKind, NoDevice, NotATree, TooLarge}
use Rattle.clk_explain.specs.Explanation.{Explains, filled}
use Rattle.clickpull_c.specs.declared.values.CFault.{CFault}
use Rattle.clickpull_c.specs.declared.statuses.TheConstants.{OK, FULL}

-- the fault of this number at this byte, if opening a router can have it
abbrev pub fault_numbered : ℕ → ℕ → Option Fault
fault_numbered number offset =
    if number == 1 then Some Memory
    else if number == 2 then Some (BadText offset)
    else if number == 3 then Some (UnknownClass offset)
    else if number == 4 then Some (BadArgument offset)
    else if number == 5 then Some (NameTwice offset)
    else if number == 6 then Some (UnknownName offset)
    else if number == 7 then Some (BadPort offset)
    else if number == 8 then Some (PortTwice offset)
    else if number == 9 then Some (PortMissing offset)
    else if number == 10 then Some (WrongKind offset)
    else if number == 11 then Some NoDevice
    else if number == 13 then Some (NotATree offset)
    else if number == 18 then Some TooLarge
    else None

-- the fault that C sees so, if opening a router can have it
abbrev pub opening_fault : CFault → Option Fault
opening_fault c = fault_numbered c.number c.offset

-- the faults that opening a router can have, those of a text at this byte
abbrev pub opening_faults : ℕ → List Fault
opening_faults offset =
    Memory ∷ BadText offset ∷ UnknownClass offset ∷ BadArgument offset ∷ NameTwice offset ∷ UnknownName offset ∷ BadPort offset
    ∷ PortTwice offset ∷ PortMissing offset ∷ WrongKind offset ∷ NoDevice ∷ NotATree offset ∷ TooLarge ∷ []

-- What a call does that explains a fault, if it is told one: it fills in the front of an explanation, as much as there is room for, and how
-- many bytes the whole has.
pub data TellsFault (text : List ℕ) (fault : Option Fault) (before after : List ℕ) (needed status : ℕ) : Type 0 where
  whole : (why : Fault) (bytes : List ℕ) → fault ≡ Some why → Explains text why bytes → after ≡ filled bytes before → needed ≡ length bytes → needed ≤ length before → status ≡ OK
      → TellsFault text fault before after needed status
  front : (why : Fault) (bytes : List ℕ) → fault ≡ Some why → Explains text why bytes → after ≡ filled bytes before → needed ≡ length bytes → length before < needed → status ≡ FULL
      → TellsFault text fault before after needed status
  nothing : fault ≡ None → after ≡ before → needed ≡ 0 → status ≡ OK
      → TellsFault text fault before after needed status
