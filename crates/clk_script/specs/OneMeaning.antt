-- That a script has at most one meaning, and that devices are apart.
use Rattle.std.specs.Prelude.{◌≡◌, ℕ, List, map}
use Rattle.clk_sched.specs.declared.visit.Visit.{Visit}
use Rattle.clk_router.specs.Events.{Setup, Event, events_at, CanHappen}
use Rattle.clk_script.specs.Meaning.{command_of, IsMeaning, MeansWith}

-- Two texts that are meanings of the same script over a setup are the same text.
abbrev pub HasAtMostOneMeaning : Setup → Type 0
HasAtMostOneMeaning setup = (script one other : List ℕ) → IsMeaning setup script one → IsMeaning setup script other → one ≡ other

-- Two meanings of the same script over a setup have the same logs.
abbrev pub HasAtMostOneLog : Setup → Type 0
HasAtMostOneLog setup = (script one other : List ℕ) (logs others : List (List Visit)) → MeansWith setup script one logs → MeansWith setup script other others → logs ≡ others

-- What happens at a device follows from its own commands, whatever is sent to the other devices and pulled from them.
abbrev pub DevicesAreApart : Setup → Type 0
DevicesAreApart setup =
    (d : ℕ) (one other : List Event) → CanHappen setup one → CanHappen setup other → map command_of (events_at setup d one) ≡ map command_of (events_at setup d other)
    → events_at setup d one ≡ events_at setup d other
