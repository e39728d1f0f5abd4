-- What happens at a device can happen alone, so it follows from what is asked of that device.
use Rattle.std.proofs.Common.{◌≡◌, ℕ, ◌==◌, ◌&&◌, List, [], ◌∷◌, ◌++◌, length, map, take, drop, Bool, true, if◌then◌else◌, sym, ap, ap₂, ◌∙◌, subst, rules}
use Rattle.std.specs.List.{AllByRecursion, list_any}
use Rattle.std.proofs.lemmas.List.{append-nil, length-map, take-append-drop, take-map}
use Rattle.std.proofs.Math.Seq.{take-append_seam}
use Rattle.clk_ring.specs.Laws.{HistoriesLeaveNoChoice}
use Rattle.clk_sched.specs.Tree.{Tree}
use Rattle.clk_sched.specs.Run.{IsRun}
use Rattle.clk_sched.specs.Choice.{PullsLeaveNoChoice}
use Rattle.clk_tree.specs.declared.plan.parts.SenderSpec.{SenderSpec}
use Rattle.clk_tree.specs.PlanParts.{number_of}
use Rattle.clk_router.specs.Events.{Room, Setup, Event, offered, pulled, is_of_device, happens_at, events_at, IsOfDevice, CanHappen}
use Rattle.clk_script.specs.Meaning.{names_of, command_of}
use Rattle.clk_script.specs.inside.ScriptRouter.{IsSound}
use Rattle.clk_router.specs.Setups.{IsWired, IsApart}
use Rattle.clk_script.specs.OneMeaning.{DevicesAreApart}
use Rattle.clk_script.specs.inside.Replay.{DevicesGoAlike}
use Rattle.clk_script.proofs.Meanings.OneMeaning.{same-events}
use Rattle.clk_router.proofs.Callers.Apart.{alone}

-- who offers at a device is known
known-sender : (queues : List Room) (senders : List SenderSpec) (s d : ℕ) → list_any (λ (x : SenderSpec). (x.number == s) && is_of_device queues d x) senders ≡ true
    → list_any (λ n. n == s) (map number_of senders) ≡ true
known-sender queues [] s d e = e
known-sender queues (x ∷ senders) s d e = search (rules, (known-sender queues senders s d))

sound-at : (setup : Setup) (d : ℕ) (events : List Event) → AllByRecursion (IsOfDevice (length setup.trees)) events → AllByRecursion (IsSound (names_of setup)) (map command_of (events_at setup d events))
sound-at setup d [] h = tt
sound-at setup d (e ∷ events) h = by_test (happens_at setup d e) (sound e h.0) (sound-at setup d events h.1)
  where
    sound : (e : Event) → IsOfDevice (length setup.trees) e → happens_at setup d e ≡ true → IsSound (names_of setup) (command_of e)
    sound (offered p outcome) there does = (known-sender setup.queues setup.senders p.sender d does, p.has_length)
    sound (pulled c m v) there does = there

    by_test : (b : Bool) → (b ≡ true → IsSound (names_of setup) (command_of e)) → AllByRecursion (IsSound (names_of setup)) (map command_of (events_at setup d events))
        → AllByRecursion (IsSound (names_of setup)) (map command_of (if b then e ∷ events_at setup d events else events_at setup d events))
    by_test b s rest = search (rules, known-sender)

-- so it follows from what is asked of that device
pub devices-apart : (setup : Setup) → IsWired setup → IsApart setup → HistoriesLeaveNoChoice → ((tree : Tree) → PullsLeaveNoChoice tree) → ((tree : Tree) → IsRun tree []) → DevicesAreApart setup
devices-apart setup wired apart law runs start d one other a b same =
    same-events setup wired law runs [] (events_at setup d one) (events_at setup d other) [] [] (rw append-nil (alone setup apart start d one a)) (rw append-nil (alone setup apart start d other b)) same
    (sound-at setup d one a.devices)

-- If the commands of one course at a device are a prefix of those of another, so are the events there.
pub devices-alike : (setup : Setup) → IsWired setup → IsApart setup → HistoriesLeaveNoChoice → ((tree : Tree) → PullsLeaveNoChoice tree) → ((tree : Tree) → IsRun tree []) → DevicesGoAlike setup
devices-alike setup wired apart law runs start d one other rest a b same = (back, ap (λ l. l ++ back) front ∙ take-append-drop n its)
  where
    own : List Event
    own = events_at setup d one

    its : List Event
    its = events_at setup d other

    n : ℕ
    n = length own

    back : List Event
    back = drop n its

    commands : map command_of own ≡ map command_of (take n its)
    commands =
        sym (take-append_seam (map command_of own) rest) ∙ ap₂ take (length-map own command_of) same ∙ take-map command_of n its

    front : own ≡ take n its
    front =
        same-events setup wired law runs [] own (take n its) [] back (rw append-nil (alone setup apart start d one a)) (subst (CanHappen setup) (sym (take-append-drop n its)) (alone setup apart start d other b)) commands
        (sound-at setup d one a.devices)
