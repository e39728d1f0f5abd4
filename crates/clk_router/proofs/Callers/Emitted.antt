-- What a device emitted is what its pulls returned.
use Rattle.std.proofs.Common.{◌≡◌, List, [], ◌∷◌, ◌++◌, map, refl, sym, ap₂, ◌∙◌, subst}
use Rattle.std.specs.List.{filter_map, AllByRecursion}
use Rattle.std.proofs.lemmas.List.Elements.{filter_map-append}
use Rattle.clk_sched.specs.Laws.Device.{IsDeviceTurn}
use Rattle.clk_sched.specs.Log.{visits_of, turn}
use Rattle.clk_sched.specs.Tree.{Tree}
use Rattle.clk_sched.specs.Results.{emitted}
use Rattle.clk_sched.proofs.Callers.Emitted.{emitted-append, result-passed}
use Rattle.clk_router.specs.Events.{Event, offered, pulled, log_of, pull_in, emitted_in, RunsTree}

pub emitted-given : (events : List Event) → AllByRecursion IsDeviceTurn (map (turn 0) (filter_map pull_in events)) → emitted (log_of events) ≡ filter_map emitted_in events
emitted-given [] device = refl
emitted-given (offered p outcome ∷ events) device = emitted-given events device
emitted-given (pulled d moment visits ∷ events) device =
    emitted-append visits (log_of events) ∙ ap₂ (λ a b. a ++ b) (result-passed (visits_of 0 visits) device.0.in_order) (emitted-given events device.1) ∙ sym (filter_map-append emitted_in (pulled d moment visits ∷ []) events)

-- the turns of a device are those of a run
pub its-turns : (tree : Tree) (events : List Event) → RunsTree tree events → AllByRecursion IsDeviceTurn (map (turn 0) (filter_map pull_in events))
its-turns tree events runs = subst (λ l. AllByRecursion IsDeviceTurn (map (turn 0) l)) runs.pull_by_pull runs.run.device

pub its-given : (tree : Tree) (events : List Event) → RunsTree tree events → emitted (log_of events) ≡ filter_map emitted_in events
its-given tree events runs = emitted-given events (its-turns tree events runs)
