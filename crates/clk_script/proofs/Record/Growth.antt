-- A record that is written line by line goes on fitting.
use Rattle.std.proofs.Common.{◌<◌, List, [], ◌∷◌, ◌++◌, length, None, length-append, rules}
use Rattle.std.proofs.lemmas.List.Elements.{filter_map-append}
use Rattle.clk_packet.proofs.Callers.Lists.{all-append}
use Rattle.clk_router.specs.Events.{Setup, Event}
use Rattle.clk_script.specs.declared.limits.TheConstants.{MAX_LINES}
use Rattle.clk_script.specs.Record.{FitsLimits, FitsNames, FitsScript}

pub limits-more : (events : List Event) (event : Event) → FitsLimits events None → FitsLimits (event ∷ []) None → length events < MAX_LINES → FitsLimits (events ++ event ∷ []) None
limits-more events event fits one few = search (rules, filter_map-append, all-append, length-append)

pub script-more : (setup : Setup) (events : List Event) (event : Event) → FitsScript setup events None → FitsScript setup (event ∷ []) None → length events < MAX_LINES → FitsScript setup (events ++ event ∷ []) None
script-more setup events event fits one few = record {
  names = all-append (FitsNames setup) events (event ∷ []) fits.names one.names;
  limits = limits-more events event fits.limits one.limits few;
}
