-- What comes out in a drain, pull by pull.
use Rattle.std.proofs.Common.{◌≡◌, ℕ, ◌≤◌, List, [], ◌++◌, Option, sym, subst, append-nil, append_assoc, rules}
use Rattle.std.proofs.Math.Seq.{drop-append_seam}
use Rattle.std.proofs.lemmas.List.Concat.{flat_map-append}
use Rattle.clk_packet.specs.declared.packet.Packet.{Packet}
use Rattle.clk_sched.specs.declared.visit.Visit.{Visit}
use Rattle.clk_sched.specs.declared.session.departures.Departure.{Departure}
use Rattle.clk_sched.specs.declared.session.departures.Departures.{Departures}
use Rattle.clk_sched.specs.Log.{pulls}
use Rattle.clk_sched.specs.Session.{Progress, IsPulledOnce, counted_moment}
use Rattle.clk_sched.specs.Departures.{departure_at, departures_in, pulls_since, IsAddedTo}

-- Nothing was added, or some after others.
pub added-none : (a : Departures) → IsAddedTo a [] a
added-none a = search rules

pub added-then : (a b c : Departures) (xs ys : List Departure) → IsAddedTo a xs b → IsAddedTo b ys c → IsAddedTo a (xs ++ ys) c
added-then a b c xs ys h k = search (rules, append_assoc)

pub added-same : (a b c : Departures) (xs : List Departure) → IsAddedTo a xs b → IsAddedTo b [] c → IsAddedTo a xs c
added-same a b c xs h k = subst (λ l. IsAddedTo a l c) (append-nil xs) (added-then a b c xs [] h k)

-- what one pull more gave
pub departed-more : (old s t : Progress) (more : List (List Visit)) (moment : ℕ) (got : Option Packet) → pulls s.log ≡ pulls old.log ++ more → counted_moment s ≤ moment → IsPulledOnce s t moment got
    → departures_in (pulls_since old t) ≡ departures_in (pulls_since old s) ++ departure_at moment got
departed-more old s t more moment got were counted once = search (rules, flat_map-append, append-nil, drop-append_seam, append_assoc)

-- It is added to what is kept.
pub added-more : (a b c d : Departures) (old s t : Progress) (more : List (List Visit)) (moment : ℕ) (got : Option Packet) → IsAddedTo a (departures_in (pulls_since old s)) b → pulls s.log ≡ pulls old.log ++ more → counted_moment s ≤ moment
    → IsPulledOnce s t moment got → IsAddedTo b [] c → IsAddedTo c (departure_at moment got) d → IsAddedTo a (departures_in (pulls_since old t)) d
added-more a b c d old s t more moment got before were counted once same added =
    subst (λ l. IsAddedTo a l d) (sym (departed-more old s t more moment got were counted once))
    (added-then a c d (departures_in (pulls_since old s)) (departure_at moment got) (added-same a b c (departures_in (pulls_since old s)) before same) added)
