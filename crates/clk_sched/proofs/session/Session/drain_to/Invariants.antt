use Rattle.std.proofs.Common.{◌≡◌, ◌-◌, ◌≤◌}
use Rattle.clk_sched.specs.Departures.{departures_in, pulls_since, IsAddedTo}
use Rattle.clk_sched.specs.Session.{progress_of}
use Rattle.clk_sched.proofs.Sessions.SessionDrain.{IsDraining, Empties}
use Rattle.clk_sched.proofs.session.Session.drain_to.Given as goal

abbrev pub invariant-loop-given : goal.invariant-loop-given
invariant-loop-given g l =
    (l.made ≤ l.bound) × IsDraining g.Q.Ask.gives (progress_of l.initial.self) (progress_of l.self) l.initial.q l.q l.start l.made l.given l.left
    × Empties g.Q.Ask.gives g.Q.Ask.holds (progress_of l.initial.self) (progress_of l.self) l.initial.q l.q l.made l.given l.left
    × (l.self.keeps ≡ l.initial.self.keeps) × (l.self.gone ≡ l.initial.self.gone)
    × IsAddedTo l.initial.departures (departures_in (pulls_since (progress_of l.initial.self) (progress_of l.self))) l.departures

abbrev pub decreases-loop-given : goal.decreases-loop-given
decreases-loop-given g l = l.bound - l.made
