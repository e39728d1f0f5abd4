use Rattle.std.proofs.Common.{◌≡◌, ◌+◌, true, false, length, max, Ok, IsOk, refl, sym, ap, ◌∙◌, subst, arith}
use Rattle.std.proofs.lemmas.Bool.{false≢true}
use Rattle.std.proofs.lemmas.List.{length-append, drop_all}
use Rattle.clk_sched.specs.Tree.{leaves_distinct}
use Rattle.clk_sched.specs.Drain.{drain_start, GivesAll}
use Rattle.clk_sched.specs.Keeps.{grows}
use Rattle.clk_sched.specs.Log.{pulls}
use Rattle.clk_sched.specs.Run.{IsRun}
use Rattle.clk_sched.specs.Session.{progress_of}
use Rattle.clk_sched.proofs.Sessions.SessionDrain.{draining-first, drain-step, draining-all, given-one, given-none}
use Rattle.clk_sched.proofs.Closing.Emptied.{emptied-first}
use Rattle.clk_sched.specs.Departures.{departure_at, departures_in, IsAddedTo}
use Rattle.clk_sched.proofs.Sessions.Departed.{added-none, added-more}
use Rattle.clk_sched.proofs.session.Session.drain_to.Goals as goal

pub loop-given-init : goal.loop-given-init
loop-given-init g c =
    let s = progress_of c.args.self.now in
    let run = subst (λ s. IsRun s.tree s.log) c.self.view_is c.self.invariant.0.run in (
      omega arith,
      draining-first g.Q.Ask.gives s c.args.q.now c.max-start.result c.args.left run (let start = c.max-start.ensures in let now = c.now.ensures.moment in omega (arith, start, now)),
      (λ keeps is. emptied-first c.args.self.now.tree c.args.self.now.log (g.Q.Ask.holds c.args.q.now) c.args.left c.bound-bound.ensures.sound run is),
      refl,
      refl,
      subst (λ more. IsAddedTo c.args.departures.now (departures_in more) c.args.departures.now) (sym (drop_all (length (pulls s.log)) (pulls s.log) (omega arith))) (added-none c.args.departures.now),
    )

pub loop-given-preserved-then-is_some : goal.loop-given-preserved-then-is_some
loop-given-preserved-then-is_some g c =
    let step =
    drain-step g.Q.Ask.gives g.Q.Ask.holds (progress_of c.args.self.now) (progress_of c.loop-given.self) (progress_of c.pull.new.self) c.args.q.now c.loop-given.q c.pull.new.q c.max-start.result c.loop-given.made c.loop-given.given c.args.left c.in_ok-got.got
    c.bound-bound.ensures.sound (subst (λ s. leaves_distinct s.tree ≡ true) c.self.view_is c.self.invariant.2)
    c.loop-given.invariant.1 c.loop-given.invariant.2 c.loop-given-test.true c.in_ok-got.ensures.pulled c.in_ok-got.ensures.answers
    in
    let departed =
    added-more c.args.departures.now c.loop-given.departures c.reserve.new.self c.add.new.self (progress_of c.args.self.now) (progress_of c.loop-given.self) (progress_of c.pull.new.self) c.loop-given.invariant.1.drained.more (c.max-start.result + c.loop-given.made + 1) c.in_ok-got.got
    c.loop-given.invariant.5 c.loop-given.invariant.1.drained.pulls_are (let l = c.loop-given.invariant.1.counted in omega (arith, l)) c.in_ok-got.ensures.pulled c.reserve.ensures.same (subst (λ n. IsAddedTo c.reserve.new.self (departure_at n c.in_ok-got.got) c.add.new.self) (let at : c.max-start.result + (c.loop-given.made + 1) ≡ c.max-start.result + c.loop-given.made + 1 = omega arith in at) c.add.ensures)
    in
    let one = given-one g.Q.Ask.gives g.Q.Ask.holds (progress_of c.args.self.now) (progress_of c.pull.new.self) c.args.q.now c.pull.new.q c.max-start.result (c.loop-given.made + 1) c.loop-given.given c.args.left c.in_ok-got.got (sym c.is_some.ensures ∙ c.if-is_some.true) step in
    (omega arith, one.0, one.1, c.pull.ensures.keeps ∙ c.loop-given.invariant.3, c.pull.ensures.gone ∙ c.loop-given.invariant.4, departed)

pub loop-given-preserved : goal.loop-given-preserved
loop-given-preserved g c =
    let step =
    drain-step g.Q.Ask.gives g.Q.Ask.holds (progress_of c.args.self.now) (progress_of c.loop-given.self) (progress_of c.pull.new.self) c.args.q.now c.loop-given.q c.pull.new.q c.max-start.result c.loop-given.made c.loop-given.given c.args.left c.in_ok-got.got
    c.bound-bound.ensures.sound (subst (λ s. leaves_distinct s.tree ≡ true) c.self.view_is c.self.invariant.2)
    c.loop-given.invariant.1 c.loop-given.invariant.2 c.loop-given-test.true c.in_ok-got.ensures.pulled c.in_ok-got.ensures.answers
    in
    let departed =
    added-more c.args.departures.now c.loop-given.departures c.reserve.new.self c.add.new.self (progress_of c.args.self.now) (progress_of c.loop-given.self) (progress_of c.pull.new.self) c.loop-given.invariant.1.drained.more (c.max-start.result + c.loop-given.made + 1) c.in_ok-got.got
    c.loop-given.invariant.5 c.loop-given.invariant.1.drained.pulls_are (let l = c.loop-given.invariant.1.counted in omega (arith, l)) c.in_ok-got.ensures.pulled c.reserve.ensures.same (subst (λ n. IsAddedTo c.reserve.new.self (departure_at n c.in_ok-got.got) c.add.new.self) (let at : c.max-start.result + (c.loop-given.made + 1) ≡ c.max-start.result + c.loop-given.made + 1 = omega arith in at) c.add.ensures)
    in
    let none = given-none g.Q.Ask.gives g.Q.Ask.holds (progress_of c.args.self.now) (progress_of c.pull.new.self) c.args.q.now c.pull.new.q c.max-start.result (c.loop-given.made + 1) c.loop-given.given c.args.left c.in_ok-got.got (sym c.is_some.ensures ∙ c.if-is_some.false) step in
    (omega arith, none.0, none.1, c.pull.ensures.keeps ∙ c.loop-given.invariant.3, c.pull.ensures.gone ∙ c.loop-given.invariant.4, departed)

pub returns-clause-drained : goal.returns-clause-drained
returns-clause-drained g c =
    let most : c.max-start.result ≡ drain_start c.args.self.now c.args.moment = c.max-start.ensures ∙ ap (λ n. max n c.args.moment) c.now.ensures.moment in
    let kept = c.loop-given.invariant.3 in
    let gone = c.loop-given.invariant.4 in
    record {
      all = subst (λ m. GivesAll (progress_of c.args.self.now) (progress_of c.loop-given.self) m c.loop-given.made c.args.left) most
          (draining-all g.Q.Ask.gives (progress_of c.args.self.now) (progress_of c.loop-given.self) c.args.q.now c.loop-given.q c.max-start.result c.loop-given.made c.loop-given.given c.args.left c.loop-given.invariant.1 (let f = c.loop-given-test.false in omega (arith, f))
          (let few = c.loop-given.invariant.0 in let all = c.bound-bound.ensures.value in omega (arith, few, all)));
      short = tt;
      none_left = λ none. let idle = c.loop-given.invariant.1.idle none in (ap Ok idle.0, λ i. record { tree = (idle.1 i).tree; log = (idle.1 i).log; keeps = kept i; gone = gone i }, idle.2);
      ends = λ keeps exact. tt;
      keeps = kept;
      gone = gone;
      answers = c.loop-given.invariant.1.answers;
    }

pub returns-in_err-got-clause-steady : goal.returns-in_err-got-clause-steady
returns-in_err-got-clause-steady g c steady few dropped =
    let drained = c.loop-given.invariant.1.drained in
    let pulled = ap length drained.pulls_are ∙ length-append (pulls (progress_of c.args.self.now).log) drained.more in
    let made = drained.made_are in
    let within = c.loop-given.invariant.0 in
    let low = c.bound-bound.ensures.limit in
    let ok = c.pull.ensures.steady (subst (λ keeps. grows keeps ≡ false) (sym c.loop-given.invariant.3) steady) (omega (arith, few, pulled, made, within, low)) in
    absurd (false≢true (subst IsOk c.in_err-got.was ok))
