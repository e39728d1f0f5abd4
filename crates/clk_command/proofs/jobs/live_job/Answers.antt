use Rattle.clk_command.proofs.jobs.live_job.Goals as goal

pub returns-in-None-None-clause-written : goal.returns-in-None-None-clause-written
returns-in-None-None-clause-written g c = rw (c.in-None-None.is-0, c.in-None-None.is-1) c.live_to.ensures.written

pub returns-in-None-Some-clause-written : goal.returns-in-None-Some-clause-written
returns-in-None-Some-clause-written g c = rw (c.in-None-Some.is-0, c.in-None-Some.is-1) c.live_visits_to.ensures.written

pub returns-in-Some-None-clause-written : goal.returns-in-Some-None-clause-written
returns-in-Some-None-clause-written g c = rw (c.in-Some-None.is-0, c.in-Some-None.is-1) c.live_to-in-Some-None.ensures.written

pub returns-in-Some-Some-clause-written : goal.returns-in-Some-Some-clause-written
returns-in-Some-Some-clause-written g c = rw (c.in-Some-Some.is-0, c.in-Some-Some.is-1) c.live_visits_to-in-Some-Some.ensures.written
