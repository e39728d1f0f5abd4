use Rattle.clk_sched.proofs.session.log.Log.pass_all.Given as goal

abbrev pub ghost-push_all : goal.ghost-push_all
ghost-push_all g a = g.visits
