use Rattle.clk_sched.proofs.session.nodes.Nodes.pass_visits.Given as goal

abbrev pub ghost-pass_all : goal.ghost-pass_all
ghost-pass_all g a = g.visits
