use Rattle.clickpull_c.proofs.pulling.pull_often.Goals as goal

pub returns-in-Some-clause-refused : goal.returns-in-Some-clause-refused
returns-in-Some-clause-refused c = rw c.deref.ensures at c.in-Some.ensures.refused
