use Rattle.test_calls.proofs.tables.+fn-work_all-rest+work_all.Given as goal

abbrev pub decreases-rest : goal.decreases-rest
decreases-rest g l = l.others

abbrev pub decreases-work_all : goal.decreases-work_all
decreases-work_all g l = l.workers
