use Rattle.chunk_work.proofs.pairs_work.+fn-pairs_all-rest+pairs_all.Given as goal

abbrev pub decreases-rest : goal.decreases-rest
decreases-rest g l = l.others

abbrev pub decreases-pairs_all : goal.decreases-pairs_all
decreases-pairs_all g l = l.workers
