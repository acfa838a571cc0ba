use Rattle.phase_model.proofs.Law.{always_kept, ended_run}
use Rattle.phase_model.proofs.Words.{words_follow}
use Rattle.phase_model.proofs.ended_run_is_outcome.Goals as goal

pub returns-clause-kept : goal.returns-clause-kept
returns-clause-kept c = always_kept

pub returns-clause-words : goal.returns-clause-words
returns-clause-words c = words_follow

pub returns-clause-outcome : goal.returns-clause-outcome
returns-clause-outcome c = ended_run
