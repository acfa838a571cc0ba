use Rattle.elab_laws.proofs.Answers.{lawful_files_have_one_answer, tight_files_allow_no_more}
use Rattle.elab_laws.proofs.lawful_files_have_one_answer.Goals as goal

pub returns-clause-only : goal.returns-clause-only
returns-clause-only c = lawful_files_have_one_answer

pub returns-clause-tight : goal.returns-clause-tight
returns-clause-tight c = tight_files_allow_no_more
