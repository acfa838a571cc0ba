use Rattle.elab_laws.proofs.Programs.{same_reports, same_results}
use Rattle.elab_laws.proofs.elaborated_gives_the_same.Goals as goal

pub returns-clause-results : goal.returns-clause-results
returns-clause-results c = same_results

pub returns-clause-reports : goal.returns-clause-reports
returns-clause-reports c = same_reports
