use Rattle.front.proofs.Answering.{one_answer, resolved_once, resolves_once}
use Rattle.front.proofs.laws.files_have_one_answer.Goals as goal

pub returns-clause-resolves : goal.returns-clause-resolves
returns-clause-resolves c = resolves_once

pub returns-clause-resolved : goal.returns-clause-resolved
returns-clause-resolved c = resolved_once

pub returns-clause-accepted : goal.returns-clause-accepted
returns-clause-accepted c = one_answer
