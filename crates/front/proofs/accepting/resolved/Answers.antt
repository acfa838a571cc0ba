use Rattle.module_state.specs.Written.{files_of}
use Rattle.front.proofs.accepting.resolved.Goals as goal

pub returns-in-Err-clause-err : goal.returns-in-Err-clause-err
returns-in-Err-clause-err c = c.misnamed.ensures (files_of c.args.files.now) c.in-Err.ensures.refusal
