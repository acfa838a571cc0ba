use Rattle.std.proofs.Common.{length}
use Rattle.module_state.specs.Written.{files_of}
use Rattle.front.proofs.Gathering.{accepted, long, told_cyclic, told_refused}
use Rattle.front.proofs.files.accept.Goals as goal

pub returns-in-Ok-Some-clause-refused : goal.returns-in-Ok-Some-clause-refused
returns-in-Ok-Some-clause-refused g c =
    let files = c.in-Ok.files.now in
    let cycle = rw c.in-Ok-Some.field-0-is at c.in-Ok-Some.ensures in
    told_cyclic c.args.file.now _ _ (files_of files) c.in-Ok.ensures.ok c.in-Ok.ensures.same (length files) c.in-Ok-Some.number c.refused_in.result.path c.refused_in.result.why (long files) cycle c.refused_in.ensures

pub returns-in-Ok-accept_files-clause-accepted : goal.returns-in-Ok-accept_files-clause-accepted
returns-in-Ok-accept_files-clause-accepted g c =
    let files = c.in-Ok.files.now in
    let none = rw c.in-Ok-None.field-0-is at c.in-Ok-None.ensures in
    accepted c.args.file.now _ _ (files_of files) c.in-Ok.ensures.ok c.in-Ok.ensures.same (length files) (long files) none _ _ c.in-Ok-accept_files.ensures.accepted

pub returns-in-Err-accept_files-clause-refused : goal.returns-in-Err-accept_files-clause-refused
returns-in-Err-accept_files-clause-refused g c =
    let files = c.in-Ok.files.now in
    let none = rw c.in-Ok-None.field-0-is at c.in-Ok-None.ensures in
    told_refused c.args.file.now _ _ (files_of files) c.in-Ok.ensures.ok c.in-Ok.ensures.same (length files) (long files) none c.refused_at-number.result c.in-Err-accept_files.why c.refused_in-in-Err-accept_files.result.path c.refused_in-in-Err-accept_files.result.why c.refused_at-number.ensures c.in-Err-accept_files.ensures.refused c.refused_in-in-Err-accept_files.ensures
