use Rattle.type_rules.proofs.Adding.{on_ok, if_err}
use Rattle.type_rules.proofs.Ones.{known_scalar, known_array, known_fun, known_tuple, pair_within, triple_within, pair_adds, pair_nowhere, triple_adds, triple_nowhere, same_within, has_within, is_within, array_within, fun_within, part_within, same_adds, same_nowhere, has_adds, has_nowhere, is_adds, is_nowhere, array_adds, array_nowhere, fun_adds, fun_nowhere, part_adds, part_nowhere}
use Rattle.type_rules.proofs.demand.put_one.Goals as goal

pub assert_task-requires-clause-within : goal.assert_task-requires-clause-within
assert_task-requires-clause-within c = same_within c.args.table.now c.args.base c.args.demand c.requires.within c.in-Same.i c.in-Same.j c.in-Same.is

pub returns-in-Same-clause-ok : goal.returns-in-Same-clause-ok
returns-in-Same-clause-ok c = on_ok c.assert_task.result (λ h T told. same_adds T c.args.base c.args.demand c.args.nodes.now c.assert_task.new.nodes c.in-Same.i c.in-Same.j c.in-Same.is (h T told)) c.assert_task.ensures.ok

pub returns-in-Same-clause-err : goal.returns-in-Same-clause-err
returns-in-Same-clause-err c = if_err c.assert_task.result (λ h T told. same_nowhere T c.args.base c.args.demand c.args.nodes.now c.assert_task.new.nodes c.in-Same.i c.in-Same.j c.in-Same.is (h T told)) c.assert_task.ensures.err

pub assert_task-requires-in-Has-clause-within : goal.assert_task-requires-in-Has-clause-within
assert_task-requires-in-Has-clause-within c = has_within c.args.table.now c.args.base c.args.demand c.requires.within c.in-Has.i c.in-Has.kind 4294967295 c.in-Has.is

pub returns-in-Has-clause-ok : goal.returns-in-Has-clause-ok
returns-in-Has-clause-ok c = on_ok c.assert_task-in-Has.result (λ h T told. has_adds T c.args.base c.args.demand c.args.nodes.now c.assert_task-in-Has.new.nodes c.in-Has.i c.in-Has.kind c.in-Has.is (h T told)) c.assert_task-in-Has.ensures.ok

pub returns-in-Has-clause-err : goal.returns-in-Has-clause-err
returns-in-Has-clause-err c = if_err c.assert_task-in-Has.result (λ h T told. has_nowhere T c.args.base c.args.demand c.args.nodes.now c.assert_task-in-Has.new.nodes c.in-Has.i c.in-Has.kind c.in-Has.is (h T told)) c.assert_task-in-Has.ensures.err

pub assert_made-requires-clause-number : goal.assert_made-requires-clause-number
assert_made-requires-clause-number c = (is_within c.args.table.now c.args.base c.args.demand c.requires.within c.in-Is.i c.in-Is.scalar c.in-Is.is)

pub assert_made-requires-clause-head : goal.assert_made-requires-clause-head
assert_made-requires-clause-head c = known_scalar c.args.table.now c.in-Is.scalar

pub returns-in-Is-clause-ok : goal.returns-in-Is-clause-ok
returns-in-Is-clause-ok c = on_ok c.assert_made.result (λ h T told. is_adds T c.args.base c.args.demand c.args.nodes.now c.assert_made.new.nodes c.in-Is.i c.in-Is.scalar c.in-Is.is (h T told)) c.assert_made.ensures.ok

pub returns-in-Is-clause-err : goal.returns-in-Is-clause-err
returns-in-Is-clause-err c = if_err c.assert_made.result (λ h T told. is_nowhere T c.args.base c.args.demand c.args.nodes.now c.assert_made.new.nodes c.in-Is.i c.in-Is.scalar c.in-Is.is (h T told)) c.assert_made.ensures.err

pub assert_made-requires-in-Array-clause-number : goal.assert_made-requires-in-Array-clause-number
assert_made-requires-in-Array-clause-number c = (array_within c.args.table.now c.args.base c.args.demand c.requires.within c.in-Array.i c.in-Array.j c.in-Array.is).0

pub assert_made-requires-in-Array-clause-head : goal.assert_made-requires-in-Array-clause-head
assert_made-requires-in-Array-clause-head c = known_array c.args.table.now

pub assert_made-requires-in-Array-clause-parts : goal.assert_made-requires-in-Array-clause-parts
assert_made-requires-in-Array-clause-parts c = ((array_within c.args.table.now c.args.base c.args.demand c.requires.within c.in-Array.i c.in-Array.j c.in-Array.is).1, tt)

pub returns-in-Array-clause-ok : goal.returns-in-Array-clause-ok
returns-in-Array-clause-ok c = on_ok c.assert_made-in-Array.result (λ h T told. array_adds T c.args.base c.args.demand c.args.nodes.now c.assert_made-in-Array.new.nodes c.in-Array.i c.in-Array.j c.in-Array.is (h T told)) c.assert_made-in-Array.ensures.ok

pub returns-in-Array-clause-err : goal.returns-in-Array-clause-err
returns-in-Array-clause-err c = if_err c.assert_made-in-Array.result (λ h T told. array_nowhere T c.args.base c.args.demand c.args.nodes.now c.assert_made-in-Array.new.nodes c.in-Array.i c.in-Array.j c.in-Array.is (h T told)) c.assert_made-in-Array.ensures.err

pub assert_made-requires-in-Fun-clause-number : goal.assert_made-requires-in-Fun-clause-number
assert_made-requires-in-Fun-clause-number c = (fun_within c.args.table.now c.args.base c.args.demand c.requires.within c.in-Fun.i c.in-Fun.from c.in-Fun.to c.in-Fun.is).0

pub assert_made-requires-in-Fun-clause-head : goal.assert_made-requires-in-Fun-clause-head
assert_made-requires-in-Fun-clause-head c = known_fun c.args.table.now

pub assert_made-requires-in-Fun-clause-parts : goal.assert_made-requires-in-Fun-clause-parts
assert_made-requires-in-Fun-clause-parts c = let w = fun_within c.args.table.now c.args.base c.args.demand c.requires.within c.in-Fun.i c.in-Fun.from c.in-Fun.to c.in-Fun.is in (w.1, (w.2, tt))

pub returns-in-Fun-clause-ok : goal.returns-in-Fun-clause-ok
returns-in-Fun-clause-ok c = on_ok c.assert_made-in-Fun.result (λ h T told. fun_adds T c.args.base c.args.demand c.args.nodes.now c.assert_made-in-Fun.new.nodes c.in-Fun.i c.in-Fun.from c.in-Fun.to c.in-Fun.is (h T told)) c.assert_made-in-Fun.ensures.ok

pub returns-in-Fun-clause-err : goal.returns-in-Fun-clause-err
returns-in-Fun-clause-err c = if_err c.assert_made-in-Fun.result (λ h T told. fun_nowhere T c.args.base c.args.demand c.args.nodes.now c.assert_made-in-Fun.new.nodes c.in-Fun.i c.in-Fun.from c.in-Fun.to c.in-Fun.is (h T told)) c.assert_made-in-Fun.ensures.err

pub assert_task-requires-in-Part-clause-within : goal.assert_task-requires-in-Part-clause-within
assert_task-requires-in-Part-clause-within c = part_within c.args.table.now c.args.base c.args.demand c.requires.within c.in-Part.i c.in-Part.label c.in-Part.part c.in-Part.is

pub returns-in-Part-clause-ok : goal.returns-in-Part-clause-ok
returns-in-Part-clause-ok c = on_ok c.assert_task-in-Part.result (λ h T told. part_adds T c.args.base c.args.demand c.args.nodes.now c.assert_task-in-Part.new.nodes c.in-Part.i c.in-Part.label c.in-Part.part c.in-Part.is (h T told)) c.assert_task-in-Part.ensures.ok

pub returns-in-Part-clause-err : goal.returns-in-Part-clause-err
returns-in-Part-clause-err c = if_err c.assert_task-in-Part.result (λ h T told. part_nowhere T c.args.base c.args.demand c.args.nodes.now c.assert_task-in-Part.new.nodes c.in-Part.i c.in-Part.label c.in-Part.part c.in-Part.is (h T told)) c.assert_task-in-Part.ensures.err

pub assert_made-requires-in-Pair-clause-number : goal.assert_made-requires-in-Pair-clause-number
assert_made-requires-in-Pair-clause-number c = (pair_within c.args.table.now c.args.base c.args.demand c.requires.within c.in-Pair.i c.in-Pair.first c.in-Pair.second c.in-Pair.is).0

pub assert_made-requires-in-Pair-clause-head : goal.assert_made-requires-in-Pair-clause-head
assert_made-requires-in-Pair-clause-head c = known_tuple c.args.table.now

pub assert_made-requires-in-Pair-clause-parts : goal.assert_made-requires-in-Pair-clause-parts
assert_made-requires-in-Pair-clause-parts c = let w = pair_within c.args.table.now c.args.base c.args.demand c.requires.within c.in-Pair.i c.in-Pair.first c.in-Pair.second c.in-Pair.is in (w.1, (w.2, tt))

pub returns-in-Pair-clause-ok : goal.returns-in-Pair-clause-ok
returns-in-Pair-clause-ok c = on_ok c.assert_made-in-Pair.result (λ h T told. pair_adds T c.args.base c.args.demand c.args.nodes.now c.assert_made-in-Pair.new.nodes c.in-Pair.i c.in-Pair.first c.in-Pair.second c.in-Pair.is (h T told)) c.assert_made-in-Pair.ensures.ok

pub returns-in-Pair-clause-err : goal.returns-in-Pair-clause-err
returns-in-Pair-clause-err c = if_err c.assert_made-in-Pair.result (λ h T told. pair_nowhere T c.args.base c.args.demand c.args.nodes.now c.assert_made-in-Pair.new.nodes c.in-Pair.i c.in-Pair.first c.in-Pair.second c.in-Pair.is (h T told)) c.assert_made-in-Pair.ensures.err

pub assert_made-requires-in-Triple-clause-number : goal.assert_made-requires-in-Triple-clause-number
assert_made-requires-in-Triple-clause-number c = (triple_within c.args.table.now c.args.base c.args.demand c.requires.within c.in-Triple.i c.in-Triple.first c.in-Triple.second c.in-Triple.third c.in-Triple.is).0

pub assert_made-requires-in-Triple-clause-head : goal.assert_made-requires-in-Triple-clause-head
assert_made-requires-in-Triple-clause-head c = known_tuple c.args.table.now

pub assert_made-requires-in-Triple-clause-parts : goal.assert_made-requires-in-Triple-clause-parts
assert_made-requires-in-Triple-clause-parts c = let w = triple_within c.args.table.now c.args.base c.args.demand c.requires.within c.in-Triple.i c.in-Triple.first c.in-Triple.second c.in-Triple.third c.in-Triple.is in (w.1, (w.2, (w.3, tt)))

pub returns-in-Triple-clause-ok : goal.returns-in-Triple-clause-ok
returns-in-Triple-clause-ok c = on_ok c.assert_made-in-Triple.result (λ h T told. triple_adds T c.args.base c.args.demand c.args.nodes.now c.assert_made-in-Triple.new.nodes c.in-Triple.i c.in-Triple.first c.in-Triple.second c.in-Triple.third c.in-Triple.is (h T told)) c.assert_made-in-Triple.ensures.ok

pub returns-in-Triple-clause-err : goal.returns-in-Triple-clause-err
returns-in-Triple-clause-err c = if_err c.assert_made-in-Triple.result (λ h T told. triple_nowhere T c.args.base c.args.demand c.args.nodes.now c.assert_made-in-Triple.new.nodes c.in-Triple.i c.in-Triple.first c.in-Triple.second c.in-Triple.third c.in-Triple.is (h T told)) c.assert_made-in-Triple.ensures.err
