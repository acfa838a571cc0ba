use Rattle.std.proofs.Common.{arith}
use Rattle.fut_flat.specs.Erased.{operation_of}
use Rattle.fut_typing.proofs.Ranges.{own_some}
use Rattle.fut_flat.specs.Terms.{Tuple_of, Array_of, Index, Update}
use Rattle.type_scopes.proofs.Claiming.{claimed_graph, ok_both}
use Rattle.type_constraints.proofs.Forms.{anywhere}
use Rattle.type_constraints.proofs.Graphs.{refused_graph}
use Rattle.type_patterns.proofs.Asking.{err_both}
use Rattle.type_constraints.proofs.Ruling.{rule, rule_ok, rule_err}
use Rattle.type_constraints.proofs.operations.constrain_any.Goals as goal

pub returns-in-Tuple-clause-ok : goal.returns-in-Tuple-clause-ok
returns-in-Tuple-clause-ok c = rw c.in-Tuple.is (ok_both c.tuple.result (λ x f depth from. rule_ok c.args.setting.places c.args.setting.base c.args.lo Tuple_of c.args.parts.now (λ N E K a l. tt) c.args.inference.now (record c.args.inference.now { nodes = c.tuple.new.nodes; entries = c.tuple.new.entries }) depth from (claimed_graph c.args.setting.places c.args.setting.base depth from (rule c.args.setting.places c.args.setting.base c.args.lo Tuple_of c.args.parts.now (λ N E K a l. tt) c.args.inference.now c.args.inference.now) anywhere c.args.inference.now c.tuple.new.nodes c.tuple.new.entries c.requires.safe x (λ N T born E r told. f T told N c.args.setting.places))) c.tuple.ensures.extends c.tuple.ensures.ok)

pub returns-in-Tuple-clause-err : goal.returns-in-Tuple-clause-err
returns-in-Tuple-clause-err c = rw c.in-Tuple.is (err_both c.tuple.result (λ un before depth from. rule_err c.args.setting.places c.args.setting.base c.args.lo Tuple_of c.args.parts.now (λ N E K a l. tt) c.args.inference.now (record c.args.inference.now { nodes = c.tuple.new.nodes; entries = c.tuple.new.entries }) depth from (refused_graph c.args.setting.places c.args.setting.base depth from (rule c.args.setting.places c.args.setting.base c.args.lo Tuple_of c.args.parts.now (λ N E K a l. tt) c.args.inference.now c.args.inference.now) anywhere c.args.inference.now c.tuple.new.nodes c.tuple.new.entries c.requires.safe before (λ N T E told. un T told N c.args.setting.places))) c.tuple.ensures.err c.tuple.ensures.before)

pub returns-in-Array-clause-ok : goal.returns-in-Array-clause-ok
returns-in-Array-clause-ok c = rw c.in-Array.is (ok_both c.array.result (λ x f depth from. rule_ok c.args.setting.places c.args.setting.base c.args.lo Array_of c.args.parts.now (λ N E K a l. tt) c.args.inference.now (record c.args.inference.now { nodes = c.array.new.nodes; entries = c.array.new.entries }) depth from (claimed_graph c.args.setting.places c.args.setting.base depth from (rule c.args.setting.places c.args.setting.base c.args.lo Array_of c.args.parts.now (λ N E K a l. tt) c.args.inference.now c.args.inference.now) anywhere c.args.inference.now c.array.new.nodes c.array.new.entries c.requires.safe x (λ N T born E r told. f T told N))) c.array.ensures.extends c.array.ensures.ok)

pub returns-in-Array-clause-err : goal.returns-in-Array-clause-err
returns-in-Array-clause-err c = rw c.in-Array.is (err_both c.array.result (λ un before depth from. rule_err c.args.setting.places c.args.setting.base c.args.lo Array_of c.args.parts.now (λ N E K a l. tt) c.args.inference.now (record c.args.inference.now { nodes = c.array.new.nodes; entries = c.array.new.entries }) depth from (refused_graph c.args.setting.places c.args.setting.base depth from (rule c.args.setting.places c.args.setting.base c.args.lo Array_of c.args.parts.now (λ N E K a l. tt) c.args.inference.now c.args.inference.now) anywhere c.args.inference.now c.array.new.nodes c.array.new.entries c.requires.safe before (λ N T E told. un T told N))) c.array.ensures.err c.array.ensures.before)

pub returns-in-Index-clause-ok : goal.returns-in-Index-clause-ok
returns-in-Index-clause-ok c = rw c.in-Index.is (ok_both c.index.result (λ x f depth from. rule_ok c.args.setting.places c.args.setting.base c.args.lo (Index c.in-Index.what.now) c.args.parts.now (λ N E K a l. tt) c.args.inference.now (record c.args.inference.now { nodes = c.index.new.nodes; entries = c.index.new.entries }) depth from (claimed_graph c.args.setting.places c.args.setting.base depth from (rule c.args.setting.places c.args.setting.base c.args.lo (Index c.in-Index.what.now) c.args.parts.now (λ N E K a l. tt) c.args.inference.now c.args.inference.now) anywhere c.args.inference.now c.index.new.nodes c.index.new.entries c.requires.safe x (λ N T born E r told. f T told N))) c.index.ensures.extends c.index.ensures.ok)

pub returns-in-Index-clause-err : goal.returns-in-Index-clause-err
returns-in-Index-clause-err c = rw c.in-Index.is (err_both c.index.result (λ un before depth from. rule_err c.args.setting.places c.args.setting.base c.args.lo (Index c.in-Index.what.now) c.args.parts.now (λ N E K a l. tt) c.args.inference.now (record c.args.inference.now { nodes = c.index.new.nodes; entries = c.index.new.entries }) depth from (refused_graph c.args.setting.places c.args.setting.base depth from (rule c.args.setting.places c.args.setting.base c.args.lo (Index c.in-Index.what.now) c.args.parts.now (λ N E K a l. tt) c.args.inference.now c.args.inference.now) anywhere c.args.inference.now c.index.new.nodes c.index.new.entries c.requires.safe before (λ N T E told. un T told N))) c.index.ensures.err c.index.ensures.before)

pub returns-in-Update-clause-ok : goal.returns-in-Update-clause-ok
returns-in-Update-clause-ok c = rw c.in-Update.is (ok_both c.update_at.result (λ x f depth from. rule_ok c.args.setting.places c.args.setting.base c.args.lo Update c.args.parts.now (λ N E K a l. tt) c.args.inference.now (record c.args.inference.now { nodes = c.update_at.new.nodes; entries = c.update_at.new.entries }) depth from (claimed_graph c.args.setting.places c.args.setting.base depth from (rule c.args.setting.places c.args.setting.base c.args.lo Update c.args.parts.now (λ N E K a l. tt) c.args.inference.now c.args.inference.now) anywhere c.args.inference.now c.update_at.new.nodes c.update_at.new.entries c.requires.safe x (λ N T born E r told. f T told N))) c.update_at.ensures.extends c.update_at.ensures.ok)

pub returns-in-Update-clause-err : goal.returns-in-Update-clause-err
returns-in-Update-clause-err c = rw c.in-Update.is (err_both c.update_at.result (λ un before depth from. rule_err c.args.setting.places c.args.setting.base c.args.lo Update c.args.parts.now (λ N E K a l. tt) c.args.inference.now (record c.args.inference.now { nodes = c.update_at.new.nodes; entries = c.update_at.new.entries }) depth from (refused_graph c.args.setting.places c.args.setting.base depth from (rule c.args.setting.places c.args.setting.base c.args.lo Update c.args.parts.now (λ N E K a l. tt) c.args.inference.now c.args.inference.now) anywhere c.args.inference.now c.update_at.new.nodes c.update_at.new.entries c.requires.safe before (λ N T E told. un T told N))) c.update_at.ensures.err c.update_at.ensures.before)

pub tuple-requires : goal.tuple-requires
tuple-requires c = record { table = c.requires.safe.table; sound = c.requires.safe.sound; base = c.requires.safe.inside; id = omega (arith, c.requires.room, own_some (operation_of c.args.act.now)); parts = c.requires.parts }

pub array-requires : goal.array-requires
array-requires c = record { table = c.requires.safe.table; sound = c.requires.safe.sound; base = c.requires.safe.inside; id = omega (arith, c.requires.room, own_some (operation_of c.args.act.now)); parts = c.requires.parts }

pub index-requires : goal.index-requires
index-requires c = record { table = c.requires.safe.table; sound = c.requires.safe.sound; base = c.requires.safe.inside; id = omega (arith, c.requires.room, own_some (operation_of c.args.act.now)); parts = c.requires.parts }

pub update_at-requires : goal.update_at-requires
update_at-requires c = record { table = c.requires.safe.table; sound = c.requires.safe.sound; base = c.requires.safe.inside; id = omega (arith, c.requires.room, own_some (operation_of c.args.act.now)); parts = c.requires.parts }
