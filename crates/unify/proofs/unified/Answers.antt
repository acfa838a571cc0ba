use Rattle.std.proofs.Common.{subst}
use Rattle.type_graph.proofs.Ends.{tells}
use Rattle.fut_types.specs.Shapes.{Shapes, Tells}
use Rattle.unify.specs.Substitutions.{IsSolved, Unifies, type_of}
use Rattle.unify.specs.Putting.{Blank}
use Rattle.unify.specs.Reading.{answer}
use Rattle.unify.proofs.Outcomes.{if_is}
use Rattle.unify.proofs.Solving.{tables_for, own_shapes, own_told, told_for, answer_solved, answer_unifies, bars_apart, endless_apart}
use Rattle.unify.proofs.unified.Goals as goal

pub returns-in-Err-load-clause-err : goal.returns-in-Err-load-clause-err
returns-in-Err-load-clause-err c = tells c.in-Err-load.error (λ h S told. bars_apart c.args.table.now c.in-Ok.nodes c.load.new.nodes c.load.new.entries c.args.subst.now (type_of c.args.left.now) (type_of c.args.right.now) (subst (λ n. Blank n c.in-Ok.nodes) c.len.ensures c.in-Ok.ensures.ok)
    S (h (tables_for S c.load.new.entries) (told_for c.args.table.now S c.load.new.entries told))) c.in-Err-load.ensures.err

pub returns-in-Ok-resolve-clause-solved : goal.returns-in-Ok-resolve-clause-solved
returns-in-Ok-resolve-clause-solved c = if_is c.read_back.result (answer c.load.new.nodes c.load.new.entries) (IsSolved c.args.table.now) c.read_back.ensures.ok
    (answer_solved c.args.table.now c.load.new.nodes c.load.new.entries c.in-Ok-load.ensures.extends.sound
    ((c.in-Ok-load.ensures.ok (tables_for (own_shapes c.args.table.now c.load.new.entries) c.load.new.entries) (told_for c.args.table.now (own_shapes c.args.table.now c.load.new.entries) c.load.new.entries (own_told c.args.table.now c.load.new.entries))).ready (c.in-Ok.ensures.ok.ready (tables_for (own_shapes c.args.table.now c.load.new.entries) c.load.new.entries)))
    c.in-Ok-resolve.ensures.ok)

pub returns-in-Ok-resolve-clause-ok : goal.returns-in-Ok-resolve-clause-ok
returns-in-Ok-resolve-clause-ok c = if_is c.read_back.result (answer c.load.new.nodes c.load.new.entries) (λ s. (S : Shapes) → Tells c.args.table.now S → Unifies S c.args.subst.now (type_of c.args.left.now) (type_of c.args.right.now) s) c.read_back.ensures.ok
    (λ S told. answer_unifies c.args.table.now c.in-Ok.nodes c.load.new.nodes c.load.new.entries c.args.subst.now (type_of c.args.left.now) (type_of c.args.right.now) (subst (λ n. Blank n c.in-Ok.nodes) c.len.ensures c.in-Ok.ensures.ok)
    S c.in-Ok-load.ensures.extends.sound.graph (c.in-Ok-load.ensures.ok (tables_for S c.load.new.entries) (told_for c.args.table.now S c.load.new.entries told)))

pub returns-clause-err : goal.returns-clause-err
returns-clause-err c = tells c.in-Err-resolve.error (λ h S told. endless_apart c.args.table.now c.in-Ok.nodes c.load.new.nodes c.load.new.entries c.args.subst.now (type_of c.args.left.now) (type_of c.args.right.now) (subst (λ n. Blank n c.in-Ok.nodes) c.len.ensures c.in-Ok.ensures.ok)
    S (c.in-Ok-load.ensures.ok (tables_for S c.load.new.entries) (told_for c.args.table.now S c.load.new.entries told)) (h (tables_for S c.load.new.entries) (told_for c.args.table.now S c.load.new.entries told).listed)) c.in-Err-resolve.ensures.err
