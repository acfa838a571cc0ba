use Rattle.std.proofs.Common.{refl}
use Rattle.std.proofs.lemmas.Result.{err_from_is_err_and}
use Rattle.size_program.specs.Program.{sub_of}
use Rattle.size_check.proofs.ProgramLaws.{all_done, knows_nothing, none_sized, one_more, one_refused, program_refused, program_sized}
use Rattle.size_check.proofs.definitions.check.Goals as goal

pub loop-definition-init : goal.loop-definition-init
loop-definition-init c = none_sized (sub_of c.args.program.now.types.now) c.args.program.now c.args.flat.now.definitions.now c.in-Ok-no_tables.tables _ (knows_nothing c.in-Ok.names.now (λ n. c.in-Ok.ensures n)) refl

pub returns-in_err-behind : goal.returns-in_err-behind
returns-in_err-behind c =
    let p = err_from_is_err_and c.from_residual.result c.from_residual.ensures.1 in
    rw (p.1, p.2) (λ N knows. program_refused (sub_of c.args.program.now.types.now) c.args.program.now c.args.flat.now.definitions.now c.in-Ok-no_tables.tables N c.in-Ok-no_tables.ensures _ _ (one_refused (sub_of c.args.program.now.types.now) c.args.program.now c.args.flat.now.definitions.now c.in-Ok-no_tables.tables c.loop-definition.definition-index c.loop-definition.behind c.loop-definition.tables c.loop-definition.invariant _ c.loop-definition-test.true N knows _ _ c.in_err-behind.ensures.sized))

pub loop-definition-preserved : goal.loop-definition-preserved
loop-definition-preserved c = one_more (sub_of c.args.program.now.types.now) c.args.program.now c.args.flat.now.definitions.now c.in-Ok-no_tables.tables c.loop-definition.definition-index c.loop-definition.behind c.loop-definition.tables c.loop-definition.invariant _ c.loop-definition-test.true c.in_ok-behind.behind _ c.in_ok-behind.ensures.sized c.in_ok-behind.ensures.next

pub returns : goal.returns
returns c = λ N knows. program_sized (sub_of c.args.program.now.types.now) c.args.program.now c.args.flat.now.definitions.now c.in-Ok-no_tables.tables N c.in-Ok-no_tables.ensures c.loop-definition.tables c.loop-definition.behind (all_done (sub_of c.args.program.now.types.now) c.args.program.now c.args.flat.now.definitions.now c.in-Ok-no_tables.tables c.loop-definition.definition-index c.loop-definition.behind c.loop-definition.tables c.loop-definition.invariant N knows c.loop-definition-test.false)
