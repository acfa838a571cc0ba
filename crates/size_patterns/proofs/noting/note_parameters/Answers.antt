use Rattle.size_program.specs.Program.{sub_of}
use Rattle.size_patterns.proofs.NoteForms.{parameters_more, parameters_stop, parameters_end}
use Rattle.size_patterns.proofs.noting.note_parameters.Goals as goal

pub loop-parameter-preserved : goal.loop-parameter-preserved
loop-parameter-preserved c = λ N k. parameters_more N (sub_of c.args.program.now.types.now) c.args.parameters.now c.loop-parameter.parameter-index c.args.tables.now c.loop-parameter.tables _ (c.loop-parameter.invariant N k) c.note_pattern.new.tables c.note_pattern.result _ c.loop-parameter-test.true (c.note_pattern.ensures N k) c.in-Ok.field-0 c.in-Ok.is

pub returns-in-Err : goal.returns-in-Err
returns-in-Err c = λ N k. parameters_stop N (sub_of c.args.program.now.types.now) c.args.parameters.now c.loop-parameter.parameter-index c.args.tables.now c.loop-parameter.tables _ (c.loop-parameter.invariant N k) c.note_pattern.new.tables c.note_pattern.result _ c.loop-parameter-test.true (c.note_pattern.ensures N k) c.in-Err.error c.in-Err.is

pub returns : goal.returns
returns c = λ N k. parameters_end N (sub_of c.args.program.now.types.now) c.args.parameters.now c.loop-parameter.parameter-index c.args.tables.now c.loop-parameter.tables _ (c.loop-parameter.invariant N k) tt c.loop-parameter-test.false
