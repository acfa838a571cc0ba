use Rattle.fut_typing.specs.Program.{program_of}
use Rattle.type_infer.proofs.Results.{shown}
use Rattle.type_infer.proofs.Answering.{no_type, function_place}
use Rattle.type_infer.proofs.refusal.Goals as goal

pub returns-in-Ok-clause-why : goal.returns-in-Ok-clause-why
returns-in-Ok-clause-why c = function_place (program_of c.args.flat.now) c.args.inference.now c.build.new.inference c.requires.lacks c.in-Ok.ensures.keeps c.in-Ok.ensures.ok

pub returns-in-Err-Untyped-clause-why : goal.returns-in-Err-Untyped-clause-why
returns-in-Err-Untyped-clause-why c = no_type (program_of c.args.flat.now) c.args.inference.now c.build.new.inference c.requires.lacks (shown c.in-Err-Untyped.field-0 _ c.in-Err-Untyped.field-0-is c.in-Err-Untyped.ensures.keeps_err) (shown c.in-Err-Untyped.field-0 _ c.in-Err-Untyped.field-0-is c.in-Err-Untyped.ensures.err)
