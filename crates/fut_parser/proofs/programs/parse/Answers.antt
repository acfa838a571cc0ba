-- Each clause is a law of what was read.
use Rattle.std.proofs.Common.{Ok}
use Rattle.fut_grammar.proofs.Theorems.{is_found, is_only}
use Rattle.fut_parser.specs.Private.Answers.{answer_of}
use Rattle.fut_parser.proofs.Answering.{read_from, answered, explains, too_high, no_program, no_program_left_out, syntax_place, deep_place, left_out_place}
use Rattle.fut_parser.proofs.programs.parse.Goals as goal

pub returns-in-Ok-clause-found : goal.returns-in-Ok-clause-found
returns-in-Ok-clause-found c = (c.in-Ok.field-0-1, c.in-Ok.ensures.low, is_found c.args.tokens.now (Ok (c.in-Ok.program, c.in-Ok.field-0-1)) c.in-Ok.ensures.exact)

pub returns-in-Ok-clause-only : goal.returns-in-Ok-clause-only
returns-in-Ok-clause-only c = is_only c.args.tokens.now (Ok (c.in-Ok.program, c.in-Ok.field-0-1)) c.in-Ok.ensures.exact

pub returns-in-Ok-clause-reads : goal.returns-in-Ok-clause-reads
returns-in-Ok-clause-reads c = (c.in-Ok.field-0-1, c.in-Ok.ensures.exact)

pub returns-in-Err-Fault-clause-none : goal.returns-in-Err-Fault-clause-none
returns-in-Err-Fault-clause-none c = λ at e. no_program c.args.file c.args.tokens.now c.in-Err-Fault.fault at (read_from c.in-Err-Fault.fault c.args.tokens.now c.in-Err-Fault.field-0-is c.in-Err-Fault.ensures.exact) (answered (answer_of c.args.file c.args.tokens.now c.in-Err-Fault.fault) c.answer.ensures e)

pub returns-in-Err-Fault-clause-none_left_out : goal.returns-in-Err-Fault-clause-none_left_out
returns-in-Err-Fault-clause-none_left_out c = λ at what e. no_program_left_out c.args.file c.args.tokens.now c.in-Err-Fault.fault at what (read_from c.in-Err-Fault.fault c.args.tokens.now c.in-Err-Fault.field-0-is c.in-Err-Fault.ensures.exact) (answered (answer_of c.args.file c.args.tokens.now c.in-Err-Fault.fault) c.answer.ensures e)

pub returns-in-Err-Fault-clause-too_high : goal.returns-in-Err-Fault-clause-too_high
returns-in-Err-Fault-clause-too_high c = λ at e. too_high c.args.file c.args.tokens.now c.in-Err-Fault.fault at (read_from c.in-Err-Fault.fault c.args.tokens.now c.in-Err-Fault.field-0-is c.in-Err-Fault.ensures.exact) (answered (answer_of c.args.file c.args.tokens.now c.in-Err-Fault.fault) c.answer.ensures e)

pub returns-in-Err-Fault-clause-syntax : goal.returns-in-Err-Fault-clause-syntax
returns-in-Err-Fault-clause-syntax c = λ at e. syntax_place c.args.file c.args.tokens.now c.in-Err-Fault.fault at (read_from c.in-Err-Fault.fault c.args.tokens.now c.in-Err-Fault.field-0-is c.in-Err-Fault.ensures.exact) (answered (answer_of c.args.file c.args.tokens.now c.in-Err-Fault.fault) c.answer.ensures e)

pub returns-in-Err-Fault-clause-deep : goal.returns-in-Err-Fault-clause-deep
returns-in-Err-Fault-clause-deep c = λ at e. deep_place c.args.file c.args.tokens.now c.in-Err-Fault.fault at (read_from c.in-Err-Fault.fault c.args.tokens.now c.in-Err-Fault.field-0-is c.in-Err-Fault.ensures.exact) (answered (answer_of c.args.file c.args.tokens.now c.in-Err-Fault.fault) c.answer.ensures e)

pub returns-in-Err-Fault-clause-left_out : goal.returns-in-Err-Fault-clause-left_out
returns-in-Err-Fault-clause-left_out c = λ at what e. left_out_place c.args.file c.args.tokens.now c.in-Err-Fault.fault at what (read_from c.in-Err-Fault.fault c.args.tokens.now c.in-Err-Fault.field-0-is c.in-Err-Fault.ensures.exact) (answered (answer_of c.args.file c.args.tokens.now c.in-Err-Fault.fault) c.answer.ensures e)

pub returns-in-Err-Fault-clause-refuses : goal.returns-in-Err-Fault-clause-refuses
returns-in-Err-Fault-clause-refuses c = explains c.args.file c.args.tokens.now c.in-Err-Fault.fault (read_from c.in-Err-Fault.fault c.args.tokens.now c.in-Err-Fault.field-0-is c.in-Err-Fault.ensures.exact) c.answer.result c.answer.ensures
