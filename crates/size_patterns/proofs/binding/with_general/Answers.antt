use Rattle.size_arena.specs.Trees.{size_of}
use Rattle.size_patterns.proofs.Results.{if_ok}
use Rattle.size_patterns.proofs.BindForms.{generally_named, generally_none, generally_tuple, generally_record, generally_typed}
use Rattle.size_patterns.proofs.binding.with_general.Goals as goal

pub returns-in-Bound : goal.returns-in-Bound
returns-in-Bound c = λ N types scope known. if_ok c.with_general_name.result (λ m h. generally_named N types c.args.pat.now (size_of c.args.size.now) scope m.now c.in-Bound.bind c.in-Bound.is h) (c.with_general_name.ensures scope known)

pub returns-in-Wild : goal.returns-in-Wild
returns-in-Wild c = λ N types scope known. generally_none N types c.args.pat.now (size_of c.args.size.now) scope c.args.names.now known c.in-Wild.is

pub returns-in-Tuple : goal.returns-in-Tuple
returns-in-Tuple c = λ N types scope known. generally_tuple N types c.args.pat.now (size_of c.args.size.now) scope c.args.names.now known c.in-Tuple.field-0 c.in-Tuple.is

pub returns-in-Record : goal.returns-in-Record
returns-in-Record c = λ N types scope known. generally_record N types c.args.pat.now (size_of c.args.size.now) scope c.args.names.now known c.in-Record.field-0 c.in-Record.is

pub returns-in-Typed : goal.returns-in-Typed
returns-in-Typed c = λ N types scope known. generally_typed N types c.args.pat.now (size_of c.args.size.now) scope c.args.names.now known c.in-Typed.field-0 c.in-Typed.field-1 c.in-Typed.is
