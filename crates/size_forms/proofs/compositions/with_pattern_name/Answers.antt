use Rattle.size_arena.specs.Trees.{size_of}
use Rattle.size_forms.proofs.ComposeForms.{named_bound, named_wild, named_tuple, named_record, named_typed}
use Rattle.size_forms.proofs.compositions.with_pattern_name.Goals as goal

pub returns-in-Bound : goal.returns-in-Bound
returns-in-Bound c = named_bound c.args.pat.now (size_of c.args.size.now) c.args.names.now c.in-Bound.bind c.with_name.result c.in-Bound.is c.with_name.ensures

pub returns-in-Wild : goal.returns-in-Wild
returns-in-Wild c = named_wild c.args.pat.now (size_of c.args.size.now) c.args.names c.in-Wild.is

pub returns-in-Tuple : goal.returns-in-Tuple
returns-in-Tuple c = named_tuple c.args.pat.now (size_of c.args.size.now) c.args.names c.in-Tuple.field-0 c.in-Tuple.is

pub returns-in-Record : goal.returns-in-Record
returns-in-Record c = named_record c.args.pat.now (size_of c.args.size.now) c.args.names c.in-Record.field-0 c.in-Record.is

pub returns-in-Typed : goal.returns-in-Typed
returns-in-Typed c = named_typed c.args.pat.now (size_of c.args.size.now) c.args.names c.in-Typed.field-0 c.in-Typed.field-1 c.in-Typed.is
