use Rattle.std.proofs.Common.{arith}
use Rattle.fut_scalar.specs.declared.scalar.ScalarType.TheVariants as scalar
use Rattle.fut_scalar.specs.declared.scalar.IntType.TheVariants as int
use Rattle.fut_types.specs.declared.Kind.TheVariants as kind
use Rattle.type_rules.proofs.Adding.{on_ok, if_err, tells}
use Rattle.type_patterns.proofs.Own.{safe_own, own_one}
use Rattle.type_patterns.proofs.Using.{sized_ok, sized_err1, sized_err2, is_within}
use Rattle.type_patterns.proofs.sizes.ask_size_name.Goals as goal

pub ask-requires-clause-safe : goal.ask-requires-clause-safe
ask-requires-clause-safe c = safe_own c.args.base 1 c.args.inference.now c.add_nodes.new.inference c.requires.safe c.in-Ok.ensures.ok c.len-all.result c.len-all.ensures

pub ask-requires-clause-within : goal.ask-requires-clause-within
ask-requires-clause-within c = is_within c.add_nodes.new.inference.table c.len-all.result c.in-Ok.own (scalar.Int int.I64) (own_one 1 c.in-Ok.own c.len-all.result c.args.inference.now c.add_nodes.new.inference c.in-Ok.ensures.ok c.in-Ok.ensures.first c.len-all.ensures (omega arith))

pub returns-in-Err-ask-clause-err : goal.returns-in-Err-ask-clause-err
returns-in-Err-ask-clause-err c = tells c.in-Err-ask.error (λ f places. sized_err1 places c.args.base c.args.bind c.args.inference.now c.add_nodes.new.inference c.ask.new.inference c.ask.new.inference c.in-Ok.own c.requires.safe c.in-Ok.ensures.ok c.in-Ok.ensures.first c.len-all.result c.len-all.ensures (f places)) c.in-Err-ask.ensures.err

pub ask_use-requires-clause-safe : goal.ask_use-requires-clause-safe
ask_use-requires-clause-safe c = (c.in-Ok-ask.ensures.ok kind.Any).later.safe

pub ask_use-requires-clause-node : goal.ask_use-requires-clause-node
ask_use-requires-clause-node c = own_one 1 c.in-Ok.own c.len-all.result c.args.inference.now c.add_nodes.new.inference c.in-Ok.ensures.ok c.in-Ok.ensures.first c.len-all.ensures (omega arith)

pub returns-clause-ok : goal.returns-clause-ok
returns-clause-ok c = on_ok c.ask_use.result (λ f places. sized_ok places c.args.base c.args.bind c.args.inference.now c.add_nodes.new.inference c.ask.new.inference c.ask_use.new.inference c.in-Ok.own c.requires.safe c.in-Ok.ensures.ok c.in-Ok.ensures.first c.len-all.result c.len-all.ensures (c.in-Ok-ask.ensures.ok places) (f places)) c.ask_use.ensures.ok

pub returns-clause-err : goal.returns-clause-err
returns-clause-err c = if_err c.ask_use.result (λ f places. sized_err2 places c.args.base c.args.bind c.args.inference.now c.add_nodes.new.inference c.ask.new.inference c.ask_use.new.inference c.in-Ok.own c.requires.safe c.in-Ok.ensures.ok c.in-Ok.ensures.first c.len-all.result c.len-all.ensures (c.in-Ok-ask.ensures.ok places) (f places)) c.ask_use.ensures.err
