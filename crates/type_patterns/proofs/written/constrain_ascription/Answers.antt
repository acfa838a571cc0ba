use Rattle.fut_flat.specs.Erased.{type_of}
use Rattle.type_rules.proofs.Adding.{on_ok, if_err, tells}
use Rattle.type_patterns.proofs.Using.{same_within}
use Rattle.type_patterns.proofs.Forms.{ascribed_ok, ascribed_err1, ascribed_err2}
use Rattle.type_patterns.proofs.written.constrain_ascription.Goals as goal

pub ask-requires-clause-within : goal.ask-requires-clause-within
ask-requires-clause-within c = same_within c.args.inference.now.table c.args.base c.args.lo c.args.part c.requires.number c.requires.part

pub returns-in-Err-clause-err : goal.returns-in-Err-clause-err
returns-in-Err-clause-err c = tells c.in-Err.error (λ f d from. ascribed_err1 c.args.places c.args.base (type_of c.args.ty.now) c.args.lo c.args.part c.args.inference.now c.ask.new.inference d from (f c.args.places)) c.in-Err.ensures.err

pub ask_type-requires-clause-safe : goal.ask_type-requires-clause-safe
ask_type-requires-clause-safe c = (c.in-Ok.ensures.ok c.args.places).later.safe

pub returns-clause-ok : goal.returns-clause-ok
returns-clause-ok c = on_ok c.ask_type.result (λ f d from. ascribed_ok c.args.places c.args.base (type_of c.args.ty.now) c.args.lo c.args.part c.args.inference.now c.ask.new.inference d from c.ask_type.new.inference c.requires.safe (c.in-Ok.ensures.ok c.args.places) f) c.ask_type.ensures.ok

pub returns-clause-err : goal.returns-clause-err
returns-clause-err c = if_err c.ask_type.result (λ f d from. ascribed_err2 c.args.places c.args.base (type_of c.args.ty.now) c.args.lo c.args.part c.args.inference.now c.ask.new.inference d from c.ask_type.new.inference c.requires.safe (c.in-Ok.ensures.ok c.args.places) f) c.ask_type.ensures.err
