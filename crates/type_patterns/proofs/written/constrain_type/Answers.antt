use Rattle.fut_flat.specs.Erased.{type_of}
use Rattle.type_rules.proofs.Adding.{on_ok, if_err}
use Rattle.type_patterns.specs.Asking.{Type_claim}
use Rattle.type_patterns.proofs.Asking.{asked_claimed, unasked_refused}
use Rattle.type_patterns.proofs.written.constrain_type.Goals as goal

pub returns-clause-ok : goal.returns-clause-ok
returns-clause-ok c = on_ok c.ask_type.result (λ f d from. asked_claimed c.args.places c.args.base (Type_claim c.args.places (type_of c.args.ty.now) c.args.lo) d from c.args.inference.now c.ask_type.new.inference f) c.ask_type.ensures.ok

pub returns-clause-err : goal.returns-clause-err
returns-clause-err c = if_err c.ask_type.result (λ f d from. unasked_refused c.args.places c.args.base (Type_claim c.args.places (type_of c.args.ty.now) c.args.lo) d from c.args.inference.now c.ask_type.new.inference f) c.ask_type.ensures.err
