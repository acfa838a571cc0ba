use Rattle.type_rules.proofs.Adding.{on_ok, if_err}
use Rattle.fut_flat.specs.declared.prim.Ref.TheVariants as ref
use Rattle.type_patterns.specs.Asking.{Name_claim}
use Rattle.type_patterns.proofs.Asking.{never_asked}
use Rattle.type_patterns.proofs.Using.{is_ok, is_err, is_within}
use Rattle.type_patterns.proofs.named.ask_named.Goals as goal

pub ask-requires-clause-within : goal.ask-requires-clause-within
ask-requires-clause-within c = is_within c.args.inference.now.table c.args.base c.args.node c.in-Scalar.scalar c.requires.node

pub returns-in-Bound-clause-ok : goal.returns-in-Bound-clause-ok
returns-in-Bound-clause-ok c = rw c.in-Bound.is c.ask_bound.ensures.ok

pub returns-in-Bound-clause-err : goal.returns-in-Bound-clause-err
returns-in-Bound-clause-err c = rw c.in-Bound.is c.ask_bound.ensures.err

pub returns-in-Scalar-clause-ok : goal.returns-in-Scalar-clause-ok
returns-in-Scalar-clause-ok c = rw c.in-Scalar.is (on_ok c.ask.result (λ f places. is_ok places c.args.base c.args.node c.in-Scalar.scalar c.args.inference.now c.ask.new.inference (f places)) c.ask.ensures.ok)

pub returns-in-Scalar-clause-err : goal.returns-in-Scalar-clause-err
returns-in-Scalar-clause-err c = rw c.in-Scalar.is (if_err c.ask.result (λ f places. is_err places c.args.base c.args.node c.in-Scalar.scalar c.args.inference.now c.ask.new.inference (f places)) c.ask.ensures.err)

pub returns-in-Prim-clause-err : goal.returns-in-Prim-clause-err
returns-in-Prim-clause-err c = rw c.in-Prim.is (λ places. never_asked places c.args.base (Name_claim (ref.Prim c.in-Prim.field-0) c.args.node) c.args.inference.now c.requires.safe (λ N E K a h. h))
