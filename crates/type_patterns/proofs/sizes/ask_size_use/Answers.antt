use Rattle.fut_flat.specs.Terms.{Size_use}
use Rattle.fut_flat.specs.declared.prim.Ref.TheVariants as ref
use Rattle.type_patterns.specs.Asking.{Size_claim}
use Rattle.type_patterns.proofs.Asking.{never_asked}
use Rattle.type_patterns.proofs.sizes.ask_size_use.Goals as goal

pub returns-in-Bound-clause-ok : goal.returns-in-Bound-clause-ok
returns-in-Bound-clause-ok c = rw c.in-Bound.is c.ask_size_name.ensures.ok

pub returns-in-Bound-clause-err : goal.returns-in-Bound-clause-err
returns-in-Bound-clause-err c = rw c.in-Bound.is c.ask_size_name.ensures.err

pub returns-in-Prim-clause-err : goal.returns-in-Prim-clause-err
returns-in-Prim-clause-err c = rw c.in-Prim.is (λ places. never_asked places c.args.base (Size_claim (Size_use (ref.Prim c.in-Prim.field-0))) c.args.inference.now c.requires.safe (λ N E K a h. h))

pub returns-in-Scalar-clause-err : goal.returns-in-Scalar-clause-err
returns-in-Scalar-clause-err c = rw c.in-Scalar.is (λ places. never_asked places c.args.base (Size_claim (Size_use (ref.Scalar c.in-Scalar.field-0))) c.args.inference.now c.requires.safe (λ N E K a h. h))
