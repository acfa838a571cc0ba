use Rattle.std.proofs.Common.{refl, sym}
use Rattle.size_program.specs.Program.{sub_of}
use Rattle.size_forms.proofs.UseForms.{unapplied}
use Rattle.size_forms.proofs.names.use_name.Goals as goal

pub returns-in_ok-size-in-Bound : goal.returns-in_ok-size-in-Bound
returns-in_ok-size-in-Bound c = λ N scope within. rw c.in-Bound.is (unapplied N (sub_of c.args.program.now.types.now) c.in_ok-size-in-Bound.size _ _ _ refl (c.in_ok-size-in-Bound.ensures N scope within))

pub returns-in_ok-size-in-Prim : goal.returns-in_ok-size-in-Prim
returns-in_ok-size-in-Prim c = λ N scope within. rw (c.in-Prim.is, sym c.is_regular.ensures) (unapplied N (sub_of c.args.program.now.types.now) c.in_ok-size-in-Prim.size _ _ _ refl c.in_ok-size-in-Prim.ensures)

pub returns-in_ok-size-in-Scalar : goal.returns-in_ok-size-in-Scalar
returns-in_ok-size-in-Scalar c = λ N scope within. rw c.in-Scalar.is (unapplied N (sub_of c.args.program.now.types.now) c.in_ok-size-in-Scalar.size _ _ _ refl c.in_ok-size-in-Scalar.ensures)
