use Rattle.fut_eval.proofs.SameData.{whole_scalars}
use Rattle.fut_eval.proofs.equality.+same.Goals as goal

pub same_data-returns-in-Scalar-right : goal.same_data-returns-in-Scalar-right
same_data-returns-in-Scalar-right t c =
    whole_scalars c.args.left.now c.args.right.now c.in-Scalar.a c.in-Scalar-right.b c.fitted.result c.fitted-in-Scalar-right.result c.same_scalars.result c.in-Scalar.is c.in-Scalar-right.is
    c.fitted.ensures.value c.fitted-in-Scalar-right.ensures.value c.same_scalars.ensures
