use Rattle.fut_flat.specs.Erased.{term_of}
use Rattle.size_applying.proofs.ComposedForms.{one_parameter}
use Rattle.size_applying.proofs.compositions.parameter_order.Goals as goal

pub returns-in-Some : goal.returns-in-Some
returns-in-Some c = one_parameter c.args.left c.args.right (term_of c.args.body.now) c.args.pats.now _ c.in-Some.parameter c.body_order.result c.if-pats-ne1.false c.in-Some.ensures c.body_order.ensures
