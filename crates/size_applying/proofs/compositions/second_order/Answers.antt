use Rattle.fut_flat.specs.Erased.{term_of}
use Rattle.size_applying.proofs.ComposedForms.{second_told}
use Rattle.size_applying.proofs.compositions.second_order.Goals as goal

pub returns-in-Some : goal.returns-in-Some
returns-in-Some c = second_told c.args.left c.args.pat.now (term_of c.args.exp.now) c.in-Some.right c.lambda_order.result c.in-Some.ensures c.lambda_order.ensures
