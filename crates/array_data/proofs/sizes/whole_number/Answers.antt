use Rattle.array_data.proofs.Sizing.{exact_truth}
use Rattle.array_data.proofs.sizes.whole_number.Goals as goal

pub returns-in-Bool : goal.returns-in-Bool
returns-in-Bool c = exact_truth c.args.whole.now _ c.fitted.result _ c.in-Scalar.is c.fitted.ensures.value c.in-Bool.is
