use Rattle.size_patterns.proofs.HeadForms.{sizes_known}
use Rattle.size_patterns.proofs.binding.with_size_names.Goals as goal

pub returns : goal.returns
returns c = sizes_known c.args.names.now c.args.sizes.now c.in_ok-numbers.numbers.now c.with_numbers.result c.in_ok-numbers.ensures c.with_numbers.ensures
