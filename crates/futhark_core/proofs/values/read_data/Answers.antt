use Rattle.futhark_core.proofs.Reading.{are_arguments}
use Rattle.futhark_core.proofs.values.read_data.Goals as goal

pub returns-in-Ok-data_of_all-clause-read : goal.returns-in-Ok-data_of_all-clause-read
returns-in-Ok-data_of_all-clause-read c =
    (c.in-Ok.values, c.in-Ok.ensures.reads, c.in-Ok-data_of_all.ensures, λ types wanted. are_arguments types c.args.wanted.now c.in-Ok.values wanted c.in-Ok.ensures.typed)
