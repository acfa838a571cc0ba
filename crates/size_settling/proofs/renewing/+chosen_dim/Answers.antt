use Rattle.size_arena.specs.Trees.{dim_of}
use Rattle.size_settling.proofs.ChoosingForms.{dim_again}
use Rattle.size_settling.proofs.renewing.+chosen_dim.Goals as goal

pub returns-in_ok-before-in-Behind : goal.returns-in_ok-before-in-Behind
returns-in_ok-before-in-Behind t c =
    dim_again c.args.choices.now c.args.place (dim_of c.args.dim) c.in-Behind.around c.in-Behind.chosen c.between.result c.in-Behind.slots c.in-Behind.outer c.in_ok-before-in-Behind.before c.chosen_again.result
    c.in-Behind.is c.in_ok-before-in-Behind.ensures c.between.ensures c.chosen_again.ensures
