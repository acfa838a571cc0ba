use Rattle.block_store.proofs.Standing.{views_show}
use Rattle.block_store.proofs.laws.views_show_what_they_are_of.Goals as goal

pub returns : goal.returns
returns c = views_show
