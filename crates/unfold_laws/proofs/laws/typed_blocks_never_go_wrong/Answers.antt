use Rattle.unfold_laws.proofs.NeverWrong.{blocks_never_wrong}
use Rattle.unfold_laws.proofs.laws.typed_blocks_never_go_wrong.Goals as goal

pub returns : goal.returns
returns c = blocks_never_wrong
