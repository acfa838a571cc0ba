use Rattle.std.proofs.Common.{refl}
use Rattle.size_arena.specs.Trees.{size_of}
use Rattle.size_slots.specs.Held.{way_of}
use Rattle.size_matching.specs.Arrows.{opens, no_memory_opens}
use Rattle.size_matching.proofs.MatchForms.{opened_held}
use Rattle.size_matching.proofs.opening.open_arrows.Goals as goal

pub returns-in-Ok-clause-opened : goal.returns-in-Ok-clause-opened
returns-in-Ok-clause-opened c = opens c.in-Ok.ensures.left c.in-Ok.ensures.right refl refl c.in-Ok.ensures.next refl

pub returns-in-Ok-clause-held : goal.returns-in-Ok-clause-held
returns-in-Ok-clause-held c = opened_held (way_of c.args.way) c.args.node c.args.left_chosen c.args.right_chosen (size_of c.args.left_to.now) (size_of c.args.right_to.now) c.args.table.now _ _ c.requires (opens {both = c.in-Ok.both} c.in-Ok.ensures.left c.in-Ok.ensures.right refl refl c.in-Ok.ensures.next refl)

pub returns-in-Err-clause-opened : goal.returns-in-Err-clause-opened
returns-in-Err-clause-opened c = no_memory_opens
