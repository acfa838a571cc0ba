use Rattle.size_arena.specs.Trees.{size_of}
use Rattle.size_slots.specs.Held.{maker_of}
use Rattle.size_settling.proofs.ChoosingForms.{ends_as_it_is}
use Rattle.size_settling.proofs.choosing.chosen_end.Goals as goal

pub returns-in-Nothing : goal.returns-in-Nothing
returns-in-Nothing c = ends_as_it_is c.args.choices.now (maker_of c.args.makers.now) c.args.around (size_of c.args.tree.now) c.unknown_slots.result c.in-Nothing.is c.unknown_slots.ensures
