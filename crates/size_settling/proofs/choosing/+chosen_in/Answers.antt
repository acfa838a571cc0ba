use Rattle.std.proofs.Common.{refl, ap, ◌∙◌}
use Rattle.size_arena.specs.Trees.{size_of}
use Rattle.size_arena.proofs.Forms.{size_hole, size_open, size_level, size_built}
use Rattle.size_settling.specs.Choosing.{choices_of}
use Rattle.size_slots.specs.Held.{maker_of}
use Rattle.size_settling.proofs.ChoosingForms.{function_chosen, data_ends}
use Rattle.size_settling.proofs.choosing.+chosen_in.Goals as goal

pub returns-in_ok-given-in-Fun : goal.returns-in_ok-given-in-Fun
returns-in_ok-given-in-Fun t c =
    function_chosen (maker_of c.args.makers.now) c.args.around c.args.tree.now c.args.choices.now _ c.in-Fun.height c.in-Fun.chosen c.in_ok-inside-in-Fun.inside c.in_ok-count-in-Fun.count c.in-Fun.from c.in-Fun.to c.in_ok-taken-in-Fun.taken c.in_ok-given-in-Fun.given
    c.in_ok-slots-in-Fun.slots _ c.function.result c.in-Fun.is refl refl c.in_ok-inside-in-Fun.ensures c.in_ok-slots-in-Fun.ensures c.in_ok-count-in-Fun.ensures c.in_ok-taken-in-Fun.ensures c.in_ok-given-in-Fun.ensures c.function.ensures

pub returns-in-Hole : goal.returns-in-Hole
returns-in-Hole t c = data_ends (maker_of c.args.makers.now) c.args.around (choices_of c.args.choices.now) (size_of c.args.tree.now) _ _ (ap size_of c.in-Hole.is ∙ size_hole _) refl c.chosen_end.ensures

pub returns-in-Open : goal.returns-in-Open
returns-in-Open t c = data_ends (maker_of c.args.makers.now) c.args.around (choices_of c.args.choices.now) (size_of c.args.tree.now) _ _ (ap size_of c.in-Open.is ∙ size_open _ _ _) refl c.chosen_end-in-Open.ensures

pub returns-in-Level : goal.returns-in-Level
returns-in-Level t c = data_ends (maker_of c.args.makers.now) c.args.around (choices_of c.args.choices.now) (size_of c.args.tree.now) _ _ (ap size_of c.in-Level.is ∙ size_level _ _ _) refl c.chosen_end-in-Level.ensures

pub returns-in-Built : goal.returns-in-Built
returns-in-Built t c = data_ends (maker_of c.args.makers.now) c.args.around (choices_of c.args.choices.now) (size_of c.args.tree.now) _ _ (ap size_of c.in-Built.is ∙ size_built _ _ _) refl c.chosen_end-in-Built.ensures
