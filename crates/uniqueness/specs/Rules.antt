-- The rules of a step in their order, as one.
use Rattle.std.specs.Prelude.{List, ◌∷◌, Option, Some, None}
use Rattle.fut_scalar.specs.declared.place.BindId.{BindId}
use Rattle.fut_scalar.specs.declared.place.Place.{Place}
use Rattle.fut_aliases.specs.declared.refusals.Broken.{Broken}
use Rattle.fut_aliases.specs.declared.refusals.Named.TheVariants.{ByName}
use Rattle.fut_aliases.specs.declared.refusals.Spot.TheVariants.{First, Mark}
use Rattle.fut_aliases.specs.Values.{aliases}
use Rattle.fut_aliases.specs.Steps.{Losses, or_else, lost}
use Rattle.fut_aliases.specs.Calls.{Here, Held, not_consumable, captured, held_loss, first_broken}
use Rattle.fut_aliases.specs.Operations.{shares_with, last_value}

abbrev pub name_rule : Losses → Option BindId → Held → Option Broken
name_rule ls None a = None
name_rule ls (Some b) a = lost ls (λ x. ByName b) (First a.node) (aliases a.value)

abbrev pub update_rules : Here → Losses → Place → Held → List Held → Option Broken
update_rules h ls mark a parts =
    or_else (shares_with a (Mark mark) (aliases (last_value parts))) (or_else (not_consumable h (Mark mark) (aliases a.value)) (or_else (captured h (Mark mark) (aliases a.value)) (first_broken (held_loss ls) (a ∷ parts))))
