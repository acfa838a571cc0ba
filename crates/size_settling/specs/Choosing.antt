-- What becomes of slots that are still open.
use Rattle.std.specs.Prelude.{ℕ}
use Rattle.sized_types.specs.Sizes.{Dim, renaming}
use Rattle.fut_sizes.specs.Functions.{behind, unknown_slot}
use Rattle.size_making.specs.Placing.{frees_of}
use Rattle.size_slots.specs.Held.{maker_of}
use Rattle.size_settling.specs.declared.renewing.Choices.{Choices, Choices-F, fold-Choices}
use Rattle.size_settling.specs.declared.renewing.Choices.TheOpen as layer
use Rattle.size_settling.specs.declared.renewing.Renewal.{Renewal}
use Rattle.size_settling.specs.declared.renewing.Renewal.TheVariants as renewal

-- of a size inside so many function types
abbrev pub Replacing : Type 0
Replacing = ℕ → Dim → Dim

unfoldable pub choices_form : Choices-F Replacing → Replacing
choices_form layer.Nothing = λ j d. d
choices_form (layer.Behind j k ds outer) = behind k j (frees_of ds.now) outer.now

unfoldable pub choices_of : Choices → Replacing
choices_of c = fold-Choices Replacing choices_form c

abbrev pub renewal_of : Renewal → Replacing
renewal_of (renewal.Unknown ms) = renaming (unknown_slot (maker_of ms.now))
renewal_of (renewal.Chosen c) = choices_of c.now
