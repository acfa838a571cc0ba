use Rattle.std.proofs.Common.{◌≡◌, drop}
use Rattle.fut_aliases.specs.Stars.{all_spread}
use Rattle.alias_values.specs.Trees.{types_of}
use Rattle.alias_values.proofs.Rows.{row_before}
use Rattle.alias_types.proofs.making.+spread.Given as goal

abbrev pub invariant-all_spread-loop-ty : goal.invariant-all_spread-loop-ty
invariant-all_spread-loop-ty l = all_spread l.starred (types_of l.types) ≡ row_before l.made.items (all_spread l.starred (types_of (drop l.ty-index l.types)))
