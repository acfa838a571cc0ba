-- What the walk answers for terms, as steps in a scope.
use Rattle.std.specs.Prelude.{ℕ, List, []}
use Rattle.fut_scalar.specs.declared.place.BindId.{BindId}
use Rattle.fut_flat.specs.declared.prim.Ref.{Ref}
use Rattle.fut_flat.specs.Terms.{Terms}
use Rattle.fut_flat.specs.Erased.{FlatTerm}
use Rattle.fut_types.specs.Types.{Sub}
use Rattle.sized_types.specs.Sizes.{Size, Sizes}
use Rattle.fut_sizes.specs.Applications.{Argument, Part}
use Rattle.fut_sizes.specs.Sizing.{sized, all_sized, finished, as_argument}
use Rattle.fut_sizes.specs.Steps.{and_then}
use Rattle.size_program.specs.Answers.{Going}

-- a term where it stands, of which these size names of a head are to be chosen
abbrev pub part_sized : Sub → FlatTerm → List ℕ → ℕ → Going Part
part_sized types e bs n N scope = sized N types e bs n scope

-- by itself
abbrev pub whole_sized : Sub → FlatTerm → List ℕ → ℕ → Going Size
whole_sized types e bs n N scope = and_then (sized N types e bs n scope) (λ part. finished N types n part)

-- as an argument
abbrev pub argument_sized : Sub → FlatTerm → ℕ → Going Argument
argument_sized types e n N scope = and_then (sized N types e [] n scope) (λ part. as_argument N types n e part)

-- terms in a row, each by itself
abbrev pub row_sized : Sub → Terms Ref BindId → ℕ → Going Sizes
row_sized types ts n N scope = all_sized N types ts n scope
