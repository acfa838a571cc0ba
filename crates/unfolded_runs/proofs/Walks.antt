-- The walk of a typed program is never lost, and unfolding it never stuck, by each sizing of it.
use Rattle.std.proofs.Common.{◌≡◌, ℕ, zero, suc, List, [], ◌∷◌, Bool, Some, length, refl, sym, subst, arith}
use Rattle.fut_scalar.specs.declared.place.BindId.{BindId}
use Rattle.fut_scalar.specs.declared.scalar.IntType.{IntType}
use Rattle.fut_scalar.specs.declared.scalar.ScalarType.{ScalarType}
use Rattle.fut_scalar.specs.declared.sizes.DataType.{DataType}
use Rattle.fut_flat.specs.declared.program.Flat.{Flat}
use Rattle.fut_typing.specs.Names.{count}
use Rattle.fut_meaning.specs.Comes.{Program_lost}
use Rattle.fut_meaning.specs.Flats.{flat_tops, named_terms}
use Rattle.fut_meaning.specs.Found.{Sizing}
use Rattle.fut_meaning.specs.Uses.{is_size_in}
use Rattle.type_infer.specs.Inferring.{Told_by}
use Rattle.type_scopes.specs.declared.Inference.{Inference}
use Rattle.unfold_laws.specs.Shaped.{Of_shape, All_of_shapes, array_of_shape, none_of_shapes, more_of_shapes, scalar_of_shape}
use Rattle.unfold_laws.proofs.Unstuck.{unfolding_never_stuck}
use Rattle.type_soundness.proofs.Unlost.{sized_walks_never_lost}
use Rattle.fut_types.specs.Types.{scalar_ty}
use Rattle.fut_types.specs.declared.Kind.TheVariants as kind
use Rattle.fut_typing.specs.Scopes.{nothing}
use Rattle.fut_typing.specs.Patterns.{arrows}
use Rattle.fut_typing.specs.Program.{program_of as typing_of}
use Rattle.fut_typing.specs.Exact.{scope_behind}
use Rattle.typed_programs.specs.EntryTypes.{array_ty, data_tys}
use Rattle.unfold.specs.Shapes.{Scalar_shape}
use Rattle.sizing_tables.specs.Claims.{Is_resolved}
use Rattle.sizing_tables.specs.Told.{told_with}
use Rattle.sizing_tables.proofs.Sizings.{sizing_is_told}
use Rattle.unfold.specs.Stuck.{Program_stuck}
use Rattle.unfold_program.specs.Whole.{scalars}
use Rattle.unfolded_runs.specs.Claims.{Is_told, Is_usable}
use Rattle.typed_programs.specs.Typed.{Typed_by, integer_at}
use Rattle.typed_programs.proofs.TypedLaws.{sized_so, walkable_so}

count_is : (ss : List DataType) → count (data_tys ss) ≡ length ss
unfolding data_tys
count_is [] = refl
count_is (s ∷ ss) = let h = count_is ss in omega (arith, h)

pub never_lost : (flat : Flat) (inference : Inference) (integers : List IntType) (entry : BindId) (params : List DataType) (tuple : Bool) (results : List DataType) (Z : Sizing) → Told_by (Typed_by flat inference integers) inference → Is_resolved flat → Is_told flat Z → Is_usable flat inference entry params tuple results
    → Program_lost (Some Z) entry.0 (length params) (flat_tops 0 (named_terms flat)) → ⊥
never_lost flat inference integers entry params tuple results Z told made sizing usable lost =
    let N = told.some.0 in
    let known = told.holds N told.some.1 in
    let used = usable.usable.entry usable.definition N told.some.1 known.kinds known.types known.typed.typed known.comes in
    sized_walks_never_lost N told.some.1.names known.kinds known.types (is_size_in (Some Z)) (Some Z) flat (walkable_so (told_with (integer_at integers) Z) known.typed (sizing_is_told flat made sizing.names sizing.sizes Z sizing.is).1) entry (data_tys params) used.result
    (subst (λ z. (scope_behind N kind.Data (typing_of flat) 0 nothing).uses z known.kinds known.types (arrows (data_tys params) used.result)) usable.is used.used) (usable.usable.takes_data known.kinds) (usable.usable.gives_data known.kinds used.result used.results_are)
    (subst (λ n. Program_lost (Some Z) entry.0 n (flat_tops 0 (named_terms flat))) (sym (count_is params)) lost)

-- scalars, and arrays of scalars, are one component each
data_is : (r : ℕ) (s : ScalarType) → Of_shape (array_ty r (scalar_ty s)) Scalar_shape
data_is zero s = scalar_of_shape
data_is (suc r) s = array_of_shape (data_is r s)

scalars_are : (ss : List DataType) → All_of_shapes (data_tys ss) (scalars (length ss))
unfolding data_tys
scalars_are [] = none_of_shapes
scalars_are (s ∷ ss) = more_of_shapes (data_is s.rank s.elem) (scalars_are ss)

pub never_stuck : (flat : Flat) (inference : Inference) (integers : List IntType) (entry : BindId) (params : List DataType) (tuple : Bool) (results : List DataType) (Z : Sizing) → Told_by (Typed_by flat inference integers) inference → Is_resolved flat → Is_told flat Z → Is_usable flat inference entry params tuple results
    → Program_stuck (told_with (integer_at integers) Z) (flat_tops 0 (named_terms flat)) entry.0 (scalars (length params)) → ⊥
never_stuck flat inference integers entry params tuple results Z told made sizing usable stuck =
    let N = told.some.0 in
    let known = told.holds N told.some.1 in
    let used = usable.usable.entry usable.definition N told.some.1 known.kinds known.types known.typed.typed known.comes in
    unfolding_never_stuck N told.some.1.names known.kinds known.types (told_with (integer_at integers) Z) flat (sized_so (told_with (integer_at integers) Z) known.typed (sizing_is_told flat made sizing.names sizing.sizes Z sizing.is).1) entry (data_tys params) used.result
    (subst (λ z. (scope_behind N kind.Data (typing_of flat) 0 nothing).uses z known.kinds known.types (arrows (data_tys params) used.result)) usable.is used.used) (usable.usable.gives_data known.kinds used.result used.results_are)
    (scalars (length params)) (scalars_are params) stuck
