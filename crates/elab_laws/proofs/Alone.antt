-- Type parameters differ, since each number is bound once; so they are alone, and generalisation is exact.
use Rattle.std.proofs.Common.{◌≡◌, ℕ, ◌+◌, ◌≤◌, ◌++◌, List, ◌∷◌, Ok, sym, ap, subst, arith, length, flat_map}
use Rattle.std.proofs.lemmas.List.Concat.{flat_map-append}
use mathlib.Core.Logic.{inl, inr}
use Rattle.fut_scalar.specs.declared.place.BindId.{BindId}
use Rattle.fut_flat.specs.Terms.{Parameter}
use Rattle.fut_typing.specs.Program.{Defined}
use Rattle.fut_typing.specs.Exact.{Way, scheme_behind, local_behind}
use Rattle.elab_scopes.specs.Programs.{FlatProgram}
use Rattle.elab_scopes.specs.Elaboration.{Elaborates}
use Rattle.elab_scopes.specs.Imports.{Source_file}
use Rattle.typing_laws.specs.Ways.{Ends_at, Function_let}
use Rattle.typing_laws.specs.Claims.{Alone, Alone_within}
use Rattle.typing_laws.proofs.Written.{written_is_exact}
use Rattle.typing_laws.proofs.WrittenLocals.{local_written_is_exact}
use Rattle.elab_laws.specs.Parameters.{type_parameters, local_parameters, definition_parameters}
use Rattle.elab_laws.specs.OnceClaims.{definitions_of, ParametersDiffer, ParametersAreAlone, LocalParametersAreAlone, Exact_in, ElaboratedIsExact, ElaboratedLocalIsExact}
use Rattle.elab_laws.proofs.Programs.{each_is_bound_once}
use Rattle.elab_laws.proofs.Times.{times, times-append, once, distinct}
use Rattle.elab_laws.proofs.Parameters.{program_among, parameter_stands, local_stands, program_stands}
use Rattle.elab_laws.proofs.Ways.{stands_along}

parameters_once : (files : List Source_file) (flat : FlatProgram) → Elaborates files (Ok flat) → (n : ℕ) → times n (flat_map definition_parameters (definitions_of flat)) ≤ 1
parameters_once files flat e n = omega (arith, (program_among (definitions_of flat)).most n, once (length flat.names) _ (each_is_bound_once files flat e) n)

pub parameters_differ : ParametersDiffer
parameters_differ files flat e = distinct _ (parameters_once files flat e)

-- how often a number is a parameter before, in and behind a definition
split_times : (before after : List Defined) (d : Defined) (n : ℕ) → times n (flat_map definition_parameters (before ++ d ∷ after))
    ≡ times n (flat_map definition_parameters before) + ((times n (type_parameters d.parameters) + times n (local_parameters d.value)) + times n (flat_map definition_parameters after))
split_times before after d n =
    let whole = ap (times n) (flat_map-append definition_parameters before (d ∷ after)) in
    let outer = times-append n (flat_map definition_parameters before) (definition_parameters d ++ flat_map definition_parameters after) in
    let rest = times-append n (definition_parameters d) (flat_map definition_parameters after) in
    let inner = times-append n (type_parameters d.parameters) (local_parameters d.value) in
    omega (arith, whole, outer, rest, inner)

alone : (before after : List Defined) (d : Defined) → ((n : ℕ) → times n (flat_map definition_parameters (before ++ d ∷ after)) ≤ 1) → Alone before d after
alone before after d few n i =
    let most = few n in
    let split = split_times before after d n in
    let here = (parameter_stands d.parameters n i).some in
    elim [
      | inl h ↦ (let s = (program_stands before n h).some in omega (arith, most, split, here, s))
      | inr (inl h) ↦ (let s = (local_stands d.value n h).some in omega (arith, most, split, here, s))
      | inr (inr h) ↦ (let s = (program_stands after n h).some in omega (arith, most, split, here, s))
    ]

pub parameters_are_alone : ParametersAreAlone
parameters_are_alone files flat e before after d same = alone before after d (subst (λ ds. (n : ℕ) → times n (flat_map definition_parameters ds) ≤ 1) same (parameters_once files flat e))

alone_within : (before after : List Defined) (d : Defined) (w : Way) (own : List (Parameter BindId)) → Ends_at (Function_let own) d.value w → ((n : ℕ) → times n (flat_map definition_parameters (before ++ d ∷ after)) ≤ 1) → Alone_within before d after w own
alone_within before after d w own ends few n i =
    let most = few n in
    let split = split_times before after d n in
    let there = stands_along own n i d.value w ends in
    let here = there.some in
    elim [
      | inl h ↦ (let s = (program_stands before n h).some in omega (arith, most, split, here, s))
      | inr (inl h) ↦ (let s = (parameter_stands d.parameters n h).some in omega (arith, most, split, here, s))
      | inr (inr (inl h)) ↦ (let two = there.twice h in omega (arith, most, split, two))
      | inr (inr (inr h)) ↦ (let s = (program_stands after n h).some in omega (arith, most, split, here, s))
    ]

pub local_parameters_are_alone : LocalParametersAreAlone
local_parameters_are_alone files flat e before after d same w own ends = alone_within before after d w own ends (subst (λ ds. (n : ℕ) → times n (flat_map definition_parameters ds) ≤ 1) same (parameters_once files flat e))

pub elaborated_is_exact : ElaboratedIsExact
elaborated_is_exact files flat e before after d same N are places =
    subst (λ ds. Exact_in N places ds (scheme_behind N places before d)) (sym same) (written_is_exact N are places before after d (parameters_are_alone files flat e before after d same))

pub elaborated_local_is_exact : ElaboratedLocalIsExact
elaborated_local_is_exact files flat e before after d same w own ends N are places =
    subst (λ ds. Exact_in N places ds (local_behind N places before d w)) (sym same) (local_written_is_exact N are places before after d w own ends (local_parameters_are_alone files flat e before after d same w own ends))
