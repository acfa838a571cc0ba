-- A source that is refused because of its sizes has a refusal of the definition by some typing.
use Rattle.std.proofs.Common.{ℕ, List, sym, subst}
use Rattle.std.specs.Prelude.{Ok, Err}
use Rattle.fut_ast.specs.Sorts.{Text}
use Rattle.fut_scalar.specs.declared.place.Place.{Place}
use Rattle.fut_flat.specs.declared.program.Flat.{Flat}
use Rattle.fut_sizes.specs.Agreeing.{Refusal}
use Rattle.fut_typing.specs.Names.{Names as Numbering, AreNames}
use Rattle.fut_typing.specs.Program.{program_of as typing_of}
use Rattle.elab_scopes.specs.Imports.{Source_file}
use Rattle.elab_scopes.specs.Programs.{FlatProgram}
use Rattle.module_elab.specs.Elaborated.{program_of as flat_of}
use Rattle.typed_programs.specs.Mistyped.{Some_numbering}
use Rattle.typed_programs.specs.Ordered.{Some_order}
use Rattle.sizing_laws.specs.Order.{In_order}
use Rattle.sized_programs.specs.Sizings.{Is_sized}
use Rattle.sized_programs.specs.Misfits.{Is_refused}
use Rattle.sized_programs.specs.declared.misfit.Misfit.{Misfit}
use Rattle.sized_programs.specs.declared.misfit.Misfit.TheVariants as misfit
use Rattle.front.specs.Acceptance.{Resolves, Typable, Unacceptable, definitions_of}
use Rattle.front.specs.declared.refusals.Refused.TheVariants as refused
use Rattle.front.proofs.Joining.{same_definitions}

pub record Misfits (files : List Source_file) : Type 0 where
  pub flat : FlatProgram
  pub resolves : Resolves files (Ok flat)
  pub N : Numbering
  pub are : AreNames N
  pub order : In_order N
  pub refusal : Refusal
  pub first : Is_sized (definitions_of flat) (Err refusal) N

pub typable : (flat : FlatProgram) (N : Numbering) → AreNames N → (refusal : Refusal) → Is_sized (definitions_of flat) (Err refusal) N → Some_numbering (λ N. Typable N (definitions_of flat))
typable flat N are refusal first = (N, are, (first.types, first.typing))

module _ (files : List Source_file) where
  by : (flat : Flat) → Resolves files (Ok (flat_of flat)) → (names : List Text) (places : List Place) (err : Misfit) → Some_order (Is_refused (typing_of flat) names places err) → Misfits files
  by flat resolves names places err some = record {
    flat = flat_of flat;
    resolves = resolves;
    N = some.0;
    are = some.1;
    order = some.2;
    refusal = some.3.refusal;
    first = subst (λ ds. Is_sized ds (Err some.3.refusal) some.0) (sym (same_definitions flat)) some.3.first;
  }

  pub misfits : (err : Misfit) → Unacceptable files (refused.Misfit err) → Misfits files
  misfits (misfit.SizesDiffer left right at) u = by u.flat u.resolves _ _ _ u.misfits
  misfits (misfit.Escapes at) u = by u.flat u.resolves _ _ _ u.misfits
  misfits (misfit.Irregular at) u = by u.flat u.resolves _ _ _ u.misfits
  misfits misfit.Memory u = absurd u
