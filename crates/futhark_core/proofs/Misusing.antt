-- A source that is refused because of a rule of aliases and consumption breaks one by some typing.
use Rattle.std.proofs.Common.{ℕ, List, sym, subst}
use Rattle.std.specs.Prelude.{Some, Ok}
use Rattle.fut_ast.specs.Sorts.{Text}
use Rattle.fut_scalar.specs.declared.place.Place.{Place}
use Rattle.fut_flat.specs.declared.program.Flat.{Flat}
use Rattle.fut_aliases.specs.declared.refusals.Broken.{Broken}
use Rattle.fut_typing.specs.Names.{Names as Numbering, AreNames}
use Rattle.fut_typing.specs.Program.{program_of as typing_of}
use Rattle.elab_scopes.specs.Imports.{Source_file}
use Rattle.elab_scopes.specs.Programs.{FlatProgram}
use Rattle.module_elab.specs.Elaborated.{program_of as flat_of}
use Rattle.typed_programs.specs.Mistyped.{Some_numbering}
use Rattle.typed_programs.specs.Ordered.{Some_order}
use Rattle.sizing_laws.specs.Order.{In_order}
use Rattle.unique_programs.specs.Rules.{First_broken}
use Rattle.unique_programs.specs.Misuses.{Is_broken}
use Rattle.unique_programs.specs.declared.misuse.Misuse.{Misuse}
use Rattle.unique_programs.specs.declared.misuse.Misuse.TheVariants as misuse
use Rattle.front.specs.Acceptance.{Resolves, Sizable, Typable, Unacceptable, definitions_of}
use Rattle.front.specs.declared.refusals.Refused.TheVariants as refused
use Rattle.front.proofs.Joining.{same_definitions}

pub record Breaks (files : List Source_file) : Type 0 where
  pub flat : FlatProgram
  pub resolves : Resolves files (Ok flat)
  pub N : Numbering
  pub are : AreNames N
  pub order : In_order N
  pub sized : Some_order (λ N. Sizable N (definitions_of flat))
  pub rule : Broken
  pub first : First_broken (definitions_of flat) (Some rule) N

pub typable : (flat : FlatProgram) (N : Numbering) → AreNames N → (rule : Broken) → First_broken (definitions_of flat) (Some rule) N → Some_numbering (λ N. Typable N (definitions_of flat))
typable flat N are rule first = (N, are, (first.types, first.typing))

module _ (files : List Source_file) where
  by : (flat : Flat) → Resolves files (Ok (flat_of flat)) → Some_order (λ N. Sizable N (typing_of flat)) → (names : List Text) (places : List Place) (err : Misuse) → Some_order (Is_broken (typing_of flat) names places err) → Breaks files
  by flat resolves sized names places err some = record {
    flat = flat_of flat;
    resolves = resolves;
    N = some.0;
    are = some.1;
    order = some.2;
    sized = subst (λ ds. Some_order (λ N. Sizable N ds)) (sym (same_definitions flat)) sized;
    rule = some.3.rule;
    first = subst (λ ds. First_broken ds (Some some.3.rule) some.0) (sym (same_definitions flat)) some.3.first;
  }

  pub breaks : (err : Misuse) → Unacceptable files (refused.Misused err) → Breaks files
  breaks (misuse.Consumed name at used) u = by u.flat u.resolves u.sized _ _ _ u.breaks
  breaks (misuse.NotConsumable name at) u = by u.flat u.resolves u.sized _ _ _ u.breaks
  breaks (misuse.Captured name at) u = by u.flat u.resolves u.sized _ _ _ u.breaks
  breaks (misuse.ResultAliases name at) u = by u.flat u.resolves u.sized _ _ _ u.breaks
  breaks misuse.Memory u = absurd u
