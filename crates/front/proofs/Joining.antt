-- What the stages give, put together.
use Rattle.std.proofs.Common.{◌≡◌, List, [], ◌∷◌, map, Ok, refl, sym, ap, subst}
use Rattle.fut_flat.specs.declared.program.Definition.{Definition}
use Rattle.fut_flat.specs.declared.program.Flat.{Flat}
use Rattle.fut_typing.specs.Program.{Defined, defined, program_of as typing_of}
use Rattle.elab_scopes.specs.Elaboration.{Elaborates}
use Rattle.elab_scopes.specs.Imports.{Source_file}
use Rattle.module_elab.specs.Elaborated.{definition_of, program_of as flat_of}
use Rattle.type_infer.specs.Inferring.{Has_typing, Infers, Told_by}
use Rattle.type_scopes.specs.declared.Inference.{Inference}
use Rattle.sized_programs.specs.Sizings.{Has_sizing}
use Rattle.sized_programs.specs.declared.checking.Sizing.{Sizing}
use Rattle.typed_programs.specs.Known.{Knows}
use Rattle.typed_programs.specs.Mistyped.{Some_numbering}
use Rattle.typed_programs.specs.Ordered.{Some_order}
use Rattle.typed_programs.specs.declared.typed.Accepted.{Accepted}
use Rattle.typed_programs.proofs.Numbered.{numbered}
use Rattle.unique_programs.specs.Rules.{Breaks_none}
use Rattle.front.specs.Acceptance.{Sizable, Typable, definitions_of, defined_of}
use Rattle.front.specs.Stages.{Faults, Misnames, Overwrites, Takes, Unsized, Untyped}
use Rattle.front.specs.declared.refusals.Refused.{Refused}
use Rattle.front.specs.declared.refusals.Refused.TheVariants as why

-- ---- definitions, as they are resolved and as typing speaks of them

all_same : (ds : List Definition) → map defined_of (map definition_of ds) ≡ map defined ds
all_same [] = refl
all_same (d ∷ ds) = ap (λ l. defined d ∷ l) (all_same ds)

pub same_definitions : (flat : Flat) → definitions_of (flat_of flat) ≡ typing_of flat
same_definitions flat = all_same flat.definitions.now

-- ---- types

pub typable : (ds : List Defined) (i : Inference) → Infers ds i → Some_numbering (λ N. Typable N ds)
typable ds i infers = let has = numbered (Has_typing ds i) i infers.typing in (has.0, has.1, (has.2.types, has.2.typing))

-- ---- sizes

pub sizable : (ds : List Defined) (sizing : Sizing) → Some_order (Has_sizing ds sizing) → Some_order (λ N. Sizable N ds)
sizable ds sizing h = (h.0, h.1, h.2, (h.3.sizes, h.3.sized))

-- ---- the whole, of files with the prelude first

module _ (all : List Source_file) where
  here : (flat : Flat) (a : Accepted) → Elaborates all (Ok (flat_of flat)) → Knows flat a → Elaborates all (Ok (flat_of a.flat))
  here flat a resolved knows = subst (λ f. Elaborates all (Ok (flat_of f))) (sym knows.is) resolved

  pub accepts : (flat : Flat) (a : Accepted) (sizing : Sizing) → Elaborates all (Ok (flat_of flat)) → Knows flat a → Told_by (Has_sizing (typing_of a.flat) sizing) a.inference → Some_order (Has_sizing (typing_of a.flat) sizing)
      → Some_order (Breaks_none (typing_of a.flat)) → Takes all a sizing
  accepts flat a sizing resolved knows told sized unbroken = record { resolved = here flat a resolved knows; known = knows.known; told = told; sized = sized; unbroken = unbroken }

  -- names are refused so
  pub misnames : (refused : Refused) → Misnames (Elaborates all) refused → Faults all refused
  misnames (why.Unread err) m = absurd m
  misnames why.ImportCycle m = absurd m
  misnames (why.Names err) m = m
  misnames (why.Types err) m = absurd m
  misnames (why.Misfit err) m = absurd m
  misnames (why.Misused err) m = absurd m
  misnames why.Memory m = tt

  -- types are refused so
  pub mistypes : (flat : Flat) (refused : Refused) → Elaborates all (Ok (flat_of flat)) → Untyped (typing_of flat) refused → Faults all refused
  mistypes flat (why.Unread err) resolved m = absurd m
  mistypes flat why.ImportCycle resolved m = absurd m
  mistypes flat (why.Names err) resolved m = absurd m
  mistypes flat (why.Types err) resolved m = record { flat = flat; resolved = resolved; refuses = m }
  mistypes flat (why.Misfit err) resolved m = absurd m
  mistypes flat (why.Misused err) resolved m = absurd m
  mistypes flat why.Memory resolved m = tt

  -- sizes are refused so
  pub misfits : (flat : Flat) (a : Accepted) (refused : Refused) → Elaborates all (Ok (flat_of flat)) → Knows flat a → Unsized a.flat refused → Faults all refused
  misfits flat a (why.Unread err) resolved knows m = absurd m
  misfits flat a why.ImportCycle resolved knows m = absurd m
  misfits flat a (why.Names err) resolved knows m = absurd m
  misfits flat a (why.Types err) resolved knows m = absurd m
  misfits flat a (why.Misfit err) resolved knows m = record { flat = a.flat; resolved = here flat a resolved knows; refuses = m }
  misfits flat a (why.Misused err) resolved knows m = absurd m
  misfits flat a why.Memory resolved knows m = tt

  -- a rule of aliases and consumption is broken
  pub misuses : (flat : Flat) (a : Accepted) (sizing : Sizing) (refused : Refused) → Elaborates all (Ok (flat_of flat)) → Knows flat a → Some_order (Has_sizing (typing_of a.flat) sizing) → Overwrites a.flat refused → Faults all refused
  misuses flat a sizing (why.Unread err) resolved knows sized m = absurd m
  misuses flat a sizing why.ImportCycle resolved knows sized m = absurd m
  misuses flat a sizing (why.Names err) resolved knows sized m = absurd m
  misuses flat a sizing (why.Types err) resolved knows sized m = absurd m
  misuses flat a sizing (why.Misfit err) resolved knows sized m = absurd m
  misuses flat a sizing (why.Misused err) resolved knows sized m = record { flat = a.flat; resolved = here flat a resolved knows; sizing = sizing; sized = sized; refuses = m }
  misuses flat a sizing why.Memory resolved knows sized m = tt

pub ruleset joining = (accepts, misnames, mistypes, misfits, misuses)
