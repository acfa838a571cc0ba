-- From the files of a program to what is answered of it.
use Rattle.std.proofs.Common.{◌≡◌, ◌-◌, ℕ, zero, suc, List, [], ◌∷◌, ◌++◌, length, Some, None, Result, Ok, refl, sym, ap, subst, ◌∙◌, arith}
use Rattle.std.specs.List.{range_with_len}
use Rattle.std.proofs.lemmas.List.{length-map}
use mathlib.Core.Logic.{◌⊎◌, inl, inr}
use Rattle.fut_ast.specs.Sorts.{Text}
use Rattle.fut_ast.specs.declared.module.Program.{Program}
use Rattle.fut_flat.specs.declared.program.Flat.{Flat}
use Rattle.fut_io.specs.Outside.{LoaderSeen}
use Rattle.fut_typing.specs.Names.{Names}
use Rattle.fut_typing.specs.Program.{Defined, program_of as typing_of}
use Rattle.fut_typing.specs.Answers.{NoType, FunctionPlace, Ambiguous}
use Rattle.elab_scopes.specs.Names.{Refusal}
use Rattle.elab_scopes.specs.Programs.{FlatProgram}
use Rattle.elab_scopes.specs.Elaboration.{Elaborates}
use Rattle.elab_scopes.specs.Imports.{Source_file, item, path_of}
use Rattle.file_order.specs.Order.{First_cycle}
use Rattle.import_cycles.specs.Graphs.{Cycle_is}
use Rattle.module_elab.specs.Elaborated.{program_of as flat_of}
use Rattle.module_elab.specs.declared.prelude.TheConstants.{PRELUDE_PATH}
use Rattle.module_state.specs.Written.{file_of, files_of}
use Rattle.module_state.specs.declared.written.SourceFile.{SourceFile}
use Rattle.sized_programs.specs.declared.checking.Sizing.{Sizing}
use Rattle.sized_programs.specs.declared.misfit.Misfit.TheVariants as misfit
use Rattle.source_files.specs.Files.{Are_read, Ends_reading}
use Rattle.source_files.specs.declared.reading.Unread.{Unread}
use Rattle.source_files.specs.declared.reading.Unread.TheVariants as unread
use Rattle.typed_programs.specs.Mistyped.{Some_numbering}
use Rattle.typed_programs.specs.Ordered.{Some_order}
use Rattle.typed_programs.specs.declared.typed.Accepted.{Accepted}
use Rattle.typed_programs.specs.declared.typed.TypeErr.TheVariants as types
use Rattle.unique_programs.specs.Rules.{Breaks_none}
use Rattle.unique_programs.specs.declared.misuse.Misuse.TheVariants as misuse
use Rattle.front.specs.Acceptance.{Acyclic, IsPrelude, IsRefused, IsUntyped, Resolves, Sizable, Typable, Unacceptable, path_of_file, prelude_of, refused_at}
use Rattle.front.specs.Stages.{Are_sources, Explains, Faults, Is_accepted, Is_prelude_file, Is_refused_in, Stand_behind, Takes, unread_as}
use Rattle.front.specs.declared.refusals.NameErr.TheVariants as names
use Rattle.front.specs.declared.refusals.Refused.{Refused}
use Rattle.front.specs.declared.refusals.Refused.TheVariants as why
use Rattle.front.proofs.Joining.{same_definitions, sizable, typable}

-- ---- files

pub is_prelude_file : (f : SourceFile) (p : Program) → f.path.now ≡ PRELUDE_PATH.now → f.program.now ≡ p → IsPrelude p → Is_prelude_file (file_of f)
is_prelude_file f p e h is = record { program = f.program.now; is_prelude = subst IsPrelude (sym h) is; is = ap (λ (x : Text). record { path = x; program = f.program.now }) e }

pub behind_prelude : (all old : List SourceFile) (first : SourceFile) (fs : List SourceFile) → Is_prelude_file (file_of first) → old ≡ first ∷ [] → all ≡ old ++ fs → Stand_behind (files_of fs) (files_of all)
behind_prelude all old first fs p o e = record {
  prelude = p.program;
  is_prelude = p.is_prelude;
  are = ap files_of (e ∙ ap (λ l. l ++ fs) o) ∙ ap (λ f. f ∷ files_of fs) p.is;
}

pub are_sources : (seen : LoaderSeen) (file : Text) (fs all : List Source_file) → Are_read seen file fs → Stand_behind fs all → Are_sources seen file all
are_sources seen file fs all read s = record { prelude = s.prelude; is_prelude = s.is_prelude; files = fs; read = read; are = s.are }

-- files that are not read, as a refusal
pub unread_so : (file : Text) (old new : LoaderSeen) (path : Text) (why : Unread) → Ends_reading file old new path why → Explains file old new path (unread_as why)
unread_so file old new path unread.Load e = e
unread_so file old new path unread.TooLong e = e
unread_so file old new path (unread.Lex err) e = e
unread_so file old new path (unread.Parse err) e = e
unread_so file old new path (unread.NotBuilt at) e = e
unread_so file old new path unread.TooMany e = e
unread_so file old new path unread.Memory e = e

pub no_memory : (file : Text) (old new : LoaderSeen) (path : Text) (told : Refused) → told ≡ why.Memory → new ≡ old → Explains file old new path told
no_memory file old new path told e same = subst (λ (r : Refused). Explains file old new path r) (sym e) same

pub unread_told : (file : Text) (old new : LoaderSeen) (path : Text) (reason : Unread) (told : Refused) → told ≡ unread_as reason → Ends_reading file old new path reason → Explains file old new path told
unread_told file old new path reason told e ends = subst (λ (r : Refused). Explains file old new path r) (sym e) (unread_so file old new path reason ends)

path_in : (p : Program) (fs : List Source_file) (k : ℕ) → path_of (item (prelude_of p ∷ fs) k) ≡ path_of_file fs k
unfolding item path_of_file
path_in p fs zero = refl
path_in p fs (suc k) = refl

-- a refusal stands where it is told, or memory ran out
told_in : (all : List Source_file) (number : ℕ) (reason : Refused) (path : Text) (told : Refused) → Is_refused_in all number reason path told → ((told ≡ reason) × (path ≡ path_of (item all number))) ⊎ (told ≡ why.Memory)
told_in all number reason path (why.Unread err) t = inl t
told_in all number reason path why.ImportCycle t = inl t
told_in all number reason path (why.Names err) t = inl t
told_in all number reason path (why.Types err) t = inl t
told_in all number reason path (why.Misfit err) t = inl t
told_in all number reason path (why.Misused err) t = inl t
told_in all number reason path why.Memory t = inr refl

module _ (file : Text) (old new : LoaderSeen) (all : List Source_file) (set : Are_sources old file all) (same : new ≡ old) where
  pub path_is : (k : ℕ) (path : Text) → path ≡ path_of (item all k) → path ≡ path_of_file set.files k
  path_is k path e = e ∙ ap (λ l. path_of (item l k)) set.are ∙ path_in set.prelude set.files k

  -- ---- a cycle

  cyclic : (n number : ℕ) (path : Text) → n ≡ length all → Cycle_is all n (Some number) → path ≡ path_of (item all number) → Explains file old new path why.ImportCycle
  cyclic n number path long cycle e = record {
    files = set.files;
    read = set.read;
    same = same;
    prelude = set.prelude;
    is_prelude = set.is_prelude;
    number = number;
    cycle = subst (λ l. First_cycle l number (range_with_len 1 (length set.files))) set.are (subst (λ k. First_cycle all number (range_with_len 1 k)) (count (ap length set.are)) cycle);
    path_is = path_is number path e;
  }
    where
      count : length all ≡ suc (length set.files) → n - 1 ≡ length set.files
      count l = omega (arith, long, l)

  pub told_cyclic : (n number : ℕ) (path : Text) (told : Refused) → n ≡ length all → Cycle_is all n (Some number) → Is_refused_in all number why.ImportCycle path told → Explains file old new path told
  told_cyclic n number path told long cycle t = by (told_in all number why.ImportCycle path told t)
    where
      by : ((told ≡ why.ImportCycle) × (path ≡ path_of (item all number))) ⊎ (told ≡ why.Memory) → Explains file old new path told
      by (inl u) = subst (λ (r : Refused). Explains file old new path r) (sym u.0) (cyclic n number path long cycle u.1)
      by (inr e) = no_memory file old new path told e same

  -- ---- none

  module _ (n : ℕ) (long : n ≡ length all) (none : Cycle_is all n None) where
    acyclic : Acyclic all
    acyclic k ge lt = none k ge (omega (arith, lt, long))

    pub resolves : (answer : Result FlatProgram Refusal) → Elaborates all answer → Resolves set.files answer
    resolves answer e = record { prelude = set.prelude; is_prelude = set.is_prelude; acyclic = subst Acyclic set.are acyclic; resolved = subst (λ l. Elaborates l answer) set.are e }

    pub accepted : (a : Accepted) (sizing : Sizing) → Takes all a sizing → Is_accepted old file a sizing all
    unfolding resolves
    accepted a sizing t = record {
      acceptable = record {
        resolved = record { files = set.files; read = set.read; resolves = resolves (Ok (flat_of a.flat)) t.resolved };
        typed = subst (λ ds. Some_numbering (λ N. Typable N ds)) (sym (same_definitions a.flat)) (typable (typing_of a.flat) a.inference t.known.infers);
        sized = subst (λ ds. Some_order (λ N. Sizable N ds)) (sym (same_definitions a.flat)) (sizable (typing_of a.flat) sizing t.sized);
        unbroken = subst (λ ds. Some_order (Breaks_none ds)) (sym (same_definitions a.flat)) t.unbroken;
      };
      known = t.known;
      sized = t.told;
      files = set.are;
    }

    refused : (reason : Refused) (path : Text) → path ≡ path_of (item all (refused_at reason)) → Unacceptable set.files reason → IsRefused file old new path reason
    refused reason path e because = record { files = set.files; read = set.read; same = same; path_is = path_is (refused_at reason) path e; because = because }

    untyped : (Lacks : Names → List Defined → Type 0) (flat : Flat) → Elaborates all (Ok (flat_of flat)) → Some_numbering (λ N. Lacks N (typing_of flat)) → IsUntyped set.files Lacks
    untyped Lacks flat e some = record {
      flat = flat_of flat;
      resolves = resolves (Ok (flat_of flat)) e;
      lacks = subst (λ ds. Some_numbering (λ N. Lacks N ds)) (sym (same_definitions flat)) some;
    }

    explained : (reason : Refused) (path : Text) → path ≡ path_of (item all (refused_at reason)) → Faults all reason → Explains file old new path reason
    explained (why.Unread err) path e f = absurd f
    explained why.ImportCycle path e f = absurd f
    explained (why.Names (names.Unbound name at)) path e f = refused (why.Names (names.Unbound name at)) path e (resolves _ f)
    explained (why.Names (names.Twice name at)) path e f = refused (why.Names (names.Twice name at)) path e (resolves _ f)
    explained (why.Names (names.NoMember name at)) path e f = refused (why.Names (names.NoMember name at)) path e (resolves _ f)
    explained (why.Names (names.SealMissing name at)) path e f = refused (why.Names (names.SealMissing name at)) path e (resolves _ f)
    explained (why.Names (names.TooManyApplications at)) path e f = refused (why.Names (names.TooManyApplications at)) path e (resolves _ f)
    explained (why.Types (types.NoType at)) path e f = refused (why.Types (types.NoType at)) path e (untyped NoType f.flat f.resolved f.refuses)
    explained (why.Types (types.FunctionPlace at)) path e f = refused (why.Types (types.FunctionPlace at)) path e (untyped FunctionPlace f.flat f.resolved f.refuses)
    explained (why.Types (types.Ambiguous at)) path e f = refused (why.Types (types.Ambiguous at)) path e (untyped Ambiguous f.flat f.resolved f.refuses)
    explained (why.Types types.Memory) path e f = absurd f.refuses
    explained (why.Misfit (misfit.SizesDiffer left right at)) path e f = refused (why.Misfit (misfit.SizesDiffer left right at)) path e (record { flat = f.flat; resolves = resolves _ f.resolved; misfits = f.refuses })
    explained (why.Misfit (misfit.Escapes at)) path e f = refused (why.Misfit (misfit.Escapes at)) path e (record { flat = f.flat; resolves = resolves _ f.resolved; misfits = f.refuses })
    explained (why.Misfit (misfit.Irregular at)) path e f = refused (why.Misfit (misfit.Irregular at)) path e (record { flat = f.flat; resolves = resolves _ f.resolved; misfits = f.refuses })
    explained (why.Misfit misfit.Memory) path e f = absurd f.refuses
    explained (why.Misused (misuse.Consumed name at used)) path e f = refused (why.Misused (misuse.Consumed name at used)) path e (record { flat = f.flat; resolves = resolves _ f.resolved; sized = sizable (typing_of f.flat) f.sizing f.sized; breaks = f.refuses })
    explained (why.Misused (misuse.NotConsumable name at)) path e f = refused (why.Misused (misuse.NotConsumable name at)) path e (record { flat = f.flat; resolves = resolves _ f.resolved; sized = sizable (typing_of f.flat) f.sizing f.sized; breaks = f.refuses })
    explained (why.Misused (misuse.Captured name at)) path e f = refused (why.Misused (misuse.Captured name at)) path e (record { flat = f.flat; resolves = resolves _ f.resolved; sized = sizable (typing_of f.flat) f.sizing f.sized; breaks = f.refuses })
    explained (why.Misused (misuse.ResultAliases name at)) path e f = refused (why.Misused (misuse.ResultAliases name at)) path e (record { flat = f.flat; resolves = resolves _ f.resolved; sized = sizable (typing_of f.flat) f.sizing f.sized; breaks = f.refuses })
    explained (why.Misused misuse.Memory) path e f = absurd f.refuses
    explained why.Memory path e f = same

    pub told_refused : (number : ℕ) (reason : Refused) (path : Text) (told : Refused) → number ≡ refused_at reason → Faults all reason → Is_refused_in all number reason path told → Explains file old new path told
    told_refused number reason path told at f t = by (told_in all number reason path told t)
      where
        by : ((told ≡ reason) × (path ≡ path_of (item all number))) ⊎ (told ≡ why.Memory) → Explains file old new path told
        by (inl u) = subst (λ (r : Refused). Explains file old new path r) (sym u.0) (explained reason path (u.1 ∙ ap (λ k. path_of (item all k)) at) f)
        by (inr e) = no_memory file old new path told e same

pub long : (fs : List SourceFile) → length fs ≡ length (files_of fs)
long fs = sym (length-map fs file_of)

pub ruleset gathering = (is_prelude_file, behind_prelude, are_sources, unread_told, no_memory)
