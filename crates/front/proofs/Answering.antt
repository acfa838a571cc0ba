-- The files of a program have one answer.
use Rattle.std.proofs.Common.{◌≡◌, ◌≤◌, ◌<◌, ◌+◌, ℕ, zero, suc, List, ◌∷◌, length, Result, Ok, Err, Some, sym, ◌∙◌, ap, subst, arith}
use Rattle.std.specs.List.{range_with_len}
use mathlib.Core.Logic.{inl, inr}
use Rattle.fut_ast.specs.Grammar.{Derives}
use Rattle.fut_ast.specs.Sorts.{Text}
use Rattle.fut_ast.specs.declared.module.Program.{Program}
use Rattle.fut_io.specs.Outside.{LoaderSeen}
use Rattle.fut_lexer.proofs.Readings.{one_reading}
use Rattle.fut_typing.proofs.Programs.{no_type_or_typing, place_or_typing}
use Rattle.fut_typing.proofs.Exclude.{typing_or_ambiguous}
use Rattle.fut_types.specs.Types.{Sub}
use Rattle.fut_typing.specs.Names.{Names, AreNames}
use Rattle.fut_typing.specs.Program.{Defined}
use Rattle.fut_typing.specs.Answers.{Typing_is, NoType, FunctionPlace, Ambiguous}
use Rattle.typing_laws.proofs.NumberingPrograms.{typing_is_one}
use Rattle.elab_scopes.specs.Names.{Refusal}
use Rattle.elab_scopes.specs.Programs.{FlatProgram}
use Rattle.elab_scopes.specs.Elaboration.{Elaborates}
use Rattle.elab_scopes.specs.Imports.{Source_file}
use Rattle.elab_laws.proofs.Deeper.{files_come_to_one}
use Rattle.file_order.specs.Order.{First_cycle, Leads, behind, itself}
use Rattle.module_elab.specs.declared.prelude.TheConstants.{PRELUDE}
use Rattle.source_files.specs.Claims.{Is_outside}
use Rattle.source_files.specs.Files.{Are_read, Stops}
use Rattle.source_files.specs.declared.reading.Unread.{Unread}
use Rattle.source_files.specs.declared.reading.Unread.TheVariants as unread
use Rattle.source_files.proofs.One.{read_once, read_or_stopped}
use Rattle.front.specs.Acceptance.{Acyclic, IsAcceptable, IsBehindTypes, IsCyclic, IsPrelude, IsResolved, IsUntyped, Resolves, Unaccepted, definitions_of, prelude_file, prelude_of}
use Rattle.front.specs.declared.refusals.NameErr.TheVariants as names
use Rattle.typed_programs.specs.declared.typed.TypeErr.TheVariants as types
use Rattle.front.specs.declared.refusals.Refused.{Refused}
use Rattle.front.specs.declared.refusals.Refused.TheVariants as why

abbrev flat_in : FlatProgram → Result FlatProgram Refusal → FlatProgram
flat_in other (Ok flat) = flat
flat_in other (Err e) = other

same_ok : {f g : FlatProgram} → ◌≡◌ {A = Result FlatProgram Refusal} (Ok f) (Ok g) → f ≡ g
same_ok {f} e = ap (flat_in f) e

-- what is said of types excludes a typing
abbrev pub Excludes : (Names → List Defined → Type 0) → Type 0
Excludes Lacks = (N : Names) → AreNames N → (ds : List Defined) (types : Sub) → Typing_is N ds types → Lacks N ds → ⊥

-- the first that leads to itself is one of the row, and does
pub within : (fs : List Source_file) (k from n : ℕ) → First_cycle fs k (range_with_len from n) → (from ≤ k) × (k < from + n) × Leads fs k k
within fs k from zero f = elim f [ ]
within fs k from (suc n) (itself l) = (omega arith, omega arith, l)
within fs k from (suc n) (behind none f) = let w = within fs k (from + 1) n f in (omega (arith, w.0), omega (arith, w.1), w.2)

pub prelude_once : (p q : Program) → IsPrelude p → IsPrelude q → p ≡ q
prelude_once p q a b =
    let same = one_reading.one_list prelude_file PRELUDE.now a.tokens b.tokens a.lexed b.lexed in
    b.parsed.only p a.parsed.height (subst (λ ts. Derives ts p a.parsed.height) same a.parsed.derives)

pub resolves_once : (files : List Source_file) (x y : Result FlatProgram Refusal) → Resolves files x → Resolves files y → x ≡ y
resolves_once files x y a b =
    files_come_to_one (prelude_of b.prelude ∷ files) x y (subst (λ prelude. Elaborates (prelude_of prelude ∷ files) x) (prelude_once a.prelude b.prelude a.is_prelude b.is_prelude) a.resolved) b.resolved

module _ (seen : LoaderSeen) (told : List (Text × Text)) (is : seen.files ≡ Some told) (file : Text) where
  pub resolved_once : (x y : Result FlatProgram Refusal) → IsResolved seen file x → IsResolved seen file y → x ≡ y
  resolved_once x y a b = resolves_once b.files x y (subst (λ fs. Resolves fs x) (read_once seen told is file a.files b.files a.read b.read) a.resolves) b.resolves

  module _ (flat : FlatProgram) (sure : IsAcceptable seen file flat) where
    -- files that are read are those of the accepted program
    these : (files : List Source_file) → Are_read seen file files → sure.resolved.files ≡ files
    these files read = read_once seen told is file sure.resolved.files files sure.resolved.read read

    comes : (files : List Source_file) → Are_read seen file files → (x : Result FlatProgram Refusal) → Resolves files x → Ok flat ≡ x
    comes files read x r = resolves_once files (Ok flat) x (subst (λ fs. Resolves fs (Ok flat)) (these files read) sure.resolved.resolves) r

    named : (files : List Source_file) → Are_read seen file files → (e : Refusal) → Resolves files (Err e) → ⊥
    named files read e r = let same = comes files read (Err e) r in absurd cc

    typed : (Lacks : Names → List Defined → Type 0) → Excludes Lacks → (files : List Source_file) → Are_read seen file files → IsUntyped files Lacks → ⊥
    typed Lacks excludes files read u =
        let same = sym (comes files read (Ok u.flat) u.resolves) in
        let N = u.lacks.0 in
        let typing = typing_is_one sure.typed.0 N sure.typed.1 u.lacks.1 (definitions_of flat) sure.typed.2.0 sure.typed.2.1 in
        excludes N u.lacks.1 (definitions_of flat) typing.0 typing.1 (subst (λ f. Lacks N (definitions_of f)) (same_ok same) u.lacks.2)

    cycled : (new : LoaderSeen) (path : Text) → IsCyclic file seen new path → ⊥
    cycled new path c = at (within (prelude_of c.prelude ∷ c.files) c.number 1 (length c.files) c.cycle)
      where
        same : prelude_of sure.resolved.resolves.prelude ∷ sure.resolved.files ≡ prelude_of c.prelude ∷ c.files
        same = ap (λ p. prelude_of p ∷ sure.resolved.files) (prelude_once sure.resolved.resolves.prelude c.prelude sure.resolved.resolves.is_prelude c.is_prelude) ∙ ap (λ fs. prelude_of c.prelude ∷ fs) (these c.files c.read)

        at : (1 ≤ c.number) × (c.number < 1 + length c.files) × Leads (prelude_of c.prelude ∷ c.files) c.number c.number → ⊥
        at w = subst Acyclic same sure.resolved.resolves.acyclic c.number w.0 (omega (arith, w.1)) w.2

    -- a load that fails, or want of memory
    unread_outside : (path : Text) (new : LoaderSeen) (err : Unread) → Unaccepted file seen new path (why.Unread err) → Stops file seen new path err → IsBehindTypes (why.Unread err)
    unread_outside path new err u s = by err u (read_or_stopped seen told is file sure.resolved.files sure.resolved.read new path err s)
      where
        by : (e : Unread) → Unaccepted file seen new path (why.Unread e) → Is_outside e → IsBehindTypes (why.Unread e)
        by unread.Load v out = tt
        by unread.Memory v out = v
        by unread.TooLong v (inl e) = absurd (let z : unread.TooLong ≡ unread.Load = e in cc)
        by unread.TooLong v (inr e) = absurd (let z : unread.TooLong ≡ unread.Memory = e in cc)
        by (unread.Lex x) v (inl e) = absurd (let z : unread.Lex x ≡ unread.Load = e in cc)
        by (unread.Lex x) v (inr e) = absurd (let z : unread.Lex x ≡ unread.Memory = e in cc)
        by (unread.Parse x) v (inl e) = absurd (let z : unread.Parse x ≡ unread.Load = e in cc)
        by (unread.Parse x) v (inr e) = absurd (let z : unread.Parse x ≡ unread.Memory = e in cc)
        by (unread.NotBuilt x) v (inl e) = absurd (let z : unread.NotBuilt x ≡ unread.Load = e in cc)
        by (unread.NotBuilt x) v (inr e) = absurd (let z : unread.NotBuilt x ≡ unread.Memory = e in cc)
        by unread.TooMany v (inl e) = absurd (let z : unread.TooMany ≡ unread.Load = e in cc)
        by unread.TooMany v (inr e) = absurd (let z : unread.TooMany ≡ unread.Memory = e in cc)

    unread_refuted : (path : Text) (new : LoaderSeen) (err : Unread) → Unaccepted file seen new path (why.Unread err) → IsBehindTypes (why.Unread err)
    unread_refuted path new unread.Load u = tt
    unread_refuted path new unread.TooLong u = unread_outside path new unread.TooLong u u
    unread_refuted path new (unread.Lex x) u = unread_outside path new (unread.Lex x) u u
    unread_refuted path new (unread.Parse x) u = unread_outside path new (unread.Parse x) u u
    unread_refuted path new (unread.NotBuilt at) u = unread_outside path new (unread.NotBuilt at) u u
    unread_refuted path new unread.TooMany u = unread_outside path new unread.TooMany u u
    unread_refuted path new unread.Memory u = u

    pub refuted : (new : LoaderSeen) (path : Text) (refused : Refused) → Unaccepted file seen new path refused → IsBehindTypes refused
    refuted new path (why.Unread err) u = unread_refuted path new err u
    refuted new path why.ImportCycle u = cycled new path u
    refuted new path (why.Names (names.Unbound name at)) u = named u.files u.read _ u.because
    refuted new path (why.Names (names.Twice name at)) u = named u.files u.read _ u.because
    refuted new path (why.Names (names.NoMember name at)) u = named u.files u.read _ u.because
    refuted new path (why.Names (names.SealMissing name at)) u = named u.files u.read _ u.because
    refuted new path (why.Names (names.TooManyApplications at)) u = named u.files u.read _ u.because
    refuted new path (why.Types (types.NoType at)) u = typed NoType (λ N are ds types typing lacks. no_type_or_typing N ds lacks types typing) u.files u.read u.because
    refuted new path (why.Types (types.FunctionPlace at)) u = typed FunctionPlace (λ N are ds types typing lacks. place_or_typing N ds lacks types typing) u.files u.read u.because
    refuted new path (why.Types types.Memory) u = u.because
    refuted new path (why.Types (types.Ambiguous at)) u = typed Ambiguous typing_or_ambiguous u.files u.read u.because
    refuted new path (why.Misfit err) u = tt
    refuted new path (why.Misused err) u = tt
    refuted new path why.Memory u = u

pub one_answer : (seen new : LoaderSeen) (told : List (Text × Text)) → seen.files ≡ Some told → (file path : Text) (flat : FlatProgram) → IsAcceptable seen file flat → (refused : Refused) → Unaccepted file seen new path refused → IsBehindTypes refused
one_answer seen new told is file path flat sure refused u = refuted seen told is file flat sure new path refused u
