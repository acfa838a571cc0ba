-- Each stage of a run comes to one end, once something is known of it; and so do stages one after another.
use Rattle.std.proofs.Common.{◌≡◌, ℕ, List, sym, ap, subst, ◌∙◌, refl}
use Rattle.std.specs.Prelude.{Some, Result, Ok, Err}
use Rattle.fut_typing.specs.Names.{Names as Numbering, AreNames}
use Rattle.fut_typing.specs.Program.{Defined}
use Rattle.fut_typing.proofs.Programs.{no_type_or_typing, no_type_or_place, no_type_or_ambiguous, place_or_typing, place_or_ambiguous}
use Rattle.fut_typing.proofs.Exclude.{typing_or_ambiguous}
use Rattle.typing_laws.specs.NumberingClaims.{Hangs_on_no_numbering}
use Rattle.typing_laws.proofs.NumberingPrograms.{typing_is_one, no_type_is_one, function_place_is_one, ambiguous_is_one}
use Rattle.elab_scopes.specs.Names.{Refusal}
use Rattle.elab_scopes.specs.Names as refusal
use Rattle.elab_scopes.specs.Imports.{Source_file}
use Rattle.elab_scopes.specs.Programs.{FlatProgram}
use Rattle.fut_aliases.specs.declared.refusals.Broken.{Broken}
use Rattle.unique_programs.specs.Rules.{Breaks_none, First_broken}
use Rattle.source_laws.proofs.Sources.{not_broken_too}
use Rattle.fut_sizes.specs.Agreeing.{Refusal as Size_refusal}
use Rattle.sized_programs.specs.Sizings.{Is_sized}
use Rattle.sized_programs.specs.declared.misfit.Misfit.{Misfit}
use Rattle.unique_programs.specs.declared.misuse.Misuse.{Misuse}
use Rattle.typed_programs.specs.Mistyped.{Some_numbering}
use Rattle.typed_programs.specs.Ordered.{Some_order}
use Rattle.sizing_laws.specs.Order.{In_order}
use Rattle.typed_programs.specs.declared.typed.TypeErr.{TypeErr}
use Rattle.typed_programs.specs.declared.typed.TypeErr.TheVariants as types
use Rattle.front.specs.Acceptance.{Resolves, Sizable, Typable, definitions_of}
use Rattle.front.specs.declared.refusals.NameErr.{NameErr}
use Rattle.front.specs.declared.refusals.NameErr.TheVariants as names
use Rattle.front.proofs.Answering.{resolves_once}
use Rattle.command_words.specs.CommandLine.{Command, command_of}
use Rattle.futhark_status.specs.declared.status.Status.{Status}
use Rattle.futhark_status.specs.declared.status.Status.TheVariants.{Usage}
use Rattle.futhark_core.specs.Comes.{AlikeTypes, Commanded, Lacks, Named, Onward, Stage, Then, Sized, Typed, Unbroken, names_status, refusal_of, sizes_status, types_status, unique_status}

-- of all that the stage comes to this holds
abbrev pub Holds : {A : Type 0} → Stage A → (Result A Status → Type 0) → Type 0
Holds {A} stage P = (a : Result A Status) → stage a → P a

-- the stage comes to this and to nothing else
abbrev pub Settles : {A : Type 0} → Stage A → Result A Status → Type 0
Settles {A} stage x = Holds stage (λ a. a ≡ x)

-- the stage ends the run, with such a status
abbrev pub EndsAs : {A : Type 0} → (Status → Type 0) → Result A Status → Type 0
EndsAs {A} Q (Ok a) = ⊥
EndsAs {A} Q (Err status) = Q status

pub then_ok : {A B : Type 0} (first : Stage A) (next : A → Stage B) (P : Result B Status → Type 0) (m : A) → Settles first (Ok m) → Holds (next m) P → Holds (Then first next) P
then_ok {A} {B} first next P m one more x run = more x (subst (λ (middle : Result A Status). Onward middle next x) (one run.0 run.1) run.2)

pub then_err : {A B : Type 0} (first : Stage A) (next : A → Stage B) (status : Status) → Settles first (Err status) → Settles (Then first next) (Err status)
then_err {A} {B} first next status one x run = subst (λ (middle : Result A Status). Onward middle next x) (one run.0 run.1) run.2

pub then_ends : {A B : Type 0} (first : Stage A) (next : A → Stage B) (Q : Status → Type 0) → Holds first (EndsAs Q) → Holds (Then first next) (EndsAs Q)
then_ends {A} {B} first next Q one x run = go run.0 (one run.0 run.1) run.2
  where
    go : (middle : Result A Status) → EndsAs Q middle → Onward middle next x → EndsAs Q x
    go (Ok a) ends on = absurd ends
    go (Err status) ends on = subst (λ (y : Result B Status). EndsAs Q y) (sym on) ends

-- ---- the words

pub commanded_ok : (words : List (List ℕ)) (command : Command) → command_of words ≡ Ok command → Settles (Commanded words) (Ok command)
commanded_ok words command e (Ok other) p = let same : other ≡ command = cc in ap Ok same
commanded_ok words command e (Err status) p = let w = p.1 in absurd cc

pub commanded_err : (words : List (List ℕ)) (word : ℕ) → command_of words ≡ Err word → Settles (Commanded words) (Err (Usage word))
commanded_err words word e (Ok other) p = absurd cc
commanded_err words word e (Err status) p = let w = p.1 in let same : p.0 ≡ word = cc in ap Err (p.2 ∙ ap Usage same)

pub some_same : {A : Type 0} (x : A) (y : A) → Some x ≡ Some y → x ≡ y
some_same x y e = cc

-- ---- names

-- a refusal of names, as it is answered; one of a form that is not built is none
abbrev told_as : NameErr → Result FlatProgram Refusal → NameErr
told_as other (Ok flat) = other
told_as other (Err (refusal.Unbound name at)) = names.Unbound name at
told_as other (Err (refusal.Twice name at)) = names.Twice name at
told_as other (Err (refusal.NoMember name at)) = names.NoMember name at
told_as other (Err (refusal.SealMissing name at)) = names.SealMissing name at
told_as other (Err (refusal.TooManyApplications at)) = names.TooManyApplications at
told_as other (Err refusal.TooFar) = other
told_as other (Err (refusal.NotYet at)) = other

told_back : (other err : NameErr) → told_as other (Err (refusal_of err)) ≡ err
told_back other (names.Unbound name at) = refl
told_back other (names.Twice name at) = refl
told_back other (names.NoMember name at) = refl
told_back other (names.SealMissing name at) = refl
told_back other (names.TooManyApplications at) = refl

same_err : (err other : NameErr) → ◌≡◌ {A = Result FlatProgram Refusal} (Err (refusal_of err)) (Err (refusal_of other)) → err ≡ other
same_err err other e = sym (told_back err err) ∙ ap (told_as err) e ∙ told_back err other

flat_in : FlatProgram → Result FlatProgram Refusal → FlatProgram
flat_in other (Ok flat) = flat
flat_in other (Err e) = other

module _ (sources : List Source_file) where
  pub named_ok : (flat : FlatProgram) → Resolves sources (Ok flat) → Settles (Named sources) (Ok flat)
  unfolding flat_in
  named_ok flat is (Ok other) p = ap Ok (ap (flat_in other) (resolves_once sources (Ok other) (Ok flat) p is))
  named_ok flat is (Err status) p = let same = resolves_once sources (Ok flat) (Err (refusal_of p.0)) is p.1 in absurd cc

  pub named_err : (err : NameErr) → Resolves sources (Err (refusal_of err)) → Settles (Named sources) (Err (names_status sources err))
  named_err err is (Ok flat) p = let same = resolves_once sources (Ok flat) (Err (refusal_of err)) p is in absurd cc
  named_err err is (Err status) p =
      ap Err (p.2 ∙ ap (λ (e : NameErr). names_status sources e) (same_err p.0 err (resolves_once sources (Err (refusal_of p.0)) (Err (refusal_of err)) p.1 is)))

-- ---- types

module _ (N : Numbering) (are : AreNames N) (ds : List Defined) where
  lacks_or_typing : (err : TypeErr) → Lacks err N ds → Typable N ds → ⊥
  lacks_or_typing (types.NoType at) lacks t = no_type_or_typing N ds lacks t.0 t.1
  lacks_or_typing (types.FunctionPlace at) lacks t = place_or_typing N ds lacks t.0 t.1
  lacks_or_typing (types.Ambiguous at) lacks t = typing_or_ambiguous N are ds t.0 t.1 lacks
  lacks_or_typing types.Memory lacks t = lacks

  alike : (err other : TypeErr) → Lacks err N ds → Lacks other N ds → AlikeTypes err other
  alike (types.NoType at) (types.NoType place) l m = tt
  alike (types.NoType at) (types.FunctionPlace place) l m = no_type_or_place N ds l m
  alike (types.NoType at) (types.Ambiguous place) l m = no_type_or_ambiguous N ds l m
  alike (types.NoType at) types.Memory l m = m
  alike (types.FunctionPlace at) (types.NoType place) l m = no_type_or_place N ds m l
  alike (types.FunctionPlace at) (types.FunctionPlace place) l m = tt
  alike (types.FunctionPlace at) (types.Ambiguous place) l m = place_or_ambiguous N ds l m
  alike (types.FunctionPlace at) types.Memory l m = m
  alike (types.Ambiguous at) (types.NoType place) l m = no_type_or_ambiguous N ds m l
  alike (types.Ambiguous at) (types.FunctionPlace place) l m = place_or_ambiguous N ds m l
  alike (types.Ambiguous at) (types.Ambiguous place) l m = tt
  alike (types.Ambiguous at) types.Memory l m = m
  alike types.Memory other l m = absurd l

lacks_is_one : (err : TypeErr) → Hangs_on_no_numbering (Lacks err)
lacks_is_one (types.NoType at) = no_type_is_one
lacks_is_one (types.FunctionPlace at) = function_place_is_one
lacks_is_one (types.Ambiguous at) = ambiguous_is_one
lacks_is_one types.Memory = λ M N are_names also ds lacks. lacks

-- a refusal of types like this one
abbrev pub TypesRefusal : List Source_file → TypeErr → Status → Type 0
TypesRefusal sources err status = (other : TypeErr) × AlikeTypes err other × (status ≡ types_status sources other)

module _ (sources : List Source_file) (flat : FlatProgram) where
  pub typed_ok : Some_numbering (λ N. Typable N (definitions_of flat)) → Settles (Typed sources flat) (Ok flat)
  typed_ok some (Ok same) p = ap Ok p.1
  typed_ok some (Err status) p = let w = typing_is_one some.0 p.1.0 some.1 p.1.1 (definitions_of flat) some.2.0 some.2.1 in absurd (lacks_or_typing p.1.0 p.1.1 (definitions_of flat) p.0 p.1.2 (w.0, w.1))

  pub typed_err : (err : TypeErr) → Some_numbering (λ N. Lacks err N (definitions_of flat)) → Holds (Typed sources flat) (EndsAs (TypesRefusal sources err))
  typed_err err some (Ok same) p = let w = typing_is_one p.0.0 some.0 p.0.1 some.1 (definitions_of flat) p.0.2.0 p.0.2.1 in absurd (lacks_or_typing some.0 some.1 (definitions_of flat) err some.2 (w.0, w.1))
  typed_err err some (Err status) p = (p.0, alike p.1.0 p.1.1 (definitions_of flat) err p.0 (lacks_is_one err some.0 p.1.0 some.1 p.1.1 (definitions_of flat) some.2) p.1.2, p.2)

-- ---- sizes

-- a refusal because of sizes
abbrev pub SizesRefusal : List Source_file → Status → Type 0
SizesRefusal sources status = (err : Misfit) × (status ≡ sizes_status sources err)

module _ (sources : List Source_file) (flat : FlatProgram) where
  pub sized_ok : Some_order (λ N. Sizable N (definitions_of flat)) → Settles (Sized sources flat) (Ok flat)
  sized_ok some (Ok same) p = ap Ok p.1
  sized_ok some (Err status) p = let refused = p.1 some.0 some.1 some.2 (Ok some.3.0) some.3.1 in let is = refused.1 in absurd cc

  pub sized_err : (N : Numbering) → AreNames N → In_order N → (refusal : Size_refusal) → Is_sized (definitions_of flat) (Err refusal) N → Holds (Sized sources flat) (EndsAs (SizesRefusal sources))
  sized_err N are order refusal first (Ok same) p = let has = p.0 N are order (Err refusal) first in let is = has.1 in absurd cc
  sized_err N are order refusal first (Err status) p = (p.0, p.2)

-- ---- rules of aliases and consumption

-- a refusal because of one
abbrev pub UniqueRefusal : List Source_file → Status → Type 0
UniqueRefusal sources status = (err : Misuse) × (status ≡ unique_status sources err)

module _ (sources : List Source_file) (flat : FlatProgram) where
  pub unbroken_ok : Some_order (Breaks_none (definitions_of flat)) → Settles (Unbroken sources flat) (Ok flat)
  unbroken_ok some (Ok same) p = ap Ok p.1
  unbroken_ok some (Err status) p = absurd (not_broken_too (definitions_of flat) p.1.3.0 some.0 p.1.0 some.1 p.1.1 some.2 p.1.2 some.3 p.1.3.1)

  pub unbroken_err : (N : Numbering) → AreNames N → In_order N → (rule : Broken) → First_broken (definitions_of flat) (Some rule) N → Holds (Unbroken sources flat) (EndsAs (UniqueRefusal sources))
  unbroken_err N are order rule first (Ok same) p = absurd (not_broken_too (definitions_of flat) rule p.0.0 N p.0.1 are p.0.2 order p.0.3 first)
  unbroken_err N are order rule first (Err status) p = (p.0, p.2)
