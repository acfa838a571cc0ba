-- An entry has one type, whatever typing shows it and however names are numbered.
use Rattle.std.proofs.Common.{◌≡◌, ◌<◌, ℕ, zero, Bool, true, false, List, [], ◌∷◌, length, map, take, drop, slice_index_or, suc, sym, subst}
use Rattle.fut_scalar.specs.declared.scalar.ScalarType.{ScalarType}
use Rattle.fut_scalar.specs.declared.sizes.DataType.{DataType}
use Rattle.fut_flat.specs.declared.program.Definition.{Definition}
use Rattle.fut_flat.specs.declared.program.Flat.{Flat}
use Rattle.fut_flat.specs.Erased.{parameters}
use Rattle.fut_types.specs.declared.Kind.TheVariants as kind
use Rattle.fut_types.specs.Types.{Ty, Sub, Kinds, scalar_ty}
use Rattle.fut_typing.specs.Names.{Names, AreNames}
use Rattle.fut_typing.specs.Free.{has_types}
use Rattle.fut_typing.specs.Scopes.{Uses, nothing}
use Rattle.fut_typing.specs.Patterns.{arrows}
use Rattle.fut_typing.specs.Program.{Defined, defined, program_of, Program_typed}
use Rattle.fut_typing.specs.Answers.{Typing_is}
use Rattle.fut_typing.specs.Exact.{scope_behind}
use Rattle.type_soundness.specs.Programs.{One_each}
use Rattle.typed_programs.specs.EntryTypes.{array_ty, data_ty, data_tys, Results_are, Has_entry_type}
use Rattle.typed_programs.proofs.Using.{split_at, uses_at}
use Rattle.typing_laws.specs.Alike.{Settled, All_settled}
use Rattle.typing_laws.specs.NumberingClaims.{Used_alone}
use Rattle.typing_laws.proofs.OneType.{one_type_is_one}

-- ---- neither a variable nor a record stands in the type of an entry
array_settled : (r : ℕ) (s : ScalarType) → Settled (array_ty r (scalar_ty s))
array_settled zero s = tt
array_settled (suc r) s = (array_settled r s, tt)

data_settled : (t : DataType) → Settled (data_ty t)
data_settled t = array_settled t.rank t.elem

row_settled : (ss : List DataType) → All_settled (data_tys ss)
unfolding data_tys
row_settled [] = tt
row_settled (s ∷ ss) = (data_settled s, row_settled ss)

result_settled : (tuple : Bool) (rs : List DataType) (u : Ty) → Results_are tuple rs u → Settled u
result_settled false [] u r = absurd r
result_settled false (s ∷ []) u r = subst Settled (sym r) (data_settled s)
result_settled false (s ∷ t ∷ rs) u r = absurd r
result_settled true rs u r = subst Settled (sym r.1) (row_settled rs)

entry_settled : (ps : List DataType) (u : Ty) → Settled u → Settled (arrows (data_tys ps) u)
unfolding data_tys
entry_settled [] u s = s
entry_settled (p ∷ ps) u s = (data_settled p, (entry_settled ps u s, tt))

-- ---- one type
module _ (flat : Flat) (at : ℕ) (other : Definition) (within : at < length flat.definitions.now) (once : One_each flat.definitions.now) (plain : has_types (parameters (slice_index_or flat.definitions.now at other).heads.now) ≡ false) where
  abbrev here : Definition
  here = slice_index_or flat.definitions.now at other

  abbrev before : List Defined
  before = map defined (take at flat.definitions.now)

  abbrev after : List Defined
  after = map defined (drop (suc at) flat.definitions.now)

  abbrev uses : Names → Uses
  uses N = (scope_behind N kind.Data (program_of flat) 0 nothing).uses here.bind.0

  module _ (M N : Names) (m : AreNames M) (n : AreNames N) (types others : Sub) (t : Typing_is M (program_of flat) types) (o : Typing_is N (program_of flat) others)
      (K L : Kinds) (typed : Program_typed M kind.Data (program_of flat) K types) (also : Program_typed N kind.Data (program_of flat) L others) where
    -- a use of it is one of its name
    there : (u : Ty) → Used_alone M before (defined here) K types u → Settled u → Used_alone N before (defined here) L others u
    there u alone settled = one_type_is_one M N m n before after (defined here) plain types others
        (subst (λ (ds : List Defined). Typing_is M ds types) (split_at flat.definitions.now at other within) t) (subst (λ (ds : List Defined). Typing_is N ds others) (split_at flat.definitions.now at other within) o) K L
        (subst (λ (ds : List Defined). Program_typed M kind.Data ds K types) (split_at flat.definitions.now at other within) typed) (subst (λ (ds : List Defined). Program_typed N kind.Data ds L others) (split_at flat.definitions.now at other within) also)
        u settled alone

    pub entry_type_is_one : (ps : List DataType) (tuple : Bool) (rs : List DataType) → Has_entry_type (uses M) K types ps tuple rs → Has_entry_type (uses N) L others ps tuple rs
    entry_type_is_one ps tuple rs h =
        let same_m = uses_at M kind.Data K types flat.definitions.now at other 0 nothing within once in
        let same_n = uses_at N kind.Data L others flat.definitions.now at other 0 nothing within once in
        let w = there (arrows (data_tys ps) h.result) (subst (λ (u : Uses). u K types (arrows (data_tys ps) h.result)) same_m h.used, λ u r. h.only u (subst (λ (v : Uses). v K types u) (sym same_m) r))
        (entry_settled ps h.result (result_settled tuple rs h.result h.results_are)) in record {
          result = h.result;
          results_are = h.results_are;
          used = subst (λ (u : Uses). u L others (arrows (data_tys ps) h.result)) (sym same_n) w.0;
          only = λ u r. w.1 u (subst (λ (v : Uses). v L others u) same_n r);
        }
