-- A definition without written type parameters is used at the instances of the type that its name has before any default for
-- what is generalised: at this type alone, or at no type of an entry alone.
use Rattle.std.proofs.Common.{◌≡◌, Bool, true, false, ℕ, zero, suc, ◌+◌, ◌≤◌, ◌<◌, List, [], ◌∷◌, ◌++◌, length, map, take, drop, slice_index_or, min, max, refl, sym, ◌∙◌, ap, subst, arith}
use mathlib.Core.Logic.{inl, inr}
use Rattle.fut_scalar.specs.declared.place.BindId.{BindId}
use Rattle.fut_scalar.specs.declared.scalar.IntType.{IntType}
use Rattle.fut_scalar.specs.declared.scalar.IntType.TheVariants as int
use Rattle.fut_scalar.specs.declared.sizes.DataType.{DataType}
use Rattle.fut_scalar.specs.declared.scalar.ScalarType.{ScalarType}
use Rattle.fut_scalar.specs.declared.scalar.ScalarType.TheVariants as scalar
use Rattle.fut_flat.specs.declared.program.Definition.{Definition}
use Rattle.fut_flat.specs.declared.program.Flat.{Flat}
use Rattle.fut_flat.specs.Terms.{Parameter, Size_parameter, Type_parameter}
use Rattle.fut_flat.specs.Numbers.{numbers}
use Rattle.fut_flat.specs.Erased.{parameters, term_of}
use Rattle.fut_types.specs.declared.Kind.{Kind}
use Rattle.fut_types.specs.declared.Kind.TheVariants as kind
use Rattle.fut_types.specs.declared.Head.TheVariants as head
use Rattle.fut_types.specs.Types.{Ty, Var, Made, Tys, none, more, Sub, Kinds, HasKind, level, applied, all_applied, scalar_ty, fun_ty}
use Rattle.fut_types.proofs.TyLaws.{level_most, rank_made, least_none, same_parts, same_first, same_rest}
use Rattle.fut_typing.specs.Names.{Names}
use Rattle.fut_typing.specs.Free.{has_types}
use Rattle.fut_typing.specs.Scopes.{Uses, Scope, nothing, with_uses}
use Rattle.fut_typing.specs.Generalised.{Suits, own_types, Scheme, Reused, Generalised}
use Rattle.fut_typing.specs.Patterns.{arrows}
use Rattle.fut_typing.specs.Program.{Defined, defined, program_of, program_numbers, definition_scheme, Definitions_typed, Program_typed}
use Rattle.fut_typing.specs.Exact.{behind, scope_behind, scheme_behind}
use Rattle.fut_typing.proofs.Local.{uses_here, uses_other}
use Rattle.type_graph.specs.declared.Node.{Node}
use Rattle.type_scopes.specs.declared.Inference.{Inference}
use Rattle.type_graph.specs.Graph.{node_at}
use Rattle.type_infer.specs.Inferring.{Numbers, TypeScheme, Instantiates, Has_scheme, Has_typing, Infers}
use Rattle.type_infer.specs.Reading.{Reads, Comes_to, Generally, node_default}
use Rattle.flat_numbers.specs.Listed.{AreHomes}
use Rattle.type_soundness.specs.Programs.{None_has, One_each}
use Rattle.typed_programs.specs.EntryTypes.{array_ty, data_ty, data_tys, Results_are, Has_entry_type, number_of}
use Rattle.typed_programs.specs.Entries.{Type_is, No_entry_type, May_be_used, Is_unwritten, Is_outside}
use Rattle.typed_programs.proofs.EntryTypes.{parameters_data, results_data}
use Rattle.typed_programs.proofs.TypedLaws.{typing_holds}

suits_none : (places : Kind) (K : Kinds) (c : Sub) (ps : List (Parameter BindId)) → has_types ps ≡ false → Suits places K c ps
suits_none places K c [] h = tt
suits_none places K c (Size_parameter b ∷ ps) h = suits_none places K c ps h
suits_none places K c (Type_parameter b lifted ∷ ps) h = absurd (let z : true ≡ false = h in cc)

module _ (N : Names) (places : Kind) (K : Kinds) (a : Sub) where
  abbrev scheme : Definition → ℕ → Scope → Scheme
  scheme d lo scope = definition_scheme N places (defined d) lo scope

  abbrev next : Definition → ℕ → ℕ
  next d lo = lo + (1 + numbers (term_of d.value.now))

  abbrev entered : Definition → ℕ → Scope → Scope
  entered d lo scope = with_uses d.bind.0 (Reused places (scheme d lo scope) lo) scope

  -- what stands behind does not hide it
  stays : (b : ℕ) (ds : List Definition) (lo : ℕ) (scope : Scope) → None_has b ds → (scope_behind N places (map defined ds) lo scope).uses b ≡ scope.uses b
  stays b [] lo scope h = refl
  stays b (d ∷ ds) lo scope h = stays b ds (next d lo) (entered d lo scope) h.1 ∙ uses_other d.bind.0 (Reused places (scheme d lo scope) lo) scope b (λ e. h.0 (sym e))

  reused : (d : Definition) (lo : ℕ) (scope : Scope) → has_types (parameters d.heads.now) ≡ false → Generalised places (scheme d lo scope) K a → Reused places (scheme d lo scope) lo K a (a lo)
  reused d lo scope plain g = (
    own_types places (parameters d.heads.now),
    suits_none places K (own_types places (parameters d.heads.now)) (parameters d.heads.now) plain,
    (record { other = a; outside = λ n o. refl; kept = λ n p q f. refl; typed = g.0 }, refl),
  )

  -- the uses of a definition's name, behind all definitions
  pub uses_at : (ds : List Definition) (i : ℕ) (some : Definition) (lo : ℕ) (scope : Scope) → i < length ds → One_each ds
      → (scope_behind N places (map defined ds) lo scope).uses (slice_index_or ds i some).bind.0 ≡ Reused places (scheme (slice_index_or ds i some) (behind (map defined (take i ds)) lo) (scope_behind N places (map defined (take i ds)) lo scope)) (behind (map defined (take i ds)) lo)
  uses_at [] i some lo scope lt once = absurd (let z : i < 0 = lt in omega arith)
  uses_at (d ∷ ds) zero some lo scope lt once = stays d.bind.0 ds (next d lo) (entered d lo scope) once.0 ∙ uses_here d.bind.0 (Reused places (scheme d lo scope) lo) scope
  uses_at (d ∷ ds) (suc i) some lo scope lt once = uses_at ds i some (next d lo) (entered d lo scope) (let z : suc i < suc (length ds) = lt in omega arith) once.1

  pub used_at : (ds : List Definition) (i : ℕ) (some : Definition) (lo : ℕ) (scope : Scope) → i < length ds → One_each ds → Definitions_typed N places (map defined ds) lo scope K a
      → has_types (parameters (slice_index_or ds i some).heads.now) ≡ false
      → (scope_behind N places (map defined ds) lo scope).uses (slice_index_or ds i some).bind.0 K a (a (behind (map defined (take i ds)) lo))
  used_at [] i some lo scope lt once h plain = absurd (let z : i < 0 = lt in omega arith)
  used_at (d ∷ ds) zero some lo scope lt once h plain =
      let same = stays d.bind.0 ds (next d lo) (entered d lo scope) once.0 ∙ uses_here d.bind.0 (Reused places (scheme d lo scope) lo) scope in
      subst (λ (u : Uses). u K a (a lo)) (sym same) (reused d lo scope plain h.0)
  used_at (d ∷ ds) (suc i) some lo scope lt once h plain = used_at ds i some (next d lo) (entered d lo scope) (let z : suc i < suc (length ds) = lt in omega arith) once.1 h.1 plain

-- where the number of a name stands
pub behind_below : (ds : List Definition) (i lo : ℕ) → i < length ds → behind (map defined (take i ds)) lo < lo + program_numbers (map defined ds)
behind_below [] i lo lt = absurd (let z : i < 0 = lt in omega arith)
behind_below (d ∷ ds) zero lo lt = omega arith
behind_below (d ∷ ds) (suc i) lo lt = let r = behind_below ds i (lo + (1 + numbers (term_of d.value.now))) (let z : suc i < suc (length ds) = lt in omega arith) in omega (arith, r)

pub behind_counted : (ds : List Definition) (lo : ℕ) → behind (map defined ds) lo ≡ lo + program_numbers (map defined ds)
behind_counted [] lo = omega arith
behind_counted (d ∷ ds) lo = let r = behind_counted ds (lo + (1 + numbers (term_of d.value.now))) in omega (arith, r)

-- ---- instances of types

-- data of an entry, a row of such, and a function of it, have no other instance
arrays_stay : (by : Sub) (r : ℕ) (s : ScalarType) → applied by (array_ty r (scalar_ty s)) ≡ array_ty r (scalar_ty s)
unfolding applied
arrays_stay by zero s = refl
arrays_stay by (suc r) s = ap (λ t. Made head.Array (more t none)) (arrays_stay by r s)

data_stays : (by : Sub) (t : DataType) → applied by (data_ty t) ≡ data_ty t
data_stays by t = arrays_stay by t.rank t.elem

row_stays : (by : Sub) (ss : List DataType) → all_applied by (data_tys ss) ≡ data_tys ss
unfolding applied data_tys
row_stays by [] = refl
row_stays by (s ∷ ss) = λ i. more (data_stays by s i) (row_stays by ss i)

result_stays : (by : Sub) (tuple : Bool) (rs : List DataType) (u : Ty) → Results_are tuple rs u → applied by u ≡ u
unfolding applied
result_stays by false [] u r = absurd r
result_stays by false (s ∷ []) u r = ap (applied by) r ∙ data_stays by s ∙ sym r
result_stays by false (s ∷ t ∷ rs) u r = absurd r
result_stays by true rs u r = ap (applied by) r.1 ∙ ap (Made head.Tuple) (row_stays by rs) ∙ sym r.1

entry_stays : (by : Sub) (ps : List DataType) (u : Ty) → applied by u ≡ u → applied by (arrows (data_tys ps) u) ≡ arrows (data_tys ps) u
unfolding applied data_tys
entry_stays by [] u e = e
entry_stays by (p ∷ ps) u e = λ i. fun_ty (data_stays by p i) (entry_stays by ps u e i)

-- a type of which two instances are the same is that, if what both put is the same only where nothing is put
mutual
  unfolding applied

  unmoved : (f g : Sub) → ((v : ℕ) → f v ≡ g v → f v ≡ Var v) → (t : Ty) → applied f t ≡ applied g t → applied f t ≡ t
  unmoved f g same (Var v) e = same v e
  unmoved f g same (Made h ts) e = ap (Made h) (all_unmoved f g same ts (same_parts h h (all_applied f ts) (all_applied g ts) e))

  all_unmoved : (f g : Sub) → ((v : ℕ) → f v ≡ g v → f v ≡ Var v) → (ts : Tys) → all_applied f ts ≡ all_applied g ts → all_applied f ts ≡ ts
  all_unmoved f g same none e = refl
  all_unmoved f g same (more t ts) e = λ i. more (unmoved f g same t (same_first (applied f t) (applied g t) (all_applied f ts) (all_applied g ts) e) i) (all_unmoved f g same ts (same_rest (applied f t) (applied g t) (all_applied f ts) (all_applied g ts) e) i)

-- one integer type for all that is generalised
abbrev all_put : IntType → Bool → ℕ → Ty
all_put t true v = scalar_ty (scalar.Int t)
all_put t false v = Var v

integer_suits : (K : Kinds) (k : Kind) (t : IntType) → HasKind K k (scalar_ty (scalar.Int t))
integer_suits K k t = let most : level k ≤ 4 = level_most k in subst (λ n. level k ≤ n) (sym (rank_made K (head.Scalar (scalar.Int t)) none ∙ ap (λ n. min 4 n) (least_none K))) (omega (arith, most))

puts_integers : (q : TypeScheme) (K : Kinds) (t : IntType) → Instantiates q K (λ v. all_put t (q.general v) v)
puts_integers q K t = record {
  chosen = λ v e. subst (λ b. HasKind K (q.kinds v) (all_put t b v)) (sym e) (integer_suits K (q.kinds v) t);
  left = λ v e. ap (λ b. all_put t b v) e;
}

two_integers : scalar_ty (scalar.Int int.I32) ≡ scalar_ty (scalar.Int int.U8) → ⊥
two_integers e = cc

put_apart : (b : Bool) (v : ℕ) → all_put int.I32 b v ≡ all_put int.U8 b v → all_put int.I32 b v ≡ Var v
put_apart true v e = absurd (two_integers e)
put_apart false v e = refl

-- ---- entries

-- a node has one type
reads_once : (s : Sub) (nodes : List Node) (i : ℕ) (t u : Ty) → Reads s nodes i t → Reads s nodes i u → t ≡ u
reads_once s nodes i t u a b = let D : ℕ = a.0 in let E : ℕ = b.0 in sym (a.1 (max D E) (omega arith)) ∙ b.1 (max D E) (omega arith)

some_definition : (ds : List Definition) (at : ℕ) → at < length ds → Definition
some_definition [] at lt = absurd (let z : at < 0 = lt in omega arith)
some_definition (d ∷ ds) at lt = d

-- a row, split at one of its definitions
pub split_at : (ds : List Definition) (i : ℕ) (some : Definition) → i < length ds → map defined ds ≡ map defined (take i ds) ++ defined (slice_index_or ds i some) ∷ map defined (drop (suc i) ds)
split_at [] i some lt = absurd (let z : i < 0 = lt in omega arith)
split_at (d ∷ ds) zero some lt = refl
split_at (d ∷ ds) (suc i) some lt = ap (λ l. defined d ∷ l) (split_at ds i some (let z : suc i < suc (length ds) = lt in omega arith))

module _ (flat : Flat) (inference : Inference) (at : ℕ) (lt : at < length flat.definitions.now) (infers : Infers (program_of flat) inference) (once : One_each flat.definitions.now) (plain : Is_unwritten flat at) where
  module _ (other : Definition) (N : Names) (numbered : Numbers inference N) (K : Kinds) (a : Sub) (typed : Program_typed N kind.Data (program_of flat) K a) (shown : (n : ℕ) → n < program_numbers (program_of flat) → Comes_to inference.nodes n (a n)) where
    abbrev before : List Defined
    before = map defined (take at flat.definitions.now)

    abbrev here : Definition
    here = slice_index_or flat.definitions.now at other

    abbrev uses : Uses
    uses = (scope_behind N kind.Data (program_of flat) 0 nothing).uses here.bind.0

    has : Has_typing (program_of flat) inference N
    has = infers.typing.holds N numbered

    scheme_of : Has_scheme inference.nodes (scheme_behind N kind.Data before (defined here)) K a
    scheme_of = has.schemes before (map defined (drop (suc at) flat.definitions.now)) (defined here) (split_at flat.definitions.now at other lt) (plain other) K a typed
        (λ n below. reads_once (λ v. node_default v (node_at inference.nodes v)) inference.nodes n (a n) (has.types n) (shown n below) (has.comes n below))

    -- its uses are the instances
    to : (t : Ty) → uses K a t → (by : Sub) × Instantiates scheme_of.scheme K by × (t ≡ applied by scheme_of.scheme.type)
    to t u = (scheme_of.uses t).0 (subst (λ (w : Uses). w K a t) (uses_at N kind.Data K a flat.definitions.now at other 0 nothing lt once) u)

    from : (t : Ty) → (by : Sub) × Instantiates scheme_of.scheme K by × (t ≡ applied by scheme_of.scheme.type) → uses K a t
    from t i = subst (λ (w : Uses). w K a t) (sym (uses_at N kind.Data K a flat.definitions.now at other 0 nothing lt once)) ((scheme_of.uses t).1 i)

    -- its type has no other instance
    one_type : (params : List DataType) (tuple : Bool) (results : List DataType) → Type_is (Generally inference.nodes) (number_of flat at) params tuple results → Has_entry_type uses K a params tuple results
    one_type params tuple results is =
        let r = is scheme_of.scheme.type scheme_of.shown in
        let stays : (by : Sub) → applied by scheme_of.scheme.type ≡ arrows (data_tys params) r.0 = λ by. ap (applied by) r.2 ∙ entry_stays by params r.0 (result_stays by tuple results r.0 r.1) in record {
          result = r.0;
          results_are = r.1;
          used = from (arrows (data_tys params) r.0) ((λ v. all_put int.I32 (scheme_of.scheme.general v) v), puts_integers scheme_of.scheme K int.I32, sym (stays (λ v. all_put int.I32 (scheme_of.scheme.general v) v)));
          only = λ t u. let i = to t u in i.2 ∙ stays i.0;
        }

    -- a type of which each instance is one of an entry is that
    not_one : No_entry_type (Generally inference.nodes) (number_of flat at) → (params : List DataType) (tuple : Bool) (results : List DataType) → Has_entry_type uses K a params tuple results → ⊥
    not_one deny params tuple results h =
        let put : IntType → Sub = λ t v. all_put t (scheme_of.scheme.general v) v in
        let is : (t : IntType) → applied (put t) scheme_of.scheme.type ≡ arrows (data_tys params) h.result = λ t. h.only (applied (put t) scheme_of.scheme.type) (from (applied (put t) scheme_of.scheme.type) (put t, puts_integers scheme_of.scheme K t, refl)) in
        deny scheme_of.scheme.type scheme_of.shown params tuple results
        (h.result, h.results_are, sym (unmoved (put int.I32) (put int.U8) (λ v e. put_apart (scheme_of.scheme.general v) v e) scheme_of.scheme.type (is int.I32 ∙ sym (is int.U8))) ∙ is int.I32)

  pub may_be_used : (params : List DataType) (tuple : Bool) (results : List DataType) → Type_is (Generally inference.nodes) (number_of flat at) params tuple results → May_be_used flat inference at params tuple results
  may_be_used params tuple results is = record {
    entry = λ other N numbered K a typed shown. one_type other N numbered K a typed shown params tuple results is;
    takes_data = λ K. parameters_data K params;
    gives_data = λ K u r. results_data K tuple results u r;
  }

  pub none_outside : No_entry_type (Generally inference.nodes) (number_of flat at) → Is_outside flat inference at
  none_outside deny = inr (λ other N numbered K a typed shown. not_one other N numbered K a typed shown deny)

  -- an entry's definition is not outside
  pub not_outside : (params : List DataType) (tuple : Bool) (results : List DataType) → Type_is (Generally inference.nodes) (number_of flat at) params tuple results → Is_outside flat inference at → ⊥
  not_outside params tuple results is (inl types) = let some : Definition = some_definition flat.definitions.now at lt in let e : true ≡ false = sym (types some) ∙ plain some in cc
  not_outside params tuple results is (inr deny) =
      let some : Definition = some_definition flat.definitions.now at lt in
      let N : Names = infers.typing.some.0 in
      let numbered = infers.typing.some.1 in
      let has = infers.typing.holds N numbered in
      let typed = typing_holds N (program_of flat) has.types has.typing in
      deny some N numbered has.typing.principal.kinds has.types typed has.comes params tuple results (one_type some N numbered has.typing.principal.kinds has.types typed has.comes params tuple results is)

pub number_within : (flat : Flat) (nodes : List Node) (at : ℕ) → at < length flat.definitions.now → program_numbers (program_of flat) ≤ length nodes → number_of flat at < length nodes
number_within flat nodes at lt le = let below : number_of flat at < 0 + program_numbers (program_of flat) = behind_below flat.definitions.now at 0 lt in omega (arith, below, le)

-- whichever definition stands for one outside
same_at : (ds : List Definition) (at : ℕ) (x y : Definition) → at < length ds → slice_index_or ds at x ≡ slice_index_or ds at y
same_at [] at x y lt = absurd (let z : at < 0 = lt in omega arith)
same_at (d ∷ ds) zero x y lt = refl
same_at (d ∷ ds) (suc at) x y lt = same_at ds at x y (let z : suc at < suc (length ds) = lt in omega arith)

pub same_heads : (ds : List Definition) (at : ℕ) (some : Definition) (written : Bool) → at < length ds → written ≡ has_types (parameters (slice_index_or ds at some).heads.now) → (other : Definition) → has_types (parameters (slice_index_or ds at other).heads.now) ≡ written
same_heads ds at some written lt is other = sym (ap (λ (d : Definition). has_types (parameters d.heads.now)) (same_at ds at some other lt)) ∙ sym is

pub outside_heads : (flat : Flat) (inference : Inference) (at : ℕ) (some : Definition) (written : Bool) → at < length flat.definitions.now → written ≡ has_types (parameters (slice_index_or flat.definitions.now at some).heads.now) → written ≡ true → Is_outside flat inference at
outside_heads flat inference at some written lt is holds = inl (λ other. same_heads flat.definitions.now at some written lt is other ∙ holds)

pub plain_heads : (ds : List Definition) (at : ℕ) (some : Definition) (written : Bool) → at < length ds → written ≡ has_types (parameters (slice_index_or ds at some).heads.now) → written ≡ false → (other : Definition) → has_types (parameters (slice_index_or ds at other).heads.now) ≡ false
plain_heads ds at some written lt is fails other = same_heads ds at some written lt is other ∙ fails

pub counted : (flat : Flat) (at : ℕ) (homes : List ℕ) → AreHomes homes (map defined (take at flat.definitions.now)) → length homes ≡ number_of flat at
counted flat at homes are = let b : behind (map defined (take at flat.definitions.now)) 0 ≡ 0 + program_numbers (map defined (take at flat.definitions.now)) = behind_counted (take at flat.definitions.now) 0 in
    let l : length homes ≡ program_numbers (map defined (take at flat.definitions.now)) = are.long in omega (arith, b, l)
