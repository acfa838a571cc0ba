-- The forms of written types.
use Rattle.std.proofs.Common.{◌≡◌, ℕ, ◌+◌, ◌≤◌, ◌<◌, List, [], ◌∷◌, ◌++◌, length, map, Bor, Option, None, Some, refl, sym, ◌∙◌, ap, subst, arith}
use mathlib.Core.Logic.{inl, inr}
use native.Mathlib.Decide.{ℕ_discrete}
use Rattle.fut_scalar.specs.declared.place.BindId.{BindId}
use Rattle.fut_types.specs.declared.Kind.{Kind}
use Rattle.fut_types.specs.declared.Head.TheVariants as head
use Rattle.fut_types.specs.Types.{Ty, Made, Tys, none, more, Sub, Kinds, HasKind, fun_ty, row}
use Rattle.fut_flat.specs.declared.prim.Ref.{Ref}
use Rattle.fut_flat.specs.declared.prim.Ref.TheVariants as ref
use Rattle.fut_flat.specs.Terms.{Size_term, Size_use, Size_const, Size_blank, Type_use, Array_type, Unique_type, Arrow_type, Tuple_type, Record_type, Type_terms, no_type, type_and, no_arg, size_arg, type_arg}
use Rattle.fut_flat.specs.Erased.{FlatType, Argument, a_size, a_type, arguments, texts, types, type_of, type_form, argument_form}
use Rattle.fut_flat.specs.declared.ty.TypeExp.{TypeExp}
use Rattle.fut_flat.specs.declared.ty.TypeField.{TypeField, fold_out-TypeField}
use Rattle.fut_flat.specs.declared.ty.TypeForm.TheVariants as form
use Rattle.fut_flat.specs.declared.ty.TypeArg.{TypeArg}
use Rattle.fut_flat.proofs.ErasedPatterns.{argument_of, type_field, type_record, type_use}
use Rattle.fut_ast.specs.Sorts.{Text}
use Rattle.fut_typing.specs.Names.{Names, IsRecord}
use Rattle.fut_typing.specs.Primitives.{array_ty, i64_ty}
use Rattle.fut_typing.specs.Scopes.{Uses, Scope, with_uses, with_argument, the_one, this_type, IsSize, Denotes, All_denote}
use Rattle.fut_typing.specs.Homes.{Env, one, scope_of}
use Rattle.fut_typing.proofs.Cong.{scope_local}
use Rattle.type_graph.specs.Graph.{Tables, Solves, numbers}
use Rattle.type_graph.specs.Claims.{types_of}
use Rattle.type_graph.proofs.Grown.{joined, joined_low, joined_high}
use Rattle.type_rules.specs.declared.demand.Demand.TheVariants as demand
use Rattle.type_rules.specs.Demands.{Met, All_met}
use Rattle.type_scopes.specs.declared.names.Known.TheVariants as known
use Rattle.type_scopes.specs.declared.names.Past.{Past}
use Rattle.type_scopes.specs.declared.Inference.{Inference}
use Rattle.type_scopes.specs.Table.{known_at, entered, undone}
use Rattle.type_scopes.specs.Scopes.{Safe, Later, More, Claim, Claimed, Refused, Opened}
use Rattle.type_scopes.proofs.Going.{later_then}
use Rattle.type_scopes.proofs.Opening.{more_same, knows_with, later_back, means_uses, opened_number, taken_back}
use Rattle.type_patterns.specs.Asking.{Scoped, Asked, Unasked, Added, Size_claim, Type_claim, Types_claim, Result_claim, Ascribed_claim, field_name, field_type}
use Rattle.type_patterns.proofs.Asking.{anywhere, asked_claimed, unasked_as, asked_then, unasked_then, unasked_refused}
use Rattle.type_patterns.proofs.Own.{safe_own, asked_own, unasked_own}
use Rattle.type_patterns.proofs.Rows.{types_row, pick, row_picked}

-- scopes that say the same of types and sizes, where all nodes have these types or those
abbrev pub Carries : Kinds → Sub → Sub → Scope → Scope → Type 0
Carries K a b scope scope' = ((n : ℕ) → scope.uses n K a i64_ty → scope'.uses n K b i64_ty) × ((n : ℕ) (t : Ty) → scope.types n t → scope'.types n t)

module _ (N : Names) (places : Kind) (K : Kinds) (a b : Sub) where
  carries_with : (n : ℕ) (u v : Uses) (scope scope' : Scope) → (u K a i64_ty → v K b i64_ty) → Carries K a b scope scope' → Carries K a b (with_uses n u scope) (with_uses n v scope')
  carries_with n u v scope scope' into c = (
    (λ m. elim (ℕ_discrete m n) as (λ d. (elim d as (λ d. Uses) [ yes e ↦ u | no ne ↦ scope.uses m ]) K a i64_ty → (elim d as (λ d. Uses) [ yes e ↦ v | no ne ↦ scope'.uses m ]) K b i64_ty) [ yes e ↦ into | no ne ↦ c.0 m ]),
    c.1,
  )

  carries_argument : (n : Option BindId) (t : Ty) (scope scope' : Scope) → Carries K a b scope scope' → Carries K a b (with_argument n t scope) (with_argument n t scope')
  carries_argument None t scope scope' c = c
  carries_argument (Some n) t scope scope' c = carries_with n.0 (this_type t) (this_type t) scope scope' (λ h. h) c

  size_carried : (s : Size_term Ref BindId) (scope scope' : Scope) → Carries K a b scope scope' → IsSize scope K a s → IsSize scope' K b s
  size_carried (Size_use (ref.Bound n)) scope scope' c h = c.0 n.0 h
  size_carried (Size_use (ref.Prim p)) scope scope' c h = h
  size_carried (Size_use (ref.Scalar s)) scope scope' c h = h
  size_carried (Size_const n) scope scope' c h = h
  size_carried (Size_blank n) scope scope' c h = h

  mutual
    denotes_carried : (e : FlatType) (scope scope' : Scope) (t : Ty) → Carries K a b scope scope' → Denotes N places K a e scope t → Denotes N places K b e scope' t
    denotes_carried (Type_use (ref.Bound n) no_arg) scope scope' t c h = c.1 n.0 t h
    denotes_carried (Type_use (ref.Prim p) no_arg) scope scope' t c h = h
    denotes_carried (Type_use (ref.Scalar s) no_arg) scope scope' t c h = h
    denotes_carried (Type_use r (size_arg s rest)) scope scope' t c h = h
    denotes_carried (Type_use r (type_arg u rest)) scope scope' t c h = h
    denotes_carried (Array_type s e) scope scope' t c h = (size_carried s scope scope' c h.0, (h.1.0, denotes_carried e scope scope' h.1.0 c h.1.1, h.1.2))
    denotes_carried (Unique_type e) scope scope' t c h = denotes_carried e scope scope' t c h
    denotes_carried (Arrow_type n from to) scope scope' t c h = (h.0, h.1, denotes_carried from scope scope' h.0 c h.2, denotes_carried to (with_argument n h.0 scope) (with_argument n h.0 scope') h.1 (carries_argument n h.0 scope scope' c) h.3, h.4)
    denotes_carried (Tuple_type es) scope scope' t c h = (h.0, all_carried es scope scope' h.0 c h.1, h.2)
    denotes_carried (Record_type fs es) scope scope' t c h = (h.0, all_carried es scope scope' h.0 c h.1, h.2)

    all_carried : (es : Type_terms Ref BindId) (scope scope' : Scope) (ts : Tys) → Carries K a b scope scope' → All_denote N places K a es scope ts → All_denote N places K b es scope' ts
    all_carried no_type scope scope' none c h = h
    all_carried no_type scope scope' (more t ts) c h = h
    all_carried (type_and e es) scope scope' none c h = h
    all_carried (type_and e es) scope scope' (more t ts) c h = (denotes_carried e scope scope' t c h.0, all_carried es scope scope' ts c h.1)

-- what is written depends on the types of nodes below base
module _ (N : Names) (places : Kind) (T : Tables) (base : ℕ) (E : Env) (i : Inference) (sc : Scoped N places T base E i) (K : Kinds) (a b : Sub) (same : (n : ℕ) → n < base → a n ≡ b n) where
  low : Carries K a b (scope_of N places E) (scope_of N places E)
  low = ((λ n u. scope_local N places E n K a b i64_ty (λ m q. same m (sc.narrow m q)) u), (λ n t h. h))

  size_low : (s : Size_term Ref BindId) → IsSize (scope_of N places E) K a s → IsSize (scope_of N places E) K b s
  size_low s h = size_carried N places K a b s (scope_of N places E) (scope_of N places E) low h

  type_low : (e : FlatType) (t : Ty) → Denotes N places K a e (scope_of N places E) t → Denotes N places K b e (scope_of N places E) t
  type_low e t h = denotes_carried N places K a b e (scope_of N places E) (scope_of N places E) t low h

  result_low : (n : Option BindId) (u : Ty) (e : FlatType) (t : Ty) → Denotes N places K a e (with_argument n u (scope_of N places E)) t → Denotes N places K b e (with_argument n u (scope_of N places E)) t
  result_low n u e t h = denotes_carried N places K a b e (with_argument n u (scope_of N places E)) (with_argument n u (scope_of N places E)) t (carries_argument N places K a b n u (scope_of N places E) (scope_of N places E) low) h

  row_low : (es : List FlatType) (ts : Tys) → All_denote N places K a (types es) (scope_of N places E) ts → All_denote N places K b (types es) (scope_of N places E) ts
  row_low es ts h = all_carried N places K a b (types es) (scope_of N places E) (scope_of N places E) ts low h

-- the name of a parameter has its type, or that of its node
module _ (N : Names) (places : Kind) (K : Kinds) (a : Sub) (b : BindId) (x : ℕ) (e : FlatType) (scope : Scope) (t : Ty) where
  to_argument : Denotes N places K a e (with_uses b.0 (the_one x) scope) t → Denotes N places K a e (with_argument (Some b) (a x) scope) t
  to_argument h = denotes_carried N places K a a e (with_uses b.0 (the_one x) scope) (with_argument (Some b) (a x) scope) t (carries_with N places K a a b.0 (the_one x) (this_type (a x)) scope scope (λ h. h) ((λ n h. h), (λ n t h. h))) h

  from_argument : Denotes N places K a e (with_argument (Some b) (a x) scope) t → Denotes N places K a e (with_uses b.0 (the_one x) scope) t
  from_argument h = denotes_carried N places K a a e (with_argument (Some b) (a x) scope) (with_uses b.0 (the_one x) scope) t (carries_with N places K a a b.0 (this_type (a x)) (the_one x) scope scope (λ h. h) ((λ n h. h), (λ n t h. h))) h

-- types for nodes behind those that are there
module _ (n0 base : ℕ) (le : base ≤ n0) (a c : Sub) (agree : (n : ℕ) → n < base → c n ≡ a n) (ts : Tys) where
  abbrev pub filled : Sub
  filled = joined n0 c (pick ts)

  pub filled_low : (n : ℕ) → n < n0 → filled n ≡ c n
  filled_low n lt = joined_low n0 c (pick ts) n lt

  pub filled_high : (n k : ℕ) → n ≡ n0 + k → filled n ≡ pick ts k
  filled_high n k e = subst (λ m. joined n0 c (pick ts) m ≡ pick ts k) (sym e) (joined_high n0 c (pick ts) k)

  pub filled_old : (n : ℕ) → n < base → a n ≡ filled n
  filled_old n lt = sym (agree n lt) ∙ sym (filled_low n (omega arith))

-- an array
module _ (places : Kind) (base node own : ℕ) (s : Size_term Ref BindId) (e : FlatType) (i0 i1 i2 : Inference) (safe : Safe base i0) (lt : node < base) (ad : Added 1 i0 i1) (first : own ≡ length i0.nodes) (all : ℕ) (ea : all ≡ length i1.nodes) where
  abbrev array_demand : Claim
  array_demand N scope K a = All_met N.shapes K a (demand.Array node own ∷ demand.Has own places ∷ [])

  abbrev array_size : Claim
  array_size N scope K a = array_demand N scope K a × Size_claim s N scope K a

  abbrev array_all : Claim
  array_all N scope K a = array_size N scope K a × Type_claim places e own N scope K a

  abbrev array : Claim
  array = Type_claim places (Array_type s e) node

  array_give : (N : Names) (T : Tables) (E : Env) → Scoped N places T base E i0 → (K : Kinds) (a c : Sub) → ((n : ℕ) → n < base → c n ≡ a n) → Solves T K c i0.nodes → array N (scope_of N places E) K a → (t : Sub) × ((n : ℕ) → n < length i0.nodes → t n ≡ c n) × array_all N (scope_of N places E) K t
  unfolding All_met Met pick
  array_give N T E sc K a c agree so r =
      let ts : Tys = more r.1.0 none in
      let t : Sub = filled (length i0.nodes) base safe.inside a c agree ts in
      let old : (n : ℕ) → n < base → a n ≡ t n = filled_old (length i0.nodes) base safe.inside a c agree ts in
      let high : t own ≡ r.1.0 = filled_high (length i0.nodes) base safe.inside a c agree ts own 0 (omega (arith, first)) in
      (t, filled_low (length i0.nodes) base safe.inside a c agree ts, (((sym (old node lt) ∙ r.1.2.0 ∙ ap array_ty (sym high), (subst (HasKind K places) (sym high) r.1.2.1, tt)), size_low N places T base E i0 sc K a t old s r.0), subst (λ u. Denotes N places K t e (scope_of N places E) u) (sym high) (type_low N places T base E i0 sc K a t old e r.1.0 r.1.1)))

  array_take : (N : Names) (T : Tables) (E : Env) → Scoped N places T base E i0 → (K : Kinds) (a c : Sub) → ((n : ℕ) → n < base → c n ≡ a n) → Solves T K c i0.nodes → array_all N (scope_of N places E) K c → array N (scope_of N places E) K a
  unfolding All_met Met
  array_take N T E sc K a c agree so h = subst (λ u. Denotes N places K a (Array_type s e) (scope_of N places E) u) (agree node lt)
      (type_low N places T base E i0 sc K c a agree (Array_type s e) (c node) (h.0.1, (c own, h.1, (h.0.0.0, h.0.0.1.0))))

  pub array_err1 : Unasked places all array_demand i1 i2 → Unasked places base array i0 i2
  array_err1 c = unasked_own base 1 i0 i1 safe ad all ea places array_all array i2 array_give (unasked_as places all array_demand array_all i1 i2 (λ N E K a h. h.0.0) c)

  module _ (i3 : Inference) (c1 : Asked places all array_demand i1 i2) where
    pub array_err2 : Unasked places all (Size_claim s) i2 i3 → Unasked places base array i0 i3
    array_err2 c = unasked_own base 1 i0 i1 safe ad all ea places array_all array i3 array_give (unasked_then places all array_demand (Size_claim s) array_all i1 i2 i3 (safe_own base 1 i0 i1 safe ad all ea) (λ N E K a h. h.0) c1 c)

    module _ (i4 : Inference) (c2 : Asked places all (Size_claim s) i2 i3) where
      sized : Asked places all array_size i1 i3
      sized = asked_then places all array_demand (Size_claim s) array_size i1 i2 i3 (safe_own base 1 i0 i1 safe ad all ea) (λ N E K a h. h) c1 (λ N E K a p q. (p, q)) c2

      pub array_ok : Asked places all (Type_claim places e own) i3 i4 → Asked places base array i0 i4
      array_ok c = asked_own base 1 i0 i1 safe ad all ea places array_all array i4 array_give array_take (asked_then places all array_size (Type_claim places e own) array_all i1 i3 i4 (safe_own base 1 i0 i1 safe ad all ea) (λ N E K a h. h) sized (λ N E K a p q. (p, q)) c)

      pub array_err3 : Unasked places all (Type_claim places e own) i3 i4 → Unasked places base array i0 i4
      array_err3 c = unasked_own base 1 i0 i1 safe ad all ea places array_all array i4 array_give (unasked_then places all array_size (Type_claim places e own) array_all i1 i3 i4 (safe_own base 1 i0 i1 safe ad all ea) (λ N E K a h. h) sized c)

-- a function
module _ (places : Kind) (base node own : ℕ) (b : Option BindId) (from to : FlatType) (i0 i1 i2 : Inference) (safe : Safe base i0) (lt : node < base) (ad : Added 2 i0 i1) (first : own ≡ length i0.nodes) (all : ℕ) (ea : all ≡ length i1.nodes) where
  abbrev arrow_demand : Claim
  arrow_demand N scope K a = All_met N.shapes K a (demand.Fun node own (own + 1) ∷ [])

  abbrev arrow_from : Claim
  arrow_from N scope K a = arrow_demand N scope K a × Type_claim places from own N scope K a

  abbrev arrow_all : Claim
  arrow_all N scope K a = arrow_from N scope K a × Result_claim places b own to (own + 1) N scope K a

  abbrev arrow : Claim
  arrow = Type_claim places (Arrow_type b from to) node

  arrow_give : (N : Names) (T : Tables) (E : Env) → Scoped N places T base E i0 → (K : Kinds) (a c : Sub) → ((n : ℕ) → n < base → c n ≡ a n) → Solves T K c i0.nodes → arrow N (scope_of N places E) K a → (t : Sub) × ((n : ℕ) → n < length i0.nodes → t n ≡ c n) × arrow_all N (scope_of N places E) K t
  unfolding All_met Met pick
  arrow_give N T E sc K a c agree so r =
      let ts : Tys = more r.0 (more r.1 none) in
      let t : Sub = filled (length i0.nodes) base safe.inside a c agree ts in
      let old : (n : ℕ) → n < base → a n ≡ t n = filled_old (length i0.nodes) base safe.inside a c agree ts in
      let hx : t own ≡ r.0 = filled_high (length i0.nodes) base safe.inside a c agree ts own 0 (omega (arith, first)) in
      let hy : t (own + 1) ≡ r.1 = filled_high (length i0.nodes) base safe.inside a c agree ts (own + 1) 1 (omega (arith, first)) in
      let result : Denotes N places K t to (with_argument b (t own) (scope_of N places E)) (t (own + 1)) = subst (λ u. Denotes N places K t to (with_argument b u (scope_of N places E)) (t (own + 1))) (sym hx) (subst (λ u. Denotes N places K t to (with_argument b r.0 (scope_of N places E)) u) (sym hy) (result_low N places T base E i0 sc K a t old b r.0 to r.1 r.3)) in
      (t, filled_low (length i0.nodes) base safe.inside a c agree ts, (((sym (old node lt) ∙ r.4 ∙ (λ j. fun_ty (sym hx j) (sym hy j)), tt), subst (λ u. Denotes N places K t from (scope_of N places E) u) (sym hx) (type_low N places T base E i0 sc K a t old from r.0 r.2)), result))

  arrow_take : (N : Names) (T : Tables) (E : Env) → Scoped N places T base E i0 → (K : Kinds) (a c : Sub) → ((n : ℕ) → n < base → c n ≡ a n) → Solves T K c i0.nodes → arrow_all N (scope_of N places E) K c → arrow N (scope_of N places E) K a
  unfolding All_met Met
  arrow_take N T E sc K a c agree so h = subst (λ u. Denotes N places K a (Arrow_type b from to) (scope_of N places E) u) (agree node lt)
      (type_low N places T base E i0 sc K c a agree (Arrow_type b from to) (c node) (c own, c (own + 1), h.0.1, h.1, h.0.0.0))

  pub arrow_err1 : Unasked places all arrow_demand i1 i2 → Unasked places base arrow i0 i2
  arrow_err1 c = unasked_own base 2 i0 i1 safe ad all ea places arrow_all arrow i2 arrow_give (unasked_as places all arrow_demand arrow_all i1 i2 (λ N E K a h. h.0.0) c)

  module _ (i3 : Inference) (c1 : Asked places all arrow_demand i1 i2) where
    pub arrow_err2 : Unasked places all (Type_claim places from own) i2 i3 → Unasked places base arrow i0 i3
    arrow_err2 c = unasked_own base 2 i0 i1 safe ad all ea places arrow_all arrow i3 arrow_give (unasked_then places all arrow_demand (Type_claim places from own) arrow_all i1 i2 i3 (safe_own base 2 i0 i1 safe ad all ea) (λ N E K a h. h.0) c1 c)

    module _ (i4 : Inference) (c2 : Asked places all (Type_claim places from own) i2 i3) where
      parameter : Asked places all arrow_from i1 i3
      parameter = asked_then places all arrow_demand (Type_claim places from own) arrow_from i1 i2 i3 (safe_own base 2 i0 i1 safe ad all ea) (λ N E K a h. h) c1 (λ N E K a p q. (p, q)) c2

      pub arrow_ok : Asked places all (Result_claim places b own to (own + 1)) i3 i4 → Asked places base arrow i0 i4
      arrow_ok c = asked_own base 2 i0 i1 safe ad all ea places arrow_all arrow i4 arrow_give arrow_take (asked_then places all arrow_from (Result_claim places b own to (own + 1)) arrow_all i1 i3 i4 (safe_own base 2 i0 i1 safe ad all ea) (λ N E K a h. h) parameter (λ N E K a p q. (p, q)) c)

      pub arrow_err3 : Unasked places all (Result_claim places b own to (own + 1)) i3 i4 → Unasked places base arrow i0 i4
      arrow_err3 c = unasked_own base 2 i0 i1 safe ad all ea places arrow_all arrow i4 arrow_give (unasked_then places all arrow_from (Result_claim places b own to (own + 1)) arrow_all i1 i3 i4 (safe_own base 2 i0 i1 safe ad all ea) (λ N E K a h. h) parameter c)

-- the result of a function, in which the name of its parameter stands for a node
module _ (places : Kind) (base : ℕ) (b : BindId) (x : ℕ) (e : FlatType) (node : ℕ) (i0 i1 i2 : Inference) (s : Safe base i0) (xb : x < base) (inn : b.0 < length i0.names) (fresh : known_at i0.names b.0 ≡ known.Nothing) (is : i1 ≡ entered i0 b.0 (known.Number x)) where
  abbrev inner : Claim
  inner = Type_claim places e node

  abbrev result : Claim
  result = Result_claim places (Some b) x e node

  abbrev with_name : Inference
  with_name = entered i0 b.0 (known.Number x)

  opened : Opened places base 0 (1 + x) (1 + x) (λ N scope K a. Unit {0}) (λ home. home x ≡ 0) (one b.0 x) i0 with_name
  opened = opened_number places base 0 (1 + x) i0 b.0 s inn fresh x xb (omega arith)

  scoped_in : (N : Names) (T : Tables) (E : Env) → Scoped N places T base E i0 → Scoped N places T base (one b.0 x E) with_name
  scoped_in N T E sc = record {
    narrow = λ n. elim [ inl z ↦ omega arith | inr m ↦ sc.narrow n m ];
    knows = λ K full so. knows_with T.shapes i0 b.0 (known.Number x) (i0.past ++ record { name = b.0; known = known_at i0.names b.0 } ∷ []) (the_one x) (scope_of N places E) K full inn
        (means_uses places base 0 (1 + x) i0 b.0 s inn T.shapes (known.Number x) (the_one x) (scope_of N places E) K full fresh (sc.knows K full so) (λ t. ((λ h. h), (λ h. h))) (λ t z. z)) (sc.knows K full so);
  }

  pub result_err : Unasked places base inner i1 i2 → Unasked places base result i0 i2
  result_err c0 = let c : Unasked places base inner with_name i2 = subst (λ (i : Inference). Unasked places base inner i i2) is c0 in record {
    labels = c.labels;
    reads = λ N T born r. opened.later.reads N T born (c.reads N T born r);
    nowhere = λ N T born E r sc pl K a p h. c.nowhere N T born (one b.0 x E) r (scoped_in N T E sc) pl K a p (from_argument N places K a b x e (scope_of N places E) (a node) h);
  }

  pub result_safe : Safe base i1
  result_safe = subst (λ (i : Inference). Safe base i) (sym is) opened.later.safe

  pub result_ok : (i3 : Inference) → Asked places base inner i1 i2 → ((before added : List Past) → i2.past ≡ before ++ added → length before ≡ length i0.past → i3 ≡ record i2 { names = undone added i2.names; past = before }) → Asked places base result i0 i3
  result_ok i3 c0 back =
      let c : Asked places base inner with_name i2 = subst (λ (i : Inference). Asked places base inner i i2) is c0 in
      let l : Later base i0 i2 = later_then base i0 with_name i2 opened.later c.later in
      let m : More i0 i2 = more_same i0 with_name i2 opened.more c.same in
      subst (λ (i : Inference). Asked places base result i0 i) (sym (taken_back i0 i2 i3 m back)) (record {
        later = later_back places base 0 0 (1 + x) i0 i2 s l;
        same = record { names = refl; past = refl };
        adds = λ N T born E r sc. let y = c.adds N T born (one b.0 x E) (record { names = r.names; labelled = r.labelled; shapes = r.shapes; told = r.told; seats = r.seats }) (scoped_in N T E sc) in record {
          forth = λ K a p h. y.forth K a p (from_argument N places K a b x e (scope_of N places E) (a node) h);
          back = y.back;
          done = λ K a p. to_argument N places K a b x e (scope_of N places E) (a node) (y.done K a p);
          keeps = y.keeps;
          state = y.state;
          backed = y.backed;
        };
      })

-- a type that is made of those in a row
abbrev pub Making : Type 1
Making = Names → Ty → Tys → Type 0

module _ (places : Kind) (base node own count : ℕ) (e : FlatType) (es : List FlatType) (M : Making) (i0 i1 i2 : Inference) (safe : Safe base i0) (lt : node < base) (ad : Added count i0 i1) (first : own ≡ length i0.nodes) (all : ℕ) (ea : all ≡ length i1.nodes)
    (opens : (N : Names) (K : Kinds) (a : Sub) (scope : Scope) (t : Ty) → Denotes N places K a e scope t → (ts : Tys) × All_denote N places K a (types es) scope ts × M N t ts)
    (closes : (N : Names) (K : Kinds) (a : Sub) (scope : Scope) (t : Ty) (ts : Tys) → All_denote N places K a (types es) scope ts → M N t ts → Denotes N places K a e scope t) where
  abbrev made : List ℕ → Claim
  made l N scope K a = M N (a node) (types_of a l)

  abbrev row_all : List ℕ → Claim
  row_all l N scope K a = Types_claim places es own N scope K a × made l N scope K a

  module _ (l : List ℕ) (is : l ≡ numbers own (length es)) where
    row_give : (N : Names) (T : Tables) (E : Env) → Scoped N places T base E i0 → (K : Kinds) (a c : Sub) → ((n : ℕ) → n < base → c n ≡ a n) → Solves T K c i0.nodes → Type_claim places e node N (scope_of N places E) K a → (t : Sub) × ((n : ℕ) → n < length i0.nodes → t n ≡ c n) × row_all l N (scope_of N places E) K t
    row_give N T E sc K a c agree so r =
        let w = opens N K a (scope_of N places E) (a node) r in
        let t : Sub = filled (length i0.nodes) base safe.inside a c agree w.0 in
        let old : (n : ℕ) → n < base → a n ≡ t n = filled_old (length i0.nodes) base safe.inside a c agree w.0 in
        let d : All_denote N places K t (types es) (scope_of N places E) w.0 = row_low N places T base E i0 sc K a t old es w.0 w.1 in
        let picked : row t own (length es) ≡ w.0 = row_picked N places K t (scope_of N places E) es w.0 t own d (λ k lt. filled_high (length i0.nodes) base safe.inside a c agree w.0 (own + k) k (omega (arith, first))) in
        let parts : types_of t l ≡ w.0 = ap (types_of t) is ∙ types_row t own (length es) ∙ picked in
        (t, filled_low (length i0.nodes) base safe.inside a c agree w.0, (subst (All_denote N places K t (types es) (scope_of N places E)) (sym picked) d, subst (λ u. M N u (types_of t l)) (old node lt) (subst (M N (a node)) (sym parts) w.2)))

    row_take : (N : Names) (T : Tables) (E : Env) → Scoped N places T base E i0 → (K : Kinds) (a c : Sub) → ((n : ℕ) → n < base → c n ≡ a n) → Solves T K c i0.nodes → row_all l N (scope_of N places E) K c → Type_claim places e node N (scope_of N places E) K a
    row_take N T E sc K a c agree so h = subst (λ u. Denotes N places K a e (scope_of N places E) u) (agree node lt)
        (type_low N places T base E i0 sc K c a agree e (c node) (closes N K c (scope_of N places E) (c node) (row c own (length es)) h.0 (subst (M N (c node)) (ap (types_of c) is ∙ types_row c own (length es)) h.1)))

    pub made_err1 : Unasked places all (Types_claim places es own) i1 i2 → Unasked places base (Type_claim places e node) i0 i2
    made_err1 c = unasked_own base count i0 i1 safe ad all ea places (row_all l) (Type_claim places e node) i2 row_give (unasked_as places all (Types_claim places es own) (row_all l) i1 i2 (λ N E K a h. h.0) c)

    module _ (i3 : Inference) (c1 : Asked places all (Types_claim places es own) i1 i2) where
      pub made_ok : Asked places all (made l) i2 i3 → Asked places base (Type_claim places e node) i0 i3
      made_ok c = asked_own base count i0 i1 safe ad all ea places (row_all l) (Type_claim places e node) i3 row_give row_take (asked_then places all (Types_claim places es own) (made l) (row_all l) i1 i2 i3 (safe_own base count i0 i1 safe ad all ea) (λ N E K a h. h) c1 (λ N E K a p q. (p, q)) c)

      pub made_err2 : Unasked places all (made l) i2 i3 → Unasked places base (Type_claim places e node) i0 i3
      made_err2 c = unasked_own base count i0 i1 safe ad all ea places (row_all l) (Type_claim places e node) i3 row_give (unasked_then places all (Types_claim places es own) (made l) (row_all l) i1 i2 i3 (safe_own base count i0 i1 safe ad all ea) (λ N E K a h. h) c1 c)

abbrev pub of_tuples : Making
of_tuples N t ts = t ≡ Made head.Tuple ts

abbrev pub of_records : List Text → Making
of_records fs N t ts = IsRecord N fs t ts

-- the fields of a record's type
type_field_is : (f : TypeField) → type_field f ≡ (field_name f, field_type f)
unfolding type_field type_of
type_field_is f = fold_out-TypeField Argument FlatType FlatType (Text × FlatType) argument_form type_form (λ t. t.form) (λ f. (f.name.now, f.ty)) f

fields_are : (fs : List TypeField) → map type_field fs ≡ map (λ f. (field_name f, field_type f)) fs
fields_are [] = refl
fields_are (f ∷ fs) = λ k. type_field_is f k ∷ fields_are fs k

names_are : (fs : List TypeField) → map (λ (f : Text × FlatType). f.0) (map (λ f. (field_name f, field_type f)) fs) ≡ map field_name fs
names_are [] = refl
names_are (f ∷ fs) = ap (λ l. field_name f ∷ l) (names_are fs)

types_are : (fs : List TypeField) → map (λ (f : Text × FlatType). f.1) (map (λ f. (field_name f, field_type f)) fs) ≡ map field_type fs
types_are [] = refl
types_are (f ∷ fs) = ap (λ l. field_type f ∷ l) (types_are fs)

pub record_is : (t : TypeExp) (fs : Bor (List TypeField)) → t.form ≡ form.Record fs → type_of t ≡ Record_type (map field_name fs.now) (types (map field_type fs.now))
record_is t fs is = type_record t fs is ∙ (λ k. Record_type (map (λ (f : Text × FlatType). f.0) (fields_are fs.now k)) (types (map (λ (f : Text × FlatType). f.1) (fields_are fs.now k)))) ∙ (λ k. Record_type (names_are fs.now k) (types (types_are fs.now k)))

-- arguments of a type are none
arguments_never : (N : Names) (places : Kind) (K : Kinds) (a : Sub) (r : Ref) (x : Argument) (rest : List Argument) (scope : Scope) (t : Ty) → Denotes N places K a (Type_use r (arguments (x ∷ rest))) scope t → ⊥
unfolding arguments
arguments_never N places K a r (a_size s) rest scope t h = h
arguments_never N places K a r (a_type e) rest scope t h = h

given_never : (N : Names) (places : Kind) (K : Kinds) (a : Sub) (r : Ref) (xs : List TypeArg) (scope : Scope) (t : Ty) → (length xs ≡ 0 → ⊥) → Denotes N places K a (Type_use r (arguments (map argument_of xs))) scope t → ⊥
given_never N places K a r [] scope t ne h = ne refl
given_never N places K a r (x ∷ xs) scope t ne h = arguments_never N places K a r (argument_of x) (map argument_of xs) scope t h

pub given_err : (places : Kind) (base node : ℕ) (i : Inference) (t : TypeExp) (r : Ref) (given : Bor (List TypeArg)) → Safe base i → t.form ≡ form.Use r given → (length given.now ≡ 0 → ⊥) → Unasked places base (Type_claim places (type_of t) node) i i
given_err places base node i t r given s is ne = record { labels = s.labels; reads = λ N T born r. r; nowhere = λ N T born E q sc pl K a p h. given_never N places K a r given.now (scope_of N places E) (a node) ne (subst (λ (e : FlatType). Denotes N places K a e (scope_of N places E) (a node)) (type_use t r given is) h) }

none_given : (xs : List TypeArg) → length xs ≡ 0 → arguments (map argument_of xs) ≡ no_arg
unfolding arguments
none_given [] e = refl
none_given (x ∷ xs) e = absurd (omega arith)

pub use_is : (t : TypeExp) (r : Ref) (given : Bor (List TypeArg)) → t.form ≡ form.Use r given → length given.now ≡ 0 → type_of t ≡ Type_use r no_arg
use_is t r given is e = type_use t r given is ∙ ap (Type_use r) (none_given given.now e)

-- texts in a row
texts_more : (xs : List (Bor Text)) (x : Bor Text) → texts (xs ++ x ∷ []) ≡ texts xs ++ x.now ∷ []
texts_more [] x = refl
texts_more (y ∷ xs) x = ap (λ l. y.now ∷ l) (texts_more xs x)

pub texts_next : (names names' : List (Bor Text)) (x : Bor Text) (l : List Text) → names' ≡ names ++ x ∷ [] → texts names ≡ l → texts names' ≡ l ++ x.now ∷ []
texts_next names names' x l e h = ap texts e ∙ texts_more names x ∙ ap (λ l. l ++ x.now ∷ []) h

-- two numbers of a type
module _ (places : Kind) (base : ℕ) (e : FlatType) (node part : ℕ) (i0 i1 : Inference) (d from : ℕ) where
  abbrev pair_demand : Claim
  pair_demand N scope K a = All_met N.shapes K a (demand.Same node part ∷ [])

  ascribed_split : (N : Names) (E : Env) (K : Kinds) (a : Sub) → Ascribed_claim places e node part N (scope_of N places E) K a → pair_demand N (scope_of N places E) K a × Type_claim places e node N (scope_of N places E) K a
  unfolding All_met Met
  ascribed_split N E K a h = ((h.0, tt), h.1)

  ascribed_join : (N : Names) (E : Env) (K : Kinds) (a : Sub) → pair_demand N (scope_of N places E) K a → Type_claim places e node N (scope_of N places E) K a → Ascribed_claim places e node part N (scope_of N places E) K a
  unfolding All_met Met
  ascribed_join N E K a p q = (p.0, q)

  pub ascribed_err1 : Unasked places base pair_demand i0 i1 → Refused places base d from (Ascribed_claim places e node part) anywhere i0 i1
  ascribed_err1 c = unasked_refused places base (Ascribed_claim places e node part) d from i0 i1 (unasked_as places base pair_demand (Ascribed_claim places e node part) i0 i1 (λ N E K a h. (ascribed_split N E K a h).0) c)

  module _ (i2 : Inference) (s : Safe base i0) (c1 : Asked places base pair_demand i0 i1) where
    pub ascribed_ok : Asked places base (Type_claim places e node) i1 i2 → Claimed places base d from (Ascribed_claim places e node part) anywhere i0 i2
    ascribed_ok c = asked_claimed places base (Ascribed_claim places e node part) d from i0 i2 (asked_then places base pair_demand (Type_claim places e node) (Ascribed_claim places e node part) i0 i1 i2 s ascribed_split c1 ascribed_join c)

    pub ascribed_err2 : Unasked places base (Type_claim places e node) i1 i2 → Refused places base d from (Ascribed_claim places e node part) anywhere i0 i2
    ascribed_err2 c = unasked_refused places base (Ascribed_claim places e node part) d from i0 i2 (unasked_then places base pair_demand (Type_claim places e node) (Ascribed_claim places e node part) i0 i1 i2 s ascribed_split c1 c)
