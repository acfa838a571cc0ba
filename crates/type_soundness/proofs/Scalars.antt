-- Operations on scalars of their types.
use Rattle.std.proofs.Common.{◌≡◌, Bool, true, cond, ℕ, ◌≤◌, refl, sym, ap, ◌∙◌, subst, arith, Option, Some, None, ℤ, eq-eqb, min}
use Rattle.fut_scalar.specs.declared.operator.BinOp.{BinOp}
use Rattle.fut_scalar.specs.declared.operator.BinOp.TheVariants as op
use Rattle.fut_scalar.specs.declared.operator.UnOp.{UnOp}
use Rattle.fut_scalar.specs.declared.operator.UnOp.TheVariants as one
use Rattle.fut_scalar.specs.declared.operator.ScalarFault.{ScalarFault}
use Rattle.fut_scalar.specs.declared.place.Place.{Place}
use Rattle.fut_scalar.specs.declared.scalar.IntType.{IntType}
use Rattle.fut_scalar.specs.declared.scalar.IntType.TheVariants as int
use Rattle.fut_scalar.specs.declared.scalar.Scalar.{Scalar}
use Rattle.fut_scalar.specs.declared.scalar.Scalar.TheVariants as scalar
use Rattle.fut_scalar.specs.declared.scalar.ScalarType.{ScalarType}
use Rattle.fut_scalar.specs.declared.scalar.ScalarType.TheVariants as types
use Rattle.fut_arithmetic.specs.Operations.{exact, of_type, fault_of, or_else, result_of, result_of_one}
use Rattle.fut_types.specs.declared.Kind.{Kind}
use Rattle.fut_types.specs.declared.Kind.TheVariants as kind
use Rattle.fut_types.specs.declared.Head.{Head}
use Rattle.fut_types.specs.declared.Head.TheVariants as head
use Rattle.fut_types.specs.Types.{Ty, Var, Made, Tys, none, Kinds, rank, least, cap, level, HasKind}
use Rattle.fut_types.proofs.TyLaws.{rank_made}
use Rattle.fut_typing.specs.Names.{Names}
use Rattle.fut_typing.specs.Rules.{Operator}
use Rattle.fut_meaning.specs.Found.{Told}
use Rattle.fut_meaning.specs.Outcomes.{Val}
use Rattle.fut_meaning.specs.Values.{Array_value, Scalar_value, Tuple_value, Record_value, Closure, Primitive_value}
use Rattle.fut_meaning.specs.Operators.{by_kind, is_same_type, type_number, binary_result, unary_result}
use Rattle.fut_meaning.specs.Operations.{reported, on_scalars, on_scalar}
use Rattle.fut_meaning.specs.Flats.{FlatValue, FlatTops, FlatMode}
use Rattle.fut_meaning.specs.Claims.{HasOut}
use Rattle.type_soundness.specs.Fits.{Is_scalar, On_scalar, Fits}
use Rattle.type_soundness.proofs.Binding.{has_then}

-- the type of an operation's result on integers of a type
abbrev pub result_type : BinOp → IntType → ScalarType
result_type op.Eq i = types.Bool
result_type op.Ne i = types.Bool
result_type op.Lt i = types.Bool
result_type op.Le i = types.Bool
result_type op.Gt i = types.Bool
result_type op.Ge i = types.Bool
result_type o i = types.Int i

exact_is : (o : BinOp) (i : IntType) (a b : ℤ) (m n : ℕ) → Is_scalar (result_type o i) (of_type i (exact o a b m n))
exact_is op.Add i a b m n = refl
exact_is op.Sub i a b m n = refl
exact_is op.Mul i a b m n = refl
exact_is op.Div i a b m n = refl
exact_is op.Mod i a b m n = refl
exact_is op.Quot i a b m n = refl
exact_is op.Rem i a b m n = refl
exact_is op.Pow i a b m n = refl
exact_is op.And i a b m n = refl
exact_is op.Or i a b m n = refl
exact_is op.Xor i a b m n = refl
exact_is op.Shl i a b m n = refl
exact_is op.Shr i a b m n = refl
exact_is op.Eq i a b m n = tt
exact_is op.Ne i a b m n = tt
exact_is op.Lt i a b m n = tt
exact_is op.Le i a b m n = tt
exact_is op.Gt i a b m n = tt
exact_is op.Ge i a b m n = tt
exact_is op.Min i a b m n = refl
exact_is op.Max i a b m n = refl

pub same_type : (i : IntType) → is_same_type i i ≡ true
same_type i = eq-eqb (type_number i) (type_number i) refl

faulty : (at : Place) (o : Option ScalarFault) (s : Scalar) (P : Scalar → Type 0) → P s → HasOut P (reported at (Some (by_kind (or_else o s))))
faulty at None s P h = h
faulty at (Some f) s P h = tt

-- two integers of one type
pub integers_give : (o : BinOp) (at : Place) (i : IntType) (m n : ℕ) → HasOut (λ s. Is_scalar (result_type o i) s) (reported at (binary_result o (scalar.Int i m) (scalar.Int i n)))
unfolding binary_result result_of
integers_give o at i m n = subst (λ b. HasOut (λ s. Is_scalar (result_type o i) s) (reported at (cond b (Some (by_kind (result_of o (scalar.Int i m) (scalar.Int i n)))) None))) (sym (same_type i))
    (faulty at (fault_of o _) _ (λ s. Is_scalar (result_type o i) s) (exact_is o i _ _ m n))

pub below_kind : (K : Kinds) (k : Kind) (h : Head) (ts : Tys) → HasKind K k (Made h ts) → level k ≤ cap h
below_kind K k h ts p = let e : rank K (Made h ts) ≡ min (cap h) (least K ts) = rank_made K h ts in let q : level k ≤ rank K (Made h ts) = p in omega (arith, e, q)

module _ (N : Names) (T : Told) (M : FlatMode) (budget : ℕ) (total : Bool) (tops : FlatTops) (K : Kinds) where
  abbrev pub Integer_value : Ty → FlatValue → Type 0
  Integer_value t v = (i : IntType) × (ts : Tys) × (n : ℕ) × (t ≡ Made (head.Scalar (types.Int i)) ts) × (v ≡ Scalar_value (scalar.Int i n))

  scalar_integer : (i : IntType) (ts : Tys) (v : FlatValue) → On_scalar (Is_scalar (types.Int i)) v → Integer_value (Made (head.Scalar (types.Int i)) ts) v
  scalar_integer i ts (Scalar_value (scalar.Int u n)) h = (i, ts, n, refl, ap (λ t. Scalar_value (scalar.Int t n)) h)
  scalar_integer i ts (Scalar_value (scalar.Bool b)) h = absurd h
  scalar_integer i ts (Tuple_value vs) h = absurd h
  scalar_integer i ts (Record_value fs) h = absurd h
  scalar_integer i ts (Closure ps e lo env) h = absurd h
  scalar_integer i ts (Primitive_value p at vs) h = absurd h
  scalar_integer i ts (Array_value row ds) h = absurd h

  pub integer_fits : (t : Ty) (v : FlatValue) → HasKind K kind.Integer t → Fits N T M budget total t tops v → Integer_value t v
  unfolding Fits
  integer_fits (Var n) v k h = absurd h
  integer_fits (Made (head.Scalar (types.Int i)) ts) v k h = scalar_integer i ts v h
  integer_fits (Made (head.Scalar types.Bool) ts) v k h = absurd (let p : 4 ≤ 3 = below_kind K kind.Integer (head.Scalar types.Bool) ts k in omega arith)
  integer_fits (Made head.Array ts) v k h = absurd (let p : 4 ≤ 1 = below_kind K kind.Integer head.Array ts k in omega arith)
  integer_fits (Made head.Tuple ts) v k h = absurd (let p : 4 ≤ 2 = below_kind K kind.Integer head.Tuple ts k in omega arith)
  integer_fits (Made (head.Record n) ts) v k h = absurd (let p : 4 ≤ 2 = below_kind K kind.Integer (head.Record n) ts k in omega arith)
  integer_fits (Made head.Fun ts) v k h = absurd (let p : 4 ≤ 0 = below_kind K kind.Integer head.Fun ts k in omega arith)
  integer_fits (Made (head.Rigid n d) ts) v k h = absurd h
  integer_fits (Made (head.Abstract n d) ts) v k h = absurd h

  pub int_value : (i : IntType) (v : FlatValue) → On_scalar (Is_scalar (types.Int i)) v → (n : ℕ) × (v ≡ Scalar_value (scalar.Int i n))
  int_value i (Scalar_value (scalar.Int u n)) h = (n, ap (λ t. Scalar_value (scalar.Int t n)) h)
  int_value i (Scalar_value (scalar.Bool b)) h = absurd h
  int_value i (Tuple_value vs) h = absurd h
  int_value i (Record_value fs) h = absurd h
  int_value i (Closure ps e lo env) h = absurd h
  int_value i (Primitive_value p at vs) h = absurd h
  int_value i (Array_value row ds) h = absurd h

  pub bool_value : (v : FlatValue) → On_scalar (Is_scalar types.Bool) v → (b : Bool) × (v ≡ Scalar_value (scalar.Bool b))
  bool_value (Scalar_value (scalar.Bool b)) h = (b, refl)
  bool_value (Scalar_value (scalar.Int u n)) h = absurd h
  bool_value (Tuple_value vs) h = absurd h
  bool_value (Record_value fs) h = absurd h
  bool_value (Closure ps e lo env) h = absurd h
  bool_value (Primitive_value p at vs) h = absurd h
  bool_value (Array_value row ds) h = absurd h

  -- integers or truth values
  abbrev pub Scalar_of : Ty → FlatValue → Type 0
  Scalar_of t v = (s : ScalarType) × (ts : Tys) × (c : Scalar) × (t ≡ Made (head.Scalar s) ts) × (v ≡ Scalar_value c) × Is_scalar s c

  made_scalar : (s : ScalarType) (ts : Tys) (v : FlatValue) → On_scalar (Is_scalar s) v → Scalar_of (Made (head.Scalar s) ts) v
  made_scalar s ts (Scalar_value c) h = (s, ts, c, refl, refl, h)
  made_scalar s ts (Tuple_value vs) h = absurd h
  made_scalar s ts (Record_value fs) h = absurd h
  made_scalar s ts (Closure ps e lo env) h = absurd h
  made_scalar s ts (Primitive_value p at vs) h = absurd h
  made_scalar s ts (Array_value row ds) h = absurd h

  pub scalar_fits : (t : Ty) (v : FlatValue) → HasKind K kind.Scalar t → Fits N T M budget total t tops v → Scalar_of t v
  unfolding Fits
  scalar_fits (Var n) v k h = absurd h
  scalar_fits (Made (head.Scalar s) ts) v k h = made_scalar s ts v h
  scalar_fits (Made head.Array ts) v k h = absurd (let p : 3 ≤ 1 = below_kind K kind.Scalar head.Array ts k in omega arith)
  scalar_fits (Made head.Tuple ts) v k h = absurd (let p : 3 ≤ 2 = below_kind K kind.Scalar head.Tuple ts k in omega arith)
  scalar_fits (Made (head.Record n) ts) v k h = absurd (let p : 3 ≤ 2 = below_kind K kind.Scalar (head.Record n) ts k in omega arith)
  scalar_fits (Made head.Fun ts) v k h = absurd (let p : 3 ≤ 0 = below_kind K kind.Scalar head.Fun ts k in omega arith)
  scalar_fits (Made (head.Rigid n d) ts) v k h = absurd h
  scalar_fits (Made (head.Abstract n d) ts) v k h = absurd h

  -- a scalar is of the type that is made for it
  pub fits_scalar : (s : ScalarType) (ts : Tys) (c : Scalar) → Is_scalar s c → Fits N T M budget total (Made (head.Scalar s) ts) tops (Scalar_value c)
  unfolding Fits
  fits_scalar s ts c h = h

  pub scalar_inside : (s : ScalarType) (ts : Tys) (v : FlatValue) → Fits N T M budget total (Made (head.Scalar s) ts) tops v → On_scalar (Is_scalar s) v
  unfolding Fits
  scalar_inside s ts v h = h

  fits_at : (t u : Ty) (v : FlatValue) → t ≡ u → Fits N T M budget total u tops v → Fits N T M budget total t tops v
  fits_at t u v e h = subst (λ x. Fits N T M budget total x tops v) (sym e) h

  -- of a comparison
  compares : (t u : Ty) (i : IntType) (ts : Tys) (c : Scalar) → t ≡ Made (head.Scalar types.Bool) none → Is_scalar types.Bool c → Fits N T M budget total t tops (Scalar_value c)
  compares t u i ts c e h = fits_at t _ (Scalar_value c) e (fits_scalar types.Bool none c h)

  reckons : (t u : Ty) (i : IntType) (ts : Tys) (c : Scalar) → t ≡ u → u ≡ Made (head.Scalar (types.Int i)) ts → Is_scalar (types.Int i) c → Fits N T M budget total t tops (Scalar_value c)
  reckons t u i ts c e d h = fits_at t _ (Scalar_value c) (e ∙ d) (fits_scalar (types.Int i) ts c h)

  result_fits : (o : BinOp) (t u : Ty) (i : IntType) (ts : Tys) (c : Scalar) → Operator o K t u → u ≡ Made (head.Scalar (types.Int i)) ts → Is_scalar (result_type o i) c → Fits N T M budget total t tops (Scalar_value c)
  result_fits op.Add t u i ts c h e s = reckons t u i ts c h.0 e s
  result_fits op.Sub t u i ts c h e s = reckons t u i ts c h.0 e s
  result_fits op.Mul t u i ts c h e s = reckons t u i ts c h.0 e s
  result_fits op.Div t u i ts c h e s = reckons t u i ts c h.0 e s
  result_fits op.Mod t u i ts c h e s = reckons t u i ts c h.0 e s
  result_fits op.Quot t u i ts c h e s = reckons t u i ts c h.0 e s
  result_fits op.Rem t u i ts c h e s = reckons t u i ts c h.0 e s
  result_fits op.Pow t u i ts c h e s = reckons t u i ts c h.0 e s
  result_fits op.And t u i ts c h e s = reckons t u i ts c h.0 e s
  result_fits op.Or t u i ts c h e s = reckons t u i ts c h.0 e s
  result_fits op.Xor t u i ts c h e s = reckons t u i ts c h.0 e s
  result_fits op.Shl t u i ts c h e s = reckons t u i ts c h.0 e s
  result_fits op.Shr t u i ts c h e s = reckons t u i ts c h.0 e s
  result_fits op.Min t u i ts c h e s = reckons t u i ts c h.0 e s
  result_fits op.Max t u i ts c h e s = reckons t u i ts c h.0 e s
  result_fits op.Eq t u i ts c h e s = compares t u i ts c h.0 s
  result_fits op.Ne t u i ts c h e s = compares t u i ts c h.0 s
  result_fits op.Lt t u i ts c h e s = compares t u i ts c h.0 s
  result_fits op.Le t u i ts c h e s = compares t u i ts c h.0 s
  result_fits op.Gt t u i ts c h e s = compares t u i ts c h.0 s
  result_fits op.Ge t u i ts c h e s = compares t u i ts c h.0 s

  -- an operation on two integers of one type
  pub integers_fit : (o : BinOp) (at : Place) (t u : Ty) (v w : FlatValue) → Operator o K t u → HasKind K kind.Integer u → Fits N T M budget total u tops v → Fits N T M budget total u tops w → HasOut (Fits N T M budget total t tops) (on_scalars o at v w)
  integers_fit o at t u v w rule k h g =
      let a = integer_fits u v k h in
      let b = int_value a.0 w (scalar_inside (types.Int a.0) a.1 w (subst (λ x. Fits N T M budget total x tops w) a.3 g)) in
      subst (λ x. HasOut (Fits N T M budget total t tops) (on_scalars o at x w)) (sym a.4)
      (subst (λ x. HasOut (Fits N T M budget total t tops) (on_scalars o at (Scalar_value (scalar.Int a.0 a.2)) x)) (sym b.1)
      (has_then (Is_scalar (result_type o a.0)) (Fits N T M budget total t tops) (reported at (binary_result o (scalar.Int a.0 a.2) (scalar.Int a.0 b.0))) (λ s. Val (Scalar_value s)) (integers_give o at a.0 a.2 b.0)
      (λ s r. result_fits o t u a.0 a.1 s rule a.3 r)))

  abbrev pub one_type : UnOp → IntType → ScalarType
  one_type one.Popc i = types.Int int.I32
  one_type o i = types.Int i

  one_is : (o : UnOp) (i : IntType) (n : ℕ) → Is_scalar (one_type o i) (result_of_one o (scalar.Int i n))
  unfolding result_of_one
  one_is one.Neg i n = refl
  one_is one.Not i n = refl
  one_is one.Abs i n = refl
  one_is one.Popc i n = refl

  -- an operation on an integer
  pub integer_fit : (o : UnOp) (i : IntType) (t : Ty) (ts : Tys) (v : FlatValue) → On_scalar (Is_scalar (types.Int i)) v → t ≡ Made (head.Scalar (one_type o i)) ts → HasOut (Fits N T M budget total t tops) (on_scalar o v)
  unfolding unary_result
  integer_fit o i t ts v h e =
      let a = int_value i v h in
      subst (λ x. HasOut (Fits N T M budget total t tops) (on_scalar o x)) (sym a.1) (fits_at t _ _ e (fits_scalar (one_type o i) ts (result_of_one o (scalar.Int i a.0)) (one_is o i a.0)))

  pub negates : (at : Place) (t x : Ty) (v : FlatValue) → t ≡ x → HasKind K kind.Integer t → Fits N T M budget total x tops v → HasOut (Fits N T M budget total t tops) (on_scalar one.Neg v)
  negates at t x v e k h =
      let g : Fits N T M budget total t tops v = fits_at t x v e h in
      let a = integer_fits t v k g in
      integer_fit one.Neg a.0 t a.1 v (scalar_inside (types.Int a.0) a.1 v (subst (λ y. Fits N T M budget total y tops v) a.3 g)) a.3

  complemented : (t : Ty) (s : ScalarType) (ts : Tys) (c : Scalar) → Is_scalar s c → t ≡ Made (head.Scalar s) ts → HasOut (Fits N T M budget total t tops) (on_scalar one.Not (Scalar_value c))
  unfolding unary_result result_of_one
  complemented t (types.Int i) ts (scalar.Int u n) h e = fits_at t _ _ e (fits_scalar (types.Int i) ts _ h)
  complemented t (types.Int i) ts (scalar.Bool b) h e = absurd h
  complemented t types.Bool ts (scalar.Int u n) h e = absurd h
  complemented t types.Bool ts (scalar.Bool b) h e = fits_at t _ _ e (fits_scalar types.Bool ts _ tt)

  pub complements : (t x : Ty) (v : FlatValue) → t ≡ x → HasKind K kind.Scalar t → Fits N T M budget total x tops v → HasOut (Fits N T M budget total t tops) (on_scalar one.Not v)
  complements t x v e k h =
      let a = scalar_fits t v k (fits_at t x v e h) in
      subst (λ y. HasOut (Fits N T M budget total t tops) (on_scalar one.Not y)) (sym a.4) (complemented t a.0 a.1 a.2 a.5 a.3)
