-- What an operation gives for values of the types of its parts has the type of its result.
use Rattle.std.proofs.Common.{◌≡◌, Bool, true, false, not, cond, ℕ, ◌<◌, refl, sym, ◌∙◌, subst, List, [], ◌∷◌, Some, None, pos}
use Rattle.fut_scalar.specs.declared.operator.BinOp.{BinOp}
use Rattle.fut_scalar.specs.declared.operator.BinOp.TheVariants as op
use Rattle.fut_scalar.specs.declared.place.BindId.{BindId}
use Rattle.fut_scalar.specs.declared.place.Place.{Place}
use Rattle.fut_scalar.specs.declared.report.FailKind.TheVariants as fail
use Rattle.fut_scalar.specs.declared.scalar.IntType.{IntType}
use Rattle.fut_scalar.specs.declared.scalar.Scalar.TheVariants as scalar
use Rattle.fut_scalar.specs.declared.scalar.ScalarType.TheVariants as types
use Rattle.fut_flat.specs.declared.prim.Ref.{Ref}
use Rattle.fut_flat.specs.Terms.{Operation, Integer, Truth, Tuple_of, Record_of, Array_of, Binary, Negate, Complement, Index, Project, Update, Replace, Ascribe, Coerce, Declared, Assert, Range}
use Rattle.fut_types.specs.declared.Kind.{Kind}
use Rattle.fut_types.specs.declared.Kind.TheVariants as kind
use Rattle.fut_types.specs.declared.Head.TheVariants as head
use Rattle.fut_types.specs.Types.{Ty, Made, Tys, none, more, Kinds, HasKind, scalar_ty}
use Rattle.fut_typing.specs.Names.{Names, AreNames, count, Spells}
use Rattle.fut_typing.specs.Rules.{Operator, Rule}
use Rattle.fut_meaning.specs.Found.{Told}
use Rattle.fut_meaning.specs.Outcomes.{Val, Fail, and_then}
use Rattle.fut_meaning.specs.Values.{Scalar_value, Tuple_value, values}
use Rattle.fut_meaning.specs.Operations.{report, truth, equal, binary_value, on_scalars, operate}
use Rattle.fut_meaning.specs.Operators.{integer}
use Rattle.fut_meaning.specs.Accessors.{truth_of}
use Rattle.fut_meaning.specs.Claims.{HasOut}
use Rattle.fut_meaning.specs.Flats.{FlatValue, FlatTops, FlatMode}
use Rattle.type_soundness.specs.Fits.{widest, Fits, All_fit}
use Rattle.type_soundness.proofs.Binding.{has_then, Each_fits}
use Rattle.type_soundness.proofs.Scalars.{integers_fit, negates, complements, fits_scalar, scalar_inside, bool_value}
use Rattle.fut_meaning.proofs.Safe.{Any_truth}
use Rattle.type_soundness.proofs.Equal.{equal_fits}
use Rattle.type_soundness.proofs.Records.{record_made}
use Rattle.type_soundness.proofs.Replacing.{project_fits, replace_fits}

-- neither an array nor a part of one is made; a field that is replaced has a name, and no number
abbrev pub Makes_no_array : Operation Ref BindId → Type 0
Makes_no_array Array_of = ⊥
Makes_no_array (Index ps) = ⊥
Makes_no_array Update = ⊥
Makes_no_array (Range stepped end) = ⊥
Makes_no_array (Replace f) = (n : ℕ) → Spells f n → ⊥
Makes_no_array o = Unit {0}

-- an integer without a suffix has the type that is told
abbrev pub Literal_told : IntType → Operation Ref BindId → Ty → Type 0
Literal_told i (Integer n None) t = t ≡ scalar_ty (types.Int i)
Literal_told i o t = Unit {0}

module _ (N : Names) (are : AreNames N) (T : Told) (M : FlatMode) (budget : ℕ) (total : Bool) (tops : FlatTops) (places : Kind) (K : Kinds) where
  abbrev Of : Ty → FlatValue → Type 0
  Of t v = Fits N T M budget total t tops v

  abbrev Each : Tys → List FlatValue → Type 0
  Each ts vs = Each_fits N T M budget total ts tops vs

  same_fits : (t x : Ty) (v : FlatValue) → t ≡ x → Of x v → Of t v
  same_fits t x v e h = subst (λ y. Of y v) (sym e) h

  compared : (at : Place) (t u : Ty) (v w : FlatValue) (f : Bool → Bool) → t ≡ scalar_ty types.Bool → HasKind K kind.Equal u → Of u v → Of u w → HasOut (Of t) (and_then (equal v w) (λ b. Val (truth (f b))))
  compared at t u v w f e k h g = has_then Any_truth (Of t) (equal v w) (λ b. Val (truth (f b))) (equal_fits N are T M budget total tops K u v w k h g)
      (λ b any. same_fits t (scalar_ty types.Bool) _ e (fits_scalar N T M budget total tops K types.Bool none (scalar.Bool (f b)) tt))

  reckoned : (o : BinOp) (at : Place) (t u : Ty) (v w : FlatValue) → Operator o K t u → HasKind K kind.Integer u → Of u v → Of u w → HasOut (Of t) (on_scalars o at v w)
  reckoned o at t u v w rule k h g = integers_fit N T M budget total tops K o at t u v w rule k h g

  binary_fits : (o : BinOp) (at : Place) (t u : Ty) (v w : FlatValue) → Operator o K t u → Of u v → Of u w → HasOut (Of t) (binary_value o at v w)
  binary_fits op.Eq at t u v w r h g = compared at t u v w (λ b. b) r.0 r.1 h g
  binary_fits op.Ne at t u v w r h g = compared at t u v w not r.0 r.1 h g
  binary_fits op.Add at t u v w r h g = reckoned op.Add at t u v w r r.1 h g
  binary_fits op.Sub at t u v w r h g = reckoned op.Sub at t u v w r r.1 h g
  binary_fits op.Mul at t u v w r h g = reckoned op.Mul at t u v w r r.1 h g
  binary_fits op.Div at t u v w r h g = reckoned op.Div at t u v w r r.1 h g
  binary_fits op.Mod at t u v w r h g = reckoned op.Mod at t u v w r r.1 h g
  binary_fits op.Quot at t u v w r h g = reckoned op.Quot at t u v w r r.1 h g
  binary_fits op.Rem at t u v w r h g = reckoned op.Rem at t u v w r r.1 h g
  binary_fits op.Pow at t u v w r h g = reckoned op.Pow at t u v w r r.1 h g
  binary_fits op.And at t u v w r h g = reckoned op.And at t u v w r r.1 h g
  binary_fits op.Or at t u v w r h g = reckoned op.Or at t u v w r r.1 h g
  binary_fits op.Xor at t u v w r h g = reckoned op.Xor at t u v w r r.1 h g
  binary_fits op.Shl at t u v w r h g = reckoned op.Shl at t u v w r r.1 h g
  binary_fits op.Shr at t u v w r h g = reckoned op.Shr at t u v w r r.1 h g
  binary_fits op.Lt at t u v w r h g = reckoned op.Lt at t u v w r r.1 h g
  binary_fits op.Le at t u v w r h g = reckoned op.Le at t u v w r r.1 h g
  binary_fits op.Gt at t u v w r h g = reckoned op.Gt at t u v w r r.1 h g
  binary_fits op.Ge at t u v w r h g = reckoned op.Ge at t u v w r r.1 h g
  binary_fits op.Min at t u v w r h g = reckoned op.Min at t u v w r r.1 h g
  binary_fits op.Max at t u v w r h g = reckoned op.Max at t u v w r r.1 h g

  asserted : (at : Place) (t c : Ty) (v : FlatValue) → c ≡ scalar_ty types.Bool → t ≡ c → Of c v → HasOut (Of t) (and_then (truth_of v) (λ b. cond b (Val v) (Fail (report fail.Assert at))))
  asserted at t c v ec e h =
      let b = bool_value N T M budget total tops K v (scalar_inside N T M budget total tops K types.Bool none v (subst (λ y. Of y v) ec h)) in
      subst (λ y. HasOut (Of t) (and_then (truth_of y) (λ b. cond b (Val v) (Fail (report fail.Assert at))))) (sym b.1) (holds b.0)
    where
      holds : (b : Bool) → HasOut (Of t) (cond b (Val v) (Fail (report fail.Assert at)))
      holds true = same_fits t c v e h
      holds false = tt

  made_tuple : (ts : Tys) (vs : List FlatValue) → Each ts vs → All_fit N T M budget total ts tops (values vs)
  unfolding All_fit
  made_tuple none [] h = tt
  made_tuple none (v ∷ vs) h = absurd h
  made_tuple (more t ts) [] h = absurd h
  made_tuple (more t ts) (v ∷ vs) h = (h.0, made_tuple ts vs h.1)

  tuple_made : (t : Ty) (ts : Tys) (vs : List FlatValue) → t ≡ Made head.Tuple ts → count ts < widest → Each ts vs → Of t (Tuple_value (values vs))
  unfolding Fits
  tuple_made t ts vs e lt h = subst (λ y. Of y (Tuple_value (values vs))) (sym e) (lt, made_tuple ts vs h)

  literal : (t : Ty) (i : IntType) (n : ℕ) → t ≡ scalar_ty (types.Int i) → Of t (Scalar_value (integer i (pos n)))
  literal t i n e = same_fits t (scalar_ty (types.Int i)) _ e (fits_scalar N T M budget total tops K (types.Int i) none (integer i (pos n)) refl)

  abbrev Operates : Operation Ref BindId → Type 0
  Operates o = (i : IntType) (at : Place) (t u : Ty) (ts : Tys) (vs : List FlatValue) → Makes_no_array o → Rule N places K o t u ts → Literal_told i o t → count ts < widest → Each ts vs → HasOut (Of t) (operate i o at vs)

  no_parts : (o : Operation Ref BindId) → ((i : IntType) (at : Place) (t u : Ty) → Makes_no_array o → Rule N places K o t u none → Literal_told i o t → HasOut (Of t) (operate i o at [])) → ((t u x : Ty) (ts : Tys) → Rule N places K o t u (more x ts) → ⊥) → Operates o
  no_parts o here more-none i at t u none [] m r l lt h = here i at t u m r l
  no_parts o here more-none i at t u none (v ∷ vs) m r l lt h = absurd h
  no_parts o here more-none i at t u (more x ts) vs m r l lt h = absurd (more-none t u x ts r)

  one_part : (o : Operation Ref BindId) → ((t u : Ty) → Rule N places K o t u none → ⊥) → ((i : IntType) (at : Place) (t u x : Ty) (v : FlatValue) → Makes_no_array o → Rule N places K o t u (more x none) → Of x v → HasOut (Of t) (operate i o at (v ∷ [])))
      → ((t u x y : Ty) (ts : Tys) → Rule N places K o t u (more x (more y ts)) → ⊥) → Operates o
  one_part o fewer here further i at t u none vs m r l lt h = absurd (fewer t u r)
  one_part o fewer here further i at t u (more x none) [] m r l lt h = absurd h
  one_part o fewer here further i at t u (more x none) (v ∷ []) m r l lt h = here i at t u x v m r h.0
  one_part o fewer here further i at t u (more x none) (v ∷ w ∷ vs) m r l lt h = absurd h.1
  one_part o fewer here further i at t u (more x (more y ts)) vs m r l lt h = absurd (further t u x y ts r)

  two_parts : (o : Operation Ref BindId) → ((t u : Ty) → Rule N places K o t u none → ⊥) → ((t u x : Ty) → Rule N places K o t u (more x none) → ⊥)
      → ((i : IntType) (at : Place) (t u x y : Ty) (v w : FlatValue) → Makes_no_array o → Rule N places K o t u (more x (more y none)) → Of x v → Of y w → HasOut (Of t) (operate i o at (v ∷ w ∷ [])))
      → ((t u x y z : Ty) (ts : Tys) → Rule N places K o t u (more x (more y (more z ts))) → ⊥) → Operates o
  two_parts o no-one one-one here further i at t u none vs m r l lt h = absurd (no-one t u r)
  two_parts o no-one one-one here further i at t u (more x none) vs m r l lt h = absurd (one-one t u x r)
  two_parts o no-one one-one here further i at t u (more x (more y none)) [] m r l lt h = absurd h
  two_parts o no-one one-one here further i at t u (more x (more y none)) (v ∷ []) m r l lt h = absurd h.1
  two_parts o no-one one-one here further i at t u (more x (more y none)) (v ∷ w ∷ []) m r l lt h = here i at t u x y v w m r h.0 h.1.0
  two_parts o no-one one-one here further i at t u (more x (more y none)) (v ∷ w ∷ q ∷ vs) m r l lt h = absurd h.1.1
  two_parts o no-one one-one here further i at t u (more x (more y (more z ts))) vs m r l lt h = absurd (further t u x y z ts r)

  pub operate_fits : (o : Operation Ref BindId) → Operates o
  unfolding operate
  operate_fits (Integer n None) = no_parts (Integer n None) (λ i at t u m r l. literal t i n l) (λ t u x ts r. r)
  operate_fits (Integer n (Some j)) = no_parts (Integer n (Some j)) (λ i at t u m r l. literal t j n r) (λ t u x ts r. r)
  operate_fits (Truth b) = no_parts (Truth b) (λ i at t u m r l. same_fits t (scalar_ty types.Bool) _ r (fits_scalar N T M budget total tops K types.Bool none (scalar.Bool b) tt)) (λ t u x ts r. r)
  operate_fits Tuple_of = λ i at t u ts vs m r l lt h. tuple_made t ts vs r lt h
  operate_fits (Record_of fs) = λ i at t u ts vs m r l lt h. record_made N T M budget total tops are fs t ts vs r h
  operate_fits Array_of = λ i at t u ts vs m r l lt h. absurd m
  operate_fits (Binary o) = two_parts (Binary o) (λ t u r. r) (λ t u x r. r) (λ i at t u x y v w m r h g. binary_fits o at t u v w r.0 (subst (λ z. Of z v) r.1 h) (subst (λ z. Of z w) r.2 g)) (λ t u x y z ts r. r)
  operate_fits Negate = one_part Negate (λ t u r. r) (λ i at t u x v m r h. negates N T M budget total tops K at t x v r.0 r.1 h) (λ t u x y ts r. r)
  operate_fits Complement = one_part Complement (λ t u r. r) (λ i at t u x v m r h. complements N T M budget total tops K t x v r.0 r.1 h) (λ t u x y ts r. r)
  operate_fits (Index ps) = λ i at t u ts vs m r l lt h. absurd m
  operate_fits (Project f) = one_part (Project f) (λ t u r. r) (λ i at t u x v m r h. project_fits N are T M budget total tops f t u v r.1 (subst (λ z. Of z v) r.0 h)) (λ t u x y ts r. r)
  operate_fits Update = λ i at t u ts vs m r l lt h. absurd m
  operate_fits (Replace f) = two_parts (Replace f) (λ t u r. r) (λ t u x r. r) (λ i at t u x y v w m r h g. replace_fits N are T M budget total tops f t y v w m r.1 (same_fits t x v r.0 h) g) (λ t u x y z ts r. r)
  operate_fits (Ascribe e) = one_part (Ascribe e) (λ t u r. r) (λ i at t u x v m r h. same_fits t x v r h) (λ t u x y ts r. r)
  operate_fits (Coerce e) = one_part (Coerce e) (λ t u r. r) (λ i at t u x v m r h. same_fits t x v r h) (λ t u x y ts r. r)
  operate_fits (Declared e) = one_part (Declared e) (λ t u r. r) (λ i at t u x v m r h. same_fits t x v r h) (λ t u x y ts r. r)
  operate_fits Assert = one_part Assert (λ t u r. r) (λ i at t u x v m r h. asserted at t x v r.0 (r.1 ∙ sym r.0) h) (λ t u x y ts r. r)
  operate_fits (Range stepped end) = λ i at t u ts vs m r l lt h. absurd m
