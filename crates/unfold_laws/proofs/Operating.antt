-- A typed operation takes what is known of its parts, and what is known of its result is known by its type.
use Rattle.std.proofs.Common.{◌≡◌, Bool, true, false, ℕ, suc, ◌+◌, ◌*◌, ◌^◌, ◌%◌, ◌≤◌, ◌<◌, ◌++◌, min, refl, sym, ap, ◌∙◌, subst, arith, List, [], ◌∷◌, Option, Some, None, pos}
use Rattle.std.specs.Int.{int_rem_euclid}
use Rattle.std.specs.Prelude.{unsigned_abs}
use Rattle.std.proofs.Math.IntN.{pos-+ℤ-pos}
use Rattle.std.proofs.lemmas.Int.{int_rem_euclid_is}
use Rattle.std.proofs.lemmas.Nat.{pow_pos}
use mathlib.Core.Logic.{◌⊎◌, inl, inr}
use Rattle.fut_meaning.specs.Found.{Told}
use Rattle.fut_scalar.specs.Integers.{width_of}
use Rattle.fut_scalar.specs.declared.operator.BinOp.{BinOp}
use Rattle.fut_scalar.specs.declared.operator.BinOp.TheVariants as op
use Rattle.fut_scalar.specs.declared.operator.UnOp.TheVariants as unary
use Rattle.fut_scalar.specs.declared.place.BindId.{BindId}
use Rattle.fut_scalar.specs.declared.place.Place.{Place}
use Rattle.fut_scalar.specs.declared.scalar.IntType.{IntType}
use Rattle.fut_scalar.specs.declared.scalar.Scalar.{Scalar}
use Rattle.fut_scalar.specs.declared.scalar.Scalar.TheVariants as scalar
use Rattle.fut_scalar.specs.declared.scalar.ScalarType.{ScalarType}
use Rattle.fut_scalar.specs.declared.scalar.ScalarType.TheVariants as types
use Rattle.fut_arithmetic.specs.Types.{type_of}
use Rattle.fut_ast.specs.Sorts.{Text}
use Rattle.fut_ast.specs.declared.node.End.{End}
use Rattle.fut_flat.specs.declared.act.Part.{Part}
use Rattle.fut_flat.specs.declared.act.Part.TheVariants as part
use Rattle.fut_flat.specs.declared.prim.Ref.{Ref}
use Rattle.fut_flat.specs.Erased.{FlatType}
use Rattle.fut_flat.specs.Terms.{Operation, Integer, Truth, Tuple_of, Record_of, Array_of, Binary, Negate, Complement, Index, Project, Update, Replace, Ascribe, Coerce, Declared, Assert, Range}
use Rattle.fut_types.specs.declared.Kind.TheVariants as kind
use Rattle.fut_types.specs.declared.Head.TheVariants as head
use Rattle.fut_types.specs.Shapes.{HasPart}
use Rattle.fut_types.specs.Types.{Ty, Var, Made, Tys, none, more, Kinds, HasKind, rank, least, scalar_ty}
use Rattle.fut_typing.specs.Names.{Names, AreNames, IsRecord, Spells, count}
use Rattle.fut_typing.specs.Primitives.{array_ty, bool_ty, i64_ty}
use Rattle.fut_typing.specs.Scopes.{IsArray}
use Rattle.fut_typing.specs.Rules.{Operator, All_are, Indexed, Updated, Rule}
use Rattle.fut_meaning.specs.Arrays.{Making, Make_array, Make_index, Make_update, Make_range}
use Rattle.fut_meaning.specs.Operations.{named_values, making}
use Rattle.fut_meaning.specs.Operators.{integer}
use Rattle.fut_blocks.specs.declared.block.Atom.{Atom}
use Rattle.fut_blocks.specs.declared.block.Atom.TheVariants as atom
use Rattle.fut_blocks.specs.declared.block.Operation.TheVariants as operation
use Rattle.fut_blocks.specs.Plain.{Action, Operate}
use Rattle.fut_blocks.specs.Plain as act
use Rattle.fut_blocks.specs.Rows.{Row, Unknown_row, Size_test}
use Rattle.fut_blocks.specs.Meaning.{fitted}
use Rattle.type_soundness.specs.Fits.{widest}
use Rattle.type_soundness.specs.Meant.{Operation_meant}
use Rattle.type_soundness.proofs.Operating.{Literal_told}
use Rattle.unfold.specs.Knowns.{Known, Scalar_known, Tuple_known, Record_known, knowns, fields, part}
use Rattle.unfold.specs.Stuck.{No_operation}
use Rattle.unfold.specs.Telling.{known_row}
use Rattle.unfold.specs.Unfolding.{Bindings, step, named, constant, tested, made_row, Packs_all, p_none, p_more, literal_type, Operates, o_integer, o_truth, o_tuple, o_record, o_binary, o_equal, o_unequal, o_negate, o_complement, o_project, o_part, o_changed, o_replace, o_made, o_ascribe, o_coerce, o_declared, o_assert}
use Rattle.unfold_laws.specs.Fits.{Bound, World, types_of, Comes, On_component, Is_data, All_data, Fits, All_fit}
use Rattle.unfold_laws.specs.Standing.{All_in_row, All_in_test}
use Rattle.unfold_laws.specs.Typed.{Are, Stands, Makes, Act_typed, any_types}
use Rattle.unfold_laws.proofs.Standing.{row_as}
use Rattle.unfold_laws.proofs.Telling.{On_some, row_known}
use Rattle.unfold_laws.proofs.Fitting.{some_same, kind_data, stands_learn, fits_learn, fits_stand, data_fits, fits_data}
use Rattle.unfold_laws.proofs.Comparing.{constant_typed, compared}
use Rattle.unfold_laws.proofs.Packed.{packs_come, packs_all_come}
use Rattle.unfold_laws.proofs.Recording.{Each_fits, record_fits, Projects, project_fits, Replaces, replace_fits}
use Rattle.unfold_laws.proofs.Shaping.{scalar_is, shaped, All_packing, shaped_packing, Compares, compares}
use Rattle.unfold_laws.proofs.TypedSteps.{comes_none, comes_then, comes_map, comes_step, comes_one}

at_zero : (m k : ℕ) → 0 < k → unsigned_abs (int_rem_euclid (pos m) (pos k)) ≡ m % k
at_zero m k some = let e : m + 0 * k ≡ m = omega arith in ap unsigned_abs (int_rem_euclid_is (pos m) (pos k) k 0 m some refl (pos-+ℤ-pos m (0 * k) ∙ ap pos e))

fitted_integer : (t : IntType) (m : ℕ) → fitted (scalar.Int t m) ≡ integer t (pos m)
fitted_integer t m = ap (scalar.Int t) (sym (at_zero m (2 ^ width_of t) (pow_pos (width_of t))))

-- an operator compares two values for equality, or takes two integers
by_operator : (K : Kinds) (C : BinOp → Type 0) (t u : Ty) → (t ≡ bool_ty → HasKind K kind.Equal u → C op.Eq) → (t ≡ bool_ty → HasKind K kind.Equal u → C op.Ne) → ((o : BinOp) → (t ≡ bool_ty) ⊎ (t ≡ u) → HasKind K kind.Integer u → C o) → (o : BinOp) → Operator o K t u → C o
by_operator K C t u eq ne other op.Eq r = eq r.0 r.1
by_operator K C t u eq ne other op.Ne r = ne r.0 r.1
by_operator K C t u eq ne other op.Lt r = other op.Lt (inl r.0) r.1
by_operator K C t u eq ne other op.Le r = other op.Le (inl r.0) r.1
by_operator K C t u eq ne other op.Gt r = other op.Gt (inl r.0) r.1
by_operator K C t u eq ne other op.Ge r = other op.Ge (inl r.0) r.1
by_operator K C t u eq ne other op.Add r = other op.Add (inr r.0) r.1
by_operator K C t u eq ne other op.Sub r = other op.Sub (inr r.0) r.1
by_operator K C t u eq ne other op.Mul r = other op.Mul (inr r.0) r.1
by_operator K C t u eq ne other op.Div r = other op.Div (inr r.0) r.1
by_operator K C t u eq ne other op.Mod r = other op.Mod (inr r.0) r.1
by_operator K C t u eq ne other op.Quot r = other op.Quot (inr r.0) r.1
by_operator K C t u eq ne other op.Rem r = other op.Rem (inr r.0) r.1
by_operator K C t u eq ne other op.Pow r = other op.Pow (inr r.0) r.1
by_operator K C t u eq ne other op.And r = other op.And (inr r.0) r.1
by_operator K C t u eq ne other op.Or r = other op.Or (inr r.0) r.1
by_operator K C t u eq ne other op.Xor r = other op.Xor (inr r.0) r.1
by_operator K C t u eq ne other op.Shl r = other op.Shl (inr r.0) r.1
by_operator K C t u eq ne other op.Shr r = other op.Shr (inr r.0) r.1
by_operator K C t u eq ne other op.Min r = other op.Min (inr r.0) r.1
by_operator K C t u eq ne other op.Max r = other op.Max (inr r.0) r.1

-- an array is one component
pub array_one_component : (N : Names) (T : Told) (K : Kinds) (world : World) (element t : Ty) (s : Known) → t ≡ array_ty element → Fits N T K t world s → (u : Atom) × (s ≡ Scalar_known u)
unfolding Fits
array_one_component N T K world element t s e h = let k : Fits N T K (array_ty element) world s = subst (λ y. Fits N T K y world s) e h in let r = scalar_is _ s k.1 in (r.0, r.1)

-- a constant has the type of its fitted bits
pub constant_type : (c d : Scalar) (t : ScalarType) → fitted c ≡ d → type_of d ≡ t → type_of c ≡ t
constant_type (scalar.Int i n) d t e f = ap type_of e ∙ f
constant_type (scalar.Bool b) d t e f = ap type_of e ∙ f

module _ (N : Names) (T : Told) (K : Kinds) where
  abbrev At : World → Ty → Known → Type 0
  At world t s = Fits N T K t world s

  -- ---- scalars
  pub fits_scalar : (world : World) (x : ScalarType) (t : Ty) (u : Atom) → t ≡ scalar_ty x → types_of N K world.1 u (scalar_ty x) → At world t (Scalar_known u)
  unfolding Fits
  fits_scalar world x t u e h = subst (λ y. At world y (Scalar_known u)) (sym e) h

  pub fits_constant : (world : World) (x : ScalarType) (t : Ty) (c : Scalar) → t ≡ scalar_ty x → type_of c ≡ x → At world t (constant c)
  fits_constant world x t c e f = fits_scalar world x t (atom.Constant c) e (subst (λ y. types_of N K world.1 (atom.Constant c) (scalar_ty y)) f (constant_typed N K world.1 c))

  one_component : (D : Atom → Type 0) (s : Known) → On_component D s → (u : Atom) × (s ≡ Scalar_known u)
  one_component D s h = let r = scalar_is D s h in (r.0, r.1)

  pub scalar_fits : (world : World) (x : ScalarType) (t : Ty) (s : Known) → t ≡ scalar_ty x → At world t s → (u : Atom) × (s ≡ Scalar_known u)
  unfolding Fits
  scalar_fits world x t s e h = one_component _ s (subst (λ y. At world y s) e h)

  pub of_scalars : (world : World) (t : Ty) (s : Known) → HasKind K kind.Scalar t → At world t s → (u : Atom) × (s ≡ Scalar_known u)
  unfolding Fits rank least
  of_scalars world (Var n) s k h = one_component _ s h
  of_scalars world (Made (head.Scalar x) ts) s k h = one_component _ s h
  of_scalars world (Made head.Array ts) s k h = absurd (let z : 3 ≤ min 1 (least K ts) = k in omega (arith, z))
  of_scalars world (Made head.Tuple ts) s k h = absurd (let z : 3 ≤ min 2 (least K ts) = k in omega (arith, z))
  of_scalars world (Made (head.Record n) ts) s k h = absurd (let z : 3 ≤ min 2 (least K ts) = k in omega (arith, z))
  of_scalars world (Made head.Fun ts) s k h = absurd (let z : 3 ≤ min 0 (least K ts) = k in omega (arith, z))
  of_scalars world (Made (head.Rigid n d) ts) s k h = one_component _ s h
  of_scalars world (Made (head.Abstract n d) ts) s k h = one_component _ s h

  pub of_integers : (world : World) (t : Ty) (s : Known) → HasKind K kind.Integer t → At world t s → (u : Atom) × (s ≡ Scalar_known u)
  of_integers world t s k h = of_scalars world t s (let y : 4 ≤ rank K t = k in let z : 3 ≤ rank K t = omega (arith, y) in z) h

  -- two values of a type are compared
  equal_there : (world : World) (at : Place) (u : Ty) (s r : Known) → HasKind K kind.Equal u → At world u s → At world u r → Compares at s r
  equal_there world at u s r k h g =
      let d : HasKind K kind.Data u = let y : 2 ≤ rank K u = k in let z : 1 ≤ rank K u = omega (arith, y) in z in
      let e = kind_data N K u d in
      compares at s r (shaped N T K world u s e h) (shaped N T K world u r e g)

  boolean_scalar : HasKind K kind.Scalar bool_ty
  unfolding rank least
  boolean_scalar = omega arith

  boolean_data : Is_data N bool_ty
  unfolding Is_data
  boolean_data = tt

  -- a step with one name, for data
  pub step_gives : (world : World) (t : Ty) → Is_data N t → (x : ℕ) (a : Action) → Act_typed N K any_types a (types_of N K world.1) (more t none) → Comes N K world (step (x ∷ []) a) (λ there. At there t (named x))
  step_gives world t d x a h = comes_one N K world x a t (λ there. At there t (named x)) h (λ C g i. data_fits N T K t (world.0, C) (atom.Name x) d i)

  -- what an operator gives is data
  operator_data : (o : BinOp) (t u : Ty) → Operator o K t u → Is_data N u → Is_data N t
  operator_data o t u rule d = by_operator K (λ o. Is_data N t) t u (λ e k. subst (Is_data N) (sym e) boolean_data) (λ e k. subst (Is_data N) (sym e) boolean_data)
      (λ o e k. elim e as (λ q. Is_data N t) [ inl q ↦ subst (Is_data N) (sym q) boolean_data | inr q ↦ subst (Is_data N) (sym q) d ]) o rule

  -- what an array literal without elements, and a coercion to a type with sizes, tell of rows and sizes
  module _ (are : AreNames N) (world : World) (row : Row) (test : Option Size_test) (row_stands : All_in_row (Stands (types_of N K world.1)) row) (test_stands : On_some (All_in_test (Stands (types_of N K world.1))) test) (i : IntType) (at : Place) where
    -- there is a way on, its steps are typed, and what is known of the result is known by this type
    abbrev pub Gives : Operation Ref BindId → List Known → Ty → Type 0
    Gives o ss t = (No_operation i o at ss → ⊥) × ((n n' : ℕ) (bs : Bindings) (s : Known) → Operates row test i o at ss n bs s n' → Comes N K world bs (λ there. At there t s))

    gives_as : (o : Operation Ref BindId) (s r : Known) (t : Ty) → s ≡ r → Gives o (r ∷ []) t → Gives o (s ∷ []) t
    gives_as o s r t e g = subst (λ y. Gives o (y ∷ []) t) (sym e) g

    gives_both : (o : Operation Ref BindId) (s s' r r' : Known) (t : Ty) → s ≡ r → s' ≡ r' → Gives o (r ∷ r' ∷ []) t → Gives o (s ∷ s' ∷ []) t
    gives_both o s s' r r' t e e' g = subst (λ y. Gives o (y ∷ s' ∷ []) t) (sym e) (subst (λ y. Gives o (r ∷ y ∷ []) t) (sym e') g)

    -- no steps
    stays : (t : Ty) (s : Known) → At world t s → Comes N K world [] (λ there. At there t s)
    stays t s h = comes_none N K world (λ there. At there t s) h

    -- ---- literals
    integer_gives : (m : ℕ) (suffix : Option IntType) (t : Ty) → t ≡ scalar_ty (types.Int (literal_type i suffix)) → Gives (Integer m suffix) [] t
    integer_gives m suffix t e = ((λ h. h Unknown_row None 0 0 [] _ (o_integer {c = scalar.Int (literal_type i suffix) m} (fitted_integer (literal_type i suffix) m))), (λ n n' bs s x. known n n' bs s x))
      where
        known : (n n' : ℕ) (bs : Bindings) (s : Known) → Operates row test i (Integer m suffix) at [] n bs s n' → Comes N K world bs (λ there. At there t s)
        known _ _ _ _ (o_integer {c = c} f) = stays t (constant c) (fits_constant world (types.Int (literal_type i suffix)) t c e (constant_type c (integer (literal_type i suffix) (pos m)) (types.Int (literal_type i suffix)) f refl))
        known _ _ _ _ (o_made {k = k} q p le) = absurd (let z : None ≡ Some k = q in cc)

    truth_gives : (b : Bool) (t : Ty) → t ≡ bool_ty → Gives (Truth b) [] t
    truth_gives b t e = ((λ h. h Unknown_row None 0 0 [] _ o_truth), (λ n n' bs s x. known n n' bs s x))
      where
        known : (n n' : ℕ) (bs : Bindings) (s : Known) → Operates row test i (Truth b) at [] n bs s n' → Comes N K world bs (λ there. At there t s)
        known _ _ _ _ o_truth = stays t (constant (scalar.Bool b)) (fits_constant world types.Bool t (scalar.Bool b) e refl)
        known _ _ _ _ (o_made {k = k} q p le) = absurd (let z : None ≡ Some k = q in cc)

    -- ---- tuples and records
    all_listed : (ts : Tys) (ss : List Known) → Each_fits N T K world ts ss → All_fit N T K ts world (knowns ss)
    unfolding All_fit
    all_listed none [] h = tt
    all_listed none (s ∷ ss) h = absurd h
    all_listed (more t ts) [] h = absurd h
    all_listed (more t ts) (s ∷ ss) h = (h.0, all_listed ts ss h.1)

    tuple_fits : (t : Ty) (ts : Tys) (ss : List Known) → t ≡ Made head.Tuple ts → count ts < widest → Each_fits N T K world ts ss → At world t (Tuple_known (knowns ss))
    unfolding Fits
    tuple_fits t ts ss e lt h = subst (λ y. At world y (Tuple_known (knowns ss))) (sym e) (lt, all_listed ts ss h)

    tuple_gives : (t : Ty) (ts : Tys) (ss : List Known) → t ≡ Made head.Tuple ts → count ts < widest → Each_fits N T K world ts ss → Gives Tuple_of ss t
    tuple_gives t ts ss e lt h = ((λ g. g Unknown_row None 0 0 [] _ o_tuple), (λ n n' bs s x. known n n' bs s x))
      where
        known : (n n' : ℕ) (bs : Bindings) (s : Known) → Operates row test i Tuple_of at ss n bs s n' → Comes N K world bs (λ there. At there t s)
        known _ _ _ _ o_tuple = stays t (Tuple_known (knowns ss)) (tuple_fits t ts ss e lt h)
        known _ _ _ _ (o_made {k = k} q p le) = absurd (let z : None ≡ Some k = q in cc)

    record_gives : (names : List Text) (t : Ty) (ts : Tys) (ss : List Known) → IsRecord N names t ts → Each_fits N T K world ts ss → Gives (Record_of names) ss t
    record_gives names t ts ss r h = ((λ g. g Unknown_row None 0 0 [] _ (o_record made.1)), (λ n n' bs s x. known n n' bs s x))
      where
        made : (pairs : List (Text × Known)) × (named_values names ss ≡ Some pairs) × At world t (Record_known (fields pairs))
        made = record_fits N T K world are names t ts ss r h

        known : (n n' : ℕ) (bs : Bindings) (s : Known) → Operates row test i (Record_of names) at ss n bs s n' → Comes N K world bs (λ there. At there t s)
        known _ _ _ s (o_record e) = stays t s (subst (λ l. At world t (Record_known (fields l))) (some_same (sym made.1 ∙ e)) made.2)
        known _ _ _ _ (o_made {k = k} q p le) = absurd (let z : None ≡ Some k = q in cc)

    project_gives : (f : Text) (t u : Ty) (s : Known) → HasPart N.shapes (N.label f) u t → Projects N T K world are f t u s → Gives (Project f) (s ∷ []) t
    unfolding Act_typed
    project_gives f t u s has (inl (w, e, d, h)) = gives_as (Project f) s (Scalar_known w) t e ((λ g. g Unknown_row None 0 1 _ _ (o_part (let z : 0 ≤ 0 = omega arith in z))), (λ n n' bs r x. known n n' bs r x))
      where
        known : (n n' : ℕ) (bs : Bindings) (r : Known) → Operates row test i (Project f) at (Scalar_known w ∷ []) n bs r n' → Comes N K world bs (λ there. At there t r)
        known _ _ _ _ (o_part {x = x} le) = step_gives world t d x (act.Read (act.Part_at f) (w ∷ [])) (more u none, (h, tt), (t, has, refl))
        known _ _ _ r (o_project e) = absurd (let z : None ≡ Some r = e in cc)
        known _ _ _ _ (o_made {k = k} q p le) = absurd (let z : None ≡ Some k = q in cc)
    project_gives f t u s has (inr (r, e, h)) = ((λ g. g Unknown_row None 0 0 [] _ (o_project e)), (λ n n' bs x o. known s e n n' bs x o))
      where
        known : (s : Known) → part f s ≡ Some r → (n n' : ℕ) (bs : Bindings) (x : Known) → Operates row test i (Project f) at (s ∷ []) n bs x n' → Comes N K world bs (λ there. At there t x)
        known s e _ _ _ x (o_project e') = stays t x (subst (At world t) (some_same (sym e ∙ e')) h)
        known _ e _ _ _ _ (o_part le) = absurd (let z : None ≡ Some r = e in cc)
        known s e _ _ _ _ (o_made {k = k} q p le) = absurd (let z : None ≡ Some k = q in cc)

    replace_gives : (f : Text) (t v : Ty) (u s : Known) → ((n : ℕ) → Spells f n → ⊥) → HasPart N.shapes (N.label f) t v → At world v s → Replaces N T K world are f t u s → Gives (Replace f) (u ∷ s ∷ []) t
    unfolding Act_typed
    replace_gives f t v u s lacks has fit (inl (w, e, d, pack, h)) =
        gives_both (Replace f) u s (Scalar_known w) s t e refl ((λ g. let p = pack 0 in g Unknown_row None 0 (suc p.2) _ _ (o_changed p.3 (let z : p.2 ≤ p.2 = omega arith in z))), (λ n n' bs r x. known n n' bs r x))
      where
        known : (n n' : ℕ) (bs : Bindings) (r : Known) → Operates row test i (Replace f) at (Scalar_known w ∷ s ∷ []) n bs r n' → Comes N K world bs (λ there. At there t r)
        known _ _ _ _ (o_changed {n = n} {m = m} {x = x} {w = y} {bs = bs} p le) =
            comes_then N K world bs (step (x ∷ []) (act.Read (act.Replace_at f) (w ∷ y ∷ []))) (λ there. At there v (Scalar_known y)) (λ there. At there t (named x)) (packs_come N are T K s n bs y m p world v fit)
            (λ C g k. step_gives (world.0, C) t d x (act.Read (act.Replace_at f) (w ∷ y ∷ [])) (more t (more v none), (g.1 w t h, ((fits_data N T K v (world.0, C) y k).1, tt)), (lacks, has, refl)))
        known _ _ _ _ (o_made {k = k} q p le) = absurd (let z : None ≡ Some k = q in cc)
    replace_gives f t v u s lacks has fit (inr (fs, e, h)) = gives_both (Replace f) u s (Record_known fs) s t e refl ((λ g. g Unknown_row None 0 0 [] _ o_replace), (λ n n' bs r x. known n n' bs r x))
      where
        known : (n n' : ℕ) (bs : Bindings) (r : Known) → Operates row test i (Replace f) at (Record_known fs ∷ s ∷ []) n bs r n' → Comes N K world bs (λ there. At there t r)
        known _ _ _ r o_replace = stays t r h
        known _ _ _ _ (o_made {k = k} q p le) = absurd (let z : None ≡ Some k = q in cc)

    -- ---- written types
    ascribe_gives : (e : FlatType) (t : Ty) (s : Known) → At world t s → Gives (Ascribe e) (s ∷ []) t
    ascribe_gives e t s h = ((λ g. g Unknown_row None 0 0 [] _ o_ascribe), (λ n n' bs r x. known n n' bs r x))
      where
        known : (n n' : ℕ) (bs : Bindings) (r : Known) → Operates row test i (Ascribe e) at (s ∷ []) n bs r n' → Comes N K world bs (λ there. At there t r)
        known _ _ _ _ o_ascribe = stays t s h
        known _ _ _ _ (o_made {k = k} q p le) = absurd (let z : None ≡ Some k = q in cc)

    coerced : (tests : Option Size_test) (t : Ty) (s : Known) → On_some (All_in_test (Stands (types_of N K world.1))) tests → At world t s → Comes N K world (tested tests at s) (λ there. At there t s)
    unfolding Act_typed
    coerced None t s w h = stays t s h
    coerced (Some x) t s w h =
        comes_step N K world [] (act.Coerce at x (known_row s)) none (λ there. At there t s) (w, row_known (Stands (types_of N K world.1)) s (fits_stand N T K world t s h), refl) refl
        (fits_learn N T K t world (world.0, Bound [] (act.Coerce at x (known_row s)) ∷ world.1) ((λ k s e. e), (λ u t h. inr h)) s h)

    coerce_gives : (e : FlatType) (t : Ty) (s : Known) → At world t s → Gives (Coerce e) (s ∷ []) t
    coerce_gives e t s h = ((λ g. g Unknown_row None 0 0 [] _ o_coerce), (λ n n' bs r x. known n n' bs r x))
      where
        known : (n n' : ℕ) (bs : Bindings) (r : Known) → Operates row test i (Coerce e) at (s ∷ []) n bs r n' → Comes N K world bs (λ there. At there t r)
        known _ _ _ _ o_coerce = coerced test t s test_stands h
        known _ _ _ _ (o_made {k = k} q p le) = absurd (let z : None ≡ Some k = q in cc)

    declared_gives : (e : FlatType) (t : Ty) (s : Known) → At world t s → Gives (Declared e) (s ∷ []) t
    declared_gives e t s h = ((λ g. g Unknown_row None 0 0 [] _ o_declared), (λ n n' bs r x. known n n' bs r x))
      where
        known : (n n' : ℕ) (bs : Bindings) (r : Known) → Operates row test i (Declared e) at (s ∷ []) n bs r n' → Comes N K world bs (λ there. At there t r)
        known _ _ _ _ o_declared = stays t s h
        known _ _ _ _ (o_made {k = k} q p le) = absurd (let z : None ≡ Some k = q in cc)

    assert_gives : (t : Ty) (u : Atom) → t ≡ bool_ty → At world t (Scalar_known u) → Gives Assert (Scalar_known u ∷ []) t
    unfolding Act_typed
    assert_gives t u e h = ((λ g. g Unknown_row None 0 0 _ _ o_assert), (λ n n' bs r x. known n n' bs r x))
      where
        known : (n n' : ℕ) (bs : Bindings) (r : Known) → Operates row test i Assert at (Scalar_known u ∷ []) n bs r n' → Comes N K world bs (λ there. At there t r)
        known _ _ _ _ o_assert =
            comes_step N K world [] (Operate (operation.Assert at u)) none (λ there. At there t (Scalar_known u)) (subst (types_of N K world.1 u) e (fits_data N T K t world u h).1, refl) refl
            (fits_learn N T K t world (world.0, Bound [] (Operate (operation.Assert at u)) ∷ world.1) ((λ k s e. e), (λ u t h. inr h)) (Scalar_known u) h)
        known _ _ _ _ (o_made {k = k} q p le) = absurd (let z : None ≡ Some k = q in cc)

    -- ---- scalars
    negate_gives : (t : Ty) (u : Atom) → HasKind K kind.Integer t → At world t (Scalar_known u) → Gives Negate (Scalar_known u ∷ []) t
    unfolding Act_typed
    negate_gives t u k h = ((λ g. g Unknown_row None 0 1 _ _ (o_negate (let z : 0 ≤ 0 = omega arith in z))), (λ n n' bs r x. known n n' bs r x))
      where
        known : (n n' : ℕ) (bs : Bindings) (r : Known) → Operates row test i Negate at (Scalar_known u ∷ []) n bs r n' → Comes N K world bs (λ there. At there t r)
        known _ _ _ _ (o_negate {x = x} le) = let f = fits_data N T K t world u h in step_gives world t f.0 x (Operate (operation.Unary unary.Neg u)) (t, t, (refl, k), f.1, refl)
        known _ _ _ _ (o_made {k = k} q p le) = absurd (let z : None ≡ Some k = q in cc)

    complement_gives : (t : Ty) (u : Atom) → HasKind K kind.Scalar t → At world t (Scalar_known u) → Gives Complement (Scalar_known u ∷ []) t
    unfolding Act_typed
    complement_gives t u k h = ((λ g. g Unknown_row None 0 1 _ _ (o_complement (let z : 0 ≤ 0 = omega arith in z))), (λ n n' bs r x. known n n' bs r x))
      where
        known : (n n' : ℕ) (bs : Bindings) (r : Known) → Operates row test i Complement at (Scalar_known u ∷ []) n bs r n' → Comes N K world bs (λ there. At there t r)
        known _ _ _ _ (o_complement {x = x} le) = let f = fits_data N T K t world u h in step_gives world t f.0 x (Operate (operation.Unary unary.Not u)) (t, t, (refl, k), f.1, refl)
        known _ _ _ _ (o_made {k = k} q p le) = absurd (let z : None ≡ Some k = q in cc)

    binary_known : (o : BinOp) (t u : Ty) (s r : Known) → Operator o K t u → At world u s → At world u r → (n n' : ℕ) (bs : Bindings) (v : Known) → Operates row test i (Binary o) at (s ∷ r ∷ []) n bs v n' → Comes N K world bs (λ there. At there t v)
    unfolding Act_typed
    binary_known o t u _ _ rule h g _ _ _ _ (o_binary {x = x} {u = a} {w = b} le) =
        let f = fits_data N T K u world a h in let f' = fits_data N T K u world b g in
        step_gives world t (operator_data o t u rule f.0) x (Operate (operation.Binary o at a b)) (t, u, rule, f.1, f'.1, refl)
    binary_known _ t u s r rule h g n n' bs _ (o_equal {u = w} e) =
        comes_map N K world bs (λ there. types_of N K there.1 w bool_ty) (λ there. At there t (Scalar_known w)) (compared N are T K at s r n bs w n' e world u rule.1 h g)
        (λ C l i. fits_scalar (world.0, C) types.Bool t w rule.0 i)
    binary_known _ t u s r rule h g n _ _ _ (o_unequal {n' = m} {x = x} {bs = bs} {u = w} e le) =
        comes_then N K world bs (step (x ∷ []) (Operate (operation.Unary unary.Not w))) (λ there. types_of N K there.1 w bool_ty) (λ there. At there t (named x)) (compared N are T K at s r n bs w m e world u rule.1 h g)
        (λ C l i. step_gives (world.0, C) t (subst (Is_data N) (sym rule.0) boolean_data) x (Operate (operation.Unary unary.Not w)) (bool_ty, bool_ty, (refl, boolean_scalar), i, ap (λ y. more y none) rule.0))
    binary_known o t u s r rule h g _ _ _ _ (o_made {k = k} q p le) = absurd (let z : None ≡ Some k = q in cc)

    binary_gives : (o : BinOp) (t u : Ty) (s r : Known) → Operator o K t u → At world u s → At world u r → Gives (Binary o) (s ∷ r ∷ []) t
    binary_gives o t u s r rule h g = (
      by_operator K (λ o. No_operation i (Binary o) at (s ∷ r ∷ []) → ⊥) t u
          (λ e k f. let c = equal_there world at u s r k h g 0 in f Unknown_row None 0 c.2 c.0 (Scalar_known c.1) (o_equal c.3))
          (λ e k f. let c = equal_there world at u s r k h g 0 in f Unknown_row None 0 (suc c.2) _ _ (o_unequal c.3 (let z : c.2 ≤ c.2 = omega arith in z)))
          (λ o e k. reckons o (of_integers world u s k h) (of_integers world u r k g)) o rule,
      (λ n n' bs v x. binary_known o t u s r rule h g n n' bs v x),
    )
      where
        reckons : (o : BinOp) → (w : Atom) × (s ≡ Scalar_known w) → (w : Atom) × (r ≡ Scalar_known w) → No_operation i (Binary o) at (s ∷ r ∷ []) → ⊥
        reckons o a b = subst (λ y. No_operation i (Binary o) at (y ∷ r ∷ []) → ⊥) (sym a.1) (subst (λ y. No_operation i (Binary o) at (Scalar_known a.0 ∷ y ∷ []) → ⊥) (sym b.1) (λ f. f Unknown_row None 0 1 _ _ (o_binary (let z : 0 ≤ 0 = omega arith in z))))

    -- ---- arrays
    all_packing : (ts : Tys) (ss : List Known) → All_data N ts → Each_fits N T K world ts ss → All_packing ss
    unfolding All_data
    all_packing none [] d h n = ([], [], n, p_none)
    all_packing none (s ∷ ss) d h n = absurd h
    all_packing (more t ts) [] d h n = absurd h
    all_packing (more t ts) (s ∷ ss) d h n =
        let p = shaped_packing s (shaped N T K world t s d.0 h.0) n in
        let q = all_packing ts ss d.1 h.1 p.2 in (_, _, _, p_more p.3 q.3)

    -- its parts as one component each, and then one step
    abbrev One_step : Operation Ref BindId → List Known → ℕ → Bindings → Known → Type 0
    One_step o ss n bs s = (k : Making) × (making o ≡ Some k) × (us : List Atom) × (cs : Bindings) × (m : ℕ) × (x : ℕ) × Packs_all ss n cs us m × (bs ≡ cs ++ step (x ∷ []) (act.Make (made_row row k) k at us)) × (s ≡ named x)

    abbrev Gives_one : Operation Ref BindId → List Known → Type 0
    Gives_one o ss = (n n' : ℕ) (bs : Bindings) (s : Known) → Operates row test i o at ss n bs s n' → One_step o ss n bs s

    array_one : (ss : List Known) → Gives_one Array_of ss
    array_one ss _ _ _ _ (o_made {m = m} {x = x} {k = k} {bs = cs} {us = us} q p le) = (k, q, us, cs, m, x, p, refl, refl)

    index_one : (ps : List Part) (ss : List Known) → Gives_one (Index ps) ss
    index_one ps ss _ _ _ _ (o_made {m = m} {x = x} {k = k} {bs = cs} {us = us} q p le) = (k, q, us, cs, m, x, p, refl, refl)

    update_one : (ss : List Known) → Gives_one Update ss
    update_one ss _ _ _ _ (o_made {m = m} {x = x} {k = k} {bs = cs} {us = us} q p le) = (k, q, us, cs, m, x, p, refl, refl)

    range_one : (stepped : Bool) (end : End) (ss : List Known) → Gives_one (Range stepped end) ss
    range_one stepped end ss _ _ _ _ (o_made {m = m} {x = x} {k = k} {bs = cs} {us = us} q p le) = (k, q, us, cs, m, x, p, refl, refl)

    made_row_stands : (P : Atom → Type 0) (r : Row) (k : Making) → All_in_row P r → All_in_row P (made_row r k)
    made_row_stands P r Make_array h = h
    made_row_stands P r (Make_index ps) h = tt
    made_row_stands P r Make_update h = tt
    made_row_stands P r (Make_range stepped end) h = tt

    made_comes : (o : Operation Ref BindId) (k : Making) → making o ≡ Some k → (t : Ty) (ts : Tys) (ss : List Known) → Makes N K k ts t → Is_data N t → Each_fits N T K world ts ss → (n : ℕ) (bs : Bindings) (s : Known) → One_step o ss n bs s → Comes N K world bs (λ there. At there t s)
    unfolding Act_typed
    made_comes o k q t ts ss rule d h n bs s (k', q', us, cs, m, x, p, e, f) =
        let typed : Makes N K k' ts t = subst (λ y. Makes N K y ts t) (some_same (sym q ∙ q')) rule in
        subst (λ y. Comes N K world bs (λ there. At there t y)) (sym f)
        (subst (λ y. Comes N K world y (λ there. At there t (named x))) (sym e)
        (comes_then N K world cs (step (x ∷ []) (act.Make (made_row row k') k' at us)) (λ there. Are (types_of N K there.1) us ts) (λ there. At there t (named x)) (packs_all_come N are T K ss n cs us m p world ts h)
        (λ C g a. step_gives (world.0, C) t d x (act.Make (made_row row k') k' at us) (ts, t, row_as _ _ (stands_learn N T K world (world.0, C) g) (made_row row k') (made_row_stands (Stands (types_of N K world.1)) row k' row_stands), a, typed, refl))))

    made_gives : (o : Operation Ref BindId) (k : Making) → making o ≡ Some k → (t : Ty) (ts : Tys) (ss : List Known) → Gives_one o ss → Makes N K k ts t → Is_data N t → All_data N ts → Each_fits N T K world ts ss → Gives o ss t
    made_gives o k q t ts ss one rule d ds h = (
      (λ f. let p = all_packing ts ss ds h 0 in f Unknown_row None 0 (suc p.2) _ _ (o_made q p.3 (let z : p.2 ≤ p.2 = omega arith in z))),
      (λ n n' bs s x. made_comes o k q t ts ss rule d h n bs s (one n n' bs s x)),
    )

    alike_data : (element : Ty) (ts : Tys) → Is_data N element → All_are element ts → All_data N ts
    unfolding All_data
    alike_data element none d a = tt
    alike_data element (more t ts) d a = (subst (Is_data N) (sym a.0) d, alike_data element ts d a.1)

    array_is_data : (t element : Ty) → t ≡ array_ty element → Is_data N element → Is_data N t
    unfolding Is_data All_data
    array_is_data t element e d = subst (Is_data N) (sym e) (d, tt)

    integer_data : Is_data N i64_ty
    unfolding Is_data
    integer_data = tt

    array_gives : (t u element : Ty) (ts : Tys) (ss : List Known) → IsArray kind.Data K t element → All_are element ts → Each_fits N T K world ts ss → Gives Array_of ss t
    array_gives t u element ts ss r a h = let d = kind_data N K element r.1 in made_gives Array_of Make_array refl t ts ss (array_one ss) (tt, (u, (element, r, a))) (array_is_data t element r.0 d) (alike_data element ts d a) h

    index_data : (ps : List Part) (x t : Ty) → Is_data N x → Indexed N kind.Data K ps x t → Is_data N t
    unfolding Is_data All_data
    index_data [] x t d e = subst (Is_data N) (sym e) d
    index_data (part.At ∷ ps) x t d r = subst (Is_data N) (sym r.4) (index_data ps r.0 r.1 (kind_data N K r.0 r.2.1) r.3)
    index_data (part.Slice from to ∷ ps) x t d r = subst (Is_data N) (sym r.4) (index_data ps r.0 r.1 (kind_data N K r.0 r.2.1) r.3, tt)
    index_data (part.Backwards ∷ ps) x t d r = subst (Is_data N) (sym r.4) (index_data ps r.0 r.1 (kind_data N K r.0 r.2.1) r.3, tt)

    indexed_data : (ps : List Part) (n : ℕ) (x t : Ty) → Operation_meant (Index ps) n → Indexed N kind.Data K ps x t → Is_data N x
    indexed_data [] n x t m r = absurd m
    indexed_data (p ∷ ps) n x t m r = array_is_data x r.0 r.2.0 (kind_data N K r.0 r.2.1)

    index_gives : (ps : List Part) (t u : Ty) (ts : Tys) (ss : List Known) → Operation_meant (Index ps) (count ts) → Rule N kind.Data K (Index ps) t u ts → Each_fits N T K world ts ss → Gives (Index ps) ss t
    unfolding All_data
    index_gives ps t u none ss m r h = absurd r
    index_gives ps t u (more x is) ss m r h =
        let d = indexed_data ps _ x t m r.2 in made_gives (Index ps) (Make_index ps) refl t (more x is) ss (index_one ps ss) (m, (u, r)) (index_data ps x t d r.2) (d, alike_data i64_ty is integer_data r.0) h

    updated_data : (x : Ty) (vs : Tys) → Is_data N x → Updated N kind.Data K x vs → All_data N vs
    unfolding All_data
    updated_data x none d r = absurd r
    updated_data x (more v none) d r = (subst (Is_data N) (sym r) d, tt)
    updated_data x (more j (more v vs)) d r = (subst (Is_data N) (sym r.0) integer_data, updated_data r.1.0 (more v vs) (kind_data N K r.1.0 r.1.1.1) r.1.2)

    update_gives : (t u : Ty) (ts : Tys) (ss : List Known) → Operation_meant Update (count ts) → Rule N kind.Data K Update t u ts → Each_fits N T K world ts ss → Gives Update ss t
    unfolding All_data
    update_gives t u none ss m r h = absurd r
    update_gives t u (more x none) ss m r h = absurd r.1
    update_gives t u (more x (more v none)) ss m r h = absurd (let z : 2 < 2 = m in omega (arith, z))
    update_gives t u (more x (more j (more v vs))) ss m r h =
        let d = array_is_data x r.1.1.0 r.1.1.1.0 (kind_data N K r.1.1.0 r.1.1.1.1) in
        made_gives Update Make_update refl t (more x (more j (more v vs))) ss (update_one ss) (m, (u, r)) (subst (Is_data N) (sym r.0) d) (d, updated_data x (more j (more v vs)) d r.1) h

    whole_data : (element : Ty) → HasKind K kind.Integer element → Is_data N element
    whole_data element k = kind_data N K element (let y : 4 ≤ rank K element = k in let z : 1 ≤ rank K element = omega (arith, y) in z)

    range_gives : (stepped : Bool) (end : End) (t u : Ty) (ts : Tys) (ss : List Known) → Rule N kind.Data K (Range stepped end) t u ts → Each_fits N T K world ts ss → Gives (Range stepped end) ss t
    range_gives true end t u (more x (more y (more z none))) ss (element, a, k, r) h =
        let d = whole_data element k in made_gives (Range true end) (Make_range true end) refl t (more x (more y (more z none))) ss (range_one true end ss) (tt, (u, (element, a, k, r))) (array_is_data t element a.0 d) (alike_data element (more x (more y (more z none))) d r) h
    range_gives false end t u (more x (more z none)) ss (element, a, k, r) h =
        let d = whole_data element k in made_gives (Range false end) (Make_range false end) refl t (more x (more z none)) ss (range_one false end ss) (tt, (u, (element, a, k, r))) (array_is_data t element a.0 d) (alike_data element (more x (more z none)) d r) h
    range_gives stepped end t u ts ss r h = absurd r

    -- ---- by forms
    abbrev pub Of : Operation Ref BindId → Type 0
    Of o = (t u : Ty) (ts : Tys) (ss : List Known) → Operation_meant o (count ts) → Rule N kind.Data K o t u ts → Literal_told i o t → count ts < widest → Each_fits N T K world ts ss → Gives o ss t

    no_parts : (o : Operation Ref BindId) → ((t u : Ty) → Operation_meant o 0 → Rule N kind.Data K o t u none → Literal_told i o t → Gives o [] t) → ((t u x : Ty) (ts : Tys) → Rule N kind.Data K o t u (more x ts) → ⊥) → Of o
    no_parts o here further t u none [] m r l lt h = here t u m r l
    no_parts o here further t u none (s ∷ ss) m r l lt h = absurd h
    no_parts o here further t u (more x ts) ss m r l lt h = absurd (further t u x ts r)

    one_part : (o : Operation Ref BindId) → ((t u : Ty) → Rule N kind.Data K o t u none → ⊥) → ((t u x : Ty) (s : Known) → Operation_meant o 1 → Rule N kind.Data K o t u (more x none) → At world x s → Gives o (s ∷ []) t)
        → ((t u x y : Ty) (ts : Tys) → Rule N kind.Data K o t u (more x (more y ts)) → ⊥) → Of o
    one_part o fewer here further t u none ss m r l lt h = absurd (fewer t u r)
    one_part o fewer here further t u (more x none) [] m r l lt h = absurd h
    one_part o fewer here further t u (more x none) (s ∷ []) m r l lt h = here t u x s m r h.0
    one_part o fewer here further t u (more x none) (s ∷ s' ∷ ss) m r l lt h = absurd h.1
    one_part o fewer here further t u (more x (more y ts)) ss m r l lt h = absurd (further t u x y ts r)

    two_parts : (o : Operation Ref BindId) → ((t u : Ty) → Rule N kind.Data K o t u none → ⊥) → ((t u x : Ty) → Rule N kind.Data K o t u (more x none) → ⊥)
        → ((t u x y : Ty) (s s' : Known) → Operation_meant o 2 → Rule N kind.Data K o t u (more x (more y none)) → At world x s → At world y s' → Gives o (s ∷ s' ∷ []) t)
        → ((t u x y z : Ty) (ts : Tys) → Rule N kind.Data K o t u (more x (more y (more z ts))) → ⊥) → Of o
    two_parts o no-one one-one here further t u none ss m r l lt h = absurd (no-one t u r)
    two_parts o no-one one-one here further t u (more x none) ss m r l lt h = absurd (one-one t u x r)
    two_parts o no-one one-one here further t u (more x (more y none)) [] m r l lt h = absurd h
    two_parts o no-one one-one here further t u (more x (more y none)) (s ∷ []) m r l lt h = absurd h.1
    two_parts o no-one one-one here further t u (more x (more y none)) (s ∷ s' ∷ []) m r l lt h = here t u x y s s' m r h.0 h.1.0
    two_parts o no-one one-one here further t u (more x (more y none)) (s ∷ s' ∷ s'' ∷ ss) m r l lt h = absurd h.1.1
    two_parts o no-one one-one here further t u (more x (more y (more z ts))) ss m r l lt h = absurd (further t u x y z ts r)

    same_fits : (t x : Ty) (s : Known) → t ≡ x → At world x s → At world t s
    same_fits t x s e h = subst (λ y. At world y s) (sym e) h

    pub operation_gives : (o : Operation Ref BindId) → Of o
    operation_gives (Integer n None) = no_parts (Integer n None) (λ t u m r l. integer_gives n None t l) (λ t u x ts r. r)
    operation_gives (Integer n (Some j)) = no_parts (Integer n (Some j)) (λ t u m r l. integer_gives n (Some j) t r) (λ t u x ts r. r)
    operation_gives (Truth b) = no_parts (Truth b) (λ t u m r l. truth_gives b t r) (λ t u x ts r. r)
    operation_gives Tuple_of = λ t u ts ss m r l lt h. tuple_gives t ts ss r lt h
    operation_gives (Record_of names) = λ t u ts ss m r l lt h. record_gives names t ts ss r h
    operation_gives Array_of = λ t u ts ss m r l lt h. array_gives t u r.0 ts ss r.1 r.2 h
    operation_gives (Binary o) = two_parts (Binary o) (λ t u r. r) (λ t u x r. r) (λ t u x y s s' m r h g. binary_gives o t u s s' r.0 (subst (λ z. At world z s) r.1 h) (subst (λ z. At world z s') r.2 g)) (λ t u x y z ts r. r)
    operation_gives Negate = one_part Negate (λ t u r. r) (λ t u x s m r h. let k = same_fits t x s r.0 h in let q = of_integers world t s r.1 k in gives_as Negate s (Scalar_known q.0) t q.1 (negate_gives t q.0 r.1 (subst (At world t) q.1 k))) (λ t u x y ts r. r)
    operation_gives Complement = one_part Complement (λ t u r. r) (λ t u x s m r h. let k = same_fits t x s r.0 h in let q = of_scalars world t s r.1 k in gives_as Complement s (Scalar_known q.0) t q.1 (complement_gives t q.0 r.1 (subst (At world t) q.1 k))) (λ t u x y ts r. r)
    operation_gives (Index ps) = λ t u ts ss m r l lt h. index_gives ps t u ts ss m r h
    operation_gives (Project f) = one_part (Project f) (λ t u r. r) (λ t u x s m r h. project_gives f t u s r.1 (project_fits N T K world are f t u s r.1 (subst (λ y. At world y s) r.0 h))) (λ t u x y ts r. r)
    operation_gives Update = λ t u ts ss m r l lt h. update_gives t u ts ss m r h
    operation_gives (Replace f) = two_parts (Replace f) (λ t u r. r) (λ t u x r. r) (λ t u x y s s' m r h g. replace_gives f t y s s' m r.1 g (replace_fits N T K world are f t y s s' m r.1 (same_fits t x s r.0 h) g)) (λ t u x y z ts r. r)
    operation_gives (Ascribe e) = one_part (Ascribe e) (λ t u r. r) (λ t u x s m r h. ascribe_gives e t s (same_fits t x s r h)) (λ t u x y ts r. r)
    operation_gives (Coerce e) = one_part (Coerce e) (λ t u r. r) (λ t u x s m r h. coerce_gives e t s (same_fits t x s r h)) (λ t u x y ts r. r)
    operation_gives (Declared e) = one_part (Declared e) (λ t u r. r) (λ t u x s m r h. declared_gives e t s (same_fits t x s r h)) (λ t u x y ts r. r)
    operation_gives Assert = one_part Assert (λ t u r. r) (λ t u x s m r h. let k = same_fits t x s (r.1 ∙ sym r.0) h in let q = scalar_fits world types.Bool t s r.1 k in gives_as Assert s (Scalar_known q.0) t q.1 (assert_gives t q.0 r.1 (subst (At world t) q.1 k))) (λ t u x y ts r. r)
    operation_gives (Range stepped end) = λ t u ts ss m r l lt h. range_gives stepped end t u ts ss r h
