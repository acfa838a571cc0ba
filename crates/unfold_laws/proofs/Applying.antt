-- Functions and primitives: each is known by its type.
use Rattle.std.proofs.Common.{◌≡◌, true, false, ℕ, ◌≤◌, ◌++◌, refl, sym, ◌∙◌, subst, List, [], ◌∷◌, Some, None, length, nat_lt, arith}
use Rattle.fut_meaning.specs.Found.{Told}
use Rattle.fut_scalar.specs.Integers.{width_of}
use Rattle.fut_scalar.specs.declared.operator.BinOp.TheVariants as op
use Rattle.fut_scalar.specs.declared.operator.UnOp.TheVariants as unary
use Rattle.fut_scalar.specs.declared.place.Place.{Place}
use Rattle.fut_scalar.specs.declared.scalar.IntType.{IntType}
use Rattle.fut_scalar.specs.declared.scalar.IntType.TheVariants as int
use Rattle.fut_scalar.specs.declared.scalar.Scalar.{Scalar}
use Rattle.fut_scalar.specs.declared.scalar.Scalar.TheVariants as scalar
use Rattle.fut_scalar.specs.declared.scalar.ScalarType.{ScalarType}
use Rattle.fut_scalar.specs.declared.scalar.ScalarType.TheVariants as types
use Rattle.fut_flat.specs.declared.prim.Folding.TheVariants as folding
use Rattle.fut_flat.specs.declared.prim.Primitive.{Primitive}
use Rattle.fut_flat.specs.declared.prim.Primitive.TheVariants as prim
use Rattle.fut_types.specs.declared.Kind.TheVariants as kind
use Rattle.fut_types.specs.Types.{Ty, none, more, Sub, Kinds, HasKind, rank, least, scalar_ty, fun_ty, applied, all_applied}
use Rattle.fut_typing.specs.Names.{Names, AreNames}
use Rattle.fut_typing.specs.Primitives.{prim_type}
use Rattle.fut_meaning.specs.Operations.{arity, is_of_scalars}
use Rattle.fut_meaning.specs.Operators.{lowest, highest}
use Rattle.fut_blocks.specs.declared.block.Atom.{Atom}
use Rattle.fut_blocks.specs.declared.block.Operation.{Operation}
use Rattle.fut_blocks.specs.declared.block.Operation.TheVariants as operation
use Rattle.fut_blocks.specs.Meaning.{fitted}
use Rattle.fut_blocks.specs.Plain.{Operate}
use Rattle.unfold.specs.Knowns.{Known, Scalar_known, Primitive_known, Knowns, no_known, known_and, listed}
use Rattle.unfold.specs.Stuck.{No_primitive, Stuck_run, no_function, no_primitive, no_arguments, stuck_job, job_function}
use Rattle.unfold.specs.Unfolding.{Bindings, step, named, constant, constant_of, Primitive_operates, p_convert, p_min, p_max, p_abs, p_popc, Applies, a_primitive_waits, a_primitive, a_job}
use Rattle.unfold_laws.specs.Fits.{World, types_of, Learns, Comes, Is_data, Fits}
use Rattle.unfold_laws.specs.Entered.{All_in_knowns}
use Rattle.unfold_laws.specs.Typed.{Stands, Act_typed, any_types}
use Rattle.unfold_laws.proofs.Fitting.{some_same, fits_learn, fits_stand, fits_data}
use Rattle.unfold_laws.proofs.Functions.{fits_function}
use Rattle.unfold_laws.proofs.Operating.{constant_type, fits_constant, scalar_fits, step_gives}
use Rattle.unfold_laws.proofs.Primitives.{all_applied_so, arrays_fit}
use Rattle.unfold_laws.proofs.TypedSteps.{comes_none}

module _ (N : Names) (are : AreNames N) (T : Told) (K : Kinds) where
  abbrev At : World → Ty → Known → Type 0
  At world t s = Fits N T K t world s

  scalar_data : (x : ScalarType) → Is_data N (scalar_ty x)
  unfolding Is_data
  scalar_data x = tt

  scalar_kind : (x : ScalarType) → HasKind K kind.Scalar (scalar_ty x)
  unfolding rank least
  scalar_kind (types.Int i) = omega arith
  scalar_kind types.Bool = omega arith

  integer_kind : (i : IntType) → HasKind K kind.Integer (scalar_ty (types.Int i))
  unfolding rank least
  integer_kind i = omega arith

  atom_is : (x : ScalarType) (world : World) (s : Known) → At world (scalar_ty x) s → (u : Atom) × (s ≡ Scalar_known u)
  atom_is x world s h = scalar_fits N T K world x (scalar_ty x) s refl h

  -- ---- primitives
  module _ (p : Primitive) (at : Place) where
    -- with all arguments: its steps are typed, and it gives a scalar of this type
    abbrev Operated : Ty → World → List Known → Type 0
    Operated y world ss = (n n' : ℕ) (bs : Bindings) (r : Known) → Primitive_operates p at ss n bs r n' → Comes N K world bs (λ there. At there y r)

    -- with all arguments but the last one
    last_argument : (given : Knowns) (x : ScalarType) (y : Ty) (world : World) → All_in_knowns (Stands (types_of N K world.1)) given → is_of_scalars p ≡ true → ((s : Known) → nat_lt (length (listed given ++ s ∷ [])) (arity p) ≡ false) → ((world' : World) (s : Known) → Learns N K world world' → At world' (scalar_ty x) s → No_primitive p at (listed given ++ s ∷ []) → ⊥)
        → ((world' : World) (s : Known) → Learns N K world world' → At world' (scalar_ty x) s → Operated y world' (listed given ++ s ∷ [])) → At world (fun_ty (scalar_ty x) y) (Primitive_known p at given)
    last_argument given x y world stand of full takes gives = fits_function N T K (scalar_ty x) y world (Primitive_known p at given) refl stand (λ world' g s h. ((λ w. stuck world' s g h w), (λ n n' bs r a. result world' s g h n n' bs r a)))
      where
        stuck : (world' : World) (s : Known) → Learns N K world world' → At world' (scalar_ty x) s → Stuck_run T world'.0 (Primitive_known p at given) s → ⊥
        stuck world' s g h (no_function f) = let z : true ≡ false = f in cc
        stuck world' s g h (no_primitive f i lacks) = takes world' s g h lacks
        stuck world' s g h (no_arguments f i lacks) = let z : true ≡ false = sym of ∙ i in cc
        stuck world' s g h (stuck_job xs f i l w) = let z : true ≡ false = sym of ∙ i in cc
        stuck world' s g h (job_function xs f i l a lacks) = let z : true ≡ false = sym of ∙ i in cc

        result : (world' : World) (s : Known) → Learns N K world world' → At world' (scalar_ty x) s → (n n' : ℕ) (bs : Bindings) (r : Known) → Applies T world'.0 (Primitive_known p at given) s n bs r n' → Comes N K world' bs (λ there. At there y r)
        result world' s g h _ _ _ _ (a_primitive_waits f) = absurd (let z : true ≡ false = sym f ∙ full s in cc)
        result world' s g h n n' bs r (a_primitive f i o) = gives world' s g h n n' bs r o
        result world' s g h _ _ _ _ (a_job xs f i e r up l a k le) = absurd (let z : true ≡ false = sym of ∙ i in cc)

    -- with none, where it takes two
    first_argument : (x : ScalarType) (u : Ty) (world : World) → ((s : Known) → nat_lt (length (s ∷ [])) (arity p) ≡ true) → ((world' : World) (s : Known) → Learns N K world world' → At world' (scalar_ty x) s → At world' u (Primitive_known p at (known_and s no_known))) → At world (fun_ty (scalar_ty x) u) (Primitive_known p at no_known)
    first_argument x u world waits rest = fits_function N T K (scalar_ty x) u world (Primitive_known p at no_known) refl tt (λ world' g s h. ((λ w. stuck world' s w), (λ n n' bs r a. result world' s g h n n' bs r a)))
      where
        stuck : (world' : World) (s : Known) → Stuck_run T world'.0 (Primitive_known p at no_known) s → ⊥
        stuck world' s (no_function f) = let z : true ≡ false = f in cc
        stuck world' s (no_primitive f i lacks) = let z : true ≡ false = sym (waits s) ∙ f in cc
        stuck world' s (no_arguments f i lacks) = let z : true ≡ false = sym (waits s) ∙ f in cc
        stuck world' s (stuck_job xs f i l w) = let z : true ≡ false = sym (waits s) ∙ f in cc
        stuck world' s (job_function xs f i l a lacks) = let z : true ≡ false = sym (waits s) ∙ f in cc

        result : (world' : World) (s : Known) → Learns N K world world' → At world' (scalar_ty x) s → (n n' : ℕ) (bs : Bindings) (r : Known) → Applies T world'.0 (Primitive_known p at no_known) s n bs r n' → Comes N K world' bs (λ there. At there u r)
        result world' s g h _ _ _ _ (a_primitive_waits f) = comes_none N K world' (λ there. At there u (Primitive_known p at (known_and s no_known))) (rest world' s g h)
        result world' s g h _ _ _ _ (a_primitive f i o) = absurd (let z : true ≡ false = sym (waits s) ∙ f in cc)
        result world' s g h _ _ _ _ (a_job xs f i e r up l a k le) = absurd (let z : true ≡ false = sym (waits s) ∙ f in cc)

    one_scalar : (x : ScalarType) → ((u : Atom) → No_primitive p at (Scalar_known u ∷ []) → ⊥) → (world : World) (s : Known) → At world (scalar_ty x) s → No_primitive p at (s ∷ []) → ⊥
    one_scalar x takes world s h = let r = atom_is x world s h in subst (λ y. No_primitive p at (y ∷ []) → ⊥) (sym r.1) (takes r.0)

    two_scalars : (x : ScalarType) → ((u w : Atom) → No_primitive p at (Scalar_known u ∷ Scalar_known w ∷ []) → ⊥) → (world : World) (s r : Known) → At world (scalar_ty x) s → At world (scalar_ty x) r → No_primitive p at (s ∷ r ∷ []) → ⊥
    two_scalars x takes world s r h k = let a = atom_is x world s h in let b = atom_is x world r k in
        subst (λ y. No_primitive p at (y ∷ r ∷ []) → ⊥) (sym a.1) (subst (λ y. No_primitive p at (Scalar_known a.0 ∷ y ∷ []) → ⊥) (sym b.1) (takes a.0 b.0))

  step_of : (world : World) (x : ScalarType) (y : ℕ) (o : Operation) → Act_typed N K any_types (Operate o) (types_of N K world.1) (more (scalar_ty x) none) → Comes N K world (step (y ∷ []) (Operate o)) (λ there. At there (scalar_ty x) (named y))
  step_of world x y o h = step_gives N T K world (scalar_ty x) (scalar_data x) y (Operate o) h

  typed : (world : World) (x : ScalarType) (u : Atom) → At world (scalar_ty x) (Scalar_known u) → types_of N K world.1 u (scalar_ty x)
  typed world x u h = (fits_data N T K (scalar_ty x) world u h).1

  convert_comes : (to from : ScalarType) (at : Place) (world : World) (s : Known) → At world (scalar_ty from) s → Operated (prim.Convert to from) at (scalar_ty to) world (s ∷ [])
  unfolding Act_typed
  convert_comes to from at world _ h _ _ _ _ (p_convert {x = x} {u = u} le) = step_of world to x (operation.Convert to u) (scalar_ty from, scalar_kind from, typed world from u h, refl)

  min_comes : (i : IntType) (at : Place) (world : World) (s r : Known) → At world (scalar_ty (types.Int i)) s → At world (scalar_ty (types.Int i)) r → Operated (prim.Min i) at (scalar_ty (types.Int i)) world (s ∷ r ∷ [])
  unfolding Act_typed
  min_comes i at world _ _ h k _ _ _ _ (p_min {x = x} {u = u} {w = w} le) = step_of world (types.Int i) x (operation.Binary op.Min at u w) (scalar_ty (types.Int i), scalar_ty (types.Int i), (refl, integer_kind i), typed world (types.Int i) u h, typed world (types.Int i) w k, refl)

  max_comes : (i : IntType) (at : Place) (world : World) (s r : Known) → At world (scalar_ty (types.Int i)) s → At world (scalar_ty (types.Int i)) r → Operated (prim.Max i) at (scalar_ty (types.Int i)) world (s ∷ r ∷ [])
  unfolding Act_typed
  max_comes i at world _ _ h k _ _ _ _ (p_max {x = x} {u = u} {w = w} le) = step_of world (types.Int i) x (operation.Binary op.Max at u w) (scalar_ty (types.Int i), scalar_ty (types.Int i), (refl, integer_kind i), typed world (types.Int i) u h, typed world (types.Int i) w k, refl)

  abs_comes : (i : IntType) (at : Place) (world : World) (s : Known) → At world (scalar_ty (types.Int i)) s → Operated (prim.Abs i) at (scalar_ty (types.Int i)) world (s ∷ [])
  unfolding Act_typed
  abs_comes i at world _ h _ _ _ _ (p_abs {x = x} {u = u} le) = step_of world (types.Int i) x (operation.Unary unary.Abs u) (scalar_ty (types.Int i), scalar_ty (types.Int i), (refl, integer_kind i), typed world (types.Int i) u h, refl)

  popc_comes : (i : IntType) (at : Place) (world : World) (s : Known) → At world (scalar_ty (types.Int i)) s → Operated (prim.Popc i) at (scalar_ty (types.Int int.I32)) world (s ∷ [])
  unfolding Act_typed
  popc_comes i at world _ h _ _ _ _ (p_popc {x = x} {u = u} le) = step_of world (types.Int int.I32) x (operation.Unary unary.Popc u) (scalar_ty (types.Int int.I32), scalar_ty (types.Int i), (refl, integer_kind i), typed world (types.Int i) u h, refl)

  -- of one scalar, and of two of one type
  unary_fits : (p : Primitive) (x y : ScalarType) (at : Place) (world : World) → is_of_scalars p ≡ true → ((s : Known) → nat_lt (length (s ∷ [])) (arity p) ≡ false) → ((u : Atom) → No_primitive p at (Scalar_known u ∷ []) → ⊥) → ((there : World) (s : Known) → At there (scalar_ty x) s → Operated p at (scalar_ty y) there (s ∷ [])) → At world (fun_ty (scalar_ty x) (scalar_ty y)) (Primitive_known p at no_known)
  unary_fits p x y at world of full takes gives = last_argument p at no_known x (scalar_ty y) world tt of full (λ world' s g h. one_scalar p at x takes world' s h) (λ world' s g h. gives world' s h)

  binary_fits : (p : Primitive) (x : ScalarType) (at : Place) (world : World) → is_of_scalars p ≡ true → ((s : Known) → nat_lt (length (s ∷ [])) (arity p) ≡ true) → ((s r : Known) → nat_lt (length (s ∷ r ∷ [])) (arity p) ≡ false) → ((u w : Atom) → No_primitive p at (Scalar_known u ∷ Scalar_known w ∷ []) → ⊥)
      → ((there : World) (s r : Known) → At there (scalar_ty x) s → At there (scalar_ty x) r → Operated p at (scalar_ty x) there (s ∷ r ∷ [])) → At world (fun_ty (scalar_ty x) (fun_ty (scalar_ty x) (scalar_ty x))) (Primitive_known p at no_known)
  binary_fits p x at world of few full takes gives = first_argument p at x (fun_ty (scalar_ty x) (scalar_ty x)) world few (λ world' s g h.
      last_argument p at (known_and s no_known) x (scalar_ty x) world' (fits_stand N T K world' (scalar_ty x) s h, tt) of (full s)
      (λ world'' r g' k. two_scalars p at x takes world'' s r (fits_learn N T K (scalar_ty x) world' world'' g' s h) k)
      (λ world'' r g' k. gives world'' s r (fits_learn N T K (scalar_ty x) world' world'' g' s h) k))

  pub primitive_fits : (p : Primitive) (given : Sub) → ((n : ℕ) → HasKind K kind.Data (given n)) → (at : Place) (world : World) → constant_of p ≡ None → At world (applied given (prim_type p)) (Primitive_known p at no_known)
  unfolding applied all_applied
  primitive_fits (prim.Convert to from) given kinds at world e = unary_fits (prim.Convert to from) from to at world refl (λ s. refl) (λ u f. f 0 1 _ _ (p_convert (let z : 0 ≤ 0 = omega arith in z))) (convert_comes to from at)
  primitive_fits (prim.Min i) given kinds at world e = binary_fits (prim.Min i) (types.Int i) at world refl (λ s. refl) (λ s r. refl) (λ u w f. f 0 1 _ _ (p_min (let z : 0 ≤ 0 = omega arith in z))) (min_comes i at)
  primitive_fits (prim.Max i) given kinds at world e = binary_fits (prim.Max i) (types.Int i) at world refl (λ s. refl) (λ s r. refl) (λ u w f. f 0 1 _ _ (p_max (let z : 0 ≤ 0 = omega arith in z))) (max_comes i at)
  primitive_fits (prim.Abs i) given kinds at world e = unary_fits (prim.Abs i) (types.Int i) (types.Int i) at world refl (λ s. refl) (λ u f. f 0 1 _ _ (p_abs (let z : 0 ≤ 0 = omega arith in z))) (abs_comes i at)
  primitive_fits (prim.Popc i) given kinds at world e = unary_fits (prim.Popc i) (types.Int i) (types.Int int.I32) at world refl (λ s. refl) (λ u f. f 0 1 _ _ (p_popc (let z : 0 ≤ 0 = omega arith in z))) (popc_comes i at)
  primitive_fits (prim.Lowest i) given kinds at world e = absurd (let z : Some _ ≡ None = e in cc)
  primitive_fits (prim.Highest i) given kinds at world e = absurd (let z : Some _ ≡ None = e in cc)
  primitive_fits (prim.NumBits i) given kinds at world e = absurd (let z : Some _ ≡ None = e in cc)
  primitive_fits (prim.Fold folding.Sum i) given kinds at world e = arrays_fit N are T K (prim.Fold folding.Sum i) at given kinds world _ _ refl refl (all_applied_so (prim.Fold folding.Sum i))
  primitive_fits (prim.Fold folding.Product i) given kinds at world e = arrays_fit N are T K (prim.Fold folding.Product i) at given kinds world _ _ refl refl (all_applied_so (prim.Fold folding.Product i))
  primitive_fits (prim.Fold folding.Minimum i) given kinds at world e = arrays_fit N are T K (prim.Fold folding.Minimum i) at given kinds world _ _ refl refl (all_applied_so (prim.Fold folding.Minimum i))
  primitive_fits (prim.Fold folding.Maximum i) given kinds at world e = arrays_fit N are T K (prim.Fold folding.Maximum i) at given kinds world _ _ refl refl (all_applied_so (prim.Fold folding.Maximum i))
  primitive_fits p given kinds at world e = arrays_fit N are T K p at given kinds world _ _ refl refl (all_applied_so p)

  pub number_fits : (p : Primitive) (given : Sub) (world : World) (c : Scalar) → constant_of p ≡ Some (fitted c) → At world (applied given (prim_type p)) (constant c)
  unfolding applied all_applied
  number_fits (prim.Convert to from) given world c e = absurd (let z : None ≡ Some (fitted c) = e in cc)
  number_fits (prim.Min i) given world c e = absurd (let z : None ≡ Some (fitted c) = e in cc)
  number_fits (prim.Max i) given world c e = absurd (let z : None ≡ Some (fitted c) = e in cc)
  number_fits (prim.Abs i) given world c e = absurd (let z : None ≡ Some (fitted c) = e in cc)
  number_fits (prim.Popc i) given world c e = absurd (let z : None ≡ Some (fitted c) = e in cc)
  number_fits (prim.Lowest i) given world c e = fits_constant N T K world (types.Int i) (scalar_ty (types.Int i)) c refl (constant_type c (scalar.Int i (lowest i)) (types.Int i) (sym (some_same e)) refl)
  number_fits (prim.Highest i) given world c e = fits_constant N T K world (types.Int i) (scalar_ty (types.Int i)) c refl (constant_type c (scalar.Int i (highest i)) (types.Int i) (sym (some_same e)) refl)
  number_fits (prim.NumBits i) given world c e = fits_constant N T K world (types.Int int.I32) (scalar_ty (types.Int int.I32)) c refl (constant_type c (scalar.Int int.I32 (width_of i)) (types.Int int.I32) (sym (some_same e)) refl)
  number_fits p given world c e = absurd (let z : None ≡ Some (fitted c) = e in cc)
