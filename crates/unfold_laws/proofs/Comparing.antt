-- The steps of a comparison of two values of a type are typed, and give a truth value.
use Rattle.std.proofs.Common.{◌≡◌, true, false, ℕ, zero, suc, ◌≤◌, ◌++◌, min, refl, sym, subst, arith, [], ◌∷◌, Option, Some, None}
use Rattle.std.proofs.lemmas.Slice.Eq.{bytes_eq-Decides}
use mathlib.Core.Logic.{inr}
use Rattle.fut_meaning.specs.Found.{Told}
use Rattle.fut_scalar.specs.declared.operator.BinOp.TheVariants as binary
use Rattle.fut_scalar.specs.declared.place.Place.{Place}
use Rattle.fut_scalar.specs.declared.scalar.Scalar.{Scalar}
use Rattle.fut_scalar.specs.declared.scalar.Scalar.TheVariants as scalar
use Rattle.fut_arithmetic.specs.Types.{type_of}
use Rattle.fut_types.specs.declared.Kind.TheVariants as kind
use Rattle.fut_types.specs.declared.Head.TheVariants as head
use Rattle.fut_types.specs.Shapes.{place_from, part_at}
use Rattle.fut_types.specs.Types.{Ty, Made, Tys, none, more, Kinds, HasKind, rank, least, scalar_ty}
use Rattle.fut_typing.specs.Names.{Names, AreNames}
use Rattle.fut_typing.specs.Primitives.{bool_ty}
use Rattle.fut_blocks.specs.declared.block.Atom.{Atom}
use Rattle.fut_blocks.specs.declared.block.Atom.TheVariants as atom
use Rattle.fut_blocks.specs.declared.block.Operation.TheVariants as operation
use Rattle.fut_blocks.specs.Plain.{Operate}
use Rattle.unfold.specs.Knowns.{Known, Tuple_known, Record_known, Knowns, Known_fields}
use Rattle.unfold.specs.Unfolding.{Bindings, step, both_hold, Equals, e_scalars, e_packed, e_tuples, e_records, All_equal, e_none, e_more, Fields_equal, e_no_field, e_field}
use Rattle.unfold_laws.specs.Fits.{Given, Bound, Context, World, types_of, Learns, Comes, Each_field, Fits, All_fit, Keyed}
use Rattle.unfold_laws.specs.Typed.{Are, Act_typed, Body_typed}
use Rattle.unfold_laws.proofs.Fitting.{each_map, fits_data, all_fit_learn, keyed_learn, keyed_part, keyed_found}
use Rattle.unfold_laws.proofs.Packed.{packs_all_come}
use Rattle.unfold_laws.proofs.Shaping.{tuple_type, record_type}
use Rattle.unfold_laws.proofs.TypedSteps.{comes_none, comes_then, comes_one}

-- the part of types of a kind is of that kind
part_rank : (K : Kinds) (k : ℕ) (t : Ty) (o : Option ℕ) (ts : Tys) → part_at o ts ≡ Some t → k ≤ least K ts → k ≤ rank K t
unfolding part_at least
part_rank K k t None ts e h = absurd (let z : None ≡ Some t = e in cc)
part_rank K k t (Some i) none e h = absurd (let z : None ≡ Some t = e in cc)
part_rank K k t (Some zero) (more u ts) e h = let z : k ≤ min (rank K u) (least K ts) = h in let y : k ≤ rank K u = omega (arith, z) in subst (λ x. k ≤ rank K x) (let q : Some u ≡ Some t = e in cc) y
part_rank K k t (Some (suc i)) (more u ts) e h = let z : k ≤ min (rank K u) (least K ts) = h in part_rank K k t (Some i) ts e (omega (arith, z))

module _ (N : Names) (K : Kinds) where
  -- a constant has its type wherever it stands
  pub constant_typed : (C : Context) (s : Scalar) → types_of N K C (atom.Constant s) (scalar_ty (type_of s))
  constant_typed [] s = refl
  constant_typed (Given us ts ∷ C) s = inr (constant_typed C s)
  constant_typed (Bound xs a ∷ C) s = inr (constant_typed C s)

  -- the steps are typed, and the atom is a truth value
  abbrev pub Truth : World → Bindings → Atom → Type 0
  Truth world bs u = Comes N K world bs (λ there. types_of N K there.1 u bool_ty)

  both_typed : (world : World) (x : ℕ) (u w : Atom) → types_of N K world.1 u bool_ty → types_of N K world.1 w bool_ty → Truth world (step (x ∷ []) (both_hold u w)) (atom.Name x)
  unfolding Act_typed Body_typed
  both_typed world x u w hu hw = comes_one N K world x (both_hold u w) bool_ty (λ there. types_of N K there.1 (atom.Name x) bool_ty) (hu, (hw, tt), (constant_typed world.1 (scalar.Bool false), tt)) (λ C g h. h)

  -- a first comparison, those behind it, and whether both hold
  compared_more : (world : World) (x : ℕ) (bs cs : Bindings) (u w : Atom) → Truth world bs u → ((C : Context) → Learns N K world (world.0, C) → Truth (world.0, C) cs w) → Truth world (bs ++ (cs ++ step (x ∷ []) (both_hold u w))) (atom.Name x)
  compared_more world x bs cs u w c k =
      comes_then N K world bs (cs ++ step (x ∷ []) (both_hold u w)) (λ there. types_of N K there.1 u bool_ty) (λ there. types_of N K there.1 (atom.Name x) bool_ty) c
      (λ C g hu. comes_then N K (world.0, C) cs (step (x ∷ []) (both_hold u w)) (λ there. types_of N K there.1 w bool_ty) (λ there. types_of N K there.1 (atom.Name x) bool_ty) (k C g)
      (λ D g' hw. both_typed (world.0, D) x u w (g'.1 u bool_ty hu) hw))

  equal_typed : (world : World) (at : Place) (x : ℕ) (t : Ty) (u w : Atom) → HasKind K kind.Equal t → types_of N K world.1 u t → types_of N K world.1 w t → Truth world (step (x ∷ []) (Operate (operation.Binary binary.Eq at u w))) (atom.Name x)
  unfolding Act_typed
  equal_typed world at x t u w k hu hw = comes_one N K world x (Operate (operation.Binary binary.Eq at u w)) bool_ty (λ there. types_of N K there.1 (atom.Name x) bool_ty) (bool_ty, t, (refl, k), hu, hw, refl) (λ C g h. h)

module _ (N : Names) (are : AreNames N) (T : Told) (K : Kinds) (at : Place) where
  abbrev Part : World → ℕ → Tys → Known_fields → Type 0
  Part world n ts fs = Each_field (λ g u. Keyed N T K (N.shapes.fields n) ts world (N.label g) u) fs

  part_learn : (world world' : World) → Learns N K world world' → (n : ℕ) (ts : Tys) (fs : Known_fields) → Part world n ts fs → Part world' n ts fs
  part_learn world world' g n ts fs h = each_map _ _ (λ f u k. keyed_learn N T K (N.shapes.fields n) ts world world' g (N.label f) u k) fs h

  mutual
    unfolding Fits All_fit rank least

    pub compared : (s r : Known) (n : ℕ) (bs : Bindings) (u : Atom) (n' : ℕ) → Equals at s r n bs u n' → (world : World) (t : Ty) → HasKind K kind.Equal t → Fits N T K t world s → Fits N T K t world r → Truth N K world bs u
    compared _ _ _ _ _ _ (e_scalars {u = u} {w = w} {x = x} le) world t k h g = equal_typed N K world at x t u w k (fits_data N T K t world u h).1 (fits_data N T K t world w g).1
    compared s r n _ _ _ (e_packed {u = u} {w = w} {m = m} {x = x} {bs = bs} p le) world t k h g =
        comes_then N K world bs (step (x ∷ []) (Operate (operation.Binary binary.Eq at u w))) (λ there. Are (types_of N K there.1) (u ∷ w ∷ []) (more t (more t none))) (λ there. types_of N K there.1 (atom.Name x) bool_ty)
        (packs_all_come N are T K (s ∷ r ∷ []) n bs (u ∷ w ∷ []) m p world (more t (more t none)) (h, (g, tt)))
        (λ C l a. equal_typed N K (world.0, C) at x t u w k a.0 a.1.0)
    compared _ _ n _ _ n' (e_tuples {ss = ss} {us = us} {bs = bs} {u = u} e) world t k h g =
        let q = tuple_type N T K world t ss h in
        let c : Fits N T K (Made head.Tuple q.0) world (Tuple_known us) = subst (λ y. Fits N T K y world (Tuple_known us)) q.1 g in
        let z : 2 ≤ min 2 (least K q.0) = subst (HasKind K kind.Equal) q.1 k in
        all_compared ss us n bs u n' e world q.0 (omega (arith, z)) q.3 c.1
    compared _ _ n _ _ n' (e_records {fs = fs} {gs = gs} {bs = bs} {u = u} e) world t k h g =
        let q = record_type N T K world t fs h in
        let c : Fits N T K (Made (head.Record q.0) q.1) world (Record_known gs) = subst (λ y. Fits N T K y world (Record_known gs)) q.2 g in
        let z : 2 ≤ min 2 (least K q.1) = subst (HasKind K kind.Equal) q.2 k in
        fields_compared fs gs n bs u n' e world q.0 q.1 (omega (arith, z)) q.5 c.2

    all_compared : (ss us : Knowns) (n : ℕ) (bs : Bindings) (u : Atom) (n' : ℕ) → All_equal at ss us n bs u n' → (world : World) (ts : Tys) → 2 ≤ least K ts → All_fit N T K ts world ss → All_fit N T K ts world us → Truth N K world bs u
    all_compared _ _ _ _ _ _ e_none world ts k h g = comes_none N K world (λ there. types_of N K there.1 (atom.Constant (scalar.Bool true)) bool_ty) (constant_typed N K world.1 (scalar.Bool true))
    all_compared _ _ _ _ _ _ (e_more e es le) world none k h g = absurd h
    all_compared _ _ n _ _ _ (e_more {s = s} {t = r} {ss = ss} {ts = rs} {n1 = n1} {n2 = n2} {x = x} {bs = bs} {cs = cs} {u = u} {w = w} e es le) world (more t ts) k h g =
        let z : 2 ≤ min (rank K t) (least K ts) = k in
        compared_more N K world x bs cs u w (compared s r n bs u n1 e world t (omega (arith, z)) h.0 g.0)
        (λ C l. all_compared ss rs n1 cs w n2 es (world.0, C) ts (omega (arith, z)) (all_fit_learn N T K ts world (world.0, C) l ss h.1) (all_fit_learn N T K ts world (world.0, C) l rs g.1))

    fields_compared : (fs gs : Known_fields) (n : ℕ) (bs : Bindings) (u : Atom) (n' : ℕ) → Fields_equal at fs gs n bs u n' → (world : World) (m : ℕ) (ts : Tys) → 2 ≤ least K ts → Part world m ts fs → Part world m ts gs → Truth N K world bs u
    fields_compared _ _ _ _ _ _ e_no_field world m ts k h g = comes_none N K world (λ there. types_of N K there.1 (atom.Constant (scalar.Bool true)) bool_ty) (constant_typed N K world.1 (scalar.Bool true))
    fields_compared _ _ n _ _ _ (e_field {f = f} {g = f'} {s = s} {t = r} {fs = fs} {gs = gs} {n1 = n1} {n2 = n2} {x = x} {bs = bs} {cs = cs} {u = u} {w = w} same e es le) world m ts k h g =
        let p = keyed_part N T K (N.label f) world s (N.shapes.fields m) ts h.0 in
        let there = subst (λ z. Keyed N T K (N.shapes.fields m) ts world (N.label z) r) (sym ((bytes_eq-Decides f f').0 same)) g.0 in
        compared_more N K world x bs cs u w
        (compared s r n bs u n1 e world p.0 (part_rank K 2 p.0 (place_from 0 (N.label f) (N.shapes.fields m)) ts p.1 k) p.2 (keyed_found N T K (N.label f) p.0 world r (N.shapes.fields m) ts p.1 there))
        (λ C l. fields_compared fs gs n1 cs w n2 es (world.0, C) m ts k (part_learn world (world.0, C) l m ts fs h.1) (part_learn world (world.0, C) l m ts gs g.1))
