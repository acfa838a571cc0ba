-- Steps that are typed: they stay so where names have more types, and steps follow on steps.
use Rattle.std.proofs.Common.{◌≡◌, ℕ, suc, ◌+◌, ◌++◌, refl, sym, ap, subst, arith, List, [], ◌∷◌, length}
use mathlib.Core.Logic.{inl, inr}
use Rattle.fut_types.specs.Types.{Ty, Tys, none, more, Kinds}
use Rattle.fut_typing.specs.Names.{Names, count}
use Rattle.fut_typing.specs.Primitives.{bool_ty}
use Rattle.fut_blocks.specs.declared.block.Atom.{Atom}
use Rattle.fut_blocks.specs.declared.block.Atom.TheVariants as atom
use Rattle.fut_blocks.specs.declared.block.Operation.{Operation}
use Rattle.fut_blocks.specs.declared.block.Operation.TheVariants as operation
use Rattle.fut_blocks.specs.Plain.{Action, Operate, Tuple, Make, Read, Size_of, Coerce, Job, If, For, Over, While, Body, Give, Let, lets}
use Rattle.unfold.specs.Unfolding.{Bindings, step, names}
use Rattle.unfold_laws.specs.Fits.{Given, Bound, Context, behind, World, Keeps, types_of, Steps_typed, Learns, Comes}
use Rattle.unfold_laws.specs.Typed.{Types, Are, Stands, Stands_at, with_atoms, with_each, with_names, Operation_typed, Act_typed, Body_typed, Names_typed, any_types}
use Rattle.unfold_laws.proofs.Standing.{row_as, extent_as, test_as}

pub are_kept : (G H : Types) → Keeps G H → (us : List Atom) (ts : Tys) → Are G us ts → Are H us ts
are_kept G H k [] none h = tt
are_kept G H k [] (more t ts) h = absurd h
are_kept G H k (u ∷ us) none h = absurd h
are_kept G H k (u ∷ us) (more t ts) h = (k u t h.0, are_kept G H k us ts h.1)

each_kept : (G H : Types) (P Q : Tys → Type 0) → Keeps G H → ((ts : Tys) → P ts → Q ts) → (xs : List ℕ) → Keeps (with_each xs P G) (with_each xs Q H)
each_kept G H P Q k go xs x t (inl (ts, p, s)) = inl (ts, go ts p, s)
each_kept G H P Q k go xs x t (inr h) = inr (k x t h)

atoms_kept : (G H : Types) → Keeps G H → (us : List Atom) (ts : Tys) → Keeps (with_atoms us ts G) (with_atoms us ts H)
atoms_kept G H k us ts x t (inl s) = inl s
atoms_kept G H k us ts x t (inr h) = inr (k x t h)

names_kept : (G H : Types) → Keeps G H → (xs : List ℕ) (ts : Tys) → Keeps (with_names xs ts G) (with_names xs ts H)
names_kept G H k xs ts = atoms_kept G H k (names xs) ts

stands_kept : (G H : Types) → Keeps G H → (u : Atom) → Stands G u → Stands H u
stands_kept G H k u (t, h) = (t, k u t h)

operation_kept : (K : Kinds) (G H : Types) → Keeps G H → (o : Operation) (ts : Tys) → Operation_typed K G o ts → Operation_typed K H o ts
operation_kept K G H k (operation.Binary op at a b) ts (t, u, r, ha, hb, e) = (t, u, r, k a u ha, k b u hb, e)
operation_kept K G H k (operation.Unary op a) ts (t, u, r, ha, e) = (t, u, r, k a u ha, e)
operation_kept K G H k (operation.Convert to a) ts (u, r, ha, e) = (u, r, k a u ha, e)
operation_kept K G H k (operation.Assert at a) ts (ha, e) = (k a bool_ty ha, e)
operation_kept K G H k (operation.Parts a) ts ha = k a _ ha

-- and where names may have more types
module _ (N : Names) (K : Kinds) (May Also : Tys → Type 0) (also : (ts : Tys) → May ts → Also ts) where
  mutual
    unfolding Act_typed Body_typed

    pub act_kept : (a : Action) (G H : Types) → Keeps G H → (ts : Tys) → Act_typed N K May a G ts → Act_typed N K Also a H ts
    act_kept (Operate o) G H k ts h = operation_kept K G H k o ts h
    act_kept (Tuple us) G H k ts (parts, h, w, e) = (parts, are_kept G H k us parts h, w, e)
    act_kept (Make row m at us) G H k ts (parts, t, w, h, m', e) = (parts, t, row_as (Stands G) (Stands H) (stands_kept G H k) row w, are_kept G H k us parts h, m', e)
    act_kept (Read r us) G H k ts (parts, h, e) = (parts, are_kept G H k us parts h, e)
    act_kept (Size_of x) G H k ts (h, e) = (extent_as (Stands G) (Stands H) (stands_kept G H k) x h, e)
    act_kept (Coerce at test row) G H k ts (h, w, e) = (test_as (Stands G) (Stands H) (stands_kept G H k) test h, row_as (Stands G) (Stands H) (stands_kept G H k) row w, e)
    act_kept (Job row p at us xs b) G H k ts (taken, fs, r, t, w, h, q, m, hb, l, e) = (taken, fs, r, t, row_as (Stands G) (Stands H) (stands_kept G H k) row w, are_kept G H k us taken h, q, also fs m, body_kept b (with_names xs fs G) (with_names xs fs H) (names_kept G H k xs fs) (more r none) hb, l, e)
    act_kept (If c a b) G H k ts (hc, ha, hb) = (k c bool_ty hc, body_kept a G H k ts ha, body_kept b G H k ts hb)
    act_kept (For xs us i n b) G H k ts (hu, l, t, m, q, hn, hb) =
        (are_kept G H k us ts hu, l, t, also (more t ts) m, q, k n t hn, body_kept b _ _ (names_kept (with_names xs ts G) (with_names xs ts H) (names_kept G H k xs ts) (i ∷ []) (more t none)) ts hb)
    act_kept (Over xs us x r b) G H k ts (hu, l, t, m, hr, hb) =
        (are_kept G H k us ts hu, l, t, also (more t ts) m, k r _ hr, body_kept b _ _ (names_kept (with_names xs ts G) (with_names xs ts H) (names_kept G H k xs ts) (x ∷ []) (more t none)) ts hb)
    act_kept (While at xs us c b) G H k ts (hu, l, m, hc, hb) =
        (are_kept G H k us ts hu, l, also ts m, body_kept c _ _ (names_kept G H k xs ts) (more bool_ty none) hc, body_kept b _ _ (names_kept G H k xs ts) ts hb)

    pub body_kept : (b : Body) (G H : Types) → Keeps G H → (ts : Tys) → Body_typed N K May b G ts → Body_typed N K Also b H ts
    body_kept (Give us) G H k ts h = are_kept G H k us ts h
    body_kept (Let xs a b) G H k ts ((ss, (m, ha), l), hb) =
        ((ss, (also ss m, act_kept a G H k ss ha), l), body_kept b _ _ (each_kept G H (Names_typed N K May a G) (Names_typed N K Also a H) k (λ us h. (also us h.0, act_kept a G H k us h.1)) xs) ts hb)

module _ (N : Names) (K : Kinds) where
  -- ---- steps
  pub behind_keeps : (C : Context) (bs : Bindings) → Keeps (types_of N K C) (types_of N K (behind C bs))
  behind_keeps C [] u t h = h
  behind_keeps C (b ∷ bs) u t h = behind_keeps (Bound b.0 b.1 ∷ C) bs u t (inr h)

  pub steps_then : (C : Context) (bs cs : Bindings) → Steps_typed N K C bs → Steps_typed N K (behind C bs) cs → Steps_typed N K C (bs ++ cs)
  steps_then C [] cs h k = k
  steps_then C (b ∷ bs) cs h k = (h.0, steps_then (Bound b.0 b.1 ∷ C) bs cs h.1 k)

  pub behind_then : (C : Context) (bs cs : Bindings) → behind C (bs ++ cs) ≡ behind (behind C bs) cs
  behind_then C [] cs = refl
  behind_then C (b ∷ bs) cs = behind_then (Bound b.0 b.1 ∷ C) bs cs

  -- steps and results, as one block
  pub block_typed : (bs : Bindings) (us : List Atom) (C : Context) (ts : Tys) → Steps_typed N K C bs → Are (types_of N K (behind C bs)) us ts → Body_typed N K any_types (lets bs us) (types_of N K C) ts
  unfolding Body_typed lets
  block_typed [] us C ts h k = k
  block_typed (b ∷ bs) us C ts h k = (h.0, block_typed bs us (Bound b.0 b.1 ∷ C) ts h.1 k)

  -- ---- worlds
  pub learns_self : (world : World) → Learns N K world world
  learns_self world = ((λ k s e. e), (λ u t h. h))

  pub learns_more : (world world' world'' : World) → Learns N K world world' → Learns N K world' world'' → Learns N K world world''
  learns_more world world' world'' g h = ((λ k s e. h.0 k s (g.0 k s e)), (λ u t x. h.1 u t (g.1 u t x)))

  pub learns_types : (world : World) (C : Context) → Keeps (types_of N K world.1) (types_of N K C) → Learns N K world (world.0, C)
  learns_types world C k = ((λ k s e. e), k)

  pub learns_given : (us : List Atom) (ts : Tys) (world : World) → Learns N K world (world.0, Given us ts ∷ world.1)
  learns_given us ts world = ((λ k s e. e), (λ u t h. inr h))

  pub learns_steps : (bs : Bindings) (world : World) → Learns N K world (world.0, behind world.1 bs)
  learns_steps bs world = ((λ k s e. e), behind_keeps world.1 bs)

  module _ (world : World) where
    pub comes_none : (Q : World → Type 0) → Q world → Comes N K world [] Q
    comes_none Q q = (tt, q)

    pub comes_then : (bs cs : Bindings) (Q R : World → Type 0) → Comes N K world bs Q → ((C : Context) → Learns N K world (world.0, C) → Q (world.0, C) → Comes N K (world.0, C) cs R) → Comes N K world (bs ++ cs) R
    comes_then bs cs Q R c k =
        let d = k (behind world.1 bs) (learns_steps bs world) c.1 in
        (steps_then world.1 bs cs c.0 d.0, subst (λ C. R (world.0, C)) (sym (behind_then world.1 bs cs)) d.1)

    pub comes_map : (bs : Bindings) (Q R : World → Type 0) → Comes N K world bs Q → ((C : Context) → Learns N K world (world.0, C) → Q (world.0, C) → R (world.0, C)) → Comes N K world bs R
    comes_map bs Q R c k = (c.0, k (behind world.1 bs) (learns_steps bs world) c.1)

    pub comes_step : (xs : List ℕ) (a : Action) (ss : Tys) (Q : World → Type 0) → Act_typed N K any_types a (types_of N K world.1) ss → length xs ≡ count ss → Q (world.0, Bound xs a ∷ world.1) → Comes N K world (step xs a) Q
    comes_step xs a ss Q h l q = (((ss, (tt, h), l), tt), q)

    -- a step with one name
    pub comes_one : (x : ℕ) (a : Action) (t : Ty) (Q : World → Type 0) → Act_typed N K any_types a (types_of N K world.1) (more t none) → ((C : Context) → Learns N K world (world.0, C) → types_of N K C (atom.Name x) t → Q (world.0, C)) → Comes N K world (step (x ∷ []) a) Q
    comes_one x a t Q h q = (((more t none, (tt, h), refl), tt), q (Bound (x ∷ []) a ∷ world.1) ((λ k s e. e), (λ u t h. inr h)) (inl (more t none, (tt, h), inl (refl, refl))))

-- ---- rows
pub stand_are : (G : Types) (us : List Atom) (ts : Tys) → ((u : Atom) (t : Ty) → Stands_at us ts u t → G u t) → length us ≡ count ts → Are G us ts
stand_are G [] none into e = tt
stand_are G [] (more t ts) into e = absurd (let z : 0 ≡ 1 + count ts = e in omega (arith, z))
stand_are G (u ∷ us) none into e = absurd (let z : suc (length us) ≡ 0 = e in omega (arith, z))
stand_are G (u ∷ us) (more t ts) into e = (into u t (inl (refl, refl)), stand_are G us ts (λ w v s. into w v (inr s)) (let z : suc (length us) ≡ 1 + count ts = e in omega (arith, z)))

pub are_length : (G : Types) (us : List Atom) (ts : Tys) → Are G us ts → length us ≡ count ts
are_length G [] none h = refl
are_length G [] (more t ts) h = absurd h
are_length G (u ∷ us) none h = absurd h
are_length G (u ∷ us) (more t ts) h = let r : length us ≡ count ts = are_length G us ts h.1 in omega (arith, r)

pub names_length : (xs : List ℕ) → length (names xs) ≡ length xs
names_length [] = refl
names_length (x ∷ xs) = ap suc (names_length xs)
