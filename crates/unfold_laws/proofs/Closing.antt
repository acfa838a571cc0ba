-- The types of typed blocks may be read anew: where variables and type parameters stand for numbers, no type has variables left.
use Rattle.std.proofs.Common.{◌≡◌, ℕ, zero, suc, ◌+◌, ◌≤◌, refl, sym, ap, ◌∙◌, subst, arith, List, [], ◌∷◌, Option, Some, None}
use mathlib.Core.Logic.{inl, inr}
use Rattle.fut_scalar.specs.declared.operator.UnOp.{UnOp}
use Rattle.fut_scalar.specs.declared.operator.UnOp.TheVariants as unary
use Rattle.fut_flat.specs.declared.prim.Primitive.{Primitive}
use Rattle.fut_types.specs.declared.Kind.{Kind}
use Rattle.fut_types.specs.declared.Kind.TheVariants as kind
use Rattle.fut_types.specs.declared.Head.{Head}
use Rattle.fut_types.specs.declared.Head.TheVariants as head
use Rattle.fut_types.specs.Types.{Ty, Var, Made, Tys, none, more, Kinds, HasKind, level, rank, least}
use Rattle.fut_types.specs.Shapes.{part_named}
use Rattle.fut_types.proofs.TyLaws.{level_most}
use Rattle.fut_typing.specs.Names.{Names, count}
use Rattle.fut_typing.specs.Primitives.{array_ty, bool_ty, i32_ty}
use Rattle.fut_typing.specs.Rules.{Operator}
use Rattle.fut_typing.proofs.Readings.{Reading, image, read_head, Suited, read_kind, read_part}
unfoldable use Rattle.fut_typing.proofs.Readings.{read, read_all}
use Rattle.fut_typing.proofs.ReadPrimitives.{read_prim}
use Rattle.fut_typing.proofs.Follows.{read_arrows, read_record, rule_follows}
use Rattle.fut_meaning.specs.Arrays.{Making}
use Rattle.fut_meaning.specs.Operations.{parameters_of}
use Rattle.fut_scalar.specs.declared.operator.BinOp.{BinOp}
use Rattle.fut_flat.specs.Terms as terms
use Rattle.type_soundness.specs.Meant.{Operation_meant}
use Rattle.fut_blocks.specs.declared.block.Atom.{Atom}
use Rattle.fut_blocks.specs.declared.block.Atom.TheVariants as atom
use Rattle.fut_blocks.specs.declared.block.Operation.{Operation}
use Rattle.fut_blocks.specs.declared.block.Operation.TheVariants as operation
use Rattle.fut_blocks.specs.Plain.{Reading as Reads_of, Record_with, Part_at, Replace_at, Fields_at, Action, Operate, Tuple, Make, Read, Size_of, Coerce, Job, If, For, Over, While, Body, Give, Let, body_of}
use Rattle.unfold.specs.Shapes.{Shape, Scalar_shape, Tuple_shape, Record_shape, Shapes, no_shape, shape_and, Field_shapes, no_field_shape, field_shape_and}
use Rattle.unfold.specs.Unfolding.{names}
use Rattle.unfold_laws.specs.Claims.{UnfoldedClosed}
use Rattle.unfold_laws.specs.Closed.{Is_fixed, Is_closed, All_closed, TypesMayBeClosed}
use Rattle.unfold_laws.specs.Components.{with_part, components, all_components, field_components}
use Rattle.unfold_laws.proofs.Fitting.{some_same}
use Rattle.unfold_laws.proofs.Standing.{row_as, extent_as, test_as}
use Rattle.unfold_laws.proofs.TypedSteps.{body_kept}
use Rattle.unfold_laws.proofs.Unstuck.{unfolded_well_typed}
use Rattle.unfold_laws.specs.Typed.{Types, of_constants, Are, Stands, Stands_at, with_names, with_each, One, Operation_typed, operation_of, Makes, Reads, data_types, function_type, Primitive_typed, Act_typed, Body_typed, Names_typed, any_types}

-- ---- variables and type parameters as numbers, which are of each kind
abbrev numbers : Reading
numbers = record { variable = λ n. i32_ty; own = λ n k. i32_ty }

number_kind : (K : Kinds) (k : Kind) → HasKind K k i32_ty
unfolding rank least
number_kind K k = let z : level k ≤ 4 = level_most k in omega arith

suits : (K : Kinds) → Suited K K numbers
suits K = record { variables = λ v. number_kind K (K v); owns = λ n k. number_kind K k }

number_closed : Is_closed i32_ty
unfolding Is_closed All_closed
number_closed = (tt, tt)

head_closed : (h : Head) (ts : Tys) → All_closed ts → Is_closed (read_head numbers h ts)
unfolding Is_closed All_closed
head_closed (head.Rigid n k) none c = (tt, tt)
head_closed (head.Rigid n k) (more t ts) c = (tt, c)
head_closed (head.Scalar s) ts c = (tt, c)
head_closed head.Array ts c = (tt, c)
head_closed head.Tuple ts c = (tt, c)
head_closed (head.Record n) ts c = (tt, c)
head_closed head.Fun ts c = (tt, c)
head_closed (head.Abstract n d) ts c = (tt, c)

mutual
  unfolding read All_closed

  closed : (t : Ty) → Is_closed (read numbers t)
  closed (Var n) = number_closed
  closed (Made h ts) = head_closed h (read_all numbers ts) (all_closed ts)

  all_closed : (ts : Tys) → All_closed (read_all numbers ts)
  all_closed none = tt
  all_closed (more t ts) = (closed t, all_closed ts)

-- a closed type is read as it is
head_stays : (h : Head) (ts us : Tys) → Is_fixed h ts → us ≡ ts → read_head numbers h us ≡ Made h ts
head_stays (head.Rigid n k) none us f e = absurd f
head_stays (head.Rigid n k) (more t ts) us f e = ap (read_head numbers (head.Rigid n k)) e
head_stays (head.Scalar s) ts us f e = ap (Made (head.Scalar s)) e
head_stays head.Array ts us f e = ap (Made head.Array) e
head_stays head.Tuple ts us f e = ap (Made head.Tuple) e
head_stays (head.Record n) ts us f e = ap (Made (head.Record n)) e
head_stays head.Fun ts us f e = ap (Made head.Fun) e
head_stays (head.Abstract n d) ts us f e = ap (Made (head.Abstract n d)) e

mutual
  unfolding read Is_closed All_closed

  stays : (t : Ty) → Is_closed t → read numbers t ≡ t
  stays (Var n) c = absurd c
  stays (Made h ts) c = head_stays h ts (read_all numbers ts) c.0 (all_stay ts c.1)

  all_stay : (ts : Tys) → All_closed ts → read_all numbers ts ≡ ts
  all_stay none c = refl
  all_stay (more t ts) c = λ i. more (stays t c.0 i) (all_stay ts c.1 i)

-- ---- what is typed is typed by the types as they are read
module _ (I : Reading) where
  count_read : (ts : Tys) → count (read_all I ts) ≡ count ts
  unfolding read
  count_read none = refl
  count_read (more t ts) = ap (λ n. 1 + n) (count_read ts)

  data_read : (ks : List ℕ) (ts : Tys) → read_all I (data_types ks ts) ≡ data_types ks (read_all I ts)
  unfolding read
  data_read [] ts = refl
  data_read (k ∷ ks) none = refl
  data_read (zero ∷ ks) (more t ts) = ap (more (read I t)) (data_read ks ts)
  data_read (suc k ∷ ks) (more t ts) = data_read ks ts

  function_read : (ks : List ℕ) (ts : Tys) → read I (function_type ks ts) ≡ function_type ks (read_all I ts)
  unfolding read
  function_read [] ts = refl
  function_read (k ∷ ks) none = refl
  function_read (zero ∷ ks) (more t ts) = function_read ks ts
  function_read (suc k ∷ ks) (more t ts) = refl

  -- each atom has there the types that it has here, as they are read
  abbrev Reads_to : Types → Types → Type 0
  Reads_to G H = (u : Atom) (t : Ty) → G u t → H u (read I t)

  stand_on : (G H : Types) → Reads_to G H → (u : Atom) → Stands G u → Stands H u
  stand_on G H k u (t, h) = (read I t, k u t h)

  are_read : (G H : Types) → Reads_to G H → (us : List Atom) (ts : Tys) → Are G us ts → Are H us (read_all I ts)
  unfolding read
  are_read G H k [] none h = tt
  are_read G H k [] (more t ts) h = absurd h
  are_read G H k (u ∷ us) none h = absurd h
  are_read G H k (u ∷ us) (more t ts) h = (k u t h.0, are_read G H k us ts h.1)

  stands_read : (us : List Atom) (ts : Tys) (u : Atom) (t : Ty) → Stands_at us ts u t → Stands_at us (read_all I ts) u (read I t)
  unfolding read
  stands_read [] ts u t h = absurd h
  stands_read (w ∷ ws) none u t h = absurd h
  stands_read (w ∷ ws) (more v vs) u t (inl (a, b)) = inl (a, ap (read I) b)
  stands_read (w ∷ ws) (more v vs) u t (inr h) = inr (stands_read ws vs u t h)

  names_read : (G H : Types) → Reads_to G H → (xs : List ℕ) (ts : Tys) → Reads_to (with_names xs ts G) (with_names xs (read_all I ts) H)
  names_read G H k xs ts u t (inl s) = inl (stands_read (names xs) ts u t s)
  names_read G H k xs ts u t (inr h) = inr (k u t h)

  each_read : (G H : Types) (P Q : Tys → Type 0) → Reads_to G H → ((us : Tys) → P us → Q (read_all I us)) → (xs : List ℕ) → Reads_to (with_each xs P G) (with_each xs Q H)
  each_read G H P Q k go xs u t (inl (ts, p, s)) = inl (read_all I ts, go ts p, stands_read (names xs) ts u t s)
  each_read G H P Q k go xs u t (inr h) = inr (k u t h)

module _ (N : Names) (K : Kinds) where
  -- ---- acts without blocks
  binary_read : (op : BinOp) (t u : Ty) → Operator op K t u → Operator op K (read numbers t) (read numbers u)
  unfolding read
  binary_read op t u h = (rule_follows N kind.Data K K numbers (suits K) (terms.Binary op) t u (more u (more u none)) (h, refl, refl)).0

  unary_read : (op : UnOp) (u t : Ty) → One K op u t → One K op (read numbers u) (read numbers t)
  unfolding read
  unary_read unary.Neg u t (e, k) = (ap (read numbers) e, read_kind K K numbers (suits K) kind.Integer u k)
  unary_read unary.Not u t (e, k) = (ap (read numbers) e, read_kind K K numbers (suits K) kind.Scalar u k)
  unary_read unary.Abs u t (e, k) = (ap (read numbers) e, read_kind K K numbers (suits K) kind.Integer u k)
  unary_read unary.Popc u t (e, k) = (ap (read numbers) e, read_kind K K numbers (suits K) kind.Integer u k)

  operation_read : (G H : Types) → Reads_to numbers G H → (o : Operation) (ts : Tys) → Operation_typed K G o ts → Operation_typed K H o (read_all numbers ts)
  unfolding read
  operation_read G H k (operation.Binary op at a b) ts (t, u, rule, ha, hb, e) = (read numbers t, read numbers u, binary_read op t u rule, k a u ha, k b u hb, ap (read_all numbers) e)
  operation_read G H k (operation.Unary op a) ts (t, u, rule, ha, e) = (read numbers t, read numbers u, unary_read op u t rule, k a u ha, ap (read_all numbers) e)
  operation_read G H k (operation.Convert to a) ts (u, s, ha, e) = (read numbers u, read_kind K K numbers (suits K) kind.Scalar u s, k a u ha, ap (read_all numbers) e)
  operation_read G H k (operation.Assert at a) ts (ha, e) = (k a bool_ty ha, ap (read_all numbers) e)
  operation_read G H k (operation.Parts a) ts ha = k a (Made head.Tuple ts) ha

  makes_read : (m : Making) (us : Tys) (t : Ty) → Makes N K m us t → Makes N K m (read_all numbers us) (read numbers t)
  makes_read m us t (meant, (u, r)) = (subst (Operation_meant (operation_of m)) (sym (count_read numbers us)) meant, (read numbers u, rule_follows N kind.Data K K numbers (suits K) (operation_of m) t u us r))

  reads_read : (r : Reads_of) (us ts : Tys) → Reads N r us ts → Reads N r (read_all numbers us) (read_all numbers ts)
  unfolding read
  reads_read (Record_with fs) us ts (t, r, o, e) = (read numbers t, read_record numbers N fs t us r, o, ap (read_all numbers) e)
  reads_read (Part_at f) (more u none) ts (t, h, e) = (read numbers t, read_part numbers N.shapes (N.label f) u t h, ap (read_all numbers) e)
  reads_read (Replace_at f) (more u (more v none)) ts (unnumbered, h, e) = (unnumbered, read_part numbers N.shapes (N.label f) u v h, ap (read_all numbers) e)
  reads_read (Fields_at fs) (more u none) ts r = read_record numbers N fs u ts r
  reads_read r us ts h = absurd h

  primitive_read : (p : Primitive) (us fs : Tys) (r t : Ty) → Primitive_typed K p us fs r t → Primitive_typed K p (read_all numbers us) (read_all numbers fs) (read numbers r) (read numbers t)
  primitive_read p us fs r t x = record {
    on_arrays = x.on_arrays;
    some = x.some;
    given = image numbers x.given;
    kinds = λ n. read_kind K K numbers (suits K) kind.Data (x.given n) (x.kinds n);
    parameters = read_all numbers x.parameters;
    is = sym (read_prim numbers x.given p) ∙ ap (read numbers) x.is ∙ read_arrows numbers x.parameters t;
    all = count_read numbers x.parameters ∙ x.all;
    taken = ap (read_all numbers) x.taken ∙ data_read numbers (parameters_of p) x.parameters;
    function = sym (function_read numbers (parameters_of p) x.parameters) ∙ ap (read numbers) x.function ∙ read_arrows numbers fs r;
    of_function = count_read numbers fs ∙ x.of_function;
  }

  -- ---- blocks
  mutual
    unfolding read All_closed Act_typed Body_typed

    act_read : (a : Action) (G H : Types) → Reads_to numbers G H → (ts : Tys) → Act_typed N K any_types a G ts → Act_typed N K All_closed a H (read_all numbers ts)
    act_read (Operate o) G H k ts h = operation_read G H k o ts h
    act_read (Tuple us) G H k ts (parts, h, w, e) = (read_all numbers parts, are_read numbers G H k us parts h, (let c : count (read_all numbers parts) ≡ count parts = count_read numbers parts in omega (arith, w, c)), ap (read_all numbers) e)
    act_read (Make row m at us) G H k ts (parts, t, w, h, r, e) = (read_all numbers parts, read numbers t, row_as (Stands G) (Stands H) (stand_on numbers G H k) row w, are_read numbers G H k us parts h, makes_read m parts t r, ap (read_all numbers) e)
    act_read (Read r us) G H k ts (parts, h, q) = (read_all numbers parts, are_read numbers G H k us parts h, reads_read r parts ts q)
    act_read (Size_of x) G H k ts (h, e) = (extent_as (Stands G) (Stands H) (stand_on numbers G H k) x h, ap (read_all numbers) e)
    act_read (Coerce at test row) G H k ts (h, w, e) = (test_as (Stands G) (Stands H) (stand_on numbers G H k) test h, row_as (Stands G) (Stands H) (stand_on numbers G H k) row w, ap (read_all numbers) e)
    act_read (Job row p at us xs b) G H k ts (taken, fs, r, t, w, h, q, m, hb, l, e) = (
      read_all numbers taken,
      read_all numbers fs,
      read numbers r,
      read numbers t,
      row_as (Stands G) (Stands H) (stand_on numbers G H k) row w,
      are_read numbers G H k us taken h,
      primitive_read p taken fs r t q,
      all_closed fs,
      body_read b (with_names xs fs G) (with_names xs (read_all numbers fs) H) (names_read numbers G H k xs fs) (more r none) hb,
      l ∙ sym (count_read numbers fs),
      ap (read_all numbers) e,
    )
    act_read (If c a b) G H k ts (hc, ha, hb) = (k c bool_ty hc, body_read a G H k ts ha, body_read b G H k ts hb)
    act_read (For xs us i n b) G H k ts (hu, l, t, m, q, hn, hb) = (
      are_read numbers G H k us ts hu,
      l ∙ sym (count_read numbers ts),
      read numbers t,
      (closed t, all_closed ts),
      read_kind K K numbers (suits K) kind.Integer t q,
      k n t hn,
      body_read b _ _ (names_read numbers (with_names xs ts G) (with_names xs (read_all numbers ts) H) (names_read numbers G H k xs ts) (i ∷ []) (more t none)) ts hb,
    )
    act_read (Over xs us x r b) G H k ts (hu, l, t, m, hr, hb) = (
      are_read numbers G H k us ts hu,
      l ∙ sym (count_read numbers ts),
      read numbers t,
      (closed t, all_closed ts),
      k r (array_ty t) hr,
      body_read b _ _ (names_read numbers (with_names xs ts G) (with_names xs (read_all numbers ts) H) (names_read numbers G H k xs ts) (x ∷ []) (more t none)) ts hb,
    )
    act_read (While at xs us c b) G H k ts (hu, l, m, hc, hb) = (
      are_read numbers G H k us ts hu,
      l ∙ sym (count_read numbers ts),
      all_closed ts,
      body_read c (with_names xs ts G) (with_names xs (read_all numbers ts) H) (names_read numbers G H k xs ts) (more bool_ty none) hc,
      body_read b (with_names xs ts G) (with_names xs (read_all numbers ts) H) (names_read numbers G H k xs ts) ts hb,
    )

    body_read : (b : Body) (G H : Types) → Reads_to numbers G H → (ts : Tys) → Body_typed N K any_types b G ts → Body_typed N K All_closed b H (read_all numbers ts)
    body_read (Give us) G H k ts h = are_read numbers G H k us ts h
    body_read (Let xs a b) G H k ts ((ss, (m, ha), l), hb) = (
      (read_all numbers ss, (all_closed ss, act_read a G H k ss ha), l ∙ sym (count_read numbers ss)),
      body_read b _ _ (each_read numbers G H (Names_typed N K any_types a G) (Names_typed N K All_closed a H) k (λ us h. (all_closed us, act_read a G H k us h.1)) xs) ts hb,
    )

-- ---- programs
stands_closed : (us : List Atom) (ts : Tys) (u : Atom) (t : Ty) → All_closed ts → Stands_at us ts u t → Is_closed t
unfolding All_closed
stands_closed [] ts u t c h = absurd h
stands_closed (w ∷ ws) none u t c h = absurd h
stands_closed (w ∷ ws) (more v vs) u t c (inl (a, b)) = subst Is_closed b c.0
stands_closed (w ∷ ws) (more v vs) u t c (inr h) = stands_closed ws vs u t c.1 h

constants_closed : (u : Atom) (t : Ty) → of_constants u t → Is_closed t
unfolding Is_closed All_closed
constants_closed (atom.Name x) t h = absurd h
constants_closed (atom.Constant s) t h = subst Is_closed (sym h) (tt, tt)

parameters_stay : (xs : List ℕ) (ts : Tys) → All_closed ts → Reads_to numbers (with_names xs ts of_constants) (with_names xs ts of_constants)
parameters_stay xs ts c u t (inl s) = inl (subst (Stands_at (names xs) ts u) (sym (stays t (stands_closed (names xs) ts u t c s))) s)
parameters_stay xs ts c u t (inr h) = inr (subst (of_constants u) (sym (stays t (constants_closed u t h))) h)

chosen_closed : (N : Names) (K : Kinds) (xs : List ℕ) (b : Body) (ts us : Tys) → All_closed ts → All_closed us → Body_typed N K any_types b (with_names xs ts of_constants) us → Body_typed N K All_closed b (with_names xs ts of_constants) us
chosen_closed N K xs b ts us c d typed =
    subst (Body_typed N K All_closed b (with_names xs ts of_constants)) (all_stay us d) (body_read N K b (with_names xs ts of_constants) (with_names xs ts of_constants) (parameters_stay xs ts c) us typed)

pub types_may_be_closed : TypesMayBeClosed
types_may_be_closed N K p ts us c d =
    ((λ typed. chosen_closed N K p.params.now (body_of p.body) ts us c d typed), (λ typed. body_kept N K All_closed any_types (λ xs m. tt) (body_of p.body) (with_names p.params.now ts of_constants) (with_names p.params.now ts of_constants) (λ u t h. h) us typed))

-- ---- the types of components
module _ (N : Names) where
  -- a part of a closed type is one: it is read as it is
  part_closed : (l : ℕ) (t u : Ty) → part_named N.shapes l t ≡ Some u → Is_closed t → Is_closed u
  part_closed l t u e c =
      let there : part_named N.shapes l (read numbers t) ≡ Some (read numbers u) = read_part numbers N.shapes l t u e in
      let same : read numbers u ≡ u = some_same (sym there ∙ ap (part_named N.shapes l) (stays t c) ∙ e) in
      subst Is_closed same (closed u)

  with_part_closed : (o : Option Ty) (k : Ty → Tys) (rest : Tys) → ((u : Ty) → o ≡ Some u → All_closed (k u)) → All_closed rest → All_closed (with_part o k rest)
  with_part_closed None k rest go r = r
  with_part_closed (Some u) k rest go r = go u refl

  mutual
    unfolding components all_components field_components Is_closed All_closed

    components_closed : (h : Shape) (t : Ty) (rest : Tys) → Is_closed t → All_closed rest → All_closed (components N h t rest)
    components_closed Scalar_shape t rest c r = (c, r)
    components_closed (Tuple_shape hs) (Made head.Tuple ts) rest c r = all_components_closed hs ts rest c.1 r
    components_closed (Tuple_shape hs) t rest c r = r
    components_closed (Record_shape hs) (Made (head.Record n) ts) rest c r = field_components_closed hs (Made (head.Record n) ts) rest c r
    components_closed (Record_shape hs) t rest c r = r

    all_components_closed : (hs : Shapes) (ts rest : Tys) → All_closed ts → All_closed rest → All_closed (all_components N hs ts rest)
    all_components_closed no_shape ts rest c r = r
    all_components_closed (shape_and h hs) none rest c r = r
    all_components_closed (shape_and h hs) (more t ts) rest c r = components_closed h t (all_components N hs ts rest) c.0 (all_components_closed hs ts rest c.1 r)

    field_components_closed : (hs : Field_shapes) (t : Ty) (rest : Tys) → Is_closed t → All_closed rest → All_closed (field_components N hs t rest)
    field_components_closed no_field_shape t rest c r = r
    field_components_closed (field_shape_and f h hs) t rest c r =
        let q : All_closed (field_components N hs t rest) = field_components_closed hs t rest c r in
        with_part_closed (part_named N.shapes (N.label f) t) (λ u. components N h u (field_components N hs t rest)) (field_components N hs t rest) (λ u e. components_closed h u (field_components N hs t rest) (part_closed (N.label f) t u e c) q) q

pub unfolded_closed : UnfoldedClosed
unfolding All_closed
unfolded_closed N are K a T flat typed entry ts u used k c d hs of_shapes h p unfolds =
    chosen_closed N K p.params.now (body_of p.body) (all_components N hs ts none) (components N h u none) (all_components_closed N hs ts none c tt) (components_closed N h u none d tt)
    (unfolded_well_typed N are K a T flat typed entry ts u used k hs of_shapes h p unfolds)
