-- Data has a shape; its components have the types that the shape tells, and what is laid out alike on atoms of these types is
-- known of the type; and what has a shape may be one component, as where data is compared.
use Rattle.std.proofs.Common.{◌≡◌, true, false, ℕ, ◌+◌, ◌≤◌, ◌<◌, refl, sym, ap, subst, arith, List, [], ◌∷◌, length, Option, Some}
use mathlib.Core.Logic.{◌⊎◌, inl, inr}
use native.Mathlib.Decide.{ℕ_discrete}
use Rattle.fut_meaning.specs.Found.{Told}
use Rattle.fut_scalar.specs.declared.place.Place.{Place}
use Rattle.fut_ast.specs.Sorts.{Text}
use Rattle.fut_types.specs.declared.Head.TheVariants as head
use Rattle.fut_types.specs.Shapes.{place_from, place, part_at, part_named}
use Rattle.fut_types.specs.Types.{Ty, Var, Made, Tys, none, more, Kinds}
use Rattle.fut_typing.specs.Names.{Names, count}
use Rattle.fut_meaning.specs.Values.{Tuple_value, no_value, field_and}
use Rattle.fut_blocks.specs.declared.block.Atom.{Atom}
use Rattle.type_soundness.specs.Fits.{FlatFields, widest, Is_key, Are_keys}
use Rattle.unfold.specs.Knowns.{Known, Scalar_known, Tuple_known, Record_known, Function_known, Primitive_known, Knowns, no_known, known_and, Known_fields, no_known_field, known_field_and, listed}
use Rattle.unfold.specs.Shapes.{Shape, Scalar_shape, Tuple_shape, Record_shape, Shapes, no_shape, shape_and, Field_shapes, no_field_shape, field_shape_and, Laid, laid_scalar, laid_tuple, laid_record, All_laid, laid_none, laid_more, Fields_laid, laid_no_field, laid_field}
use Rattle.unfold.specs.Unfolding.{Bindings, Packs, p_atom, p_tuple, p_record, Packs_all, p_none, p_more, field_knowns, Equals, e_packed}
use Rattle.unfold_laws.specs.Components.{with_part, components, all_components, field_components}
use Rattle.unfold_laws.specs.Fits.{World, types_of, On_component, On_tuple, On_record, Each_field, keys, Is_data, All_data, Part_data, Fits, All_fit, Keyed}
use Rattle.unfold_laws.specs.Typed.{Are}
use Rattle.unfold_laws.proofs.Fitting.{keyed_part, keyed_from, data_fits, fits_data}

-- ---- the form of what is known
pub scalar_is : (D : Atom → Type 0) (s : Known) → On_component D s → (u : Atom) × (s ≡ Scalar_known u) × D u
scalar_is D (Scalar_known u) h = (u, refl, h)
scalar_is D (Tuple_known ss) h = absurd h
scalar_is D (Record_known fs) h = absurd h
scalar_is D (Function_known ps e lo sc) h = absurd h
scalar_is D (Primitive_known p at ss) h = absurd h

pub tuple_is : (D : Atom → Type 0) (P : Knowns → Type 0) (s : Known) → On_tuple D P s → ((u : Atom) × (s ≡ Scalar_known u) × D u) ⊎ ((ss : Knowns) × (s ≡ Tuple_known ss) × P ss)
tuple_is D P (Tuple_known ss) h = inr (ss, refl, h)
tuple_is D P (Scalar_known u) h = inl (u, refl, h)
tuple_is D P (Record_known fs) h = absurd h
tuple_is D P (Function_known ps e lo sc) h = absurd h
tuple_is D P (Primitive_known p at ss) h = absurd h

pub record_is : (D : Atom → Type 0) (P : Known_fields → Type 0) (s : Known) → On_record D P s → ((u : Atom) × (s ≡ Scalar_known u) × D u) ⊎ ((fs : Known_fields) × (s ≡ Record_known fs) × P fs)
record_is D P (Record_known fs) h = inr (fs, refl, h)
record_is D P (Scalar_known u) h = inl (u, refl, h)
record_is D P (Tuple_known ss) h = absurd h
record_is D P (Function_known ps e lo sc) h = absurd h
record_is D P (Primitive_known p at ss) h = absurd h

-- ---- shapes
abbrev pub Lays : Shape → Known → Type 0
Lays h s = (rest : List Atom) → (us : List Atom) × Laid h s us rest

abbrev All_lay : Shapes → Knowns → Type 0
All_lay hs ss = (rest : List Atom) → (us : List Atom) × All_laid hs ss us rest

abbrev Fields_lay : Field_shapes → Known_fields → Type 0
Fields_lay hs fs = (rest : List Atom) → (us : List Atom) × Fields_laid hs fs us rest

abbrev pub Shaped : Known → Type 0
Shaped s = (h : Shape) × Lays h s

-- ---- scalars
scalar_lays : (u : Atom) → Shaped (Scalar_known u)
scalar_lays u = (Scalar_shape, λ rest. (u ∷ rest, laid_scalar))

-- ---- records
-- each field with its name among those of all
pub with_keys : (P : Text → Known → Type 0) (all : FlatFields) (fs : Known_fields) → ((f : Text) → Is_key f (keys fs) → Is_key f all) → Each_field P fs → Each_field (λ g u. Is_key g all × P g u) fs
with_keys P all no_known_field into h = tt
with_keys P all (known_field_and g s fs) into h = ((into g (inl refl), h.0), with_keys P all fs (λ f i. into f (inr i)) h.1)

fields_shaped : (P : Text → Known → Type 0) → ((g : Text) (s : Known) → P g s → Shaped s) → (fs : Known_fields) → Each_field P fs → (hs : Field_shapes) × Fields_lay hs fs
fields_shaped P go no_known_field h = (no_field_shape, λ rest. (rest, laid_no_field))
fields_shaped P go (known_field_and g s fs) h =
    let a = go g s h.0 in
    let b = fields_shaped P go fs h.1 in (
      field_shape_and g a.0 b.0,
      (λ rest. let q = b.1 rest in let p = a.1 q.0 in (p.0, laid_field p.1 q.1)),
    )

pub fields_keys : (hs : Field_shapes) (fs gs : Known_fields) (us rest ws rest' : List Atom) → Fields_laid hs fs us rest → Fields_laid hs gs ws rest' → keys fs ≡ keys gs
fields_keys _ _ _ _ _ _ _ laid_no_field laid_no_field = refl
fields_keys _ _ _ us rest ws rest' (laid_field {f = f} {hs = hs} {fs = fs} l ls) (laid_field {fs = gs} m ms) = ap (field_and f (Tuple_value no_value)) (fields_keys hs fs gs _ rest _ rest' ls ms)

-- ---- by types
module _ (N : Names) (T : Told) (K : Kinds) (world : World) where
  abbrev At : Ty → Known → Type 0
  At t s = Fits N T K t world s

  abbrev Part : List ℕ → Tys → Text → Known → Type 0
  Part ls ts g s = Keyed N T K ls ts world (N.label g) s

  scalar_shaped : (D : Atom → Type 0) (s : Known) → On_component D s → Shaped s
  scalar_shaped D s h = let r = scalar_is D s h in subst Shaped (sym r.1) (scalar_lays r.0)

  mutual
    unfolding Fits All_fit Keyed Is_data All_data Part_data

    -- data has a shape
    pub shaped : (t : Ty) (s : Known) → Is_data N t → At t s → Shaped s
    shaped (Var n) s k h = scalar_shaped _ s h
    shaped (Made (head.Scalar x) ts) s k h = scalar_shaped _ s h
    shaped (Made head.Array ts) s k h = scalar_shaped _ s h.1
    shaped (Made head.Tuple ts) (Tuple_known ss) k h = let q = all_shaped ts ss k h.1 in (Tuple_shape q.0, λ rest. let p = q.1 rest in (p.0, laid_tuple p.1))
    shaped (Made head.Tuple ts) (Scalar_known u) k h = scalar_lays u
    shaped (Made head.Tuple ts) (Record_known fs) k h = absurd h
    shaped (Made head.Tuple ts) (Function_known ps e lo sc) k h = absurd h
    shaped (Made head.Tuple ts) (Primitive_known p at ss) k h = absurd h
    shaped (Made (head.Record n) ts) (Record_known fs) k h =
        let q = fields_shaped (λ g u. Is_key g (keys fs) × Part (N.shapes.fields n) ts g u) (λ g u p. part_shaped (N.shapes.fields n) ts (N.label g) u (k g ((h.0.same g).0 p.0)) p.1) fs (with_keys (Part (N.shapes.fields n) ts) (keys fs) fs (λ f i. i) h.2) in
        (Record_shape q.0, λ rest. let p = q.1 rest in (p.0, laid_record p.1))
    shaped (Made (head.Record n) ts) (Scalar_known u) k h = scalar_lays u
    shaped (Made (head.Record n) ts) (Tuple_known ss) k h = absurd h
    shaped (Made (head.Record n) ts) (Function_known ps e lo sc) k h = absurd h
    shaped (Made (head.Record n) ts) (Primitive_known p at ss) k h = absurd h
    shaped (Made head.Fun ts) s k h = absurd k
    shaped (Made (head.Rigid n d) ts) s k h = scalar_shaped _ s h
    shaped (Made (head.Abstract n d) ts) s k h = scalar_shaped _ s h

    all_shaped : (ts : Tys) (ss : Knowns) → All_data N ts → All_fit N T K ts world ss → (hs : Shapes) × All_lay hs ss
    all_shaped none no_known k h = (no_shape, λ rest. (rest, laid_none))
    all_shaped none (known_and s ss) k h = absurd h
    all_shaped (more t ts) no_known k h = absurd h
    all_shaped (more t ts) (known_and s ss) k h =
        let a = shaped t s k.0 h.0 in
        let b = all_shaped ts ss k.1 h.1 in (
          shape_and a.0 b.0,
          (λ rest. let q = b.1 rest in let p = a.1 q.0 in (p.0, laid_more p.1 q.1)),
        )

    part_shaped : (ls : List ℕ) (ts : Tys) (l : ℕ) (s : Known) → Part_data N ls ts l → Keyed N T K ls ts world l s → Shaped s
    part_shaped [] ts l s k h = absurd h
    part_shaped (x ∷ ls) none l s k h = absurd h
    part_shaped (x ∷ ls) (more t ts) l s k h = elim (ℕ_discrete x l) as (λ d. Shaped s) [ yes e ↦ shaped t s (k.0 e) (h.0 e) | no ne ↦ part_shaped ls ts l s (k.1 ne) (h.1 ne) ]

  -- ---- the type of what has a form
  abbrev pub Tuple_of : Ty → Knowns → Type 0
  Tuple_of t ss = (ts : Tys) × (t ≡ Made head.Tuple ts) × (count ts < widest) × All_fit N T K ts world ss

  pub tuple_type : (t : Ty) (ss : Knowns) → At t (Tuple_known ss) → Tuple_of t ss
  unfolding Fits
  tuple_type (Var n) ss h = absurd h
  tuple_type (Made (head.Scalar x) ts) ss h = absurd h
  tuple_type (Made head.Array ts) ss h = absurd h.1
  tuple_type (Made head.Tuple ts) ss h = (ts, refl, h.0, h.1)
  tuple_type (Made (head.Record n) ts) ss h = absurd h
  tuple_type (Made head.Fun none) ss h = absurd h
  tuple_type (Made head.Fun (more t none)) ss h = absurd h
  tuple_type (Made head.Fun (more t (more u none))) ss h = absurd (let z : false ≡ true = h.0 in cc)
  tuple_type (Made head.Fun (more t (more u (more v ts)))) ss h = absurd h
  tuple_type (Made (head.Rigid n d) ts) ss h = absurd h
  tuple_type (Made (head.Abstract n d) ts) ss h = absurd h

  abbrev pub Record_of : Ty → Known_fields → Type 0
  Record_of t fs = (n : ℕ) × (ts : Tys) × (t ≡ Made (head.Record n) ts) × Are_keys N (N.shapes.fields n) (keys fs) × (count ts ≡ length (N.shapes.fields n)) × Each_field (λ g u. Keyed N T K (N.shapes.fields n) ts world (N.label g) u) fs

  pub record_type : (t : Ty) (fs : Known_fields) → At t (Record_known fs) → Record_of t fs
  unfolding Fits
  record_type (Var n) fs h = absurd h
  record_type (Made (head.Scalar x) ts) fs h = absurd h
  record_type (Made head.Array ts) fs h = absurd h.1
  record_type (Made head.Tuple ts) fs h = absurd h
  record_type (Made (head.Record n) ts) fs h = (n, ts, refl, h.0, h.1, h.2)
  record_type (Made head.Fun none) fs h = absurd h
  record_type (Made head.Fun (more t none)) fs h = absurd h
  record_type (Made head.Fun (more t (more u none))) fs h = absurd (let z : false ≡ true = h.0 in cc)
  record_type (Made head.Fun (more t (more u (more v ts)))) fs h = absurd h
  record_type (Made (head.Rigid n d) ts) fs h = absurd h
  record_type (Made (head.Abstract n d) ts) fs h = absurd h

  -- ---- components
  with_some_part : (o : Option Ty) (t : Ty) (k : Ty → Tys) (rest : Tys) → o ≡ Some t → with_part o k rest ≡ k t
  with_some_part o t k rest e = ap (λ p. with_part p k rest) e

  -- the atoms of data have the types of its components
  mutual
    unfolding components all_components field_components All_fit part_named place

    pub laid_are : (h : Shape) (s : Known) (us rest : List Atom) (t : Ty) (rs : Tys) → Laid h s us rest → At t s → Are (types_of N K world.1) rest rs → Are (types_of N K world.1) us (components N h t rs)
    laid_are _ _ _ rest t rs (laid_scalar {u = u}) f r = ((fits_data N T K t world u f).1, r)
    laid_are _ _ us rest t rs (laid_tuple {hs = hs} {ss = ss} l) f r =
        let q = tuple_type t ss f in
        subst (λ y. Are (types_of N K world.1) us (components N (Tuple_shape hs) y rs)) (sym q.1) (all_laid_are hs ss us rest q.0 rs l q.3 r)
    laid_are _ _ us rest t rs (laid_record {hs = hs} {fs = fs} l) f r =
        let q = record_type t fs f in
        subst (λ y. Are (types_of N K world.1) us (components N (Record_shape hs) y rs)) (sym q.2) (fields_laid_are hs fs us rest q.0 q.1 rs l q.5 r)

    pub all_laid_are : (hs : Shapes) (ss : Knowns) (us rest : List Atom) (ts rs : Tys) → All_laid hs ss us rest → All_fit N T K ts world ss → Are (types_of N K world.1) rest rs → Are (types_of N K world.1) us (all_components N hs ts rs)
    all_laid_are _ _ us _ ts rs laid_none f r = r
    all_laid_are _ _ us rest none rs (laid_more l ls) f r = absurd f
    all_laid_are _ _ us rest (more t ts) rs (laid_more {h = h} {hs = hs} {s = s} {ss = ss} {ws = ws} l ls) f r =
        laid_are h s us ws t (all_components N hs ts rs) l f.0 (all_laid_are hs ss ws rest ts rs ls f.1 r)

    fields_laid_are : (hs : Field_shapes) (fs : Known_fields) (us rest : List Atom) (n : ℕ) (ts rs : Tys) → Fields_laid hs fs us rest → Each_field (Part (N.shapes.fields n) ts) fs → Are (types_of N K world.1) rest rs → Are (types_of N K world.1) us (field_components N hs (Made (head.Record n) ts) rs)
    fields_laid_are _ _ us _ n ts rs laid_no_field f r = r
    fields_laid_are _ _ us rest n ts rs (laid_field {f = g} {h = h} {hs = hs} {s = s} {fs = fs} {ws = ws} l ls) f r =
        let p = keyed_part N T K (N.label g) world s (N.shapes.fields n) ts f.0 in
        let c : Tys = field_components N hs (Made (head.Record n) ts) rs in
        subst (Are (types_of N K world.1) us) (sym (with_some_part (part_at (place_from 0 (N.label g) (N.shapes.fields n)) ts) p.0 (λ u. components N h u c) c p.1))
        (laid_are h s us ws p.0 c l p.2 (fields_laid_are hs fs ws rest n ts rs ls f.1 r))

  -- and what is laid out alike on atoms of these types is known of the type
  module _ (world' : World) where
    mutual
      unfolding components all_components field_components Fits All_fit part_named place

      pub are_laid : (h : Shape) (s r : Known) (us rest ws rest' : List Atom) (t : Ty) (rs : Tys) → Laid h s us rest → Laid h r ws rest' → At t s → Are (types_of N K world'.1) ws (components N h t rs) → Fits N T K t world' r × Are (types_of N K world'.1) rest' rs
      are_laid _ _ _ _ rest _ rest' t rs (laid_scalar {u = u}) (laid_scalar {u = w}) f a = (data_fits N T K t world' w (fits_data N T K t world u f).0 a.0, a.1)
      are_laid _ _ _ us rest ws rest' t rs (laid_tuple {hs = hs} {ss = ss} l) (laid_tuple {ss = qs} m) f a =
          let q = tuple_type t ss f in
          let b = all_are_laid hs ss qs us rest ws rest' q.0 rs l m q.3 (subst (λ y. Are (types_of N K world'.1) ws (components N (Tuple_shape hs) y rs)) q.1 a) in
          (subst (λ y. Fits N T K y world' (Tuple_known qs)) (sym q.1) (q.2, b.0), b.1)
      are_laid _ _ _ us rest ws rest' t rs (laid_record {hs = hs} {fs = fs} l) (laid_record {fs = gs} m) f a =
          let q = record_type t fs f in
          let b = fields_are_laid hs fs gs us rest ws rest' q.0 q.1 rs l m q.5 (subst (λ y. Are (types_of N K world'.1) ws (components N (Record_shape hs) y rs)) q.2 a) in
          (subst (λ y. Fits N T K y world' (Record_known gs)) (sym q.2) (subst (Are_keys N (N.shapes.fields q.0)) (fields_keys hs fs gs us rest ws rest' l m) q.3, q.4, b.0), b.1)

      all_are_laid : (hs : Shapes) (ss qs : Knowns) (us rest ws rest' : List Atom) (ts rs : Tys) → All_laid hs ss us rest → All_laid hs qs ws rest' → All_fit N T K ts world ss → Are (types_of N K world'.1) ws (all_components N hs ts rs) → All_fit N T K ts world' qs × Are (types_of N K world'.1) rest' rs
      all_are_laid _ _ _ us _ ws _ none rs laid_none laid_none f a = (tt, a)
      all_are_laid _ _ _ us _ ws _ (more t ts) rs laid_none laid_none f a = absurd f
      all_are_laid _ _ _ us rest ws rest' none rs (laid_more l ls) m f a = absurd f
      all_are_laid _ _ _ us rest ws rest' (more t ts) rs (laid_more {h = h} {hs = hs} {s = s} {ss = ss} l ls) (laid_more {s = q} {ss = qs} m ms) f a =
          let b = are_laid h s q us _ ws _ t (all_components N hs ts rs) l m f.0 a in
          let c = all_are_laid hs ss qs _ rest _ rest' ts rs ls ms f.1 b.1 in ((b.0, c.0), c.1)

      fields_are_laid : (hs : Field_shapes) (fs gs : Known_fields) (us rest ws rest' : List Atom) (n : ℕ) (ts rs : Tys) → Fields_laid hs fs us rest → Fields_laid hs gs ws rest' → Each_field (Part (N.shapes.fields n) ts) fs → Are (types_of N K world'.1) ws (field_components N hs (Made (head.Record n) ts) rs)
          → Each_field (λ g u. Keyed N T K (N.shapes.fields n) ts world' (N.label g) u) gs × Are (types_of N K world'.1) rest' rs
      fields_are_laid _ _ _ us _ ws _ n ts rs laid_no_field laid_no_field f a = (tt, a)
      fields_are_laid _ _ _ us rest ws rest' n ts rs (laid_field {f = g} {h = h} {hs = hs} {s = s} {fs = fs} l ls) (laid_field {s = q} {fs = gs} m ms) f a =
          let p = keyed_part N T K (N.label g) world s (N.shapes.fields n) ts f.0 in
          let c : Tys = field_components N hs (Made (head.Record n) ts) rs in
          let b = are_laid h s q us _ ws _ p.0 c l m p.2 (subst (Are (types_of N K world'.1) ws) (with_some_part (part_at (place_from 0 (N.label g) (N.shapes.fields n)) ts) p.0 (λ u. components N h u c) c p.1) a) in
          let d = fields_are_laid hs fs gs _ rest _ rest' n ts rs ls ms f.1 b.1 in
          ((keyed_from N T K (N.label g) p.0 world' q (N.shapes.fields n) ts p.1 b.0, d.0), d.1)

-- ---- how many components
mutual
  pub laid_length : (h : Shape) (s r : Known) (us rest ws rest' : List Atom) → Laid h s us rest → Laid h r ws rest' → length us + length rest' ≡ length ws + length rest
  laid_length _ _ _ _ rest _ rest' laid_scalar laid_scalar = omega arith
  laid_length _ _ _ us rest ws rest' (laid_tuple {hs = hs} {ss = ss} l) (laid_tuple {ss = rs} m) = all_laid_length hs ss rs us rest ws rest' l m
  laid_length _ _ _ us rest ws rest' (laid_record {hs = hs} {fs = fs} l) (laid_record {fs = gs} m) = fields_laid_length hs fs gs us rest ws rest' l m

  all_laid_length : (hs : Shapes) (ss rs : Knowns) (us rest ws rest' : List Atom) → All_laid hs ss us rest → All_laid hs rs ws rest' → length us + length rest' ≡ length ws + length rest
  all_laid_length _ _ _ us _ ws _ laid_none laid_none = omega arith
  all_laid_length _ _ _ us rest ws rest' (laid_more {h = h} {hs = hs} {s = s} {ss = ss} {ws = us'} l ls) (laid_more {s = r} {ss = rs} {ws = ws'} m ms) =
      let a = laid_length h s r us us' ws ws' l m in let b = all_laid_length hs ss rs us' rest ws' rest' ls ms in omega (arith, a, b)

  fields_laid_length : (hs : Field_shapes) (fs gs : Known_fields) (us rest ws rest' : List Atom) → Fields_laid hs fs us rest → Fields_laid hs gs ws rest' → length us + length rest' ≡ length ws + length rest
  fields_laid_length _ _ _ us _ ws _ laid_no_field laid_no_field = omega arith
  fields_laid_length _ _ _ us rest ws rest' (laid_field {h = h} {hs = hs} {s = s} {fs = fs} {ws = us'} l ls) (laid_field {s = r} {fs = gs} {ws = ws'} m ms) =
      let a = laid_length h s r us us' ws ws' l m in let b = fields_laid_length hs fs gs us' rest ws' rest' ls ms in omega (arith, a, b)

-- ---- packing
abbrev pub Packing : Known → Type 0
Packing s = (n : ℕ) → (bs : Bindings) × (u : Atom) × (m : ℕ) × Packs s n bs u m

abbrev pub All_packing : List Known → Type 0
All_packing ss = (n : ℕ) → (bs : Bindings) × (us : List Atom) × (m : ℕ) × Packs_all ss n bs us m

-- what has a shape may be one component
mutual
  laid_packing : (h : Shape) (s : Known) (us rest : List Atom) → Laid h s us rest → Packing s
  laid_packing _ _ _ _ laid_scalar = λ n. (_, _, _, p_atom)
  laid_packing _ _ us rest (laid_tuple {hs = hs} {ss = ss} l) = λ n. let q = all_laid_packing hs ss us rest l n in (_, _, _, p_tuple q.3 (let z : q.2 ≤ q.2 = omega arith in z))
  laid_packing _ _ us rest (laid_record {hs = hs} {fs = fs} l) = λ n. let q = fields_laid_packing hs fs us rest l n in (_, _, _, p_record q.3 (let z : q.2 ≤ q.2 = omega arith in z))

  all_laid_packing : (hs : Shapes) (ss : Knowns) (us rest : List Atom) → All_laid hs ss us rest → All_packing (listed ss)
  all_laid_packing _ _ _ _ laid_none = λ n. (_, _, _, p_none)
  all_laid_packing _ _ us rest (laid_more {h = h} {hs = hs} {s = s} {ss = ss} l ls) = λ n.
      let p = laid_packing h s us _ l n in
      let q = all_laid_packing hs ss _ rest ls p.2 in (_, _, _, p_more p.3 q.3)

  fields_laid_packing : (hs : Field_shapes) (fs : Known_fields) (us rest : List Atom) → Fields_laid hs fs us rest → All_packing (field_knowns fs)
  fields_laid_packing _ _ _ _ laid_no_field = λ n. (_, _, _, p_none)
  fields_laid_packing _ _ us rest (laid_field {h = h} {hs = hs} {s = s} {fs = fs} l ls) = λ n.
      let p = laid_packing h s us _ l n in
      let q = fields_laid_packing hs fs _ rest ls p.2 in (_, _, _, p_more p.3 q.3)

pub shaped_packing : (s : Known) → Shaped s → Packing s
shaped_packing s r = let l = r.1 [] in laid_packing r.0 s l.0 [] l.1

-- ---- equality
-- two values are compared as one component each
abbrev pub Compares : Place → Known → Known → Type 0
Compares at s r = (n : ℕ) → (bs : Bindings) × (u : Atom) × (n' : ℕ) × Equals at s r n bs u n'

pub compares : (at : Place) (s r : Known) → Shaped s → Shaped r → Compares at s r
compares at s r h k n =
    let p = shaped_packing s h n in
    let q = shaped_packing r k p.2 in (_, _, _, e_packed (p_more p.3 (p_more q.3 p_none)) (let z : q.2 ≤ q.2 = omega arith in z))
