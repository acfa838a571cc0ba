-- What is told before a program runs is what the meaning finds when it runs.
use Rattle.std.proofs.Common.{◌≡◌, ℕ, ◌-◌, List, [], ◌∷◌, map, Bool, true, false, cond, Option, Some, None, refl, sym, ap, ◌∙◌, subst}
use Rattle.std.specs.Prelude.{ℤ, pos}
use Rattle.fut_flat.specs.declared.prim.Primitive.{Primitive}
use Rattle.fut_flat.specs.declared.prim.Primitive.TheVariants as prim
use Rattle.fut_flat.specs.Numbers.{all_pattern_numbers}
use Rattle.fut_scalar.specs.declared.scalar.ScalarType.{ScalarType}
use Rattle.fut_value.specs.Data.{Shape, Scalar_shape, Tuple_shape, Record_shape, Unmet_shape, shape_and, named_shape_and, Datum, Scalar_datum, Tuple_datum, Record_datum, Array_datum, Datums, no_datum, datum_and, Named_datums, no_named, named_and, shape_of, shapes_of, named_shapes_of}
use Rattle.fut_meaning.specs.Datums.{as_value, as_values, as_fields}
use Rattle.fut_meaning.specs.Flats.{FlatValue, FlatEnv}
use Rattle.fut_meaning.specs.Found as meant
use Rattle.fut_meaning.specs.Found.{Sizing, count}
use Rattle.fut_meaning.specs.Places.{row_of, size_of}
use Rattle.fut_meaning.specs.Meaning.{Of_literal, Of_function}
use Rattle.fut_meaning.specs.Meaning as meaning
use Rattle.fut_meaning.specs.Outcomes.{Out, Val, and_then}
use Rattle.fut_meaning.specs.Sames.{All_same, all_none, all_more}
use Rattle.fut_meaning.specs.Telling as meant_of
use Rattle.fut_meaning.specs.Telling.{value_shape, value_shapes, field_shapes, worth_of, nodes_from}
use Rattle.fut_blocks.specs.declared.block.Atom.{Atom}
use Rattle.fut_blocks.specs.Names.{Component, Names}
use Rattle.fut_blocks.specs.Rows.{Row, Unknown_row, Scalar_row, Shape_of, Unzipped_row, Extent, rows}
use Rattle.fut_blocks.specs.Sizes.{datum_worth, row_shape, row_shapes, extent_worth}
use Rattle.unfold.specs.Knowns.{Known, Knowns, Known_fields, Scope, entered_in}
use Rattle.unfold.specs.Telling.{Found, Argument, Telling, Of_row, Of_rows, rows_in, length_of, argument_row, same_row, mapped_rows, first_row, last_row, element_row, zipped_row, unzipped_row, replicated, counted, tabulated, indices_row, unflattened, transposed, primitive_tells, by_function, known_worth, known_row, known_rows, field_rows, is_function, data_told, to_come, closure_tells, found, tells, function_tells, rows_for, literal_row, function_row, size_used, number}
use Rattle.unfold.proofs.Locals.{entered_named}
use Rattle.unfold.proofs.Rows.{Is_shape, Is_worth, Counts, rows_are, length_counts, array_is, Named_are, named_none, named_more, named_is, told_is, result_is, Finds, worth_is, numbers_found, data_found, results_found, worth_found}
use Rattle.unfold.proofs.Stands.{FlatValues, FlatFields, Has, Stands, s_scalar, s_tuple, s_record, s_function, s_primitive, All_stand, s_none, s_more, Fields_stand, s_no_field, s_field, Holds, h_base, h_bind, h_entered, some_inj}

abbrev flat : Datum → FlatValue
flat c = as_value c

abbrev flat_all : Datums → FlatValues
flat_all ds = as_values ds

abbrev flat_fields : Named_datums → FlatFields
flat_fields fs = as_fields fs

mutual
  unfolding value_shape value_shapes field_shapes shape_of shapes_of named_shapes_of

  shape_as : (c : Datum) → value_shape (flat c) ≡ shape_of c
  shape_as (Scalar_datum s) = refl
  shape_as (Tuple_datum ds) = ap Tuple_shape (shapes_as ds)
  shape_as (Record_datum fs) = ap Record_shape (fields_as fs)
  shape_as (Array_datum row ds) = refl

  shapes_as : (ds : Datums) → value_shapes (flat_all ds) ≡ shapes_of ds
  shapes_as no_datum = refl
  shapes_as (datum_and d ds) = ap (λ z. shape_and z (value_shapes (flat_all ds))) (shape_as d) ∙ ap (shape_and (shape_of d)) (shapes_as ds)

  fields_as : (fs : Named_datums) → field_shapes (flat_fields fs) ≡ named_shapes_of fs
  fields_as no_named = refl
  fields_as (named_and f d fs) = ap (λ z. named_shape_and f z (field_shapes (flat_fields fs))) (shape_as d) ∙ ap (named_shape_and f (shape_of d)) (fields_as fs)

worth_as : (c : Datum) → datum_worth c ≡ worth_of (flat c)
worth_as (Scalar_datum s) = refl
worth_as (Tuple_datum ds) = refl
worth_as (Record_datum fs) = refl
worth_as (Array_datum row ds) = refl

no_function : (c : Datum) → meant_of.is_function (flat c) ≡ false
no_function (Scalar_datum s) = refl
no_function (Tuple_datum ds) = refl
no_function (Record_datum fs) = refl
no_function (Array_datum row ds) = refl

data_tells : (Z : Sizing) (c : Datum) (hs : List Shape) → meant_of.tells Z (flat c) hs ≡ Unmet_shape
unfolding meant_of.tells
data_tells Z (Scalar_datum s) hs = refl
data_tells Z (Tuple_datum ds) hs = refl
data_tells Z (Record_datum fs) hs = refl
data_tells Z (Array_datum row ds) hs = refl

-- ---- values that are known

unknown : (d : Names Component) → Is_shape d Unknown_row Unmet_shape
unknown d = record { is = refl }

module _ {sizes : Option Sizing} {d : Names Component} {n : ℕ} where
  mutual
    unfolding value_shape value_shapes field_shapes known_row known_rows field_rows

    pub known_is : {s : Known} {v : FlatValue} → Stands sizes d n s v → Is_shape d (known_row s) (value_shape v)
    known_is (s_scalar {c = c} e h) = record { is = ap (λ z. and_then z (λ c. Val (shape_of c))) h.value ∙ ap (λ z. Val z) (sym (ap value_shape e ∙ shape_as c)) }
    known_is (s_tuple h) = record { is = ap (λ z. and_then z (λ hs. Val (Tuple_shape hs))) (knowns_are h) }
    known_is (s_record h) = record { is = ap (λ z. and_then z (λ hs. Val (Record_shape hs))) (named_is d (fields_are h)) }
    known_is (s_function h) = unknown d
    known_is (s_primitive h) = unknown d

    knowns_are : {ss : Knowns} {vs : FlatValues} → All_stand sizes d n ss vs → row_shapes d (known_rows ss) ≡ Val (value_shapes vs)
    knowns_are s_none = refl
    knowns_are (s_more {s = s} {ss} {v} {vs} h hs) = ap (λ z. and_then z (λ h. and_then (row_shapes d (known_rows ss)) (λ hs. Val (shape_and h hs)))) (known_is h).is ∙ ap (λ z. and_then z (λ hs. Val (shape_and (value_shape v) hs))) (knowns_are hs)

    fields_are : {fs : Known_fields} {gs : FlatFields} → Fields_stand sizes d n fs gs → Named_are d (field_rows fs) (field_shapes gs)
    fields_are s_no_field = named_none
    fields_are (s_field h hs) = named_more (known_is h) (fields_are hs)

  worth_says : {s : Known} {v : FlatValue} → Stands sizes d n s v → Is_worth d (known_worth s) (worth_of v)
  worth_says (s_scalar {c = c} e h) = record { is = ap (λ z. and_then z (λ c. Val (datum_worth c))) h.value ∙ ap (λ z. Val z) (worth_as c ∙ ap worth_of (sym e)) }
  worth_says (s_tuple h) = record { is = refl }
  worth_says (s_record h) = record { is = refl }
  worth_says (s_function h) = record { is = refl }
  worth_says (s_primitive h) = record { is = refl }

  pub function_is : {s : Known} {v : FlatValue} → Stands sizes d n s v → is_function s ≡ meant_of.is_function v
  function_is (s_scalar {c = c} e h) = sym (ap meant_of.is_function e ∙ no_function c)
  function_is (s_tuple h) = refl
  function_is (s_record h) = refl
  function_is (s_function h) = refl
  function_is (s_primitive h) = refl

-- ---- primitives

record Argument_says (d : Names Component) (a : Argument) (b : meant_of.Argument) : Type 0 where
  shape : Is_shape d a.0 b.0
  worth : Is_worth d a.1 b.1

data Telling_says (d : Names Component) : Telling → meant_of.Telling → Type 0 where
  says_row : {r : Row} {h : Shape} → Is_shape d r h → Telling_says d (Of_row r) (meant_of.Of_shape h)
  says_rows : {e : Extent} {n : ℕ} {rs : List Row} {hs : List Shape} → Counts d e n → All_same (Is_shape d) rs hs → Telling_says d (Of_rows e rs) (meant_of.Of_rows n hs)

module _ (d : Names Component) where
  abbrev Arguments : List Argument → List meant_of.Argument → Type 0
  Arguments = All_same (Argument_says d)

  abbrev Tells : Telling → meant_of.Telling → Type 0
  Tells = Telling_says d

  count_is : {a : Argument} {b : meant_of.Argument} → Argument_says d a b → Counts d a.1 (count b.1)
  count_is {b = b} k = record { worth = b.1; is = k.worth.is; many = refl }

  many : {a : Argument} {b : meant_of.Argument} → Argument_says d a b → Counts d (length_of a.0) (size_of b.0)
  many {a} k = length_counts d a.0 k.shape

  rows_inside : {r : Row} {h : Shape} → Is_shape d r h → Is_shape d (rows_in r) (row_of h)
  rows_inside {r} e = rows_are d r e

  scalar_is : (t : ScalarType) → Is_shape d (Scalar_row t) (Scalar_shape t)
  scalar_is t = record { is = refl }

  nothing : Tells (Of_row Unknown_row) (meant_of.Of_shape Unmet_shape)
  nothing = says_row (unknown d)

  argument_rows : {xs : List Argument} {bs : List meant_of.Argument} → Arguments xs bs → All_same (Is_shape d) (map argument_row xs) (map meant_of.argument_row bs)
  argument_rows all_none = all_none
  argument_rows (all_more k ks) = all_more (rows_inside k.shape) (argument_rows ks)

  all_shapes_are : {rs : List Row} {hs : List Shape} → All_same (Is_shape d) rs hs → row_shapes d (rows rs) ≡ Val (meant_of.all_shapes hs)
  all_shapes_are all_none = refl
  all_shapes_are (all_more {x' = h} {xs = rs} {xs' = hs} e es) = ap (λ z. and_then z (λ h. and_then (row_shapes d (rows rs)) (λ hs. Val (shape_and h hs)))) e.is ∙ ap (λ z. and_then z (λ hs. Val (shape_and h hs))) (all_shapes_are es)

  same_says : {xs : List Argument} {bs : List meant_of.Argument} → Arguments xs bs → Tells (same_row xs) (meant_of.same_shape bs)
  same_says all_none = nothing
  same_says (all_more k all_none) = says_row k.shape
  same_says (all_more k (all_more l ls)) = nothing

  mapped_says : {xs : List Argument} {bs : List meant_of.Argument} → Arguments xs bs → Tells (mapped_rows xs) (meant_of.mapped_rows bs)
  mapped_says all_none = nothing
  mapped_says (all_more k ks) = says_rows (many k) (argument_rows (all_more k ks))

  first_says : {xs : List Argument} {bs : List meant_of.Argument} → Arguments xs bs → Tells (first_row xs) (meant_of.first_shape bs)
  first_says all_none = nothing
  first_says (all_more k ks) = says_row k.shape

  last_says : {xs : List Argument} {bs : List meant_of.Argument} → Arguments xs bs → Tells (last_row xs) (meant_of.last_shape bs)
  last_says all_none = nothing
  last_says (all_more k all_none) = says_row k.shape
  last_says (all_more k (all_more l ls)) = last_says (all_more l ls)

  element_says : {xs : List Argument} {bs : List meant_of.Argument} → Arguments xs bs → Tells (element_row xs) (meant_of.row_shape bs)
  element_says all_none = nothing
  element_says (all_more k all_none) = says_row (rows_inside k.shape)
  element_says (all_more k (all_more l ls)) = nothing

  zipped_says : {xs : List Argument} {bs : List meant_of.Argument} → Arguments xs bs → Tells (zipped_row xs) (meant_of.zipped_shape bs)
  zipped_says all_none = nothing
  zipped_says (all_more k ks) = says_row (array_is d (many k) (record { is = ap (λ z. and_then z (λ hs. Val (Tuple_shape hs))) (all_shapes_are (argument_rows (all_more k ks))) }))

  unzipped_is : {e : Extent} {n : ℕ} {r : Row} {h : Shape} → Counts d e n → Is_shape d r h → Is_shape d (Unzipped_row e r) (meant_of.parts_of n h)
  unzipped_is {r = r} {h} c e =
      record { is = ap (λ z. and_then z (λ z. and_then (row_shape d r) (λ h. Val (meant_of.parts_of (count z) h)))) c.is ∙ ap (λ z. and_then z (λ h. Val (meant_of.parts_of (count c.worth) h))) e.is ∙ ap (λ z. Val (meant_of.parts_of z h)) c.many }

  unzipped_says : {xs : List Argument} {bs : List meant_of.Argument} → Arguments xs bs → Tells (unzipped_row xs) (meant_of.unzipped_shape bs)
  unzipped_says all_none = nothing
  unzipped_says (all_more k all_none) = says_row (unzipped_is (many k) (rows_inside k.shape))
  unzipped_says (all_more k (all_more l ls)) = nothing

  replicated_says : {xs : List Argument} {bs : List meant_of.Argument} → Arguments xs bs → Tells (replicated xs) (meant_of.replicated bs)
  replicated_says all_none = nothing
  replicated_says (all_more k all_none) = nothing
  replicated_says (all_more k (all_more l all_none)) = says_row (array_is d (count_is k) l.shape)
  replicated_says (all_more k (all_more l (all_more m ms))) = nothing

  counted_says : {xs : List Argument} {bs : List meant_of.Argument} → Arguments xs bs → Tells (counted xs) (meant_of.counted bs)
  counted_says all_none = nothing
  counted_says (all_more k all_none) = says_row (array_is d (count_is k) (scalar_is _))
  counted_says (all_more k (all_more l ls)) = nothing

  tabulated_says : {xs : List Argument} {bs : List meant_of.Argument} → Arguments xs bs → Tells (tabulated xs) (meant_of.tabulated bs)
  tabulated_says all_none = nothing
  tabulated_says (all_more k all_none) = says_rows (count_is k) (all_more (scalar_is _) all_none)
  tabulated_says (all_more k (all_more l ls)) = nothing

  indices_says : {xs : List Argument} {bs : List meant_of.Argument} → Arguments xs bs → Tells (indices_row xs) (meant_of.indices_shape bs)
  indices_says all_none = nothing
  indices_says (all_more k all_none) = says_row (array_is d (many k) (scalar_is _))
  indices_says (all_more k (all_more l ls)) = nothing

  unflattened_says : {xs : List Argument} {bs : List meant_of.Argument} → Arguments xs bs → Tells (unflattened xs) (meant_of.unflattened bs)
  unflattened_says all_none = nothing
  unflattened_says (all_more k all_none) = nothing
  unflattened_says (all_more k (all_more l all_none)) = nothing
  unflattened_says (all_more k (all_more l (all_more m all_none))) = says_row (array_is d (count_is k) (array_is d (count_is l) (rows_inside m.shape)))
  unflattened_says (all_more k (all_more l (all_more m (all_more o os)))) = nothing

  transposed_says : {xs : List Argument} {bs : List meant_of.Argument} → Arguments xs bs → Tells (transposed xs) (meant_of.transposed bs)
  transposed_says all_none = nothing
  transposed_says (all_more k all_none) = says_row (array_is d (length_counts d _ (rows_inside k.shape)) (array_is d (many k) (rows_inside (rows_inside k.shape))))
  transposed_says (all_more k (all_more l ls)) = nothing

  primitive_says : (p : Primitive) {xs : List Argument} {bs : List meant_of.Argument} → Arguments xs bs → Tells (primitive_tells p xs) (meant_of.primitive_tells p bs)
  unfolding primitive_tells meant_of.primitive_tells
  primitive_says prim.Map ks = mapped_says ks
  primitive_says prim.Map2 ks = mapped_says ks
  primitive_says prim.Map3 ks = mapped_says ks
  primitive_says prim.Map4 ks = mapped_says ks
  primitive_says prim.Map5 ks = mapped_says ks
  primitive_says prim.Reduce ks = first_says ks
  primitive_says prim.ReduceComm ks = first_says ks
  primitive_says prim.Scan ks = last_says ks
  primitive_says prim.Scatter ks = first_says ks
  primitive_says prim.ReduceByIndex ks = first_says ks
  primitive_says prim.Zip ks = zipped_says ks
  primitive_says prim.Zip3 ks = zipped_says ks
  primitive_says prim.Unzip ks = unzipped_says ks
  primitive_says prim.Unzip3 ks = unzipped_says ks
  primitive_says prim.Iota ks = counted_says ks
  primitive_says prim.Replicate ks = replicated_says ks
  primitive_says prim.Tabulate ks = tabulated_says ks
  primitive_says prim.Indices ks = indices_says ks
  primitive_says prim.Length ks = says_row (scalar_is _)
  primitive_says prim.Null ks = says_row (scalar_is _)
  primitive_says prim.Head ks = element_says ks
  primitive_says prim.Last ks = element_says ks
  primitive_says prim.Reverse ks = same_says ks
  primitive_says prim.Rotate ks = last_says ks
  primitive_says prim.Unflatten ks = unflattened_says ks
  primitive_says prim.Transpose ks = transposed_says ks
  primitive_says prim.Copy ks = same_says ks
  primitive_says (prim.Convert to from) ks = says_row (scalar_is _)
  primitive_says (prim.Min t) ks = says_row (scalar_is _)
  primitive_says (prim.Max t) ks = says_row (scalar_is _)
  primitive_says (prim.Abs t) ks = says_row (scalar_is _)
  primitive_says (prim.Popc t) ks = says_row (scalar_is _)
  primitive_says (prim.Fold k t) ks = says_row (scalar_is _)
  primitive_says p ks = nothing

  by_says : {f : List Row → Row} {f' : List Shape → Shape} {t : Telling} {t' : meant_of.Telling} → ((rs : List Row) (hs : List Shape) → All_same (Is_shape d) rs hs → Is_shape d (f rs) (f' hs)) → Tells t t' → Is_shape d (by_function f t) (meant_of.by_function f' t')
  by_says l (says_row e) = e
  by_says l (says_rows {rs = rs} {hs} c es) = array_is d c (l rs hs es)

  cond_all : {b b' : Bool} {xs xs' : List Argument} {bs bs' : List meant_of.Argument} → b ≡ b' → Arguments xs bs → Arguments xs' bs' → Arguments (cond b xs xs') (cond b' bs bs')
  cond_all {b} {xs = xs} {xs'} {bs} {bs'} e k l = subst (λ z. Arguments (cond b xs xs') (cond z bs bs')) e (either b)
    where
      either : (b : Bool) → Arguments (cond b xs xs') (cond b bs bs')
      either true = k
      either false = l

  cond_shape : {b b' : Bool} {r r' : Row} {h h' : Shape} → b ≡ b' → Is_shape d r h → Is_shape d r' h' → Is_shape d (cond b r r') (cond b' h h')
  cond_shape {b} {r = r} {r'} {h} {h'} e k l = subst (λ z. Is_shape d (cond b r r') (cond z h h')) e (either b)
    where
      either : (b : Bool) → Is_shape d (cond b r r') (cond b h h')
      either true = k
      either false = l

  to_come_say : {rs : List Row} {hs : List Shape} → All_same (Is_shape d) rs hs → Arguments (to_come rs) (meant_of.to_come hs)
  to_come_say all_none = all_none
  to_come_say (all_more e es) = all_more (record { shape = e; worth = record { is = refl } }) (to_come_say es)

data_say : {sizes : Option Sizing} {d : Names Component} {n : ℕ} {ss : Knowns} {vs : FlatValues} {xs : List Argument} {bs : List meant_of.Argument} → All_stand sizes d n ss vs → Arguments d xs bs → Arguments d (data_told ss xs) (meant_of.data_told vs bs)
unfolding data_told meant_of.data_told
data_say s_none ks = ks
data_say {d = d} (s_more h hs) ks = cond_all d (function_is h) (data_say hs ks) (all_more (record { shape = known_is h; worth = worth_says h }) (data_say hs ks))

-- ---- what is found, and what functions tell

closure_says : (Z : Sizing) (d : Names Component) (qs : List ℕ) (lo : ℕ) {rs : List Row} {hs : List Shape} {W : Found} {F : meant.Found} → All_same (Is_shape d) rs hs → Finds d W F → Is_shape d (closure_tells Z qs lo rs W) (meant_of.closure_tells Z qs lo hs F)
unfolding closure_tells meant_of.closure_tells
closure_says Z d [] lo es k = result_is d Z.fields (Z.size_at lo) (numbers_found d k) k.type es
closure_says Z d (q ∷ qs) lo all_none k = unknown d
closure_says Z d (q ∷ qs) lo (all_more e es) k = closure_says Z d qs lo es (data_found d k Z.fields (Z.size_at q) e)

module _ {Z : Sizing} {d : Names Component} {n : ℕ} where
  mutual
    unfolding found tells function_tells meant_of.found meant_of.tells meant_of.function_tells

    pub found_says : {sc : Scope} {env : FlatEnv} → Holds (Some Z) d n sc env → Finds d (found Z (entered_in sc)) (meant_of.found Z env)
    found_says h_base = record { size = λ x. record { is = refl }; type = λ v. record { is = refl } }
    found_says (h_bind {b = b} {s = s} {sc = sc} {env = env} h hs) = subst (λ z. Finds d (found Z z) (meant_of.found Z env)) (sym (entered_named b s sc)) (found_says hs)
    found_says (h_entered {q = q} {s = s} {v = v} h hs) =
        worth_found d (data_found d (results_found d (found_says hs) Z.fields (Z.size_at q) (tells Z s) (meant_of.tells Z v) (λ rs hs' es. tells_say h es)) Z.fields (Z.size_at q) (known_is h)) Z.home q (Z.size_at q) (worth_says h)

    pub tells_say : {s : Known} {v : FlatValue} → Stands (Some Z) d n s v → {rs : List Row} {hs : List Shape} → All_same (Is_shape d) rs hs → Is_shape d (tells Z s rs) (meant_of.tells Z v hs)
    tells_say (s_scalar {c = c} e h) {hs = hs} es = subst (λ z. Is_shape d Unknown_row z) (sym (ap (λ z. meant_of.tells Z z hs) e ∙ data_tells Z c hs)) (unknown d)
    tells_say (s_tuple h) es = unknown d
    tells_say (s_record h) es = unknown d
    tells_say (s_function {ps = ps} {lo = lo} h) es = closure_says Z d (nodes_from ps (lo - all_pattern_numbers ps)) lo es (found_says h)
    tells_say (s_primitive {p = p} h) es = by_says d (λ rs hs es'. functions_say h es') (primitive_says d p (data_say h (to_come_say d es)))

    functions_say : {ss : Knowns} {vs : FlatValues} → All_stand (Some Z) d n ss vs → {rs : List Row} {hs : List Shape} → All_same (Is_shape d) rs hs → Is_shape d (function_tells Z ss rs) (meant_of.function_tells Z vs hs)
    functions_say s_none es = unknown d
    functions_say (s_more h hs) es = cond_shape d (function_is h) (tells_say h es) (functions_say hs es)

-- ---- where there may be a sizing

data_rows : {d : Names Component} {n : ℕ} {us : List Atom} {ds : List Datum} → All_same (Has d n) us ds → All_same (Is_shape d) (map (λ u. rows_in (Shape_of u)) us) (map (λ c. row_of (shape_of c)) ds)
data_rows all_none = all_none
data_rows {d} (all_more h hs) = all_more (rows_are d (Shape_of _) (record { is = ap (λ z. and_then z (λ c. Val (shape_of c))) h.value })) (data_rows hs)

for_function : {d : Names Component} {n : ℕ} (p : Primitive) {us : List Atom} {ds : List Datum} → All_same (Has d n) us ds → All_same (Is_shape d) (rows_for p us) (meant_of.rows_for p ds)
for_function {d} prim.Tabulate hs = all_more (scalar_is d _) all_none
for_function p hs = data_rows hs

module _ (sizes : Option Sizing) {d : Names Component} {n : ℕ} where
  -- the row of an array literal without elements
  pub literal_is : {sc : Scope} {env : FlatEnv} (lo : ℕ) → Holds sizes d n sc env → row_shape d (literal_row sizes sc lo) ≡ Val (meaning.row_found sizes (Of_literal env lo))
  literal_is lo h = by_sizing sizes h
    where
      by_sizing : (z : Option Sizing) {sc : Scope} {env : FlatEnv} → Holds z d n sc env → row_shape d (literal_row z sc lo) ≡ Val (meaning.row_found z (Of_literal env lo))
      by_sizing None h = refl
      by_sizing (Some Z) h = let k = found_says h in (rows_are d _ (told_is d Z.fields (numbers_found d k) k.type (Z.size_at lo))).is

  -- a result of a function that does not run
  pub result_shape_is : {s : Known} {f : FlatValue} {us : List Atom} {ds : List Datum} (p : Primitive) → Stands sizes d n s f → All_same (Has d n) us ds → row_shape d (function_row sizes p s us) ≡ Val (meaning.row_found sizes (Of_function p f ds))
  result_shape_is p h hs = by_sizing sizes h hs
    where
      by_sizing : (z : Option Sizing) {s : Known} {f : FlatValue} {us : List Atom} {ds : List Datum} → Stands z d n s f → All_same (Has d n) us ds → row_shape d (function_row z p s us) ≡ Val (meaning.row_found z (Of_function p f ds))
      by_sizing None h hs = refl
      by_sizing (Some Z) h hs = (tells_say h (for_function p hs)).is
