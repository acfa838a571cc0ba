-- Values that are the same tell the same: of their shapes, of their results' shapes, and of what is found under their names.
use Rattle.std.proofs.Common.{◌≡◌, ℕ, ◌-◌, ◌∙◌, ◌&&◌, List, [], ◌∷◌, Bool, cond, Option, Some, None, refl, ap, arith}
use Rattle.std.specs.Prelude.{ℤ}
use Rattle.fut_scalar.specs.declared.place.BindId.{BindId}
use Rattle.fut_flat.specs.declared.prim.Primitive.{Primitive}
use Rattle.fut_flat.specs.declared.prim.Ref.{Ref}
use Rattle.fut_flat.specs.Numbers.{all_pattern_numbers}
use Rattle.fut_flat.specs.Sources.{Spelled}
use Rattle.fut_flat.specs.Terms.{Patterns}
use Rattle.fut_ast.specs.declared.node.Label.{Label}
use Rattle.fut_value.specs.Data.{Shape, Tuple_shape, Record_shape, Array_shape, shape_and, named_shape_and, Datum}
use Rattle.sized_types.specs.Sizes.{Size, Hole, Open, Level, Built, Fun}
use Rattle.sized_types.specs.Standing.{is_known, gives_chosen}
use Rattle.fut_meaning.specs.Values.{Values, Fields}
use Rattle.fut_meaning.specs.Found.{Told, Sizing, Found, with_data, with_results, with_worth, if_told, chosen_shape, number, shape_found, told_shape, has_sizes}
use Rattle.fut_meaning.specs.Places.{row_of}
use Rattle.fut_meaning.specs.Telling.{Argument, Telling, Of_shape, Of_rows, by_function, primitive_tells, worth_of, value_shape, value_shapes, field_shapes, is_function, data_told, to_come, nodes_from, closure_tells, found, tells, function_tells, rows_for}
use Rattle.fut_meaning.specs.Meaning.{Lang, row_found, sizes_agree, row_told, fits_type, Of_literal, Of_function}
use Rattle.fut_meaning.specs.Flats.{FlatValue, FlatEnv}
use Rattle.fut_meaning.specs.Sources.{Outside, SourceValue, SourceValues, SourceFields, SourceEnv}
use Rattle.fut_meaning.specs.Resolved.{Locals, Patterns_resolved, p_none, p_and}
use Rattle.fut_meaning.specs.Sames.{Same, s_scalar, s_tuple, s_record, s_array, s_closure, s_primitive, Same_values, s_none, s_and, Same_fields, s_no_field, s_field, Holds, h_base, h_bind, h_size, h_entered}
use Rattle.fut_meaning.proofs.SameNumbers.{pattern_numbers_same, all_pattern_numbers_same}

abbrev FlatValues : Type 0
FlatValues = Values Ref BindId (Unit {0})

abbrev FlatFields : Type 0
FlatFields = Fields Ref BindId (Unit {0})

-- two parts that are equal
pub both : {A B C : Type 0} (k : A → B → C) {a a' : A} {b b' : B} → a ≡ a' → b ≡ b' → k a b ≡ k a' b'
both k {a' = a'} {b = b} e h = ap (λ z. k z b) e ∙ ap (k a') h

mutual
  unfolding value_shape value_shapes field_shapes

  pub shape_same : {zs : Option Sizing} {v : SourceValue} {w : FlatValue} → Same zs v w → value_shape v ≡ value_shape w
  shape_same s_scalar = refl
  shape_same (s_tuple s) = ap Tuple_shape (shapes_same s)
  shape_same (s_record s) = ap Record_shape (field_shapes_same s)
  shape_same s_array = refl
  shape_same (s_closure a b c t h) = refl
  shape_same (s_primitive s) = refl

  shapes_same : {zs : Option Sizing} {vs : SourceValues} {ws : FlatValues} → Same_values zs vs ws → value_shapes vs ≡ value_shapes ws
  shapes_same s_none = refl
  shapes_same (s_and s t) = both shape_and (shape_same s) (shapes_same t)

  field_shapes_same : {zs : Option Sizing} {fs : SourceFields} {gs : FlatFields} → Same_fields zs fs gs → field_shapes fs ≡ field_shapes gs
  field_shapes_same s_no_field = refl
  field_shapes_same (s_field {f = f} s t) = both (named_shape_and f) (shape_same s) (field_shapes_same t)

worth_same : {zs : Option Sizing} {v : SourceValue} {w : FlatValue} → Same zs v w → worth_of v ≡ worth_of w
worth_same s_scalar = refl
worth_same (s_tuple s) = refl
worth_same (s_record s) = refl
worth_same s_array = refl
worth_same (s_closure a b c t h) = refl
worth_same (s_primitive s) = refl

pub function_same : {zs : Option Sizing} {v : SourceValue} {w : FlatValue} → Same zs v w → is_function v ≡ is_function w
function_same s_scalar = refl
function_same (s_tuple s) = refl
function_same (s_record s) = refl
function_same s_array = refl
function_same (s_closure a b c t h) = refl
function_same (s_primitive s) = refl

conds : {A : Type 0} (b b' : Bool) {x x' y y' : A} → b ≡ b' → x ≡ x' → y ≡ y' → cond b x y ≡ cond b' x' y'
conds b b' {x} {x'} {y} {y'} e h k = ap (λ z. cond z x y) e ∙ both (cond b') h k

data_same : {zs : Option Sizing} {vs : SourceValues} {ws : FlatValues} (bs : List Argument) → Same_values zs vs ws → data_told vs bs ≡ data_told ws bs
unfolding data_told
data_same bs s_none = refl
data_same bs (s_and s t) = conds _ _ (function_same s) (data_same bs t) (both (λ (a : Argument) xs. a ∷ xs) (both (λ (h : Shape) (n : Option ℤ). (h, n)) (shape_same s) (worth_same s)) (data_same bs t))

pub nodes_same : {n m : ℕ} {ls inner : Locals} {ps : Patterns Spelled Label} {qs : Patterns Ref BindId} (q q' : ℕ) → q ≡ q' → Patterns_resolved n ls ps qs m inner → nodes_from ps q ≡ nodes_from qs q'
nodes_same q q' e (p_none a) = refl
nodes_same q q' e (p_and r rs) = both (λ (x : ℕ) xs. x ∷ xs) e (nodes_same _ _ (omega (arith, e, pattern_numbers_same r)) rs)

by_same : (f g : List Shape → Shape) (t : Telling) → ((hs : List Shape) → f hs ≡ g hs) → by_function f t ≡ by_function g t
by_same f g (Of_shape h) e = refl
by_same f g (Of_rows n hs) e = ap (Array_shape n) (e hs)

module _ (Z : Sizing) where
  results_same : (t : Size) (f g : List Shape → Shape) (W : Found) → ((hs : List Shape) → f hs ≡ g hs) → with_results Z.fields t f W ≡ with_results Z.fields t g W
  unfolding with_results
  results_same (Hole v) f g W e = refl
  results_same (Open n v u) f g W e = refl
  results_same (Level d t) f g W e = refl
  results_same (Built h ts) f g W e = refl
  results_same (Fun k p r) f g W e = ap (λ z. if_told (is_known p && gives_chosen k r) (with_data Z.fields r z W) W) (e (chosen_shape Z.fields p ∷ []))

  mutual
    unfolding found tells function_tells

    pub found_same : {zs : Option Sizing} {n : ℕ} {ls : Locals} {outside : Outside} {env : SourceEnv} {env' : FlatEnv} → Holds zs n ls outside env env' → found Z env ≡ found Z env'
    found_same (h_base b) = refl
    found_same (h_bind a b s h) = found_same h
    found_same (h_size a b s h) = found_same h
    found_same (h_entered {q = q} {q'} {env = env} {env'} {v} {w} e s h) =
        both (λ (x : ℕ) W. with_worth Z.home x (Z.size_at x) (worth_of v) (with_data Z.fields (Z.size_at x) (value_shape v) W)) e (both (λ (x : ℕ) W. with_results Z.fields (Z.size_at x) (tells Z v) W) e (found_same h) ∙ results_same (Z.size_at q') (tells Z v) (tells Z w) (found Z env') (tells_same s))
        ∙ both (λ n h. with_worth Z.home q' (Z.size_at q') n (with_data Z.fields (Z.size_at q') h (with_results Z.fields (Z.size_at q') (tells Z w) (found Z env')))) (worth_same s) (shape_same s)

    pub tells_same : {zs : Option Sizing} {v : SourceValue} {w : FlatValue} → Same zs v w → (hs : List Shape) → tells Z v hs ≡ tells Z w hs
    tells_same s_scalar hs = refl
    tells_same (s_tuple s) hs = refl
    tells_same (s_record s) hs = refl
    tells_same s_array hs = refl
    tells_same (s_closure {lo = lo} {lo'} {ps} {qs} {env = env} {env'} a b c t h) hs =
        both (λ (x : ℕ) W. closure_tells Z (nodes_from ps (lo - all_pattern_numbers ps)) x hs W) c (found_same h)
        ∙ ap (λ z. closure_tells Z z lo' hs (found Z env')) (nodes_same _ _ (omega (arith, c, all_pattern_numbers_same a)) a)
    tells_same (s_primitive {p = p} {vs = vs} {ws} s) hs =
        ap (λ z. by_function (function_tells Z vs) (primitive_tells p z)) (data_same (to_come hs) s)
        ∙ by_same (function_tells Z vs) (function_tells Z ws) (primitive_tells p (data_told ws (to_come hs))) (functions_same s)

    functions_same : {zs : Option Sizing} {vs : SourceValues} {ws : FlatValues} → Same_values zs vs ws → (hs : List Shape) → function_tells Z vs hs ≡ function_tells Z ws hs
    functions_same s_none hs = refl
    functions_same (s_and s t) hs = conds _ _ (function_same s) (tells_same s hs) (functions_same t hs)

module _ {zs : Option Sizing} {n lo lo' : ℕ} {ls : Locals} {outside : Outside} {env : SourceEnv} {env' : FlatEnv} (h : Holds zs n ls outside env env') (e : lo ≡ lo') where
  row_same : (z : Option Sizing) → row_found z (Of_literal env lo) ≡ row_found z (Of_literal env' lo')
  row_same None = refl
  row_same (Some Z) =
      ap (λ l. row_of (told_shape Z.fields (number (found Z env)) (shape_found (found Z env)) (Z.size_at l))) e
      ∙ ap (λ W. row_of (told_shape Z.fields (number W) (shape_found W) (Z.size_at lo'))) (found_same Z h)

  agree_same : {zs : Option Sizing} {v : SourceValue} {w : FlatValue} (z : Option Sizing) → Same zs v w → sizes_agree z env lo v ≡ sizes_agree z env' lo' w
  agree_same None s = refl
  agree_same {zs} {v} (Some Z) s =
      ap (λ l. has_sizes Z.fields (found Z env) (Z.size_at l) (value_shape v)) e
      ∙ both (λ W k. has_sizes Z.fields W (Z.size_at lo') k) (found_same Z h) (shape_same s)

result_row_same : {zs : Option Sizing} {f : SourceValue} {g : FlatValue} (z : Option Sizing) (p : Primitive) (ds : List Datum) → Same zs f g → row_found z (Of_function p f ds) ≡ row_found z (Of_function p g ds)
result_row_same None p ds s = refl
result_row_same (Some Z) p ds s = tells_same Z s (rows_for p ds)

module _ (S : Lang Spelled Label Outside) (F : Lang Ref BindId (Unit {0})) (told : S.told ≡ F.told) where
  pub literal_same : {zs : Option Sizing} {n lo lo' : ℕ} {ls : Locals} {outside : Outside} {env : SourceEnv} {env' : FlatEnv} → Holds zs n ls outside env env' → lo ≡ lo' → row_told S (Of_literal env lo) ≡ row_told F (Of_literal env' lo')
  unfolding row_told
  literal_same {lo = lo} {env = env} h e = ap (λ (T : Told). row_found T.sizes (Of_literal env lo)) told ∙ row_same h e F.told.sizes

  pub function_row_same : {zs : Option Sizing} {f : SourceValue} {g : FlatValue} (p : Primitive) (ds : List Datum) → Same zs f g → row_told S (Of_function p f ds) ≡ row_told F (Of_function p g ds)
  unfolding row_told
  function_row_same {zs} {f} p ds s = ap (λ (T : Told). row_found T.sizes (Of_function p f ds)) told ∙ result_row_same F.told.sizes p ds s

  pub test_same : {zs : Option Sizing} {n lo lo' : ℕ} {ls : Locals} {outside : Outside} {env : SourceEnv} {env' : FlatEnv} {v : SourceValue} {w : FlatValue} → Holds zs n ls outside env env' → lo ≡ lo' → Same zs v w → fits_type S env lo v ≡ fits_type F env' lo' w
  unfolding fits_type
  test_same {lo = lo} {env = env} {v = v} h e s = ap (λ (T : Told). sizes_agree T.sizes env lo v) told ∙ agree_same h e F.told.sizes s
