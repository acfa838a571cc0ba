-- What has no way on, by its form: a pattern that does not fit, and data of another shape.
use Rattle.std.proofs.Common.{◌≡◌, ◌≢◌, ◌+◌, ℕ, List, ◌∷◌, Some, refl}
use Rattle.fut_scalar.specs.declared.place.BindId.{BindId}
use Rattle.fut_scalar.specs.declared.place.Place.{Place}
use Rattle.fut_ast.specs.Sorts.{Text}
use Rattle.fut_flat.specs.declared.prim.Primitive.{Primitive}
use Rattle.fut_flat.specs.declared.prim.Ref.{Ref}
use Rattle.fut_flat.specs.Erased.{FlatPattern, FlatTerm, FlatType}
use Rattle.fut_flat.specs.Terms.{Tuple_pattern, Record_pattern, Typed_pattern, Patterns, pattern_and}
use Rattle.fut_blocks.specs.declared.block.Atom.{Atom}
use Rattle.unfold.specs.Knowns.{Known, Scalar_known, Tuple_known, Record_known, Function_known, Primitive_known, Knowns, known_and, Known_fields, known_field_and, Scope, listed, record_parts}
use Rattle.unfold.specs.Shapes.{Shape, Scalar_shape, Tuple_shape, Record_shape, Shapes, shape_and, Field_shapes, field_shape_and, Laid, laid_scalar, laid_tuple, laid_record, All_laid, laid_more, Fields_laid, laid_field}
use Rattle.unfold.specs.Stuck.{No_scalar, Not_bound}
use Rattle.fut_flat.specs.Numbers.{pattern_numbers}
use Rattle.unfold.specs.Telling.{enter}
use Rattle.unfold.specs.Unfolding.{b_tuple, b_parts, b_record, b_fields, b_typed, b_more}
use Rattle.unfold_parts.specs.Refused.{Not_all_bound}

abbrev pub No_tuple : Known → Type 0
No_tuple s = (ss : Knowns) → s ≡ Tuple_known ss → ⊥

abbrev pub No_record : Known → Type 0
No_record s = (fs : Known_fields) → s ≡ Record_known fs → ⊥

-- ---- patterns

pub tuple_unbound : (ps : Patterns Ref BindId) (s : Known) → No_tuple s → No_scalar s → Not_bound (Tuple_pattern ps) s
tuple_unbound ps _ lacks other sizes q sc inner (n, _, m, b_tuple {ss = ss} b) = lacks ss refl
tuple_unbound ps _ lacks other sizes q sc inner (n, _, m, b_parts {u = u} xs up b) = other u refl

pub record_unbound : (names : List Text) (ps : Patterns Ref BindId) (s : Known) → No_record s → No_scalar s → Not_bound (Record_pattern names ps) s
record_unbound names ps _ lacks other sizes q sc inner (n, bs, m, b_record {known = fs} e b) = lacks fs refl
record_unbound names ps _ lacks other sizes q sc inner (n, _, m, b_fields {u = u} xs up e b) = other u refl

pub typed_unbound : (p : FlatPattern) (t : FlatType) (s : Known) → Not_bound p s → Not_bound (Typed_pattern p t) s
typed_unbound p t s lacks sizes q sc inner (n, bs, m, b_typed b) = lacks sizes q sc inner (n, bs, m, b)

pub parts_unbound : (ps : Patterns Ref BindId) (ss : Knowns) → Not_all_bound ps (listed ss) → Not_bound (Tuple_pattern ps) (Tuple_known ss)
parts_unbound ps ss lacks sizes q sc inner (n, bs, m, b_tuple b) = lacks sizes (1 + q) (enter sizes q (Tuple_known ss) sc) inner n m bs b

pub fields_unbound : (names : List Text) (ps : Patterns Ref BindId) (fs : Known_fields) → ((ss : List Known) → record_parts names fs ≡ Some ss → Not_all_bound ps ss) → Not_bound (Record_pattern names ps) (Record_known fs)
fields_unbound names ps fs lacks sizes q sc inner (n, bs, m, b_record {ss = ss} e b) = lacks ss e sizes (1 + q) (enter sizes q (Record_known fs) sc) inner n m bs b

pub first_unbound : (p : FlatPattern) (ps : Patterns Ref BindId) (s : Known) (ss : List Known) → Not_bound p s → Not_all_bound (pattern_and p ps) (s ∷ ss)
first_unbound p ps s ss lacks sizes q sc inner n m _ (b_more {sc' = sc'} {k = k} {bs = bs} b bs') = lacks sizes q sc sc' (n, bs, k, b)

pub rest_unbound : (p : FlatPattern) (ps : Patterns Ref BindId) (s : Known) (ss : List Known) → Not_all_bound ps ss → Not_all_bound (pattern_and p ps) (s ∷ ss)
rest_unbound p ps s ss lacks sizes q sc inner n m _ (b_more {sc' = sc'} {k = k} {cs = cs} b bs') = lacks sizes (q + pattern_numbers p) sc' inner k m cs bs'

-- ---- layouts

abbrev pub Not_laid_out : Shape → Known → Type 0
Not_laid_out h s = (us rest : List Atom) → Laid h s us rest → ⊥

abbrev pub Not_all_laid : Shapes → Knowns → Type 0
Not_all_laid hs ss = (us rest : List Atom) → All_laid hs ss us rest → ⊥

abbrev pub Not_fields_laid : Field_shapes → Known_fields → Type 0
Not_fields_laid hs fs = (us rest : List Atom) → Fields_laid hs fs us rest → ⊥

pub scalar_unlaid : (s : Known) → No_scalar s → Not_laid_out Scalar_shape s
scalar_unlaid _ lacks _ rest (laid_scalar {u = u}) = lacks u refl

pub tuple_unlaid : (hs : Shapes) (s : Known) → No_tuple s → Not_laid_out (Tuple_shape hs) s
tuple_unlaid hs _ lacks us rest (laid_tuple {ss = ss} l) = lacks ss refl

pub record_unlaid : (hs : Field_shapes) (s : Known) → No_record s → Not_laid_out (Record_shape hs) s
record_unlaid hs _ lacks us rest (laid_record {fs = fs} l) = lacks fs refl

pub parts_unlaid : (hs : Shapes) (ss : Knowns) → Not_all_laid hs ss → Not_laid_out (Tuple_shape hs) (Tuple_known ss)
parts_unlaid hs ss lacks us rest (laid_tuple l) = lacks us rest l

pub fields_unlaid : (hs : Field_shapes) (fs : Known_fields) → Not_fields_laid hs fs → Not_laid_out (Record_shape hs) (Record_known fs)
fields_unlaid hs fs lacks us rest (laid_record l) = lacks us rest l

pub first_unlaid : (h : Shape) (hs : Shapes) (s : Known) (ss : Knowns) → Not_laid_out h s → Not_all_laid (shape_and h hs) (known_and s ss)
first_unlaid h hs s ss lacks us rest (laid_more {ws = ws} l ls) = lacks us ws l

pub rest_unlaid : (h : Shape) (hs : Shapes) (s : Known) (ss : Knowns) → Not_all_laid hs ss → Not_all_laid (shape_and h hs) (known_and s ss)
rest_unlaid h hs s ss lacks us rest (laid_more {ws = ws} l ls) = lacks ws rest ls

pub name_unlaid : (f g : Text) (h : Shape) (hs : Field_shapes) (s : Known) (fs : Known_fields) → f ≢ g → Not_fields_laid (field_shape_and f h hs) (known_field_and g s fs)
name_unlaid f _ h hs s fs ne us rest (laid_field l ls) = ne refl

pub first_field_unlaid : (f g : Text) (h : Shape) (hs : Field_shapes) (s : Known) (fs : Known_fields) → Not_laid_out h s → Not_fields_laid (field_shape_and f h hs) (known_field_and g s fs)
first_field_unlaid f _ h hs s fs lacks us rest (laid_field {ws = ws} l ls) = lacks us ws l

pub rest_fields_unlaid : (f g : Text) (h : Shape) (hs : Field_shapes) (s : Known) (fs : Known_fields) → Not_fields_laid hs fs → Not_fields_laid (field_shape_and f h hs) (known_field_and g s fs)
rest_fields_unlaid f _ h hs s fs lacks us rest (laid_field {ws = ws} l ls) = lacks ws rest ls

-- functions have no components
pub function_unlaid : (h : Shape) (ps : Patterns Ref BindId) (e : FlatTerm) (lo : ℕ) (sc : Scope) → Not_laid_out h (Function_known ps e lo sc)
function_unlaid h ps e lo sc us rest l = elim l [ ]

pub primitive_unlaid : (h : Shape) (p : Primitive) (at : Place) (gs : Knowns) → Not_laid_out h (Primitive_known p at gs)
primitive_unlaid h p at gs us rest l = elim l [ ]

-- ---- other forms

pub tuple_no_scalar : (ss : Knowns) → No_scalar (Tuple_known ss)
tuple_no_scalar ss u e = let z : Tuple_known ss ≡ Scalar_known u = e in cc

pub record_no_scalar : (fs : Known_fields) → No_scalar (Record_known fs)
record_no_scalar fs u e = let z : Record_known fs ≡ Scalar_known u = e in cc

pub function_no_scalar : (ps : Patterns Ref BindId) (e : FlatTerm) (lo : ℕ) (sc : Scope) → No_scalar (Function_known ps e lo sc)
function_no_scalar ps e lo sc u q = let z : Function_known ps e lo sc ≡ Scalar_known u = q in cc

pub primitive_no_scalar : (p : Primitive) (at : Place) (gs : Knowns) → No_scalar (Primitive_known p at gs)
primitive_no_scalar p at gs u e = let z : Primitive_known p at gs ≡ Scalar_known u = e in cc

pub scalar_no_tuple : (u : Atom) → No_tuple (Scalar_known u)
scalar_no_tuple u ss e = let z : Scalar_known u ≡ Tuple_known ss = e in cc

pub record_no_tuple : (fs : Known_fields) → No_tuple (Record_known fs)
record_no_tuple fs ss e = let z : Record_known fs ≡ Tuple_known ss = e in cc

pub function_no_tuple : (ps : Patterns Ref BindId) (e : FlatTerm) (lo : ℕ) (sc : Scope) → No_tuple (Function_known ps e lo sc)
function_no_tuple ps e lo sc ss q = let z : Function_known ps e lo sc ≡ Tuple_known ss = q in cc

pub primitive_no_tuple : (p : Primitive) (at : Place) (gs : Knowns) → No_tuple (Primitive_known p at gs)
primitive_no_tuple p at gs ss e = let z : Primitive_known p at gs ≡ Tuple_known ss = e in cc

pub scalar_no_record : (u : Atom) → No_record (Scalar_known u)
scalar_no_record u fs e = let z : Scalar_known u ≡ Record_known fs = e in cc

pub tuple_no_record : (ss : Knowns) → No_record (Tuple_known ss)
tuple_no_record ss fs e = let z : Tuple_known ss ≡ Record_known fs = e in cc

pub function_no_record : (ps : Patterns Ref BindId) (e : FlatTerm) (lo : ℕ) (sc : Scope) → No_record (Function_known ps e lo sc)
function_no_record ps e lo sc fs q = let z : Function_known ps e lo sc ≡ Record_known fs = q in cc

pub primitive_no_record : (p : Primitive) (at : Place) (gs : Knowns) → No_record (Primitive_known p at gs)
primitive_no_record p at gs fs e = let z : Primitive_known p at gs ≡ Record_known fs = e in cc
