-- Forms that are told, and sizes.
use Rattle.std.proofs.Common.{◌≡◌, ℕ, zero, suc, ◌+◌, ◌<◌, ◌≤◌, List, [], ◌∷◌, ◌++◌, map, length, get_or, drop, Option, Some, None, Ok, Err, Result, ◌⊎◌, inl, inr, refl, sym, ap, ◌∙◌, subst, arith, add-one, append_assoc, Bor}
use Rattle.std.specs.Prelude.{ℤ, pos}
use Rattle.std.proofs.lemmas.List.{append-nil}
use Rattle.fut_scalar.specs.declared.scalar.Scalar.{Scalar}
use Rattle.fut_scalar.specs.declared.scalar.ScalarType.{ScalarType}
use Rattle.fut_arithmetic.specs.Types.{type_of}
use Rattle.fut_ast.specs.Sorts.{Text}
use Rattle.fut_value.specs.Data.{Shape, Tuple_shape, Record_shape, Array_shape, shape_and, Named_shapes, named_shape_and, shape_of}
use Rattle.fut_meaning.specs.Accessors.{or_wrong}
use Rattle.fut_meaning.specs.Arrays.{each_out}
use Rattle.fut_meaning.specs.Found.{count}
use Rattle.fut_meaning.specs.Outcomes.{Out, Val, Fail, Wrong, and_then}
use Rattle.fut_meaning.specs.Places.{row_of as row_in, size_of, part_of, field_of}
use Rattle.fut_meaning.specs.Telling.{parts_of}
use Rattle.fut_blocks.specs.declared.block.Atom.{Atom}
use Rattle.fut_blocks.specs.declared.block.Atom.TheVariants as atom
use Rattle.fut_blocks.specs.declared.row.Extent.{Extent as Held_extent}
use Rattle.fut_blocks.specs.declared.row.Extent.TheVariants as extent
use Rattle.fut_blocks.specs.declared.row.FieldShape.{FieldShape}
use Rattle.fut_blocks.specs.declared.row.RowShape.{RowShape}
use Rattle.fut_blocks.specs.declared.row.RowShape.TheVariants as row
use Rattle.fut_blocks.specs.Meaning.{Component, Names, look, value_of}
use Rattle.fut_blocks.specs.Rows.{Row, Shape_of, Extent, Worth_of, Length_of, rows, named_rows, row_of, named_row_of, extent_of}
use Rattle.fut_blocks.specs.Sizes.{datum_worth, row_shape, row_shapes, named_shapes, extent_worth}
use Rattle.fut_blocks.proofs.Layers.{row_of-Unknown, row_of-Scalar, row_of-Tuple, row_of-Record, row_of-Array, row_of-Data, row_of-Rows, row_of-Part, row_of-Field, row_of-Unzipped, extent_of-Nowhere, extent_of-Exactly, extent_of-Worth, extent_of-Length, named_row_of-parts}
use Rattle.array_data.specs.declared.data.Data.{Data}
use Rattle.array_data.specs.declared.form.Form.{Form}
use Rattle.array_data.specs.declared.form.Form.TheVariants as form
use Rattle.array_data.specs.declared.sizes.Exact.{Exact}
use Rattle.array_data.specs.declared.sizes.Exact.TheVariants as exact
use Rattle.array_data.specs.declared.stop.Stop.{Stop}
use Rattle.array_data.specs.declared.stop.Stop.TheVariants.{Memory, Stuck}
use Rattle.array_data.specs.Answers.{Tells, told, no_memory_told, lost, exact_held}
use Rattle.array_data.specs.Held.{shape_held, shapes, held, held_all}
use Rattle.array_data.specs.Held as held_as
use Rattle.array_data.proofs.Forms.{map_push, form_of_scalar}
use Rattle.array_data.proofs.Holding.{form_unmet, form_scalar, form_tuple, held_scalar}
use Rattle.form_parts.specs.Met.{as_shape, exact_met, field_texts}
use Rattle.fut_eval.specs.Answers.{Stands, Reads}
use Rattle.fut_eval.specs.Shapes.{Row_told, Rows_told, Missing_told, looked_up, not_missing, Extent_told, as_length, field_rows}
use Rattle.fut_eval.proofs.Reading.{read_beyond, stands_at}
use Rattle.fut_eval.proofs.Tells.{tells_then, tells_stop}

-- ---- lists as what the definitions have

then_val : {A B C : Type 0} (o : Out A) (f : A → B) (g : B → C) → and_then (and_then o (λ a. Val (f a))) (λ b. Val (g b)) ≡ and_then o (λ a. Val (g (f a)))
then_val (Val a) f g = refl
then_val (Fail r) f g = refl
then_val Wrong f g = refl

-- one more in front
one_then : {B : Type 0} (o : Out Shape) (p : Out B) (q : Out (List Shape)) (f : List Shape → B) (g : Shape → B → B) → p ≡ and_then q (λ hs. Val (f hs)) → ((h : Shape) (hs : List Shape) → g h (f hs) ≡ f (h ∷ hs)) → and_then o (λ h. and_then p (λ b. Val (g h b))) ≡ and_then (and_then o (λ h. and_then q (λ hs. Val (h ∷ hs)))) (λ hs. Val (f hs))
one_then {B} (Val h) p q f g e s = ap (λ z. and_then z (λ b. Val (g h b))) e ∙ same q
  where
    same : (q : Out (List Shape)) → and_then (and_then q (λ hs. Val (f hs))) (λ b. Val (g h b)) ≡ and_then (and_then q (λ hs. Val (h ∷ hs))) (λ hs. Val (f hs))
    same (Val hs) = ap Val (s h hs)
    same (Fail r) = refl
    same Wrong = refl
one_then (Fail r) p q f g e s = refl
one_then Wrong p q f g e s = refl

parts_are : (env : Names Component) (rs : List Row) → row_shapes env (rows rs) ≡ and_then (each_out (row_shape env) rs) (λ hs. Val (shapes hs))
parts_are env [] = refl
parts_are env (r ∷ rs) = one_then (row_shape env r) (row_shapes env (rows rs)) (each_out (row_shape env) rs) shapes shape_and (parts_are env rs) (λ h hs. refl)

-- fields, whose names are known before
field_then : (f : Text) (ns : List Text) (o : Out Shape) (p : Out Named_shapes) (q : Out (List Shape)) → p ≡ and_then q (λ hs. Val (held_as.named_shapes ns hs)) → and_then o (λ h. and_then p (λ hs. Val (named_shape_and f h hs))) ≡ and_then (and_then o (λ h. and_then q (λ hs. Val (h ∷ hs)))) (λ hs. Val (held_as.named_shapes (f ∷ ns) hs))
field_then f ns (Val h) p q e = ap (λ z. and_then z (λ hs. Val (named_shape_and f h hs))) e ∙ same q
  where
    same : (q : Out (List Shape)) → and_then (and_then q (λ hs. Val (held_as.named_shapes ns hs))) (λ hs. Val (named_shape_and f h hs)) ≡ and_then (and_then q (λ hs. Val (h ∷ hs))) (λ hs. Val (held_as.named_shapes (f ∷ ns) hs))
    same (Val hs) = refl
    same (Fail r) = refl
    same Wrong = refl
field_then f ns (Fail r) p q e = refl
field_then f ns Wrong p q e = refl

fields_are : (env : Names Component) (fs : List FieldShape) → named_shapes env (named_rows (map named_row_of fs)) ≡ and_then (each_out (row_shape env) (field_rows fs)) (λ hs. Val (held_as.named_shapes (field_texts fs) hs))
fields_are env [] = refl
fields_are env (f ∷ fs) =
    ap (λ z. named_shapes env (named_rows (z ∷ map named_row_of fs))) (named_row_of-parts f)
    ∙ field_then f.name.now (field_texts fs) (row_shape env (row_of f.row)) (named_shapes env (named_rows (map named_row_of fs))) (each_out (row_shape env) (field_rows fs)) (fields_are env fs)

-- ---- one shape

no_memory_for_row : (t : List Component) (r : Row) → Row_told t r (Err Memory)
unfolding Row_told
no_memory_for_row t r env n st = no_memory_told

pub no_memory_told_of : (t : List Component) (w : RowShape) → Row_told t (row_of w) (Err Memory)
no_memory_told_of t w = no_memory_for_row t (row_of w)

module _ (t : List Component) (w : RowShape) where
  as_row : (r : Row) (x : Result Shape Stop) → row_of w ≡ r → ((env : Names Component) (n : ℕ) → Stands env n t → Tells (row_shape env r) x) → Row_told t (row_of w) x
  unfolding Row_told
  as_row r x e h env n st = subst (λ z. Tells (row_shape env z) x) (sym e) (h env n st)

  pub unknown_told : w ≡ row.Unknown → Row_told t (row_of w) (as_shape (Ok form.Unmet))
  unknown_told e = as_row _ (Ok (shape_held form.Unmet)) (ap row_of e ∙ row_of-Unknown) (λ env n st. told (ap Val (sym form_unmet)))

  pub scalar_told : (ty : ScalarType) → w ≡ row.Scalar ty → Row_told t (row_of w) (as_shape (Ok (form.Scalar ty)))
  scalar_told ty e = as_row _ (Ok (shape_held (form.Scalar ty))) (ap row_of e ∙ row_of-Scalar ty) (λ env n st. told (ap Val (sym (form_scalar ty))))

  module _ (rs : Bor (List RowShape)) (e : w ≡ row.Tuple rs) where
    tuple_is : (env : Names Component) → row_shape env (row_of w) ≡ and_then (each_out (row_shape env) (map row_of rs.now)) (λ hs. Val (Tuple_shape (shapes hs)))
    tuple_is env =
        ap (row_shape env) (ap row_of e ∙ row_of-Tuple rs) ∙ ap (λ z. and_then z (λ hs. Val (Tuple_shape hs))) (parts_are env (map row_of rs.now))
        ∙ then_val (each_out (row_shape env) (map row_of rs.now)) shapes Tuple_shape

    pub tuple_stop : (x : Stop) → Rows_told t (map row_of rs.now) (Err x) → Row_told t (row_of w) (as_shape (Err x))
    unfolding Row_told Rows_told
    tuple_stop x h env n st = subst (λ z. Tells z (Err x)) (sym (tuple_is env)) (tells_stop (each_out (row_shape env) (map row_of rs.now)) _ x (h env n st))

    pub tuple_told : (hs : List Form) → Rows_told t (map row_of rs.now) (Ok (map shape_held hs)) → Row_told t (row_of w) (as_shape (Ok (form.Tuple hs)))
    unfolding Row_told Rows_told
    tuple_told hs h env n st =
        subst (λ z. Tells z (Ok (shape_held (form.Tuple hs)))) (sym (tuple_is env))
        (tells_then (each_out (row_shape env) (map row_of rs.now)) (λ hs. Val (Tuple_shape (shapes hs))) (map shape_held hs) (Ok (shape_held (form.Tuple hs))) (h env n st) (told (ap Val (sym (form_tuple hs)))))

  module _ (fs : Bor (List FieldShape)) (e : w ≡ row.Record fs) where
    record_is : (env : Names Component) → row_shape env (row_of w) ≡ and_then (each_out (row_shape env) (field_rows fs.now)) (λ hs. Val (Record_shape (held_as.named_shapes (field_texts fs.now) hs)))
    record_is env =
        ap (row_shape env) (ap row_of e ∙ row_of-Record fs) ∙ ap (λ z. and_then z (λ hs. Val (Record_shape hs))) (fields_are env fs.now)
        ∙ then_val (each_out (row_shape env) (field_rows fs.now)) (held_as.named_shapes (field_texts fs.now)) Record_shape

    pub record_stop : (x : Stop) → Rows_told t (field_rows fs.now) (Err x) → Row_told t (row_of w) (as_shape (Err x))
    unfolding Row_told Rows_told
    record_stop x h env n st = subst (λ z. Tells z (Err x)) (sym (record_is env)) (tells_stop (each_out (row_shape env) (field_rows fs.now)) _ x (h env n st))

    pub record_told : (hs : List Form) (y : Result Form Stop) → Rows_told t (field_rows fs.now) (Ok (map shape_held hs)) → Tells (Val (Record_shape (held_as.named_shapes (field_texts fs.now) (map shape_held hs)))) (as_shape y) → Row_told t (row_of w) (as_shape y)
    unfolding Row_told Rows_told
    record_told hs y h k env n st =
        subst (λ z. Tells z (as_shape y)) (sym (record_is env))
        (tells_then (each_out (row_shape env) (field_rows fs.now)) (λ hs. Val (Record_shape (held_as.named_shapes (field_texts fs.now) hs))) (map shape_held hs) (as_shape y) (h env n st) k)

  -- of so many rows of a shape
  module _ (x : Extent) (r : RowShape) (make : ℕ → Shape → Shape) (q : (env : Names Component) → row_shape env (row_of w) ≡ and_then (extent_worth env x) (λ z. and_then (row_shape env (row_of r)) (λ h. Val (make (count z) h)))) where
    so_many_unsized : (s : Stop) → Extent_told t x (Err s) → Row_told t (row_of w) (Err s)
    unfolding Row_told Extent_told
    so_many_unsized s h env n st = subst (λ z. Tells z (Err s)) (sym (q env)) (tells_stop (extent_worth env x) _ s (h env n st))

    module _ (z : Option ℤ) (h : Extent_told t x (Ok z)) where
      so_many_untold : (s : Stop) → Row_told t (row_of r) (Err s) → Row_told t (row_of w) (Err s)
      unfolding Row_told Extent_told
      so_many_untold s k env n st =
          subst (λ z. Tells z (Err s)) (sym (q env))
          (tells_then (extent_worth env x) (λ z. and_then (row_shape env (row_of r)) (λ h. Val (make (count z) h))) z (Err s) (h env n st) (tells_stop (row_shape env (row_of r)) _ s (k env n st)))

      so_many_told : (f : Shape) (m : ℕ) (y : Result Shape Stop) → Row_told t (row_of r) (Ok f) → m ≡ count z → Tells (Val (make m f)) y → Row_told t (row_of w) y
      unfolding Row_told Extent_told
      so_many_told f m y k i p env n st =
          subst (λ z. Tells z y) (sym (q env))
          (tells_then (extent_worth env x) (λ z. and_then (row_shape env (row_of r)) (λ h. Val (make (count z) h))) z y (h env n st)
          (tells_then (row_shape env (row_of r)) (λ h. Val (make (count z) h)) f y (k env n st) (subst (λ i. Tells (Val (make i f)) y) i p)))

  module _ (x : Held_extent) (r : Bor RowShape) where
    module _ (e : w ≡ row.Array x r) where
      array_is : (env : Names Component) → row_shape env (row_of w) ≡ and_then (extent_worth env (extent_of x)) (λ z. and_then (row_shape env (row_of r.now)) (λ h. Val (Array_shape (count z) h)))
      array_is env = ap (row_shape env) (ap row_of e ∙ row_of-Array x r)

      pub array_unsized : (s : Stop) → Extent_told t (extent_of x) (Err s) → Row_told t (row_of w) (as_shape (Err s))
      array_unsized = so_many_unsized (extent_of x) r.now Array_shape array_is

      pub array_untold : (z : Option Exact) (s : Stop) → Extent_told t (extent_of x) (Ok (exact_met z)) → Row_told t (row_of r.now) (Err s) → Row_told t (row_of w) (as_shape (Err s))
      array_untold z s h k = so_many_untold (extent_of x) r.now Array_shape array_is (exact_met z) h s k

      pub array_told : (z : Option Exact) (f : Form) (m : ℕ) (y : Result Form Stop) → Extent_told t (extent_of x) (Ok (exact_met z)) → Row_told t (row_of r.now) (Ok (shape_held f)) → m ≡ count (exact_met z) → Tells (Val (Array_shape m (shape_held f))) (as_shape y) → Row_told t (row_of w) (as_shape y)
      array_told z f m y h k i p = so_many_told (extent_of x) r.now Array_shape array_is (exact_met z) h (shape_held f) m (as_shape y) k i p

    module _ (e : w ≡ row.Unzipped x r) where
      unzipped_is : (env : Names Component) → row_shape env (row_of w) ≡ and_then (extent_worth env (extent_of x)) (λ z. and_then (row_shape env (row_of r.now)) (λ h. Val (parts_of (count z) h)))
      unzipped_is env = ap (row_shape env) (ap row_of e ∙ row_of-Unzipped x r)

      pub unzipped_unsized : (s : Stop) → Extent_told t (extent_of x) (Err s) → Row_told t (row_of w) (as_shape (Err s))
      unzipped_unsized = so_many_unsized (extent_of x) r.now parts_of unzipped_is

      pub unzipped_untold : (z : Option Exact) (s : Stop) → Extent_told t (extent_of x) (Ok (exact_met z)) → Row_told t (row_of r.now) (Err s) → Row_told t (row_of w) (as_shape (Err s))
      unzipped_untold z s h k = so_many_untold (extent_of x) r.now parts_of unzipped_is (exact_met z) h s k

      pub unzipped_told : (z : Option Exact) (f : Form) (m : ℕ) (y : Result Form Stop) → Extent_told t (extent_of x) (Ok (exact_met z)) → Row_told t (row_of r.now) (Ok (shape_held f)) → m ≡ count (exact_met z) → Tells (Val (parts_of m (shape_held f))) (as_shape y) → Row_told t (row_of w) (as_shape y)
      unzipped_told z f m y h k i p = so_many_told (extent_of x) r.now parts_of unzipped_is (exact_met z) h (shape_held f) m (as_shape y) k i p

  pub data_row : (u : Atom) (y : Result Form Stop) → w ≡ row.Data u → Row_told t (Shape_of u) (as_shape y) → Row_told t (row_of w) (as_shape y)
  data_row u y e h = subst (λ z. Row_told t z (as_shape y)) (sym (ap row_of e ∙ row_of-Data u)) h

  -- what stands in another shape
  module _ (r : RowShape) (k : Shape → Shape) (q : (env : Names Component) → row_shape env (row_of w) ≡ and_then (row_shape env (row_of r)) (λ h. Val (k h))) where
    inside_stop : (x : Stop) → Row_told t (row_of r) (Err x) → Row_told t (row_of w) (Err x)
    unfolding Row_told
    inside_stop x h env n st = subst (λ z. Tells z (Err x)) (sym (q env)) (tells_stop (row_shape env (row_of r)) _ x (h env n st))

    inside_told : (h : Shape) (y : Result Shape Stop) → Row_told t (row_of r) (Ok h) → Tells (Val (k h)) y → Row_told t (row_of w) y
    unfolding Row_told
    inside_told h y i p env n st = subst (λ z. Tells z y) (sym (q env)) (tells_then (row_shape env (row_of r)) (λ h. Val (k h)) h y (i env n st) p)

  module _ (r : Bor RowShape) where
    module _ (e : w ≡ row.Rows r) where
      rows_is : (env : Names Component) → row_shape env (row_of w) ≡ and_then (row_shape env (row_of r.now)) (λ h. Val (row_in h))
      rows_is env = ap (row_shape env) (ap row_of e ∙ row_of-Rows r)

      pub rows_stop : (x : Stop) → Row_told t (row_of r.now) (Err x) → Row_told t (row_of w) (as_shape (Err x))
      rows_stop = inside_stop r.now row_in rows_is

      pub rows_told : (f : Form) (y : Result Form Stop) → Row_told t (row_of r.now) (Ok (shape_held f)) → Tells (Val (row_in (shape_held f))) (as_shape y) → Row_told t (row_of w) (as_shape y)
      rows_told f y h i = inside_told r.now row_in rows_is (shape_held f) (as_shape y) h i

    module _ (k : ℕ) (e : w ≡ row.Part k r) where
      part_is : (env : Names Component) → row_shape env (row_of w) ≡ and_then (row_shape env (row_of r.now)) (λ h. Val (part_of k h))
      part_is env = ap (row_shape env) (ap row_of e ∙ row_of-Part k r)

      pub part_stop : (x : Stop) → Row_told t (row_of r.now) (Err x) → Row_told t (row_of w) (as_shape (Err x))
      part_stop = inside_stop r.now (part_of k) part_is

      pub part_told : (f : Form) (y : Result Form Stop) → Row_told t (row_of r.now) (Ok (shape_held f)) → Tells (Val (part_of k (shape_held f))) (as_shape y) → Row_told t (row_of w) (as_shape y)
      part_told f y h i = inside_told r.now (part_of k) part_is (shape_held f) (as_shape y) h i

    module _ (g : Bor Text) (e : w ≡ row.Field g r) where
      field_is : (env : Names Component) → row_shape env (row_of w) ≡ and_then (row_shape env (row_of r.now)) (λ h. Val (field_of g.now h))
      field_is env = ap (row_shape env) (ap row_of e ∙ row_of-Field g r)

      pub field_stop : (x : Stop) → Row_told t (row_of r.now) (Err x) → Row_told t (row_of w) (as_shape (Err x))
      field_stop = inside_stop r.now (field_of g.now) field_is

      pub field_told : (f : Form) (y : Result Form Stop) → Row_told t (row_of r.now) (Ok (shape_held f)) → Tells (Val (field_of g.now (shape_held f))) (as_shape y) → Row_told t (row_of w) (as_shape y)
      field_told f y h i = inside_told r.now (field_of g.now) field_is (shape_held f) (as_shape y) h i

pub ruleset row_forms = (no_memory_told_of, unknown_told, scalar_told, tuple_stop, tuple_told, record_stop, record_told, array_unsized, array_untold, array_told, unzipped_unsized, unzipped_untold, unzipped_told, data_row, rows_stop, rows_told, part_stop, part_told, field_stop, field_told)

-- ---- that of data, also where it was given up

-- what stands in the table under a name
module _ (table : List Data) (x : ℕ) (l : x < length table) where
  -- what is said of it is told of the name, which may stand for nothing
  of_name : {A : Type 0} (k : Component → Out A) (d : Data) (r : Result A Stop) → Tells (k (held (get_or table x d))) r → (env : Names Component) (n : ℕ) → Stands env n (held_all table) → Tells (and_then (value_of env (atom.Name x)) k) r
  of_name k d r h env n st = by_look (look env x) (stands_at table x d l env n st)
    where
      by_look : (q : Option Component) → (q ≡ None) ⊎ (q ≡ Some (held (get_or table x d))) → Tells (and_then (or_wrong q) k) r
      by_look q (inl e) = lost (ap (λ z. and_then (or_wrong z) k) e)
      by_look q (inr e) = subst (λ z. Tells (and_then (or_wrong z) k) r) (sym e) h

  pub name_form : (d c : Data) (y : Result Form Stop) → c ≡ get_or table x d → Tells (Val (shape_of (held c))) (as_shape y) → Row_told (held_all table) (Shape_of (atom.Name x)) (as_shape y)
  unfolding Row_told
  name_form d c y e h = of_name (λ d. Val (shape_of d)) d (as_shape y) (subst (λ z. Tells (Val (shape_of (held z))) (as_shape y)) e h)

  pub name_length : (d c : Data) (m : ℕ) → c ≡ get_or table x d → m ≡ size_of (shape_of (held c)) → Extent_told (held_all table) (Length_of (Shape_of (atom.Name x))) (as_length (Ok m))
  unfolding Extent_told
  name_length d c m e q env n st =
      subst (λ z. Tells z (Ok (Some (pos m)))) (sym (then_val (value_of env (atom.Name x)) shape_of (λ h. Some (pos (size_of h)))))
      (of_name (λ d. Val (Some (pos (size_of (shape_of d))))) d (Ok (Some (pos m))) (told (ap (λ z. Val (Some (pos z))) (sym (q ∙ ap (λ z. size_of (shape_of (held z))) e)))) env n st)

module _ (table : List Data) where
  module _ (x : ℕ) (l : length table ≤ x) where
    pub form_beyond : Row_told (held_all table) (Shape_of (atom.Name x)) (as_shape (Err Stuck))
    unfolding Row_told Reads
    form_beyond env n st = tells_stop (value_of env (atom.Name x)) _ Stuck (read_beyond table x l env n st)

    pub length_beyond : Extent_told (held_all table) (Length_of (Shape_of (atom.Name x))) (as_length (Err Stuck))
    unfolding Extent_told Reads
    length_beyond env n st = tells_stop (row_shape env (Shape_of (atom.Name x))) _ Stuck (tells_stop (value_of env (atom.Name x)) _ Stuck (read_beyond table x l env n st))

  pub constant_form : (s : Scalar) (t : ScalarType) → t ≡ type_of s → Row_told (held_all table) (Shape_of (atom.Constant s)) (as_shape (Ok (form.Scalar t)))
  unfolding Row_told
  constant_form s t e env n st = told (ap (λ z. Val (shape_of z)) (sym (held_scalar s)) ∙ ap Val (sym (form_of_scalar s t e)))

  pub constant_length : (s : Scalar) → Extent_told (held_all table) (Length_of (Shape_of (atom.Constant s))) (as_length (Ok 0))
  unfolding Extent_told shape_of
  constant_length s env n st = told refl

pub ruleset data_forms = (name_form, form_beyond, constant_form)

pub ruleset data_lengths = (name_length, length_beyond, constant_length)

pub missing_looked_up : (t : List Component) (r : Row) (many : ℕ) (x : Result Shape Stop) → Row_told t r x → Missing_told t r many x
missing_looked_up t r many x h = looked_up h

pub missing_none : (t : List Component) (r : Row) (many : ℕ) (h : Shape) → 0 < many → Missing_told t r many (Ok h)
missing_none t r many h l = not_missing (λ e. omega (arith, e, l))

pub ruleset missing_rows = (missing_looked_up, missing_none)

-- ---- the shapes of a list

-- what is told once the first have shapes: theirs before those of the others
pub data Goes_on_with (o rest : Out (List Shape)) (hs : List Shape) : Type 0 where
  goes_on_with : o ≡ and_then rest (λ ks. Val (hs ++ ks)) → Goes_on_with o rest hs
  is_lost : o ≡ Wrong → Goes_on_with o rest hs

unfoldable pub Half_told : List Component → List Row → ℕ → List Form → Type 0
Half_told t rs i hs = (env : Names Component) (n : ℕ) → Stands env n t → Goes_on_with (each_out (row_shape env) rs) (each_out (row_shape env) (drop i rs)) (map shape_held hs)

none_before : {A : Type 0} (o : Out (List A)) → o ≡ and_then o (λ ks. Val ([] ++ ks))
none_before (Val ks) = refl
none_before (Fail r) = refl
none_before Wrong = refl

one_more : (hs : List Shape) (h : Shape) (o : Out (List Shape)) → and_then (and_then o (λ ks. Val (h ∷ ks))) (λ ks. Val (hs ++ ks)) ≡ and_then o (λ ks. Val ((hs ++ h ∷ []) ++ ks))
one_more hs h (Val ks) = ap Val (sym (append_assoc hs (h ∷ []) ks))
one_more hs h (Fail r) = refl
one_more hs h Wrong = refl

-- what a list of other things has from a place on
rows_at : {A : Type 0} (g : A → Row) (ws : List A) (i : ℕ) (w : A) → i < length ws → drop i (map g ws) ≡ g (get_or ws i w) ∷ drop (suc i) (map g ws)
rows_at g [] i w l = absurd (omega arith)
rows_at g (x ∷ ws) zero w l = refl
rows_at g (x ∷ ws) (suc i) w l = rows_at g ws i w (omega arith)

no_rows_past : {A : Type 0} (g : A → Row) (ws : List A) (i : ℕ) → length ws ≤ i → drop i (map g ws) ≡ []
no_rows_past g [] zero l = refl
no_rows_past g [] (suc i) l = refl
no_rows_past g (x ∷ ws) zero l = absurd (omega arith)
no_rows_past g (x ∷ ws) (suc i) l = no_rows_past g ws i (omega arith)

module _ (t : List Component) (rs : List Row) where
  no_memory_for_rows : Rows_told t rs (Err Memory)
  unfolding Rows_told
  no_memory_for_rows env n st = no_memory_told

  half_start : (hs : List Form) → hs ≡ [] → Half_told t rs 0 hs
  unfolding Half_told
  half_start hs e env n st = goes_on_with (none_before (each_out (row_shape env) rs) ∙ ap (λ z. and_then (each_out (row_shape env) rs) (λ ks. Val (map shape_held z ++ ks))) (sym e))

  module _ (i : ℕ) (r : Row) (hs : List Form) (q : drop i rs ≡ r ∷ drop (suc i) rs) (h : Half_told t rs i hs) where
    rest_is : (env : Names Component) → each_out (row_shape env) (drop i rs) ≡ and_then (row_shape env r) (λ h. and_then (each_out (row_shape env) (drop (suc i) rs)) (λ ks. Val (h ∷ ks)))
    rest_is env = ap (each_out (row_shape env)) q

    half_stop : (x : Stop) → Row_told t r (Err x) → Rows_told t rs (Err x)
    unfolding Half_told Row_told Rows_told
    half_stop x k env n st = by_half (h env n st) (tells_stop (row_shape env r) _ x (k env n st))
      where
        by_half : Goes_on_with (each_out (row_shape env) rs) (each_out (row_shape env) (drop i rs)) (map shape_held hs) → Tells (and_then (row_shape env r) (λ h. and_then (each_out (row_shape env) (drop (suc i) rs)) (λ ks. Val (h ∷ ks)))) (Err x) → Tells (each_out (row_shape env) rs) (Err x)
        by_half (is_lost q) y = lost q
        by_half (goes_on_with q) y = subst (λ z. Tells z (Err x)) (sym q) (tells_stop (each_out (row_shape env) (drop i rs)) _ x (subst (λ z. Tells z (Err x)) (sym (rest_is env)) y))

    half_more : (f : Form) (ks : List Form) → Row_told t r (Ok (shape_held f)) → ks ≡ hs ++ f ∷ [] → Half_told t rs (i + 1) ks
    unfolding Half_told Row_told
    half_more f ks k e env n st = by_half (h env n st) (k env n st)
      where
        rest : Out (List Shape)
        rest = each_out (row_shape env) (drop (suc i) rs)

        after : Out (List Shape) → Out (List Shape)
        after o = and_then o (λ ks. Val (map shape_held hs ++ ks))

        by_half : Goes_on_with (each_out (row_shape env) rs) (each_out (row_shape env) (drop i rs)) (map shape_held hs) → Tells (row_shape env r) (Ok (shape_held f)) → Goes_on_with (each_out (row_shape env) rs) (each_out (row_shape env) (drop (i + 1) rs)) (map shape_held ks)
        by_half (is_lost q) y = is_lost q
        by_half (goes_on_with q) (lost y) = is_lost (q ∙ ap after (rest_is env ∙ ap (λ z. and_then z (λ h. and_then rest (λ ks. Val (h ∷ ks)))) y))
        by_half (goes_on_with q) (told y) =
            goes_on_with (q ∙ ap after (rest_is env ∙ ap (λ z. and_then z (λ h. and_then rest (λ ks. Val (h ∷ ks)))) y) ∙ one_more (map shape_held hs) (shape_held f) rest
            ∙ ap (λ z. and_then rest (λ ks. Val (z ++ ks))) (sym (ap (map shape_held) e ∙ map_push shape_held hs f))
            ∙ ap (λ z. and_then (each_out (row_shape env) (drop z rs)) (λ ls. Val (map shape_held ks ++ ls))) (sym (add-one i)))

  half_end : (i : ℕ) (hs : List Form) → drop i rs ≡ [] → Half_told t rs i hs → Rows_told t rs (Ok (map shape_held hs))
  unfolding Half_told Rows_told
  half_end i hs e h env n st = by_half (h env n st)
    where
      by_half : Goes_on_with (each_out (row_shape env) rs) (each_out (row_shape env) (drop i rs)) (map shape_held hs) → Tells (each_out (row_shape env) rs) (Ok (map shape_held hs))
      by_half (is_lost q) = lost q
      by_half (goes_on_with q) = told (q ∙ ap (λ z. and_then (each_out (row_shape env) z) (λ ks. Val (map shape_held hs ++ ks))) e ∙ ap Val (append-nil (map shape_held hs)))

-- of shapes
module _ (t : List Component) (ws : List RowShape) where
  pub rows_memory : Rows_told t (map row_of ws) (Err Memory)
  rows_memory = no_memory_for_rows t (map row_of ws)

  pub rows_start : (hs : List Form) → hs ≡ [] → Half_told t (map row_of ws) 0 hs
  rows_start = half_start t (map row_of ws)

  module _ (i : ℕ) (w : RowShape) (hs : List Form) (l : i < length ws) (h : Half_told t (map row_of ws) i hs) where
    pub rows_half : (x : Stop) → Row_told t (row_of (get_or ws i w)) (Err x) → Rows_told t (map row_of ws) (Err x)
    rows_half = half_stop t (map row_of ws) i (row_of (get_or ws i w)) hs (rows_at row_of ws i w l) h

    pub rows_more : (f : Form) (ks : List Form) → Row_told t (row_of (get_or ws i w)) (Ok (shape_held f)) → ks ≡ hs ++ f ∷ [] → Half_told t (map row_of ws) (i + 1) ks
    rows_more = half_more t (map row_of ws) i (row_of (get_or ws i w)) hs (rows_at row_of ws i w l) h

  pub rows_end : (i : ℕ) (hs : List Form) → length ws ≤ i → Half_told t (map row_of ws) i hs → Rows_told t (map row_of ws) (Ok (map shape_held hs))
  rows_end i hs l h = half_end t (map row_of ws) i hs (no_rows_past row_of ws i l) h

pub ruleset all_row_forms = (rows_memory, rows_start, rows_half, rows_more, rows_end)

-- of fields
module _ (t : List Component) (ws : List FieldShape) where
  pub fields_memory : Rows_told t (field_rows ws) (Err Memory)
  fields_memory = no_memory_for_rows t (field_rows ws)

  pub fields_start : (hs : List Form) → hs ≡ [] → Half_told t (field_rows ws) 0 hs
  fields_start = half_start t (field_rows ws)

  module _ (i : ℕ) (w : FieldShape) (hs : List Form) (l : i < length ws) (h : Half_told t (field_rows ws) i hs) where
    pub fields_half : (x : Stop) → Row_told t (row_of (get_or ws i w).row) (Err x) → Rows_told t (field_rows ws) (Err x)
    fields_half = half_stop t (field_rows ws) i (row_of (get_or ws i w).row) hs (rows_at (λ f. row_of f.row) ws i w l) h

    pub fields_more : (f : Form) (ks : List Form) → Row_told t (row_of (get_or ws i w).row) (Ok (shape_held f)) → ks ≡ hs ++ f ∷ [] → Half_told t (field_rows ws) (i + 1) ks
    fields_more = half_more t (field_rows ws) i (row_of (get_or ws i w).row) hs (rows_at (λ f. row_of f.row) ws i w l) h

  pub fields_end : (i : ℕ) (hs : List Form) → length ws ≤ i → Half_told t (field_rows ws) i hs → Rows_told t (field_rows ws) (Ok (map shape_held hs))
  fields_end i hs l h = half_end t (field_rows ws) i hs (no_rows_past (λ f. row_of f.row) ws i l) h

pub ruleset all_field_forms = (fields_memory, fields_start, fields_half, fields_more, fields_end)

-- ---- sizes

module _ (t : List Component) (u : Atom) where
  pub worth_unread : (x : Stop) → Reads t u (Err x) → Extent_told t (Worth_of u) (Err x)
  unfolding Reads Extent_told
  worth_unread x h env n st = tells_stop (value_of env u) _ x (h env n st)

  pub worth_read : (d : Component) (z : Option Exact) → Reads t u (Ok d) → exact_met z ≡ datum_worth d → Extent_told t (Worth_of u) (Ok (exact_met z))
  unfolding Reads Extent_told
  worth_read d z h e env n st = tells_then (value_of env u) (λ d. Val (datum_worth d)) d (Ok (exact_met z)) (h env n st) (told (ap Val (sym e)))

pub ruleset atom_sizes = (worth_unread, worth_read)

module _ (t : List Component) (r : Row) where
  length_stop : (x : Stop) → Row_told t r (Err x) → Extent_told t (Length_of r) (as_length (Err x))
  unfolding Row_told Extent_told
  length_stop x h env n st = tells_stop (row_shape env r) _ x (h env n st)

  length_told : (h : Shape) (m : ℕ) → Row_told t r (Ok h) → m ≡ size_of h → Extent_told t (Length_of r) (as_length (Ok m))
  unfolding Row_told Extent_told
  length_told h m k e env n st = tells_then (row_shape env r) (λ h. Val (Some (pos (size_of h)))) h (Ok (Some (pos m))) (k env n st) (told (ap (λ z. Val (Some (pos z))) (sym e)))

module _ (t : List Component) (w : RowShape) where
  pub length_of_data : (u : Atom) (y : Result ℕ Stop) → w ≡ row.Data u → Extent_told t (Length_of (Shape_of u)) (as_length y) → Extent_told t (Length_of (row_of w)) (as_length y)
  length_of_data u y e h = subst (λ z. Extent_told t (Length_of z) (as_length y)) (sym (ap row_of e ∙ row_of-Data u)) h

  pub length_unknown : (x : Stop) → Row_told t (row_of w) (Err x) → Extent_told t (Length_of (row_of w)) (as_length (Err x))
  length_unknown = length_stop t (row_of w)

  pub length_known : (f : Form) (m : ℕ) → Row_told t (row_of w) (Ok (shape_held f)) → m ≡ size_of (shape_held f) → Extent_told t (Length_of (row_of w)) (as_length (Ok m))
  length_known f = length_told t (row_of w) (shape_held f)

pub ruleset lengths = (length_of_data, length_unknown, length_known)

module _ (t : List Component) (x : Held_extent) where
  pub nowhere_told : x ≡ extent.Nowhere → Extent_told t (extent_of x) (Ok None)
  unfolding Extent_told
  nowhere_told e env n st = told (ap (extent_worth env) (ap extent_of e ∙ extent_of-Nowhere))

  pub exactly_told : (m : ℕ) → x ≡ extent.Exactly m → Extent_told t (extent_of x) (Ok (Some (exact_held (exact.Natural m))))
  unfolding Extent_told exact_held
  exactly_told m e env n st = told (ap (extent_worth env) (ap extent_of e ∙ extent_of-Exactly m))

  pub worth_told : (u : Atom) (y : Result (Option ℤ) Stop) → x ≡ extent.Worth u → Extent_told t (Worth_of u) y → Extent_told t (extent_of x) y
  worth_told u y e h = subst (λ z. Extent_told t z y) (sym (ap extent_of e ∙ extent_of-Worth u)) h

  module _ (r : Bor RowShape) (e : x ≡ extent.Length r) where
    pub extent_unknown : (s : Stop) → Extent_told t (Length_of (row_of r.now)) (as_length (Err s)) → Extent_told t (extent_of x) (Err s)
    extent_unknown s h = subst (λ z. Extent_told t z (Err s)) (sym (ap extent_of e ∙ extent_of-Length r)) h

    pub extent_known : (m : ℕ) → Extent_told t (Length_of (row_of r.now)) (as_length (Ok m)) → Extent_told t (extent_of x) (Ok (Some (exact_held (exact.Natural m))))
    unfolding exact_held
    extent_known m h = subst (λ z. Extent_told t z (Ok (Some (pos m)))) (sym (ap extent_of e ∙ extent_of-Length r)) h

pub ruleset extents = (nowhere_told, exactly_told, worth_told, extent_unknown, extent_known)
