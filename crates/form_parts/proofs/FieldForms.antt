-- Fields of forms.
use Rattle.std.proofs.Common.{◌≡◌, ℕ, suc, zero, ◌+◌, ◌<◌, ◌≤◌, List, [], ◌∷◌, ◌++◌, map, length, get_or, take, drop, Option, Some, None, Ok, Err, Result, true, false, cond, refl, sym, ap, ◌∙◌, arith, add-one, Bor}
use Rattle.std.specs.Str.{bytes_eq}
use Rattle.std.proofs.Math.Seq.{drop-cons}
use Rattle.std.proofs.lemmas.List.{take_all}
use Rattle.fut_scalar.specs.declared.scalar.ScalarType.{ScalarType}
use Rattle.fut_ast.specs.Sorts.{Text}
use Rattle.fut_value.specs.Data.{Shape, Scalar_shape, Tuple_shape, Record_shape, Array_shape, Unmet_shape}
use Rattle.fut_meaning.specs.Outcomes.{Val}
use Rattle.fut_meaning.specs.Places.{field_of, field_shape, or_unmet}
use Rattle.fut_blocks.specs.declared.row.FieldShape.{FieldShape}
use Rattle.array_data.specs.declared.form.Form.{Form}
use Rattle.array_data.specs.declared.form.Form.TheVariants as form
use Rattle.array_data.specs.declared.stop.Stop.{Stop}
use Rattle.array_data.specs.declared.stop.Stop.TheVariants.{Memory}
use Rattle.array_data.specs.Answers.{Tells, told, report_told, no_memory_told, lost}
use Rattle.array_data.specs.Held.{shapes, named_shapes, shape_held}
use Rattle.array_data.proofs.Forms.{drop_past}
use Rattle.array_data.proofs.Holding.{form_unmet, form_scalar, form_tuple, form_record, form_array}
use Rattle.form_parts.specs.Met.{as_shape, as_found, found_held, field_texts}
use Rattle.form_parts.proofs.PartForms.{no_part, no_memory_for_part, there}

-- ---- places

-- the field is what it is among the forms from a place on
unfoldable pub Placed_from : Text → List Text → List Form → ℕ → Type 0
Placed_from f ns fs i = field_shape f (named_shapes ns (map shape_held fs)) ≡ field_shape f (named_shapes (drop i ns) (map shape_held (drop i fs)))

first_of : (fs : List Form) → 0 < length fs → Form
first_of [] l = absurd (omega arith)
first_of (f ∷ fs) l = f

module _ (f : Text) (ns : List Text) (fs : List Form) where
  pub place_start : Placed_from f ns fs 0
  unfolding Placed_from
  place_start = refl

  module _ (i : ℕ) (m : Text) (k : i < length fs) (l : i < length ns) (h : Placed_from f ns fs i) where
    one_further : (d : Form) → field_shape f (named_shapes ns (map shape_held fs)) ≡ cond (bytes_eq (get_or ns i m) f) (Some (shape_held (get_or fs i d))) (field_shape f (named_shapes (drop (suc i) ns) (map shape_held (drop (suc i) fs))))
    unfolding Placed_from
    one_further d = h ∙ ap (λ z. field_shape f (named_shapes z (map shape_held (drop i fs)))) (drop-cons ns i m l) ∙ ap (λ z. field_shape f (named_shapes (get_or ns i m ∷ drop (suc i) ns) (map shape_held z))) (drop-cons fs i d k)

    a_form : Form
    a_form = first_of fs (omega (arith, k))

    pub place_more : false ≡ bytes_eq (get_or ns i m) f → Placed_from f ns fs (i + 1)
    unfolding Placed_from
    place_more e =
        one_further a_form ∙ ap (λ z. cond z (Some (shape_held (get_or fs i a_form))) (field_shape f (named_shapes (drop (suc i) ns) (map shape_held (drop (suc i) fs))))) (sym e)
        ∙ ap (λ z. field_shape f (named_shapes (drop z ns) (map shape_held (drop z fs)))) (sym (add-one i))

    pub place_found : (g d : Form) → true ≡ bytes_eq (get_or ns i m) f → g ≡ get_or fs i d → Tells (Val (field_shape f (named_shapes ns (map shape_held fs)))) (Ok (Some (shape_held g)))
    place_found g d e q =
        told (ap Val (one_further d ∙ ap (λ z. cond z (Some (shape_held (get_or fs i d))) (field_shape f (named_shapes (drop (suc i) ns) (map shape_held (drop (suc i) fs))))) (sym e)
        ∙ ap (λ z. Some (shape_held z)) (sym q)))

  pub place_end : (i : ℕ) → length fs ≤ i → Placed_from f ns fs i → Tells (Val (field_shape f (named_shapes ns (map shape_held fs)))) (as_found (Ok None))
  unfolding Placed_from
  place_end i l h = told (ap Val (h ∙ ap (λ z. field_shape f (named_shapes (drop i ns) (map shape_held z))) (drop_past fs i l)))

  pub no_memory_for_place : Tells (Val (field_shape f (named_shapes ns (map shape_held fs)))) (as_found (Err Memory))
  no_memory_for_place = no_memory_told

pub ruleset places = (place_start, place_more, place_found, place_end, no_memory_for_place)

-- ---- fields

module _ (g : Text) (f : Form) where
  module _ (ns : List Text) (hs : List Form) (q : f ≡ form.Record ns hs) where
    in_record : (r : Result Shape Stop) → Tells (Val (or_unmet (field_shape g (named_shapes ns (map shape_held hs))))) r → Tells (Val (field_of g (shape_held f))) r
    in_record r t = there (field_of g) f (Record_shape (named_shapes ns (map shape_held hs))) (ap shape_held q ∙ form_record ns hs) r t

    pub field_unplaced : (x : Stop) → Tells (Val (field_shape g (named_shapes ns (map shape_held hs)))) (as_found (Err x)) → Tells (Val (field_of g (shape_held f))) (as_shape (Err x))
    field_unplaced _ no_memory_told = in_record (Err Memory) no_memory_told
    field_unplaced _ (report_told e) = cc
    field_unplaced _ (lost e) = cc

    -- a field that is there, or not
    module _ (o : Option (Bor Form)) where
      placed : (k : Form) → Tells (Val (field_shape g (named_shapes ns (map shape_held hs)))) (as_found (Ok o)) → or_unmet (found_held o) ≡ shape_held k → Tells (Val (field_of g (shape_held f))) (as_shape (Ok k))
      placed k (told e) p = let e' : field_shape g (named_shapes ns (map shape_held hs)) ≡ found_held o = cc in in_record (Ok (shape_held k)) (told (ap Val (ap or_unmet e' ∙ p)))
      placed k (lost e) p = cc

      pub field_missing : o ≡ None → Tells (Val (field_shape g (named_shapes ns (map shape_held hs)))) (as_found (Ok o)) → Tells (Val (field_of g (shape_held f))) (as_shape (Ok form.Unmet))
      field_missing e t = placed form.Unmet t (ap (λ z. or_unmet (found_held z)) e ∙ sym form_unmet)

      pub field_there : (b : Bor Form) (k : Form) → o ≡ Some b → k ≡ b.now → Tells (Val (field_shape g (named_shapes ns (map shape_held hs)))) (as_found (Ok o)) → Tells (Val (field_of g (shape_held f))) (as_shape (Ok k))
      field_there b k e p t = placed k t (ap (λ z. or_unmet (found_held z)) e ∙ ap shape_held (sym p))

  pub field_unmet : f ≡ form.Unmet → Tells (Val (field_of g (shape_held f))) (as_shape (Ok form.Unmet))
  field_unmet q = no_part (field_of g) f Unmet_shape (ap shape_held q ∙ form_unmet) refl

  pub field_scalar : (t : ScalarType) → f ≡ form.Scalar t → Tells (Val (field_of g (shape_held f))) (as_shape (Ok form.Unmet))
  field_scalar t q = no_part (field_of g) f (Scalar_shape t) (ap shape_held q ∙ form_scalar t) refl

  pub field_tuple : (hs : List Form) → f ≡ form.Tuple hs → Tells (Val (field_of g (shape_held f))) (as_shape (Ok form.Unmet))
  field_tuple hs q = no_part (field_of g) f (Tuple_shape (shapes (map shape_held hs))) (ap shape_held q ∙ form_tuple hs) refl

  pub field_array : (n : ℕ) (k : Form) → f ≡ form.Array n k → Tells (Val (field_of g (shape_held f))) (as_shape (Ok form.Unmet))
  field_array n k q = no_part (field_of g) f (Array_shape n (shape_held k)) (ap shape_held q ∙ form_array n k) refl

pub ruleset fields = (no_memory_for_part, field_unplaced, field_missing, field_there, field_unmet, field_scalar, field_tuple, field_array)

pub record_made : (fs : List FieldShape) (ns ms : List Text) (hs ks : List Form) → ns ≡ field_texts fs → ms ≡ ns → ks ≡ hs → Tells (Val (Record_shape (named_shapes (field_texts fs) (map shape_held hs)))) (as_shape (Ok (form.Record ms ks)))
record_made fs ns ms hs ks e q p =
    told (ap Val (ap (λ z. Record_shape (named_shapes z (map shape_held hs))) (sym (q ∙ e)) ∙ ap (λ z. Record_shape (named_shapes ms (map shape_held z))) (sym p) ∙ sym (form_record ms ks)))

pub ruleset records = (no_memory_for_part, record_made)

-- ---- names

unfoldable pub Names_taken : List FieldShape → ℕ → List Text → Type 0
Names_taken fs i ns = ns ≡ field_texts (take i fs)

name_more : (fs : List FieldShape) (i : ℕ) (f : FieldShape) → i < length fs → field_texts (take (suc i) fs) ≡ field_texts (take i fs) ++ (get_or fs i f).name.now ∷ []
name_more [] i f l = absurd (omega arith)
name_more (g ∷ fs) zero f l = refl
name_more (g ∷ fs) (suc i) f l = ap (λ z. g.name.now ∷ z) (name_more fs i f (omega arith))

module _ (fs : List FieldShape) where
  pub names_start : (ns : List Text) → ns ≡ [] → Names_taken fs 0 ns
  unfolding Names_taken
  names_start ns e = e

  pub names_more : (i : ℕ) (f : FieldShape) (ns ms : List Text) (n : Text) → i < length fs → Names_taken fs i ns → n ≡ (get_or fs i f).name.now → ms ≡ ns ++ n ∷ [] → Names_taken fs (i + 1) ms
  unfolding Names_taken
  names_more i f ns ms n l h e q = q ∙ ap (λ z. z ++ n ∷ []) h ∙ ap (λ z. field_texts (take i fs) ++ z ∷ []) e ∙ sym (name_more fs i f l) ∙ ap (λ z. field_texts (take z fs)) (sym (add-one i))

  pub names_end : (i : ℕ) (ns : List Text) → length fs ≤ i → Names_taken fs i ns → ns ≡ field_texts fs
  unfolding Names_taken
  names_end i ns l h = h ∙ ap field_texts (take_all i fs l)

pub ruleset naming = (names_start, names_more, names_end)
