-- Records as data, and their forms: all that forms tell but the names is as for tuples of the same parts.
use Rattle.std.proofs.Common.{◌≡◌, ℕ, ◌+◌, List, [], ◌∷◌, map, Bool, true, Err, refl, sym, ap, ◌∙◌}
use Rattle.std.specs.Prelude.{◌&&◌, nat_le, max, min}
use Rattle.fut_ast.specs.Sorts.{Text}
use Rattle.fut_scalar.specs.declared.scalar.ScalarType.{ScalarType}
use Rattle.fut_meaning.specs.Arrays.{most_words, rows_of, exact_of}
use Rattle.fut_value.specs.Data.{Shape, Tuple_shape, Record_shape, Datum, Record_datum, Named_datums, shape_of, named_shape_and, named_shapes_of, words, all_words, named_words, heaviest, heaviest_of, heaviest_named, is_unmet, all_unmet, named_unmet, same_sizes, all_same_sizes, named_same_sizes}
use Rattle.array_data.specs.declared.form.Form.{Form}
use Rattle.array_data.specs.declared.form.Form.TheVariants as form
use Rattle.array_data.specs.declared.data.Data.{Data}
use Rattle.array_data.specs.declared.data.Data.TheVariants as hold
use Rattle.array_data.specs.declared.stop.Stop.TheVariants.{Stuck}
use Rattle.array_data.specs.Answers.{Counts, no_array, Exact_is, no_integer}
use Rattle.array_data.specs.Held.{shapes, named_shapes, named_parts, first_name, other_names, shape_held, shapes_held, held, held_all, held_shapes}
use Rattle.array_data.proofs.Holding.{form_scalar, form_tuple, form_record, form_array, held_record}

-- ---- what names do not change

named_all_words : (fs : List Text) (hs : List Shape) → named_words (named_shapes fs hs) ≡ all_words (shapes hs)
unfolding words
named_all_words fs [] = refl
named_all_words fs (h ∷ hs) = ap (λ n. words h + n) (named_all_words (other_names fs) hs)

named_heaviest : (n : ℕ) (fs : List Text) (hs : List Shape) → heaviest_named n (named_shapes fs hs) ≡ heaviest_of n (shapes hs)
unfolding heaviest
named_heaviest n fs [] = refl
named_heaviest n fs (h ∷ hs) = ap (max (heaviest n h)) (named_heaviest n (other_names fs) hs)

named_all_unmet : (fs : List Text) (hs : List Shape) → named_unmet (named_shapes fs hs) ≡ all_unmet (shapes hs)
unfolding is_unmet
named_all_unmet fs [] = refl
named_all_unmet fs (h ∷ hs) = ap (λ b. is_unmet h && b) (named_all_unmet (other_names fs) hs)

named_all_same : (fs gs : List Text) (hs ks : List Shape) → named_same_sizes (named_shapes fs hs) (named_shapes gs ks) ≡ all_same_sizes (shapes hs) (shapes ks)
unfolding same_sizes
named_all_same fs gs [] ks = refl
named_all_same fs gs (h ∷ hs) [] = refl
named_all_same fs gs (h ∷ hs) (k ∷ ks) = ap (λ b. same_sizes h k && b) (named_all_same (other_names fs) (other_names gs) hs ks)

-- ---- forms of records

shapes_named : (fs : List Text) (ds : List Data) → named_shapes fs (held_shapes ds) ≡ named_shapes_of (named_parts fs (held_all ds))
unfolding held_shapes held_all shape_of
shapes_named fs [] = refl
shapes_named fs (d ∷ ds) = ap (named_shape_and (first_name fs) (shape_of (held d))) (shapes_named (other_names fs) ds)

pub form_of_record : (m : ℕ) (fs gs : List Text) (ds : List Data) (hs : List Form) → gs ≡ fs → map shape_held hs ≡ held_shapes ds → shape_held (form.Record gs hs) ≡ shape_of (held (hold.Record m fs ds))
unfolding shape_of
form_of_record m fs gs ds hs e q =
    form_record gs hs ∙ ap (λ z. Record_shape (named_shapes z (map shape_held hs))) e ∙ ap (λ z. Record_shape (named_shapes fs z)) q ∙ ap Record_shape (shapes_named fs ds)
    ∙ ap shape_of (sym (held_record m fs ds))

pub ruleset form_made = (form_of_record)

pub unmet_record : (fs : List Text) (hs : List Form) → is_unmet (shape_held (form.Record fs hs)) ≡ all_unmet (shapes_held hs)
unfolding is_unmet shapes_held
unmet_record fs hs = ap is_unmet (form_record fs hs) ∙ named_all_unmet fs (map shape_held hs)

pub ruleset unmet_records = (unmet_record)

pub agree_records : (fs gs : List Text) (hs ks : List Form) → same_sizes (shape_held (form.Record fs hs)) (shape_held (form.Record gs ks)) ≡ all_same_sizes (shapes_held hs) (shapes_held ks)
unfolding same_sizes shapes_held
agree_records fs gs hs ks = rw (form_record fs hs, form_record gs ks) (named_all_same fs gs (map shape_held hs) (map shape_held ks))

pub agree_record_scalar : (fs : List Text) (hs : List Form) (t : ScalarType) → same_sizes (shape_held (form.Record fs hs)) (shape_held (form.Scalar t)) ≡ true
unfolding same_sizes
agree_record_scalar fs hs t = rw (form_record fs hs, form_scalar t) refl

pub agree_record_tuple : (fs : List Text) (hs ks : List Form) → same_sizes (shape_held (form.Record fs hs)) (shape_held (form.Tuple ks)) ≡ true
unfolding same_sizes
agree_record_tuple fs hs ks = rw (form_record fs hs, form_tuple ks) refl

pub agree_record_array : (fs : List Text) (hs : List Form) (n : ℕ) (k : Form) → same_sizes (shape_held (form.Record fs hs)) (shape_held (form.Array n k)) ≡ true
unfolding same_sizes
agree_record_array fs hs n k = rw (form_record fs hs, form_array n k) refl

pub agree_tuple_record : (fs : List Text) (hs ks : List Form) → same_sizes (shape_held (form.Tuple hs)) (shape_held (form.Record fs ks)) ≡ true
unfolding same_sizes
agree_tuple_record fs hs ks = rw (form_tuple hs, form_record fs ks) refl

pub agree_array_record : (n : ℕ) (h : Form) (fs : List Text) (ks : List Form) → same_sizes (shape_held (form.Array n h)) (shape_held (form.Record fs ks)) ≡ true
unfolding same_sizes
agree_array_record n h fs ks = rw (form_array n h, form_record fs ks) refl

pub ruleset agreeing_records = (agree_records, agree_record_scalar, agree_record_tuple, agree_record_array, agree_tuple_record, agree_array_record)

pub flat_record : (n : ℕ) (fs : List Text) (hs : List Form) → nat_le (heaviest n (shape_held (form.Record fs hs))) most_words ≡ nat_le (heaviest_of n (shapes_held hs)) most_words
unfolding heaviest shapes_held
flat_record n fs hs = ap (λ z. nat_le (heaviest n z) most_words) (form_record fs hs) ∙ ap (λ z. nat_le z most_words) (named_heaviest n fs (map shape_held hs))

pub ruleset light_records = (flat_record)

pub words_record : (fs : List Text) (hs : List Form) → min (words (shape_held (form.Record fs hs))) 33554433 ≡ min (all_words (shapes_held hs)) 33554433
unfolding words shapes_held
words_record fs hs = ap (λ z. min (words z) 33554433) (form_record fs hs) ∙ ap (λ z. min z 33554433) (named_all_words fs (map shape_held hs))

pub ruleset counted_records = (words_record)

-- ---- what records are not

pub count_record : (d : Data) (m : ℕ) (fs : List Text) (ds : List Data) → d ≡ hold.Record m fs ds → Counts (held d) (Err Stuck)
count_record d m fs ds e = no_array (ap rows_of (ap held e ∙ held_record m fs ds))

pub ruleset no_rows_counted = (count_record)

pub exact_record : (d : Data) (m : ℕ) (fs : List Text) (ds : List Data) → d ≡ hold.Record m fs ds → Exact_is (held d) (Err Stuck)
exact_record d m fs ds e = no_integer (ap exact_of (ap held e ∙ held_record m fs ds))

pub ruleset no_integers = (exact_record)
