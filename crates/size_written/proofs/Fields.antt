-- Written types of records, and written types one after another.
use Rattle.std.proofs.Common.{◌≡◌, ℕ, ◌+◌, ◌<◌, ◌≤◌, List, [], ◌∷◌, map, length, get_or, drop, refl, sym, ap, ◌∙◌, add-one}
use Rattle.std.proofs.Math.Seq.{drop-cons}
use Rattle.std.specs.Borrow.{Bor}
use Rattle.fut_ast.specs.Sorts.{Text}
use Rattle.fut_flat.specs.declared.ty.TypeExp.{TypeExp}
use Rattle.fut_flat.specs.declared.ty.TypeField.{TypeField, fold_out-TypeField}
use Rattle.fut_flat.specs.declared.ty.TypeForm.TheVariants as ty
use Rattle.fut_flat.specs.Terms.{Record_type, no_type, type_and}
use Rattle.fut_flat.specs.Erased.{Argument, FlatType, argument_form, type_form, type_of, types}
use Rattle.fut_flat.proofs.ErasedPatterns.{type_field, type_record}
use Rattle.size_arena.proofs.Parts.{drop_past}
use Rattle.size_written.specs.Fields.{field_types, type_names}

type_field_is : (f : TypeField) → type_field f ≡ (f.name.now, type_of f.ty)
unfolding type_field type_of
type_field_is f = fold_out-TypeField Argument FlatType FlatType (Text × FlatType) argument_form type_form (λ t. t.form) (λ f. (f.name.now, f.ty)) f

type_fields : (fs : List TypeField) → map type_field fs ≡ map (λ (f : TypeField). (f.name.now, type_of f.ty)) fs
type_fields [] = refl
type_fields (f ∷ fs) = ap (λ z. z ∷ map type_field fs) (type_field_is f) ∙ ap (λ z. (f.name.now, type_of f.ty) ∷ z) (type_fields fs)

written_names : (fs : List TypeField) → map (λ (f : Text × FlatType). f.0) (map (λ (f : TypeField). (f.name.now, type_of f.ty)) fs) ≡ type_names fs
written_names [] = refl
written_names (f ∷ fs) = ap (λ z. f.name.now ∷ z) (written_names fs)

written_parts : (fs : List TypeField) → map (λ (f : Text × FlatType). f.1) (map (λ (f : TypeField). (f.name.now, type_of f.ty)) fs) ≡ map (λ (f : TypeField). type_of f.ty) fs
written_parts [] = refl
written_parts (f ∷ fs) = ap (λ z. type_of f.ty ∷ z) (written_parts fs)

pub record_type : (t : TypeExp) (fs : Bor (List TypeField)) → t.form ≡ ty.Record fs → type_of t ≡ Record_type (type_names fs.now) (field_types fs.now)
record_type t fs is =
    type_record t fs is ∙ ap (λ z. Record_type (map (λ (f : Text × FlatType). f.0) z) (types (map (λ (f : Text × FlatType). f.1) z))) (type_fields fs.now)
    ∙ ap (λ z. Record_type z (types (map (λ (f : Text × FlatType). f.1) (map (λ (f : TypeField). (f.name.now, type_of f.ty)) fs.now)))) (written_names fs.now)
    ∙ ap (λ z. Record_type (type_names fs.now) (types z)) (written_parts fs.now)

-- ---- one after another

module _ {X : Type 0} (xs : List X) (i : ℕ) where
  one_more : (d : X) → i < length xs → drop i xs ≡ get_or xs i d ∷ drop (i + 1) xs
  one_more d l = drop-cons xs i d l ∙ ap (λ j. get_or xs i d ∷ drop j xs) (sym (add-one i))

  pub written_at : (f : X → FlatType) (d : X) → i < length xs → types (map f (drop i xs)) ≡ type_and (f (get_or xs i d)) (types (map f (drop (i + 1) xs)))
  unfolding types
  written_at f d l = ap (λ z. types (map f z)) (one_more d l)

  pub written_end : (f : X → FlatType) → length xs ≤ i → types (map f (drop i xs)) ≡ no_type
  unfolding types
  written_end f l = ap (λ z. types (map f z)) (drop_past xs i l)

  pub names_at : (f : X → Text) (d : X) → i < length xs → map f (drop i xs) ≡ f (get_or xs i d) ∷ map f (drop (i + 1) xs)
  names_at f d l = ap (map f) (one_more d l)

  pub names_end : (f : X → Text) → length xs ≤ i → map f (drop i xs) ≡ []
  names_end f l = ap (map f) (drop_past xs i l)
