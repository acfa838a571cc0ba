-- Written types and patterns of records, and those one after another.
use Rattle.std.proofs.Common.{◌≡◌, ℕ, ◌+◌, ◌<◌, ◌≤◌, List, [], ◌∷◌, map, length, get_or, drop, refl, ap, ◌∙◌}
use Rattle.std.specs.Borrow.{Bor}
use Rattle.fut_ast.specs.Sorts.{Text}
use Rattle.fut_flat.specs.declared.pat.Pat.{Pat}
use Rattle.fut_flat.specs.declared.pat.PatField.{PatField, fold_out-PatField}
use Rattle.fut_flat.specs.declared.pat.PatForm.TheVariants as form
use Rattle.fut_flat.specs.declared.ty.TypeExp.{TypeExp}
use Rattle.fut_flat.specs.declared.ty.TypeField.{TypeField, fold_out-TypeField}
use Rattle.fut_flat.specs.declared.ty.TypeForm.TheVariants as ty
use Rattle.fut_flat.specs.Terms.{Record_pattern, Record_type, no_pattern, pattern_and, no_type, type_and}
use Rattle.fut_flat.specs.Erased.{Argument, FlatPattern, FlatType, argument_form, pattern_form, pattern_of, patterns, type_form, type_of, types}
use Rattle.fut_flat.proofs.ErasedPatterns.{pattern_field, pattern_record, type_field, type_record}
use Rattle.flat_numbers.specs.Fields.{field_patterns}
use Rattle.alias_values.proofs.Rows.{drop_past, one_more}
use Rattle.alias_patterns.specs.Fields.{field_names, field_types, type_names}

-- ---- fields

pattern_field_is : (f : PatField) → pattern_field f ≡ (f.name.now, pattern_of f.pat)
unfolding pattern_field pattern_of
pattern_field_is f = fold_out-PatField FlatPattern FlatPattern (Text × FlatPattern) pattern_form (λ p. p.form) (λ f. (f.name.now, f.pat)) f

type_field_is : (f : TypeField) → type_field f ≡ (f.name.now, type_of f.ty)
unfolding type_field type_of
type_field_is f = fold_out-TypeField Argument FlatType FlatType (Text × FlatType) argument_form type_form (λ t. t.form) (λ f. (f.name.now, f.ty)) f

pattern_fields : (fs : List PatField) → map pattern_field fs ≡ map (λ (f : PatField). (f.name.now, pattern_of f.pat)) fs
pattern_fields [] = refl
pattern_fields (f ∷ fs) = ap (λ z. z ∷ map pattern_field fs) (pattern_field_is f) ∙ ap (λ z. (f.name.now, pattern_of f.pat) ∷ z) (pattern_fields fs)

type_fields : (fs : List TypeField) → map type_field fs ≡ map (λ (f : TypeField). (f.name.now, type_of f.ty)) fs
type_fields [] = refl
type_fields (f ∷ fs) = ap (λ z. z ∷ map type_field fs) (type_field_is f) ∙ ap (λ z. (f.name.now, type_of f.ty) ∷ z) (type_fields fs)

pattern_names : (fs : List PatField) → map (λ (f : Text × FlatPattern). f.0) (map (λ (f : PatField). (f.name.now, pattern_of f.pat)) fs) ≡ field_names fs
pattern_names [] = refl
pattern_names (f ∷ fs) = ap (λ z. f.name.now ∷ z) (pattern_names fs)

pattern_parts : (fs : List PatField) → map (λ (f : Text × FlatPattern). f.1) (map (λ (f : PatField). (f.name.now, pattern_of f.pat)) fs) ≡ map (λ (f : PatField). pattern_of f.pat) fs
pattern_parts [] = refl
pattern_parts (f ∷ fs) = ap (λ z. pattern_of f.pat ∷ z) (pattern_parts fs)

written_names : (fs : List TypeField) → map (λ (f : Text × FlatType). f.0) (map (λ (f : TypeField). (f.name.now, type_of f.ty)) fs) ≡ type_names fs
written_names [] = refl
written_names (f ∷ fs) = ap (λ z. f.name.now ∷ z) (written_names fs)

written_parts : (fs : List TypeField) → map (λ (f : Text × FlatType). f.1) (map (λ (f : TypeField). (f.name.now, type_of f.ty)) fs) ≡ map (λ (f : TypeField). type_of f.ty) fs
written_parts [] = refl
written_parts (f ∷ fs) = ap (λ z. type_of f.ty ∷ z) (written_parts fs)

-- ---- records

pub record_pattern : (p : Pat) (fs : Bor (List PatField)) → p.form ≡ form.Record fs → pattern_of p ≡ Record_pattern (field_names fs.now) (field_patterns fs.now)
record_pattern p fs is =
    pattern_record p fs is ∙ ap (λ z. Record_pattern (map (λ (f : Text × FlatPattern). f.0) z) (patterns (map (λ (f : Text × FlatPattern). f.1) z))) (pattern_fields fs.now)
    ∙ ap (λ z. Record_pattern z (patterns (map (λ (f : Text × FlatPattern). f.1) (map (λ (f : PatField). (f.name.now, pattern_of f.pat)) fs.now)))) (pattern_names fs.now)
    ∙ ap (λ z. Record_pattern (field_names fs.now) (patterns z)) (pattern_parts fs.now)

pub record_type : (t : TypeExp) (fs : Bor (List TypeField)) → t.form ≡ ty.Record fs → type_of t ≡ Record_type (type_names fs.now) (field_types fs.now)
record_type t fs is =
    type_record t fs is ∙ ap (λ z. Record_type (map (λ (f : Text × FlatType). f.0) z) (types (map (λ (f : Text × FlatType). f.1) z))) (type_fields fs.now)
    ∙ ap (λ z. Record_type z (types (map (λ (f : Text × FlatType). f.1) (map (λ (f : TypeField). (f.name.now, type_of f.ty)) fs.now)))) (written_names fs.now)
    ∙ ap (λ z. Record_type (type_names fs.now) (types z)) (written_parts fs.now)

-- ---- one after another

module _ {X : Type 0} (f : X → FlatPattern) (xs : List X) (i : ℕ) where
  pub patterns_at : (d : X) → i < length xs → patterns (map f (drop i xs)) ≡ pattern_and (f (get_or xs i d)) (patterns (map f (drop (i + 1) xs)))
  unfolding patterns
  patterns_at d l = ap (λ z. patterns (map f z)) (one_more xs i d l)

  pub patterns_end : length xs ≤ i → patterns (map f (drop i xs)) ≡ no_pattern
  unfolding patterns
  patterns_end l = ap (λ z. patterns (map f z)) (drop_past xs i l)

module _ {X : Type 0} (f : X → FlatType) (xs : List X) (i : ℕ) where
  pub written_at : (d : X) → i < length xs → types (map f (drop i xs)) ≡ type_and (f (get_or xs i d)) (types (map f (drop (i + 1) xs)))
  unfolding types
  written_at d l = ap (λ z. types (map f z)) (one_more xs i d l)

  pub written_end : length xs ≤ i → types (map f (drop i xs)) ≡ no_type
  unfolding types
  written_end l = ap (λ z. types (map f z)) (drop_past xs i l)

module _ {X : Type 0} (f : X → Text) (xs : List X) (i : ℕ) where
  pub names_at : (d : X) → i < length xs → map f (drop i xs) ≡ f (get_or xs i d) ∷ map f (drop (i + 1) xs)
  names_at d l = ap (map f) (one_more xs i d l)

  pub names_end : length xs ≤ i → map f (drop i xs) ≡ []
  names_end l = ap (map f) (drop_past xs i l)
