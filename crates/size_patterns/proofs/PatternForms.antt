-- Patterns one after another, and those of records.
use Rattle.std.proofs.Common.{◌≡◌, ℕ, ◌+◌, ◌<◌, ◌≤◌, List, [], ◌∷◌, map, length, get_or, drop, refl, sym, ap, ◌∙◌, add-one}
use Rattle.std.proofs.Math.Seq.{drop-cons}
use Rattle.std.specs.Borrow.{Bor}
use Rattle.fut_ast.specs.Sorts.{Text}
use Rattle.fut_flat.specs.declared.pat.Pat.{Pat}
use Rattle.fut_flat.specs.declared.pat.PatField.{PatField, fold_out-PatField}
use Rattle.fut_flat.specs.declared.pat.PatForm.TheVariants as form
use Rattle.fut_flat.specs.Terms.{Record_pattern, no_pattern, pattern_and}
use Rattle.fut_flat.specs.Erased.{FlatPattern, pattern_form, pattern_of, patterns}
use Rattle.fut_flat.proofs.ErasedPatterns.{pattern_field, pattern_record}
use Rattle.flat_numbers.specs.Fields.{field_patterns}
use Rattle.size_arena.proofs.Parts.{drop_past}
use Rattle.size_patterns.specs.Fields.{field_names}

pub one_more : {A : Type 0} (xs : List A) (i : ℕ) (d : A) → i < length xs → drop i xs ≡ get_or xs i d ∷ drop (i + 1) xs
one_more xs i d l = drop-cons xs i d l ∙ ap (λ j. get_or xs i d ∷ drop j xs) (sym (add-one i))

module _ {X : Type 0} (f : X → FlatPattern) (xs : List X) (i : ℕ) where
  pub patterns_at : (d : X) → i < length xs → patterns (map f (drop i xs)) ≡ pattern_and (f (get_or xs i d)) (patterns (map f (drop (i + 1) xs)))
  unfolding patterns
  patterns_at d l = ap (λ z. patterns (map f z)) (one_more xs i d l)

  pub patterns_end : length xs ≤ i → patterns (map f (drop i xs)) ≡ no_pattern
  unfolding patterns
  patterns_end l = ap (λ z. patterns (map f z)) (drop_past xs i l)

module _ (fs : List PatField) (i : ℕ) where
  pub names_at : (d : PatField) → i < length fs → field_names (drop i fs) ≡ (get_or fs i d).name.now ∷ field_names (drop (i + 1) fs)
  names_at d l = ap (map (λ (f : PatField). f.name.now)) (one_more fs i d l)

  pub names_end : length fs ≤ i → field_names (drop i fs) ≡ []
  names_end l = ap (map (λ (f : PatField). f.name.now)) (drop_past fs i l)

-- ---- records

field_is : (f : PatField) → pattern_field f ≡ (f.name.now, pattern_of f.pat)
unfolding pattern_field pattern_of
field_is f = fold_out-PatField FlatPattern FlatPattern (Text × FlatPattern) pattern_form (λ p. p.form) (λ f. (f.name.now, f.pat)) f

fields_are : (fs : List PatField) → map pattern_field fs ≡ map (λ (f : PatField). (f.name.now, pattern_of f.pat)) fs
fields_are [] = refl
fields_are (f ∷ fs) = ap (λ z. z ∷ map pattern_field fs) (field_is f) ∙ ap (λ z. (f.name.now, pattern_of f.pat) ∷ z) (fields_are fs)

their_names : (fs : List PatField) → map (λ (f : Text × FlatPattern). f.0) (map (λ (f : PatField). (f.name.now, pattern_of f.pat)) fs) ≡ field_names fs
their_names [] = refl
their_names (f ∷ fs) = ap (λ z. f.name.now ∷ z) (their_names fs)

their_patterns : (fs : List PatField) → map (λ (f : Text × FlatPattern). f.1) (map (λ (f : PatField). (f.name.now, pattern_of f.pat)) fs) ≡ map (λ (f : PatField). pattern_of f.pat) fs
their_patterns [] = refl
their_patterns (f ∷ fs) = ap (λ z. pattern_of f.pat ∷ z) (their_patterns fs)

pub record_pattern : (p : Pat) (fs : Bor (List PatField)) → p.form ≡ form.Record fs → pattern_of p ≡ Record_pattern (field_names fs.now) (field_patterns fs.now)
record_pattern p fs is =
    pattern_record p fs is ∙ ap (λ z. Record_pattern (map (λ (f : Text × FlatPattern). f.0) z) (patterns (map (λ (f : Text × FlatPattern). f.1) z))) (fields_are fs.now)
    ∙ ap (λ z. Record_pattern z (patterns (map (λ (f : Text × FlatPattern). f.1) (map (λ (f : PatField). (f.name.now, pattern_of f.pat)) fs.now)))) (their_names fs.now)
    ∙ ap (λ z. Record_pattern (field_names fs.now) (patterns z)) (their_patterns fs.now)
