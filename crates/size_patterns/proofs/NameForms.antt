-- The names of patterns, form by form.
use Rattle.std.proofs.Common.{◌≡◌, ℕ, Bool, ◌+◌, ◌<◌, ◌≤◌, List, [], ◌∷◌, ◌++◌, map, length, get_or, drop, sym, ap, ◌∙◌, append_assoc, append-nil}
use Rattle.std.specs.Borrow.{Bor}
use Rattle.fut_scalar.specs.declared.place.BindId.{BindId}
use Rattle.fut_flat.specs.declared.pat.Head.{Head}
use Rattle.fut_flat.specs.declared.pat.HeadForm.{HeadForm}
use Rattle.fut_flat.specs.declared.pat.HeadForm.TheVariants as head
use Rattle.fut_flat.specs.declared.pat.Pat.{Pat}
use Rattle.fut_flat.specs.declared.pat.PatField.{PatField}
use Rattle.fut_flat.specs.declared.pat.PatForm.TheVariants as form
use Rattle.fut_flat.specs.declared.ty.TypeExp.{TypeExp}
use Rattle.fut_flat.specs.Erased.{FlatPattern, parameter_form, parameters, pattern_of, patterns}
use Rattle.fut_flat.proofs.ErasedPatterns.{pattern_bound, pattern_wild, pattern_tuple, pattern_typed}
use Rattle.fut_sizes.specs.Functions.{size_names}
use Rattle.fut_sizes.specs.Scopes.{all_names, names}
use Rattle.fut_sizes.specs.Sizing.{all_part_names, bind_ids, part_names}
use Rattle.flat_numbers.specs.Fields.{field_patterns}
use Rattle.size_arena.proofs.Parts.{drop_past}
use Rattle.size_patterns.proofs.PatternForms.{one_more, patterns_at, patterns_end, record_pattern}

-- ---- one pattern, whose names are put behind others

module _ (p : Pat) (before now : List ℕ) where
  pub puts_name : (b : BindId) → p.form ≡ form.Bound b → now ≡ before ++ b.0 ∷ [] → now ≡ before ++ names (pattern_of p)
  puts_name b is e = e ∙ ap (λ z. before ++ names z) (sym (pattern_bound p b is))

  pub puts_none : p.form ≡ form.Wild → now ≡ before → now ≡ before ++ names (pattern_of p)
  puts_none is e = e ∙ sym (append-nil before) ∙ ap (λ z. before ++ names z) (sym (pattern_wild p is))

  pub puts_parts : (ps : Bor (List Pat)) → p.form ≡ form.Tuple ps → now ≡ before ++ all_names (patterns (map pattern_of ps.now)) → now ≡ before ++ names (pattern_of p)
  puts_parts ps is e = e ∙ ap (λ z. before ++ names z) (sym (pattern_tuple p ps is))

  pub puts_fields : (fs : Bor (List PatField)) → p.form ≡ form.Record fs → now ≡ before ++ all_names (field_patterns fs.now) → now ≡ before ++ names (pattern_of p)
  puts_fields fs is e = e ∙ ap (λ z. before ++ names z) (sym (record_pattern p fs is))

  pub puts_typed : (q : Bor Pat) (e : Bor TypeExp) → p.form ≡ form.Typed q e → now ≡ before ++ names (pattern_of q.now) → now ≡ before ++ names (pattern_of p)
  puts_typed q e is h = h ∙ ap (λ z. before ++ names z) (sym (pattern_typed p q e is))

  -- the names of a parameter that are parts of its argument

  pub parts_of_name : (b : BindId) → p.form ≡ form.Bound b → now ≡ before → now ≡ before ++ part_names (pattern_of p)
  parts_of_name b is e = e ∙ sym (append-nil before) ∙ ap (λ z. before ++ part_names z) (sym (pattern_bound p b is))

  pub parts_of_none : p.form ≡ form.Wild → now ≡ before → now ≡ before ++ part_names (pattern_of p)
  parts_of_none is e = e ∙ sym (append-nil before) ∙ ap (λ z. before ++ part_names z) (sym (pattern_wild p is))

  pub parts_of_tuple : (ps : Bor (List Pat)) → p.form ≡ form.Tuple ps → now ≡ before ++ all_names (patterns (map pattern_of ps.now)) → now ≡ before ++ part_names (pattern_of p)
  parts_of_tuple ps is e = e ∙ ap (λ z. before ++ part_names z) (sym (pattern_tuple p ps is))

  pub parts_of_record : (fs : Bor (List PatField)) → p.form ≡ form.Record fs → now ≡ before ++ all_names (field_patterns fs.now) → now ≡ before ++ part_names (pattern_of p)
  parts_of_record fs is e = e ∙ ap (λ z. before ++ part_names z) (sym (record_pattern p fs is))

  pub parts_of_typed : (q : Bor Pat) (e : Bor TypeExp) → p.form ≡ form.Typed q e → now ≡ before ++ part_names (pattern_of q.now) → now ≡ before ++ part_names (pattern_of p)
  parts_of_typed q e is h = h ∙ ap (λ z. before ++ part_names z) (sym (pattern_typed p q e is))

-- ---- a row, of which the first i have been put

ended : (whole far : List ℕ) → whole ≡ far ++ [] → far ≡ whole
ended whole far e = sym (e ∙ append-nil far)

-- what is put behind these is put behind those before them
pub one_put : (whole rest far one now : List ℕ) → whole ≡ far ++ (one ++ rest) → now ≡ far ++ one → whole ≡ now ++ rest
one_put whole rest far one now h e = h ∙ sym (append_assoc far one rest) ∙ ap (λ z. z ++ rest) (sym e)

module _ {X : Type 0} (f : X → FlatPattern) (xs : List X) (i : ℕ) (d : X) (whole far now : List ℕ) where
  pub names_more : i < length xs → whole ≡ far ++ all_names (patterns (map f (drop i xs))) → now ≡ far ++ names (f (get_or xs i d)) → whole ≡ now ++ all_names (patterns (map f (drop (i + 1) xs)))
  names_more l h e = one_put whole (all_names (patterns (map f (drop (i + 1) xs)))) far (names (f (get_or xs i d))) now (h ∙ ap (λ z. far ++ all_names z) (patterns_at f xs i d l)) e

  pub part_names_more : i < length xs → whole ≡ far ++ all_part_names (patterns (map f (drop i xs))) → now ≡ far ++ part_names (f (get_or xs i d)) → whole ≡ now ++ all_part_names (patterns (map f (drop (i + 1) xs)))
  part_names_more l h e = one_put whole (all_part_names (patterns (map f (drop (i + 1) xs)))) far (part_names (f (get_or xs i d))) now (h ∙ ap (λ z. far ++ all_part_names z) (patterns_at f xs i d l)) e

module _ {X : Type 0} (f : X → FlatPattern) (xs : List X) (i : ℕ) (whole far : List ℕ) where
  pub names_end : length xs ≤ i → whole ≡ far ++ all_names (patterns (map f (drop i xs))) → far ≡ whole
  names_end l h = ended whole far (h ∙ ap (λ z. far ++ all_names z) (patterns_end f xs i l))

  pub part_names_end : length xs ≤ i → whole ≡ far ++ all_part_names (patterns (map f (drop i xs))) → far ≡ whole
  part_names_end l h = ended whole far (h ∙ ap (λ z. far ++ all_part_names z) (patterns_end f xs i l))

-- ---- size names

pub binds_more : (xs : List BindId) (i : ℕ) (d : BindId) (whole far now : List ℕ) → i < length xs → whole ≡ far ++ bind_ids (drop i xs) → now ≡ far ++ (get_or xs i d).0 ∷ [] → whole ≡ now ++ bind_ids (drop (i + 1) xs)
binds_more xs i d whole far now l h e = one_put whole (bind_ids (drop (i + 1) xs)) far ((get_or xs i d).0 ∷ []) now (h ∙ ap (λ z. far ++ bind_ids z) (one_more xs i d l)) e

pub binds_end : (xs : List BindId) (i : ℕ) (whole far : List ℕ) → length xs ≤ i → whole ≡ far ++ bind_ids (drop i xs) → far ≡ whole
binds_end xs i whole far l h = ended whole far (h ∙ ap (λ z. far ++ bind_ids z) (drop_past xs i l))

module _ (xs : List Head) (i : ℕ) (d : Head) (whole far now : List ℕ) (l : i < length xs) (h : whole ≡ far ++ size_names (parameters (drop i xs))) where
  head_at : (e : HeadForm) → (get_or xs i d).form ≡ e → whole ≡ far ++ size_names (parameter_form e ∷ parameters (drop (i + 1) xs))
  head_at e is = h ∙ ap (λ z. far ++ size_names (parameters z)) (one_more xs i d l) ∙ ap (λ z. far ++ size_names (parameter_form z ∷ parameters (drop (i + 1) xs))) is

  pub size_more : (b : BindId) → (get_or xs i d).form ≡ head.Size b → now ≡ far ++ b.0 ∷ [] → whole ≡ now ++ size_names (parameters (drop (i + 1) xs))
  size_more b is e = one_put whole (size_names (parameters (drop (i + 1) xs))) far (b.0 ∷ []) now (head_at (head.Size b) is) e

  pub type_more : (b : BindId) (lifted : Bool) → (get_or xs i d).form ≡ head.Var b lifted → now ≡ far → whole ≡ now ++ size_names (parameters (drop (i + 1) xs))
  type_more b lifted is e = head_at (head.Var b lifted) is ∙ ap (λ z. z ++ size_names (parameters (drop (i + 1) xs))) (sym e)

pub heads_end : (xs : List Head) (i : ℕ) (whole far : List ℕ) → length xs ≤ i → whole ≡ far ++ size_names (parameters (drop i xs)) → far ≡ whole
heads_end xs i whole far l h = ended whole far (h ∙ ap (λ z. far ++ size_names (parameters z)) (drop_past xs i l))

pub ruleset puts = (puts_name, puts_none, puts_parts, puts_fields, puts_typed)

pub ruleset puts_part_names = (parts_of_name, parts_of_none, parts_of_tuple, parts_of_record, parts_of_typed)

pub ruleset all_puts = (names_more, names_end)

pub ruleset binds = (binds_more, binds_end)

pub ruleset all_part_puts = (part_names_more, part_names_end)

pub ruleset head_puts = (size_more, type_more, heads_end)
