-- How the number behind a pattern follows from those of its parts.
use Rattle.std.proofs.Common.{◌≡◌, ℕ, zero, suc, ◌+◌, ◌<◌, ◌≤◌, List, [], ◌∷◌, map, length, get_or, drop, Ok, Err, refl, sym, ap, ◌∙◌, arith}
use Rattle.std.specs.Prelude.{Result, IfOk}
use Rattle.std.proofs.Math.Seq.{drop-cons}
use Rattle.std.specs.Borrow.{Bor}
use Rattle.fut_scalar.specs.declared.memory.NoMemory.{NoMemory}
use Rattle.fut_scalar.specs.declared.place.BindId.{BindId}
use Rattle.fut_ast.specs.Sorts.{Text}
use Rattle.fut_flat.specs.declared.pat.Pat.{Pat}
use Rattle.fut_flat.specs.declared.pat.PatField.{PatField, fold_out-PatField}
use Rattle.fut_flat.specs.declared.pat.PatForm.TheVariants as form
use Rattle.fut_flat.specs.declared.ty.TypeExp.{TypeExp}
use Rattle.fut_flat.specs.Erased.{FlatPattern, patterns, pattern_of, pattern_form}
use Rattle.fut_flat.specs.Numbers.{all_pattern_numbers, pattern_numbers}
use Rattle.fut_flat.proofs.ErasedPatterns.{pattern_field, pattern_bound, pattern_wild, pattern_tuple, pattern_record, pattern_typed}
use Rattle.flat_numbers.specs.Fields.{field_patterns}

-- the answer is this number, if there is one
abbrev pub Behind : Result ℕ NoMemory → ℕ → Type 0
Behind r k = IfOk r (λ n. n ≡ k)

pub moved : (r : Result ℕ NoMemory) (k k' : ℕ) → k ≡ k' → Behind r k → Behind r k'
moved (Ok n) k k' e h = h ∙ e
moved (Err x) k k' e h = tt

patterns_of_fields : (fs : List PatField) → map (λ (f : Text × FlatPattern). f.1) (map pattern_field fs) ≡ map (λ (f : PatField). pattern_of f.pat) fs
unfolding pattern_field pattern_of
patterns_of_fields [] = refl
patterns_of_fields (f ∷ fs) = ap (λ (z : Text × FlatPattern). z.1 ∷ map (λ (f : Text × FlatPattern). f.1) (map pattern_field fs)) (fold_out-PatField FlatPattern FlatPattern (Text × FlatPattern) pattern_form (λ p. p.form) (λ f. (f.name.now, f.pat)) f) ∙ ap (λ z. pattern_of f.pat ∷ z) (patterns_of_fields fs)

module _ (p : Pat) (at : ℕ) (r : Result ℕ NoMemory) where
  pub form_bound : (b : BindId) → p.form ≡ form.Bound b → Behind r (at + 1) → Behind r (at + pattern_numbers (pattern_of p))
  form_bound b is h = moved r _ _ (sym (ap (λ z. at + pattern_numbers z) (pattern_bound p b is))) h

  pub form_wild : p.form ≡ form.Wild → Behind r (at + 1) → Behind r (at + pattern_numbers (pattern_of p))
  form_wild is h = moved r _ _ (sym (ap (λ z. at + pattern_numbers z) (pattern_wild p is))) h

  module _ (first : ℕ) (one : first ≡ at + 1) where
    pub form_tuple : (ps : Bor (List Pat)) → p.form ≡ form.Tuple ps → Behind r (first + all_pattern_numbers (patterns (map pattern_of ps.now))) → Behind r (at + pattern_numbers (pattern_of p))
    form_tuple ps is h = moved r _ _ (omega (arith, one, ap pattern_numbers (pattern_tuple p ps is))) h

    pub form_record : (fs : Bor (List PatField)) → p.form ≡ form.Record fs → Behind r (first + all_pattern_numbers (field_patterns fs.now)) → Behind r (at + pattern_numbers (pattern_of p))
    form_record fs is h = moved r _ _ (omega (arith, one, ap pattern_numbers (pattern_record p fs is), ap (λ z. all_pattern_numbers (patterns z)) (patterns_of_fields fs.now))) h

  pub form_typed : (q : Bor Pat) (t : Bor TypeExp) → p.form ≡ form.Typed q t → Behind r (at + pattern_numbers (pattern_of q.now)) → Behind r (at + pattern_numbers (pattern_of p))
  form_typed q t is h = moved r _ _ (sym (ap (λ z. at + pattern_numbers z) (pattern_typed p q t is))) h

-- ---- several patterns

pub drop_end : {X : Type 0} (n : ℕ) (xs : List X) → length xs ≤ n → drop n xs ≡ []
drop_end zero [] h = refl
drop_end zero (x ∷ xs) h = absurd (omega (arith, h))
drop_end (suc n) [] h = refl
drop_end (suc n) (x ∷ xs) h = drop_end n xs (omega (arith, h))

pub one_more : {X : Type 0} (xs : List X) (i : ℕ) (d : X) → i < length xs → drop i xs ≡ get_or xs i d ∷ drop (i + 1) xs
one_more xs i d lt = let e : suc i ≡ i + 1 = omega arith in drop-cons xs i d lt ∙ ap (λ z. get_or xs i d ∷ drop z xs) e

-- so many numbers are passed, and so many are left
abbrev pub Passed : ℕ → ℕ → ℕ → ℕ → Type 0
Passed at all next left = next + left ≡ at + all

module _ {X : Type 0} (f : X → FlatPattern) (xs : List X) (at next : ℕ) where
  abbrev pub Parts_passed : ℕ → Type 0
  Parts_passed i = next + all_pattern_numbers (patterns (map f (drop i xs))) ≡ at + all_pattern_numbers (patterns (map f xs))

  pub part_passed : (i next' : ℕ) (d : X) → i < length xs → Parts_passed i → next' ≡ next + pattern_numbers (f (get_or xs i d)) → next' + all_pattern_numbers (patterns (map f (drop (i + 1) xs))) ≡ at + all_pattern_numbers (patterns (map f xs))
  unfolding patterns
  part_passed i next' d lt h e = omega (arith, h, e, ap (λ z. all_pattern_numbers (patterns (map f z))) (one_more xs i d lt))

  pub parts_passed : (i : ℕ) → length xs ≤ i → Parts_passed i → next ≡ at + all_pattern_numbers (patterns (map f xs))
  unfolding patterns
  parts_passed i le h = omega (arith, h, ap (λ z. all_pattern_numbers (patterns (map f z))) (drop_end i xs le))
